use Rattle.std.proofs.Common.{map, arith}
use Rattle.std.proofs.lemmas.Grind.{common_steps}
use Rattle.report_page.specs.Pieces.{piece_shown}
use Rattle.report_page.proofs.pieces.write.Goals as goal

pub returns : goal.returns
returns c = record { pieces = map piece_shown c.args.pieces.now; bytes = grind (arith, common_steps); closed = c.requires }
