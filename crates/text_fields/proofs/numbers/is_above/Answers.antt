use Rattle.std.proofs.Common.{arith}
use Rattle.std.proofs.lemmas.Int.{ints}
use Rattle.text_fields.proofs.Floors.{far-test}
use Rattle.text_fields.proofs.numbers.is_above.Goals as goal

pub returns : goal.returns
returns c = (let m = c.floor.type_inv in far-test c.args.value c.floor.result c.floor.ensures (omega (arith, ints, m)))
