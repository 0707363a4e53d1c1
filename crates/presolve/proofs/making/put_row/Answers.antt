use Rattle.std.proofs.Common.{◌∙◌, ap, map}
use Rattle.std.specs.Prelude.{slice_set}
use Rattle.std.proofs.lemmas.List.{map-set}
use Rattle.certs.specs.Rows.{row_of}
use Rattle.certs.specs.System.{SystemRow}
use Rattle.presolve.specs.Plans.{At}
use Rattle.presolve.proofs.making.put_row.Goals as goal

pub returns-then-index-rows : goal.returns-then-index-rows
returns-then-index-rows c =
    map-set row_of c.args.rows.now c.new.inside.index c.new.inside.row ∙ ap (λ (n : At SystemRow). slice_set (map row_of c.args.rows.now) n.number n.item) c.new.view_is
