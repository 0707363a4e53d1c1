use Rattle.std.proofs.Common.{◌∙◌, sym, ap, ◌+◌, ◌∷◌, drop}
use Rattle.std.proofs.lemmas.List.{at_drop_more}
use Rattle.certs.specs.System.{Limits}
use Rattle.presolve.specs.Plans.{At, put_all}
use Rattle.presolve.proofs.making.put_columns.Goals as goal

pub loop-new-preserved : goal.loop-new-preserved
loop-new-preserved c =
    let rest = drop (c.loop-new.new-index + 1) c.args.changed.now in
    ap (put_all rest) c.put_column.ensures
    ∙ ap (λ (n : At Limits). put_all (n ∷ rest) c.loop-new.columns) c.new-item.is
    ∙ sym (at_drop_more (λ news. put_all news c.loop-new.columns) c.args.changed.now c.loop-new.new-index c.new-item.result c.loop-new-test.true)
    ∙ c.loop-new.invariant
