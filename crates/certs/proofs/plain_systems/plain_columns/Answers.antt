use Rattle.std.proofs.Common.{◌≡◌, ◌++◌, ◌∷◌, [], map, sym, ◌∙◌, ap, Option}
use Rattle.rational.specs.Rational.{ℚ}
use Rattle.certs.specs.Ended.{numbers_from}
use Rattle.certs.specs.Plain.{column_limits}
use Rattle.certs.specs.System.{Limits}
use Rattle.certs.proofs.Numbered.{mapped_more}
use Rattle.certs.proofs.plain_systems.plain_columns.Goals as goal

both : (a b c d : Option ℚ) → a ≡ b → c ≡ d → let r : Limits = record { lower = a; upper = c } in let s : Limits = record { lower = b; upper = d } in r ≡ s
both a b c d e f = λ i. record { lower = e i; upper = f i }

pub loop-column-preserved : goal.loop-column-preserved
loop-column-preserved c =
    let limits = column_limits c.args.model.now c.args.set.now.members c.args.path.now in
    let passed = map limits (numbers_from 0 c.loop-column.column) in
    let found : Limits = record { lower = c.limit_of.result; upper = c.limit_of-in-loop-column.result } in
    c.in_ok-push.ensures.items
    ∙ (ap (λ z. z ++ found ∷ []) c.loop-column.invariant
    ∙ (ap (λ (l : Limits). passed ++ l ∷ []) (both _ _ _ _ c.limit_of.ensures c.limit_of-in-loop-column.ensures)
    ∙ sym (mapped_more limits c.loop-column.column)))
