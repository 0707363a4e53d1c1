use Rattle.std.proofs.Common.{◌≡◌, ◌<◌, ◌∙◌, ap, subst, length, Some, arith}
use Rattle.certs.specs.Ended.{numbers_from}
use Rattle.reductions.specs.Rules.{fixed_at}
use Rattle.reductions.specs.Reduction.{first_found}
use Rattle.presolve.specs.Next.{IsNext}
use Rattle.presolve.proofs.Firsts.{first_at, next_none, none_more}
use Rattle.presolve.proofs.looking.first_fixed.Goals as goal

pub returns-in-Some : goal.returns-in-Some
returns-in-Some c =
    let s = c.stage.inside.system in
    let v = c.loop-column.column in
    let columns : c.len-column-end.result ≡ length s.columns = c.len-column-end.ensures ∙ c.system.inside.columns.ok.0 ∙ ap (λ z. length z.columns) c.system.view_is in
    let below = c.loop-column-test.true in
    let within : v < length s.columns = omega (arith, columns, below) in
    let found : IsNext s (fixed_at s v) (Some c.in-Some.next) = subst (IsNext s (fixed_at s v)) c.in-Some.is c.in_ok-next.ensures in
    subst (λ z. IsNext z (first_found (fixed_at z) (numbers_from 0 (length z.columns))) (Some c.in-Some.next)) (ap (λ z. z.system) c.stage.view_is)
    (first_at s (fixed_at s) v (length s.columns) c.in-Some.next within c.loop-column.invariant found)

pub loop-column-preserved : goal.loop-column-preserved
loop-column-preserved c =
    let s = c.stage.inside.system in
    let v = c.loop-column.column in
    none_more (fixed_at s) v c.loop-column.invariant (next_none s (fixed_at s v) (subst (IsNext s (fixed_at s v)) c.in_default.is c.in_ok-next.ensures))
