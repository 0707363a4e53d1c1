use Rattle.std.proofs.Common.{◌≡◌, ◌+◌, ◌<◌, ◌∙◌, ap, sym, subst, length, Some, arith}
use Rattle.std.proofs.lemmas.List.{length-map}
use Rattle.certs.specs.Ended.{numbers_from}
use Rattle.certs.specs.Rows.{row_of}
use Rattle.reductions.specs.Rules.{crossing_at}
use Rattle.reductions.specs.Reduction.{first_found}
use Rattle.presolve.specs.Next.{IsNext}
use Rattle.presolve.proofs.Firsts.{first_at, next_none, none_more}
use Rattle.presolve.proofs.looking.first_crossing.Goals as goal

pub returns-in-Some : goal.returns-in-Some
returns-in-Some c =
    let s = c.stage.inside.system in
    let d = c.system.inside in
    let v = c.loop-variable.variable in
    let columns : c.len.result ≡ length s.columns = c.len.ensures ∙ d.columns.ok.0 ∙ ap (λ z. length z.columns) c.system.view_is in
    let rows : c.len-2.result ≡ length s.rows = c.len-2.ensures ∙ d.rows.ok.0 ∙ sym (length-map d.rows.items row_of) ∙ ap (λ z. length z.rows) c.system.view_is in
    let below = c.loop-variable-test.true in
    let within : v < length s.columns + length s.rows = omega (arith, columns, rows, below) in
    let found : IsNext s (crossing_at s v) (Some c.in-Some.next) = subst (IsNext s (crossing_at s v)) c.in-Some.is c.in_ok-next.ensures in
    subst (λ z. IsNext z (first_found (crossing_at z) (numbers_from 0 (length z.columns + length z.rows))) (Some c.in-Some.next)) (ap (λ z. z.system) c.stage.view_is)
    (first_at s (crossing_at s) v (length s.columns + length s.rows) c.in-Some.next within c.loop-variable.invariant found)

pub loop-variable-preserved : goal.loop-variable-preserved
loop-variable-preserved c =
    let s = c.stage.inside.system in
    let v = c.loop-variable.variable in
    none_more (crossing_at s) v c.loop-variable.invariant (next_none s (crossing_at s v) (subst (IsNext s (crossing_at s v)) c.in_default.is c.in_ok-next.ensures))
