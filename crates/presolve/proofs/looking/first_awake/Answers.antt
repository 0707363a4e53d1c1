use Rattle.std.proofs.Common.{◌≡◌, ◌<◌, ◌∙◌, ap, sym, subst, true, false, length, get_or, Some, None, arith}
use Rattle.std.proofs.lemmas.List.{get_or_default, length-map}
use Rattle.certs.specs.Rows.{row_of}
use Rattle.reductions.specs.Reduction.{first_found, found_at}
use Rattle.presolve.specs.Looked.{rule_of}
use Rattle.presolve.specs.Next.{IsNext}
use Rattle.presolve.proofs.Firsts.{first_at, next_none, none_more, row_places}
use Rattle.presolve.proofs.Quieted.{quiet_more}
use Rattle.presolve.proofs.looking.first_awake.Goals as goal

pub loop-index-preserved-then-index : goal.loop-index-preserved-then-index
loop-index-preserved-then-index c =
    let find = found_at (rule_of c.args.rule) c.args.stage.now in
    let i = c.loop-index.index in
    let s = c.args.stage.now.system in
    let d = c.system.inside in
    let rows : c.len-index-end.result ≡ length s.rows =
    c.len-index-end.ensures ∙ d.rows.ok.0 ∙ sym (length-map d.rows.items row_of) ∙ ap (λ z. length z.rows) c.system.view_is ∙ ap (λ z. length z.system.rows) c.stage.view_is in
    let below = c.loop-index-test.true in
    let count = c.loop-index.invariant.quiet.count in
    let within : i < length c.loop-index.quiet.items = omega (arith, rows, below, count) in
    let marked : get_or c.loop-index.quiet.items i false ≡ true = get_or_default c.loop-index.quiet.items i false c.index.result.now within ∙ sym c.index.ensures ∙ c.if-index.true in
    record { passed = none_more find i c.loop-index.invariant.passed (c.loop-index.invariant.quiet.nothing i marked); quiet = c.loop-index.invariant.quiet }

pub returns-in-Some-clause-next : goal.returns-in-Some-clause-next
returns-in-Some-clause-next c =
    let stage = c.args.stage.now in
    let s = stage.system in
    let find = found_at (rule_of c.args.rule) stage in
    let i = c.loop-index.index in
    let d = c.system.inside in
    let rows : c.len-index-end.result ≡ length s.rows =
    c.len-index-end.ensures ∙ d.rows.ok.0 ∙ sym (length-map d.rows.items row_of) ∙ ap (λ z. length z.rows) c.system.view_is ∙ ap (λ z. length z.system.rows) c.stage.view_is in
    let below = c.loop-index-test.true in
    let within : i < length s.rows = omega (arith, rows, below) in
    let found : IsNext s (find i) (Some c.in-Some.next) = subst (IsNext s (find i)) c.in-Some.is c.in_ok-next.ensures in
    subst (λ places. IsNext s (first_found find places) (Some c.in-Some.next)) (sym (row_places stage c.args.rule))
    (first_at s find i (length s.rows) c.in-Some.next within c.loop-index.invariant.passed found)

pub loop-index-preserved : goal.loop-index-preserved
loop-index-preserved c =
    let stage = c.args.stage.now in
    let s = stage.system in
    let find = found_at (rule_of c.args.rule) stage in
    let i = c.loop-index.index in
    let none : find i ≡ None = next_none s (find i) (subst (IsNext s (find i)) c.in_default.is c.in_ok-next.ensures) in
    record {
      passed = none_more find i c.loop-index.invariant.passed none;
      quiet = quiet_more (rule_of c.args.rule) stage c.loop-index.quiet.items i c.loop-index.invariant.quiet none;
    }
