use Rattle.std.proofs.Common.{◌≡◌, ◌+◌, ◌<◌, sym, ◌∙◌, ap, subst, List}
use Rattle.std.specs.Prelude.{All, flat_map}
use Rattle.std.proofs.lemmas.Result.{err_from_is_err_and}
use Rattle.std.proofs.lemmas.List.Elements.{All-map, All-weaker}
use Rattle.rational.specs.Rational.{ℚ, zero_ℚ}
use Rattle.rational.specs.Linear.{Term}
use Rattle.frac128.specs.Limit.{limit}
use Rattle.frac128.specs.Calculation.{first_wide}
use Rattle.certs.specs.System.{VariableShare}
use Rattle.reductions.specs.Back.{forced_work, forcing_before, times_work}
use Rattle.reductions.specs.Known.{IsKnownTerm}
use Rattle.trace_back.specs.Held.{on_side, shares_written, weights_in, with_sides}
use Rattle.trace_back.specs.Taking.{forced_share, part_work}
use Rattle.trace_back.proofs.Forced.{forced_is}
use Rattle.trace_back.proofs.Works.{AreNarrow, first_here, narrow_both, stop_as, stop_past}
use Rattle.trace_back.proofs.Writes.{now_as, now_over}
use Rattle.trace_back.proofs.forcing.forcing_back.Goals as goal

pub returns-in_err-times : goal.returns-in_err-times
returns-in_err-times c =
    let f = c.args.forcing.now in
    let w = weights_in c.args.weights.now in
    let p = err_from_is_err_and c.from_residual.result c.from_residual.ensures.1 in
    rw (p.1, p.2) (first_here (times_work f w zero_ℚ f.terms) (flat_map (forced_work f w) f.terms) _ c.in_err-times.ensures)

pub returns-in_err-limits : goal.returns-in_err-limits
returns-in_err-limits c =
    let f = c.args.forcing.now in
    let w = weights_in c.args.weights.now in
    let p = err_from_is_err_and c.from_residual-in_err-limits.result c.from_residual-in_err-limits.ensures.1 in
    rw (p.1, p.2)
    (stop_past (times_work f w zero_ℚ f.terms) (flat_map (forced_work f w) f.terms) _ c.in_ok-times.ensures.1
    (stop_as (flat_map (part_work f w c.in_ok-times.times) f.terms) (flat_map (forced_work f w) f.terms) _ (ap (λ z. first_wide limit (flat_map (part_work f w z) f.terms)) c.in_ok-times.ensures.0) c.in_err-limits.ensures))

pub put_limits-requires-clause-known : goal.put_limits-requires-clause-known
put_limits-requires-clause-known c =
    let f = c.args.forcing.now in
    let n = c.args.weights.now.columns in
    let w = weights_in c.args.weights.now in
    subst (All (λ (s : VariableShare). s.variable < n)) (sym c.in_ok-limits.ensures.0)
    (All-map (λ (s : VariableShare). s.variable < n) (forced_share f w c.in_ok-times.times) f.terms (All-weaker (IsKnownTerm n) (λ (t : Term). t.column < n) (λ t h. h.known) f.terms c.requires.known.1))

pub returns : goal.returns
returns c =
    let f = c.args.forcing.now in
    let old = c.args.weights.now in
    let n = old.columns in
    let w = weights_in old in
    let times = c.in_ok-times.times in
    let limits = c.in_ok-limits.limits.items in
    let row = c.variable-row.result in
    let q = on_side f.side times in
    let same : with_sides row q (shares_written limits w) ≡ forcing_before n f w =
    ap (λ r. with_sides r q (shares_written limits w)) c.variable-row.ensures
    ∙ ap (λ (l : List VariableShare). with_sides (n + f.row) q (shares_written l w)) c.in_ok-limits.ensures.0
    ∙ forced_is f w times c.in_ok-times.ensures.0 n in (
      now_as old c.put_one.new.self (with_sides row q (shares_written limits w)) (forcing_before n f w)
          (now_over old c.put_limits.new.weights c.put_one.new.self (shares_written limits w) row q c.put_limits.ensures c.put_one.ensures) same,
      narrow_both (times_work f w zero_ℚ f.terms) (flat_map (forced_work f w) f.terms) c.in_ok-times.ensures.1
          (subst (λ (z : ℚ). AreNarrow (flat_map (part_work f w z) f.terms)) c.in_ok-times.ensures.0 c.in_ok-limits.ensures.1),
    )
