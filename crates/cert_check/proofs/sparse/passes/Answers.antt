use Rattle.std.proofs.Common.{◌≡◌, ◌<◌, ◌∙◌, ℕ, List, true≢false, ap, sym, subst}
use Rattle.std.specs.Global.{Vec}
use Rattle.lp_model.specs.MemberSets.{IsWithin}
use Rattle.lp_model.specs.Satisfaction.{values_at}
use Rattle.std.specs.Prelude.{All}
use Rattle.rational.specs.Rational.{ℚ}
use Rattle.certs.proofs.Possible.{all_possible}
use Rattle.cert_check.specs.Sparse.{HasReached, IsListed, IsSparseFor, Passes}
use Rattle.cert_check.proofs.Reached.{all_yes, joined, left_passes}
use Rattle.cert_check.proofs.sparse.passes.Goals as goal
use Rattle.cert_check.proofs.sparse.passes.Goals.{in-Some-without, in_default-without, then-hold, else-hold}

pub reached-requires-clause-known : goal.reached-requires-clause-known
reached-requires-clause-known c j i h =
    let kept = subst (IsSparseFor c.args.model.now c.args.left.now.members) c.in-Some.is c.requires.sparse in
    subst (λ n. i < n) (sym c.requires.same.rows) (kept.rows.known j i (subst (λ (lists : List (Vec ℕ)). IsListed lists j i) c.as_slice.ensures.value h))

pub returns : goal.returns
returns c said =
    let model = c.args.model.now in
    let left = c.args.left.now in
    let part = c.in_ok-reached.reached in
    let found = c.in_ok-reached.ensures in
    let kept = subst (IsSparseFor model left.members) c.in-Some.is c.requires.sparse in
    let joins : c.match-without.reached ≡ joined part c.args.without =
    elim c.match-without.branch [
      | in-Some-without w ↦ w.reached-is ∙ (w.insert.ensures ∙ ap (joined part) (sym w.in-Some-without.is))
      | in_default-without w ↦ w.reached-is ∙ ap (joined part) (sym w.in_default-without.is)
    ] in
    elim c.if-hold.branch [
      | then-hold w ↦
          let reached = subst (λ (lists : List (Vec ℕ)). HasReached lists left.members c.args.columns.now part.members) c.as_slice.ensures.value found.reached in
          all_yes model (values_at c.args.point.now.values) left.members
          (left_passes model c.in-Some.sparse.rows.items left part c.in-Some.sparse.failing c.args.without c.args.columns.now c.args.point.now.values kept.rows reached c.requires.spread.nonzeros kept.failing
          c.requires.same found.rows found.columns (all_possible left c.stands_in_order.ensures.possible) c.requires.lacks
          (subst (λ (values : List ℚ). All (Passes model (values_at values)) part.members) c.as_slice-2.ensures (c.hold-hold.ensures w.if-hold.true)) (subst (IsWithin c.in-Some.sparse.failing) joins (w.within.ensures.0 (sym w.result-is ∙ said))))
      | else-hold w ↦ absurd (true≢false (sym said ∙ w.result-is ∙ w.if-hold.false))
    ]
