use Rattle.std.proofs.Common.{◌<◌, ◌∙◌, ℕ, List, true≢false, sym, subst}
use Rattle.std.specs.Global.{Vec}
use Rattle.certs.proofs.Possible.{all_possible}
use Rattle.cert_check.specs.Sparse.{HasReached, IsListed, IsSparseFor}
use Rattle.cert_check.proofs.Along.{reached_yes}
use Rattle.cert_check.proofs.sparse.is_kept_by.Goals as goal
use Rattle.cert_check.proofs.sparse.is_kept_by.Goals.{in-Yes, in_default-matches}

pub reached-requires-clause-known : goal.reached-requires-clause-known
reached-requires-clause-known c j i h =
    let kept = subst (IsSparseFor c.args.model.now c.args.set.now.members) c.in-Some.is c.requires.sparse in
    subst (λ n. i < n) (sym c.requires.same.rows) (kept.rows.known j i (subst (λ (lists : List (Vec ℕ)). IsListed lists j i) c.as_slice.ensures.value h))

pub returns : goal.returns
returns c said =
    let model = c.args.model.now in
    let set = c.args.set.now in
    let part = c.in_ok-reached.reached.members in
    let kept = subst (IsSparseFor model set.members) c.in-Some.is c.requires.sparse in
    let reached = subst (λ (lists : List (Vec ℕ)). HasReached lists set.members c.args.columns.now part) c.as_slice.ensures.value c.in_ok-reached.ensures.reached in
    elim c.match-matches.branch [
      | in-Yes w ↦
          reached_yes model c.in-Some.sparse.rows.items set part c.args.columns.now c.args.ray.now.values kept.rows reached c.requires.spread.nonzeros c.requires.same
          (all_possible set c.stands_in_order.ensures.possible) (sym c.check_ray.ensures.said ∙ w.in-Yes.is)
      | in_default-matches w ↦ absurd (true≢false (sym said ∙ w.matches-is))
    ]
