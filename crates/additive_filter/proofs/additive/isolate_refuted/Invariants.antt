use Rattle.std.proofs.Common.{◌≡◌, length}
use Rattle.std.specs.Prelude.{◌⊎◌}
use Rattle.certs.specs.Answers.{AnswersAt, IsAnsweredProof}
use Rattle.filter_steps.specs.Reductions.{IsReduction}
use Rattle.filter_steps.proofs.Answering.{IsLeftSoFar}
use Rattle.additive_filter.proofs.EarlyStates.{IsEarlyState}
use Rattle.additive_filter.proofs.additive.isolate_refuted.Given as goal

-- the members of the front are still to come
abbrev pub invariant-loop-member : goal.invariant-loop-member
invariant-loop-member g l =
    let oracle = g.O.Oracle in
    let first = oracle.state l.fn.oracle in
    record {
      state : IsEarlyState first.model l.set.members l.front.items l.reduction.left.members l.reduction.witnesses.items;
      reduced : IsReduction first.model l.reduction.left l.reduction.used l.reduction.proof.nodes;
      told : (l.reduction.proof.nodes ≡ l.fn.proof.nodes) ⊎ IsAnsweredProof (AnswersAt oracle.answers first) l.reduction.proof.nodes;
      quiet : (oracle.state l.oracle).tale.stops ≡ first.tale.stops;
      left : IsLeftSoFar (length l.set.members) (length l.front.items) first (oracle.state l.oracle);
    }

abbrev pub decreases-loop-member : goal.decreases-loop-member
decreases-loop-member g l = length l.front.items
