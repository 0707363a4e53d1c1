use Rattle.std.proofs.Common.{◌≡◌, length}
use Rattle.std.specs.Prelude.{◌⊎◌}
use Rattle.certs.specs.Answers.{AnswersAt, IsAnsweredProof}
use Rattle.filter_steps.specs.Reductions.{IsReduction}
use Rattle.filter_steps.proofs.Answering.{IsLeftSoFar}
use Rattle.deletion_filter.proofs.LateStates.{IsLateState}
use Rattle.deletion_filter.proofs.deletion.isolate_refuted.Given as goal

-- the members that follow are still to come
abbrev pub invariant-loop-member : goal.invariant-loop-member
invariant-loop-member g l =
    let oracle = g.O.Oracle in
    let first = oracle.state l.fn.oracle in
    record {
      state : IsLateState first.model l.set.members l.member-iterator l.reduction.left.members l.reduction.witnesses.items;
      reduced : IsReduction first.model l.reduction.left l.reduction.used l.reduction.proof.nodes;
      told : (l.reduction.proof.nodes ≡ l.fn.proof.nodes) ⊎ IsAnsweredProof (AnswersAt oracle.answers first) l.reduction.proof.nodes;
      quiet : (oracle.state l.oracle).tale.stops ≡ first.tale.stops;
      left : IsLeftSoFar (length l.set.members) (length l.member-iterator) first (oracle.state l.oracle);
    }
