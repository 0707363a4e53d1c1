-- The laws of a step and of all steps, put together.
use Rattle.std.proofs.Common.{length}
use Rattle.reductions.specs.Back.{weights_of, weights_back}
use Rattle.reductions.specs.Laws.{StepLaw, TraceLaw}
use Rattle.reductions.proofs.Formed.{formed_after, large_after, lives_after}
use Rattle.reductions.proofs.Next.{next}
use Rattle.reductions.proofs.Origins.{origin}
use Rattle.reductions.proofs.StepPoints.{points_after, point_trace}
use Rattle.reductions.proofs.WeightFound.{weight_laws}
use Rattle.reductions.proofs.WeightOrder.{shares_in_order}
use Rattle.reductions.proofs.WeightTrace.{StaysFormedLaw, trace_combination}

-- a step that is found leaves a formed system, as large
stays_formed : StaysFormedLaw
stays_formed stage step formed lives found = record {
  formed = formed_after stage step formed (origin stage step found);
  large = large_after step stage.system;
  lives = lives_after step stage;
}

pub step_law : StepLaw
step_law stage step formed lives found =
    let from = origin stage step found in
    let points = points_after stage step formed found from in
    let large = large_after step stage.system in
    let weights = weight_laws stage step formed lives found large in
    record {
      formed = formed_after stage step formed from;
      large = large;
      lives = lives_after step stage;
      keeps = points.keeps;
      same = points.same;
      point = points.point;
      weights = weights.weights;
      balance_is = weights.balance_is;
      right_is = weights.right_is;
    }

pub trace_law : TraceLaw
trace_law stage last steps formed lives reduces =
    let points = point_trace stage last steps formed lives reduces in
    record {
      formed = points.formed;
      large = points.large;
      keeps = points.keeps;
      same = points.same;
      point = points.point;
      combination = trace_combination next stays_formed stage last steps formed lives reduces;
      ordered = λ shares. shares_in_order (length stage.system.columns) (length stage.system.rows) (weights_back (length stage.system.columns) steps (weights_of shares));
      known = points.known;
    }
