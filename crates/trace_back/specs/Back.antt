-- The ways back of duals and rays: from those of the system after a step to those of the system before it, with the operations that are made.
use Rattle.std.specs.Prelude.{ℕ, ◌+◌, List, [], ◌∷◌, ◌++◌}
use Rattle.rational.specs.Rational.{ℚ, zero_ℚ, neg_ℚ, ◌+ℚ◌, ◌-ℚ◌, ◌*ℚ◌, ◌/ℚ◌}
use Rattle.rational.specs.Linear.{Assignment}
use Rattle.frac128.specs.Calculation.{Calculation}
use Rattle.frac128.specs.declared.Op.TheVariants.{Plus, Minus, Times, Over}
use Rattle.lp_model.specs.declared.members.Side.TheVariants.{Lo, Up}
use Rattle.certs.specs.Turns.{counted}
use Rattle.reductions.specs.declared.steps.Doubleton.{Doubleton as Pair}
use Rattle.reductions.specs.declared.steps.Fixed.{Fixed as Value}
use Rattle.reductions.specs.declared.steps.Step.{Step}
use Rattle.reductions.specs.declared.steps.Step.TheVariants.{Fixed, Doubleton}
use Rattle.reductions.specs.Back.{Weights, with_value, part_on, taken_of, taken_work, equation_work, made_work, lower_quotient, upper_quotient, pair_before, weights_before, weights_step_work}
use Rattle.trace_back.specs.Held.{with_sides}

-- ---- rays
-- how y moves by the equation, where x moves so
abbrev pub pair_move : Pair → Assignment → ℚ
pair_move d x = neg_ℚ (d.a /ℚ d.b) *ℚ x d.x

-- before the step a column that has a value does not move, and y moves by the equation
abbrev pub ray_before : Step → Assignment → Assignment
ray_before (Fixed f) x = with_value f.column zero_ℚ x
ray_before (Doubleton d) x = with_value d.y (pair_move d x) x
ray_before step x = x

-- the operations of that
abbrev pub ray_step_work : Step → Assignment → Calculation
ray_step_work (Doubleton d) x = counted Over d.a d.b ++ counted Times (neg_ℚ (d.a /ℚ d.b)) (x d.x)
ray_step_work step x = []

-- before all the steps, the last step first
abbrev pub ray_back : List Step → Assignment → Assignment
ray_back [] x = x
ray_back (step ∷ steps) x = ray_before step (ray_back steps x)

-- the operations of that
abbrev pub ray_work : List Step → Assignment → Calculation
ray_work [] x = []
ray_work (step ∷ steps) x = ray_work steps x ++ ray_step_work step (ray_back steps x)

-- ---- duals: weights whose columns add up to the objective
-- how often the rows that had a column with a value take it, less its factor in the objective
abbrev pub left_of_column : ℕ → Value → Weights → ℚ
left_of_column columns f w = taken_of columns f.changes w -ℚ f.objective

-- how often the changed rows leave the equation to be taken, with what the objective asks of it
abbrev pub asked_of_equation : ℕ → Pair → Weights → ℚ
asked_of_equation columns d w = neg_ℚ (taken_of columns d.changes w) +ℚ d.objective

-- how often it is taken: less what the lower limit of x that it made is worth, and with that of the upper one
abbrev pub dual_times : ℕ → Pair → Weights → ℚ
dual_times columns d w = (asked_of_equation columns d w -ℚ lower_quotient d w) +ℚ upper_quotient d w

-- Before a step: as for a combination, but that the limits of a column with a value, and an equation of two columns, also make up for the objective.
abbrev pub dual_before : ℕ → Step → Weights → Weights
dual_before columns (Fixed f) w = with_sides f.column (λ side. part_on side (neg_ℚ (left_of_column columns f w))) w
dual_before columns (Doubleton d) w = with_sides (columns + d.row) (λ side. part_on side (dual_times columns d w)) (pair_before columns d w)
dual_before columns step w = weights_before columns step w

-- the operations of how often the column is left, and of what is asked of the equation
abbrev pub left_work : ℕ → Value → Weights → Calculation
left_work columns f w = taken_work columns w zero_ℚ f.changes ++ counted Minus (taken_of columns f.changes w) f.objective

-- of the equation
abbrev pub asked_work : ℕ → Pair → Weights → Calculation
asked_work columns d w = equation_work columns w zero_ℚ d.changes ++ counted Plus (neg_ℚ (taken_of columns d.changes w)) d.objective

-- all of an equation: then the lower limit of x, and then the upper one
abbrev pub dual_pair_work : ℕ → Pair → Weights → Calculation
dual_pair_work columns d w =
    let asked = asked_of_equation columns d w in
    asked_work columns d w ++ (made_work Minus d asked d.lower (w Lo d.x) ++ made_work Plus d (asked -ℚ lower_quotient d w) d.upper (w Up d.x))

-- those of a step
abbrev pub dual_step_work : ℕ → Step → Weights → Calculation
dual_step_work columns (Fixed f) w = left_work columns f w
dual_step_work columns (Doubleton d) w = dual_pair_work columns d w
dual_step_work columns step w = weights_step_work columns step w

-- before all the steps, the last step first
abbrev pub duals_back : ℕ → List Step → Weights → Weights
duals_back columns [] w = w
duals_back columns (step ∷ steps) w = dual_before columns step (duals_back columns steps w)

-- ---- the bound of a dual, and the objective's value at a point
-- the factor of the removed column in the objective takes its value, or the number of its equation, so many times
abbrev pub bound_before : Step → ℚ → ℚ
bound_before (Fixed f) b = b +ℚ f.objective *ℚ f.value
bound_before (Doubleton d) b = b +ℚ d.objective *ℚ d.c
bound_before step b = b

-- the operations of a product that is added
abbrev pub added_work : ℚ → ℚ → ℚ → Calculation
added_work b p q = counted Times p q ++ counted Plus b (p *ℚ q)

-- those of a step
abbrev pub bound_step_work : Step → ℚ → Calculation
bound_step_work (Fixed f) b = added_work b f.objective f.value
bound_step_work (Doubleton d) b = added_work b d.objective d.c
bound_step_work step b = []

-- before all the steps, the last step first
abbrev pub bound_back : List Step → ℚ → ℚ
bound_back [] b = b
bound_back (step ∷ steps) b = bound_before step (bound_back steps b)

-- the operations of both: of each step those of the weights, and then those of the bound
abbrev pub duals_work : ℕ → List Step → Weights → ℚ → Calculation
duals_work columns [] w b = []
duals_work columns (step ∷ steps) w b =
    duals_work columns steps w b ++ (dual_step_work columns step (duals_back columns steps w) ++ bound_step_work step (bound_back steps b))
