-- The ways back: from evidence of the system after a step to evidence of the system before it, with the operations that are made.
use Rattle.std.specs.Prelude.{ℕ, ◌+◌, ◌==◌, Bool, false, ◌&&◌, cond, List, [], ◌∷◌, ◌++◌, flat_map, find, Option, Some, None}
use Rattle.rational.specs.Rational.{ℚ, zero_ℚ, neg_ℚ, ◌+ℚ◌, ◌-ℚ◌, ◌*ℚ◌, ◌/ℚ◌, lt_q, eq_ℚ}
use Rattle.rational.specs.Sum.{sum_over}
use Rattle.rational.specs.Linear.{Term, Assignment}
use Rattle.frac128.specs.Calculation.{Calculation}
use Rattle.frac128.specs.declared.Op.{Op}
use Rattle.frac128.specs.declared.Op.TheVariants.{Plus, Minus, Times, Over}
use Rattle.lp_model.specs.declared.members.Side.{Side}
use Rattle.lp_model.specs.declared.members.Side.TheVariants.{Lo, Up}
use Rattle.certs.specs.Improves.{magnitude}
use Rattle.certs.specs.System.{VariableShare}
use Rattle.certs.specs.Ended.{numbers_from}
use Rattle.certs.specs.Turns.{counted}
use Rattle.reductions.specs.declared.steps.Change.{Change}
use Rattle.reductions.specs.declared.steps.Singleton.{Singleton as Single}
use Rattle.reductions.specs.declared.steps.Forcing.{Forcing as Forced}
use Rattle.reductions.specs.declared.steps.Doubleton.{Doubleton as Pair}
use Rattle.reductions.specs.declared.steps.Step.{Step}
use Rattle.reductions.specs.declared.steps.Step.TheVariants.{Empty, Singleton, Fixed, Redundant, Forcing, Doubleton}
use Rattle.reductions.specs.Limited.{opposite, is_side, turned}
use Rattle.reductions.specs.Rules.{share_on}

-- ---- points
-- the value of y by the equation
abbrev pub pair_value : Pair → Assignment → ℚ
pair_value d x = (d.c -ℚ d.a *ℚ x d.x) /ℚ d.b

-- the values, with another one at a column
abbrev pub with_value : ℕ → ℚ → Assignment → Assignment
with_value j q x k = cond (k == j) q (x k)

-- before the step a removed column has the value that the step gives it
abbrev pub point_before : Step → Assignment → Assignment
point_before (Fixed f) x = with_value f.column f.value x
point_before (Doubleton d) x = with_value d.y (pair_value d x) x
point_before step x = x

-- the operations of that
abbrev pub point_step_work : Step → Assignment → Calculation
point_step_work (Doubleton d) x =
    counted Times d.a (x d.x) ++ (counted Minus d.c (d.a *ℚ x d.x) ++ counted Over (d.c -ℚ d.a *ℚ x d.x) d.b)
point_step_work step x = []

-- before all the steps, the last step first
abbrev pub point_back : List Step → Assignment → Assignment
point_back [] x = x
point_back (step ∷ steps) x = point_before step (point_back steps x)

-- the operations of that
abbrev pub point_work : List Step → Assignment → Calculation
point_work [] x = []
point_work (step ∷ steps) x = point_work steps x ++ point_step_work step (point_back steps x)

-- ---- weights
-- how often the limit on each side of each variable is taken
abbrev pub Weights : Type 0
Weights = Side → ℕ → ℚ

-- what a number is on a side: itself on the upper one where it is above 0, its opposite on the lower one where it is below 0, and else 0
abbrev pub part_on : Side → ℚ → ℚ
part_on Up q = cond (lt_q zero_ℚ q) q zero_ℚ
part_on Lo q = cond (lt_q q zero_ℚ) (neg_ℚ q) zero_ℚ

-- how often the changed rows are taken, each as often as what it was changed by: on the upper side plus, on the lower one minus
abbrev pub taken_of : ℕ → List Change → Weights → ℚ
taken_of columns changes w = sum_over (λ c. c.factor *ℚ (w Up (columns + c.row) -ℚ w Lo (columns + c.row))) changes

-- its operations, from a sum so far
abbrev pub taken_work : ℕ → Weights → ℚ → List Change → Calculation
taken_work columns w sum [] = []
taken_work columns w sum (c ∷ changes) =
    let l = c.factor *ℚ w Lo (columns + c.row) in
    let u = c.factor *ℚ w Up (columns + c.row) in
    counted Times c.factor (w Lo (columns + c.row)) ++ (counted Minus sum l
    ++ (counted Times c.factor (w Up (columns + c.row)) ++ (counted Plus (sum -ℚ l) u
    ++ taken_work columns w ((sum -ℚ l) +ℚ u) changes)))

-- whether it is there and is the side
abbrev pub is_made : Option Side → Side → Bool
is_made None side = false
is_made (Some made) side = is_side made side

-- the side that made the limit on a side
abbrev pub maker : Option Side → Option Side → Side → Option Side
maker lower upper Lo = lower
maker lower upper Up = upper

-- the first number where the side made the lower limit, the second where it made the upper one, and else 0
abbrev pub by_maker : Option Side → Option Side → Side → ℚ → ℚ → ℚ
by_maker lower upper side l u = cond (is_made lower side) l (cond (is_made upper side) u zero_ℚ)

-- 0 where the limit on the side was made, and else the number
abbrev pub unless_made : Option Side → ℚ → ℚ
unless_made None q = q
unless_made (Some side) q = zero_ℚ

-- ---- a row of one column
-- the sides of the row take over from the limits that they made
abbrev pub single_before : ℕ → Single → Weights → Weights
single_before columns s w side v =
    cond (v == columns + s.row) (by_maker s.lower s.upper side (w Lo s.column /ℚ magnitude s.factor) (w Up s.column /ℚ magnitude s.factor))
    (cond (v == s.column) (unless_made (maker s.lower s.upper side) (w side v)) (w side v))

-- the operations for a limit that was made
abbrev pub single_side_work : ℚ → Option Side → ℚ → Calculation
single_side_work a None w = []
single_side_work a (Some side) w = counted Over w (magnitude a)

-- the lower limit first
abbrev pub single_work_back : Single → Weights → Calculation
single_work_back s w = single_side_work s.factor s.lower (w Lo s.column) ++ single_side_work s.factor s.upper (w Up s.column)

-- ---- a column with a value
-- its limits make up for what the rows that had it leave of it
abbrev pub fixed_before : ℕ → ℕ → List Change → Weights → Weights
fixed_before columns j changes w side v = cond (v == j) (part_on side (neg_ℚ (taken_of columns changes w))) (w side v)

-- ---- a forcing row
-- the side of the limit that the row's sum takes of a term's column
abbrev pub forced_side : Forced → Term → Side
forced_side f t = turned t.factor (opposite f.side)

-- the weight of the limit that the step made
abbrev pub forced_weight : Forced → Weights → Term → ℚ
forced_weight f w t = w (opposite (forced_side f t)) t.column

-- how often the row's side is taken
abbrev pub forcing_times : Forced → Weights → ℚ
forcing_times f w = sum_over (λ t. forced_weight f w t /ℚ magnitude t.factor) f.terms

-- the weight of a term's limit: that which the sum takes also makes up for the row; the other one is gone
abbrev pub forced_part : Forced → Weights → Side → Term → ℚ
forced_part f w side t = cond (is_side side (forced_side f t)) (w side t.column +ℚ (magnitude t.factor *ℚ forcing_times f w -ℚ forced_weight f w t)) zero_ℚ

-- of a variable, where it is the column of a term
abbrev pub forced_or : Forced → Weights → Side → ℕ → Option Term → ℚ
forced_or f w side v None = w side v
forced_or f w side v (Some t) = forced_part f w side t

-- the row's side takes over from the limits that it made
abbrev pub forcing_before : ℕ → Forced → Weights → Weights
forcing_before columns f w side v =
    cond (v == columns + f.row) (cond (is_side side f.side) (forcing_times f w) zero_ℚ)
    (forced_or f w side v (find (λ t. t.column == v) f.terms))

-- the operations of how often the side is taken, from a sum so far
abbrev pub times_work : Forced → Weights → ℚ → List Term → Calculation
times_work f w sum [] = []
times_work f w sum (t ∷ terms) =
    let q = forced_weight f w t /ℚ magnitude t.factor in
    counted Over (forced_weight f w t) (magnitude t.factor) ++ (counted Plus sum q ++ times_work f w (sum +ℚ q) terms)

-- then those of each limit that the sum takes
abbrev pub forced_work : Forced → Weights → Term → Calculation
forced_work f w t =
    let product = magnitude t.factor *ℚ forcing_times f w in
    counted Times (magnitude t.factor) (forcing_times f w) ++ (counted Minus product (forced_weight f w t)
    ++ counted Plus (w (forced_side f t) t.column) (product -ℚ forced_weight f w t))

-- ---- an equation of two columns
-- the weight of a limit that the step made over a, and 0 of one that it did not make
abbrev pub made_quotient : ℚ → Option Side → ℚ → ℚ
made_quotient a None w = zero_ℚ
made_quotient a (Some side) w = w /ℚ a

-- of the lower and of the upper limit of x
abbrev pub lower_quotient : Pair → Weights → ℚ
lower_quotient d w = made_quotient d.a d.lower (w Lo d.x)

-- upper
abbrev pub upper_quotient : Pair → Weights → ℚ
upper_quotient d w = made_quotient d.a d.upper (w Up d.x)

-- how often the equation is taken: less what the changed rows took of it, and what the limits of x that it made are worth
abbrev pub equation_times : ℕ → Pair → Weights → ℚ
equation_times columns d w = (neg_ℚ (taken_of columns d.changes w) -ℚ lower_quotient d w) +ℚ upper_quotient d w

-- the equation and the limits of y take over from the limits that they made
abbrev pub pair_before : ℕ → Pair → Weights → Weights
pair_before columns d w side v =
    cond (v == columns + d.row) (part_on side (equation_times columns d w))
    (cond (v == d.y) (by_maker d.lower d.upper side (magnitude (d.b *ℚ lower_quotient d w)) (magnitude (d.b *ℚ upper_quotient d w)))
    (cond (v == d.x) (unless_made (maker d.lower d.upper side) (w side v)) (w side v)))

-- the operations of the changed rows, each taken away on the upper side and added on the lower one
abbrev pub equation_work : ℕ → Weights → ℚ → List Change → Calculation
equation_work columns w sum [] = []
equation_work columns w sum (c ∷ changes) =
    let l = c.factor *ℚ w Lo (columns + c.row) in
    let u = c.factor *ℚ w Up (columns + c.row) in
    counted Times c.factor (w Lo (columns + c.row)) ++ (counted Plus sum l
    ++ (counted Times c.factor (w Up (columns + c.row)) ++ (counted Minus (sum +ℚ l) u
    ++ equation_work columns w ((sum +ℚ l) -ℚ u) changes)))

-- those of a limit of x that was made: the quotient, its part in the equation, and the weight of the limit of y
abbrev pub made_work : Op → Pair → ℚ → Option Side → ℚ → Calculation
made_work kind d sum None w = []
made_work kind d sum (Some side) w = counted Over w d.a ++ (counted kind sum (w /ℚ d.a) ++ counted Times d.b (w /ℚ d.a))

-- all: the changed rows, the lower limit, and then the upper one
abbrev pub pair_work_back : ℕ → Pair → Weights → Calculation
pair_work_back columns d w =
    let sum = neg_ℚ (taken_of columns d.changes w) in
    equation_work columns w zero_ℚ d.changes ++ (made_work Minus d sum d.lower (w Lo d.x)
    ++ made_work Plus d (sum -ℚ lower_quotient d w) d.upper (w Up d.x))

-- ---- all steps
-- the weights before a step, in a system of so many columns
abbrev pub weights_before : ℕ → Step → Weights → Weights
weights_before columns (Empty i) w = w
weights_before columns (Singleton s) w = single_before columns s w
weights_before columns (Fixed f) w = fixed_before columns f.column f.changes w
weights_before columns (Redundant i) w = w
weights_before columns (Forcing f) w = forcing_before columns f w
weights_before columns (Doubleton d) w = pair_before columns d w

-- the operations of that
abbrev pub weights_step_work : ℕ → Step → Weights → Calculation
weights_step_work columns (Empty i) w = []
weights_step_work columns (Singleton s) w = single_work_back s w
weights_step_work columns (Fixed f) w = taken_work columns w zero_ℚ f.changes
weights_step_work columns (Redundant i) w = []
weights_step_work columns (Forcing f) w = times_work f w zero_ℚ f.terms ++ flat_map (forced_work f w) f.terms
weights_step_work columns (Doubleton d) w = pair_work_back columns d w

-- before all the steps, the last step first
abbrev pub weights_back : ℕ → List Step → Weights → Weights
weights_back columns [] w = w
weights_back columns (step ∷ steps) w = weights_before columns step (weights_back columns steps w)

-- the operations of that
abbrev pub weights_work : ℕ → List Step → Weights → Calculation
weights_work columns [] w = []
weights_work columns (step ∷ steps) w = weights_work columns steps w ++ weights_step_work columns step (weights_back columns steps w)

-- ---- shares as weights
-- how often shares take a limit
abbrev pub weights_of : List VariableShare → Weights
weights_of shares side v = sum_over (λ s. cond (is_side s.side side && (s.variable == v)) s.weight zero_ℚ) shares

-- the share of a limit, where it is taken
abbrev pub share_of : Weights → Side → ℕ → List VariableShare
share_of w side v = cond (eq_ℚ (w side v) zero_ℚ) [] (share_on side v (w side v) ∷ [])

-- The shares of weights in a system of so many columns and rows: the sides of the rows, the lower side first; the lower limits of the columns; their upper ones.
abbrev pub shares_of : ℕ → ℕ → Weights → List VariableShare
shares_of columns rows w =
    flat_map (λ v. share_of w Lo v ++ share_of w Up v) (numbers_from columns rows)
    ++ (flat_map (share_of w Lo) (numbers_from 0 columns) ++ flat_map (share_of w Up) (numbers_from 0 columns))
