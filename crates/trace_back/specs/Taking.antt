-- One item of a sum over changed rows, or over the terms of a forcing row: what is added, and the operations.
use Rattle.std.specs.Prelude.{ℕ, ◌+◌, ◌++◌}
use Rattle.rational.specs.Rational.{ℚ, ◌+ℚ◌, ◌-ℚ◌, ◌*ℚ◌, ◌/ℚ◌}
use Rattle.rational.specs.Linear.{Term}
use Rattle.frac128.specs.Calculation.{Calculation}
use Rattle.frac128.specs.declared.Op.TheVariants.{Plus, Minus, Times, Over}
use Rattle.lp_model.specs.declared.members.Side.{Side}
use Rattle.lp_model.specs.declared.members.Side.TheVariants.{Lo, Up}
use Rattle.certs.specs.Improves.{magnitude}
use Rattle.certs.specs.System.{VariableShare}
use Rattle.certs.specs.Turns.{counted}
use Rattle.reductions.specs.declared.steps.Change.{Change}
use Rattle.reductions.specs.declared.steps.Forcing.{Forcing as Forced}
use Rattle.reductions.specs.Back.{Weights, forced_side, forced_weight}
use Rattle.reductions.specs.Rules.{share_on}

-- the factor of a changed row times the weight of its side
abbrev pub side_part : ℕ → Weights → Change → Side → ℚ
side_part columns w c side = c.factor *ℚ w side (columns + c.row)

-- the product for its side
abbrev pub side_work : ℕ → Weights → Change → Side → Calculation
side_work columns w c side = counted Times c.factor (w side (columns + c.row))

-- a sum less the lower side's part and with the upper one's
abbrev pub taken_with : ℕ → Weights → ℚ → Change → ℚ
taken_with columns w sum c = (sum -ℚ side_part columns w c Lo) +ℚ side_part columns w c Up

-- its operations
abbrev pub take_work : ℕ → Weights → ℚ → Change → Calculation
take_work columns w sum c =
    side_work columns w c Lo ++ (counted Minus sum (side_part columns w c Lo)
    ++ (side_work columns w c Up ++ counted Plus (sum -ℚ side_part columns w c Lo) (side_part columns w c Up)))

-- a sum with the lower side's part and less the upper one's
abbrev pub given_with : ℕ → Weights → ℚ → Change → ℚ
given_with columns w sum c = (sum +ℚ side_part columns w c Lo) -ℚ side_part columns w c Up

-- its operations
abbrev pub give_work : ℕ → Weights → ℚ → Change → Calculation
give_work columns w sum c =
    side_work columns w c Lo ++ (counted Plus sum (side_part columns w c Lo)
    ++ (side_work columns w c Up ++ counted Minus (sum +ℚ side_part columns w c Lo) (side_part columns w c Up)))

-- a sum with how often a term's made limit takes the row's side
abbrev pub times_with : Forced → Weights → ℚ → Term → ℚ
times_with f w sum t = sum +ℚ forced_weight f w t /ℚ magnitude t.factor

-- its operations
abbrev pub time_work : Forced → Weights → ℚ → Term → Calculation
time_work f w sum t = counted Over (forced_weight f w t) (magnitude t.factor) ++ counted Plus sum (forced_weight f w t /ℚ magnitude t.factor)

-- the limit that the sum takes of a term's column, as often as it is taken where the row's side is taken so often
abbrev pub forced_share : Forced → Weights → ℚ → Term → VariableShare
forced_share f w times t = share_on (forced_side f t) t.column (w (forced_side f t) t.column +ℚ (magnitude t.factor *ℚ times -ℚ forced_weight f w t))

-- its operations
abbrev pub part_work : Forced → Weights → ℚ → Term → Calculation
part_work f w times t =
    counted Times (magnitude t.factor) times ++ (counted Minus (magnitude t.factor *ℚ times) (forced_weight f w t)
    ++ counted Plus (w (forced_side f t) t.column) (magnitude t.factor *ℚ times -ℚ forced_weight f w t))
