-- The choice of a settle turn, in code.
use Rattle.std.specs.Prelude.{◌≡◌}
use Rattle.lp_model.specs.declared.members.Side.{Side}
use Rattle.certs.specs.Turns.{Choice}
use Rattle.certs.specs.Turns.Choice.{Settled, Blocked, Exchange}
use Rattle.dictionary.specs.Layouts.{side_of}
use Rattle.simplex.specs.declared.choices.Choice.{Choice as Code}
use Rattle.simplex.specs.declared.choices.Choice.TheVariants.{Settled as IsSettled, Blocked as IsBlocked, Exchange as IsExchange}

-- it is the one that the code names; of a variable that nothing helps the side is not named
abbrev pub IsChosen : Code → Choice → Type 0
IsChosen IsSettled choice = choice ≡ Settled
IsChosen (IsBlocked v) choice = (side : Side) × (choice ≡ Blocked v side)
IsChosen (IsExchange i upper j) choice = choice ≡ Exchange i (side_of upper) j
