-- Where the variables stand, as the code has it.
use Rattle.std.specs.Prelude.{Bool, true, false, List, map}
use Rattle.lp_model.specs.declared.members.Side.{Side}
use Rattle.lp_model.specs.declared.members.Side.TheVariants.{Lo, Up}
use Rattle.certs.specs.System.{Place}
use Rattle.certs.specs.System.Place.{Basic, AtLower, AtUpper, AtZero}
use Rattle.dictionary.specs.declared.places.Place.{Place as Code}
use Rattle.dictionary.specs.declared.places.Place.TheVariants.{Basic as IsBasic, AtLower as IsAtLower, AtUpper as IsAtUpper, AtZero as IsAtZero}

-- the place that the code names
abbrev pub place_of_code : Code → Place
place_of_code IsBasic = Basic
place_of_code IsAtLower = AtLower
place_of_code IsAtUpper = AtUpper
place_of_code IsAtZero = AtZero

-- whether it is in the basis
abbrev pub stands_code : Code → Bool
stands_code IsBasic = true
stands_code IsAtLower = false
stands_code IsAtUpper = false
stands_code IsAtZero = false

-- the side of an upper limit (`true`) or a lower one
abbrev pub side_of : Bool → Side
side_of true = Up
side_of false = Lo

-- the places of a list
abbrev pub basis_of : List Code → List Place
basis_of places = map place_of_code places
