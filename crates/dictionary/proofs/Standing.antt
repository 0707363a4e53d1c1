-- Which variables stand in the basis, by the code's places.
use Rattle.std.proofs.Common.{◌≡◌, ◌<◌, refl, ◌∙◌, ap, ℕ, List, length, get_or}
use Rattle.std.proofs.lemmas.List.{get_or-map, length-map}
use Rattle.certs.specs.System.{is_basic}
use Rattle.certs.specs.System.Place.{AtZero}
use Rattle.certs.proofs.Tableaus.{place_basic}
use Rattle.dictionary.specs.declared.places.Place.{Place as Code}
use Rattle.dictionary.specs.declared.places.Place.TheVariants.{Basic as IsBasic, AtLower as IsAtLower, AtUpper as IsAtUpper, AtZero as IsAtZero}
use Rattle.dictionary.specs.Layouts.{basis_of, stands_code, place_of_code}

code_basic : (code : Code) → place_basic (place_of_code code) ≡ stands_code code
unfolding place_basic
code_basic IsBasic = refl
code_basic IsAtLower = refl
code_basic IsAtUpper = refl
code_basic IsAtZero = refl

pub basis_at : (places : List Code) (v : ℕ) → v < length places → get_or (basis_of places) v AtZero ≡ place_of_code (get_or places v IsBasic)
basis_at places v l = get_or-map place_of_code places v IsBasic AtZero l

pub basic_read : (places : List Code) (v : ℕ) → v < length places → is_basic (basis_of places) v ≡ stands_code (get_or places v IsBasic)
unfolding place_basic
basic_read places v l = ap place_basic (basis_at places v l) ∙ code_basic (get_or places v IsBasic)

pub basis-length : (places : List Code) → length (basis_of places) ≡ length places
basis-length places = length-map places place_of_code
