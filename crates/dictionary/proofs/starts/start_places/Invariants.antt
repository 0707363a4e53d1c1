use Rattle.std.proofs.Common.{◌≡◌, ◌++◌, ◌-◌, map, take, replicate}
use Rattle.std.specs.Option.{option_map}
use Rattle.certs.specs.System.Place.{Basic}
use Rattle.certs.specs.Tableau.{start_place}
use Rattle.dictionary.specs.Layouts.{basis_of}
use Rattle.dictionary.proofs.starts.start_places.Given as goal

-- the columns passed stand at their limits
abbrev pub invariant-loop-variable : goal.invariant-loop-variable
invariant-loop-variable g l = basis_of l.places.items ≡ map start_place (take l.variable (map (λ b. record { lower = option_map g.N.Exact.value b.lower; upper = option_map g.N.Exact.value b.upper }) l.bounds))

-- and the other variables passed in the basis
abbrev pub invariant-loop : goal.invariant-loop
invariant-loop g l = basis_of l.places.items ≡ map start_place (take l.columns (map (λ b. record { lower = option_map g.N.Exact.value b.lower; upper = option_map g.N.Exact.value b.upper }) l.bounds)) ++ replicate (l.counter - l.columns) Basic
