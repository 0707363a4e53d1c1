use Rattle.std.proofs.Common.{◌≡◌, map, take}
use Rattle.relaxation.specs.Origins.{from_zero}
use Rattle.alt_polyhedron.proofs.systems.member_columns.Given as goal

-- those of the members passed are there
abbrev pub invariant-loop-member : goal.invariant-loop-member
invariant-loop-member l = l.columns.items ≡ map (λ m. from_zero) (take l._member-index l.members)
