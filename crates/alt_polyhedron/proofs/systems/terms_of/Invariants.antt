use Rattle.std.proofs.Common.{◌≡◌, take}
use Rattle.certs.specs.System.{terms_from}
use Rattle.alt_polyhedron.specs.Forms.{count_by}
use Rattle.alt_polyhedron.proofs.systems.terms_of.Given as goal

-- the terms of the members passed are there
abbrev pub invariant-loop-variable : goal.invariant-loop-variable
invariant-loop-variable l = l.terms.items ≡ terms_from 0 (count_by l.model l.form) (take l.variable l.members)
