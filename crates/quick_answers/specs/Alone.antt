-- Sets that no quick run is made of, and sets of which one is made only after the inner oracle.
use Rattle.std.specs.Prelude.{ℕ, ◌*◌, ◌==◌, nat_le, Bool, ◌||◌, ◌&&◌, not, List, length}
use Rattle.lp_model.specs.declared.members.Member.{Member}
use Rattle.lp_model.specs.Program.{Program}
use Rattle.certs.specs.Answers.{is_linear}
use Rattle.certs.specs.Plain.{rows_in}

-- the rows of which the set has a side, times the columns
abbrev pub size_of : Program → List Member → ℕ
size_of model set = length (rows_in model set) * length model.columns

-- at most 1,000 of them
abbrev pub is_small : Program → List Member → Bool
is_small model set = nat_le (size_of model set) 1000

-- at most 10
abbrev pub is_tiny : Program → List Member → Bool
is_tiny model set = nat_le (size_of model set) 10

-- the set has a mark, and a quick tree may have no nodes
abbrev pub wants_nodes : List Member → ℕ → Bool
wants_nodes set nodes = not (is_linear set) && (nodes == 0)

-- the set is tiny, or it has a mark and a quick tree may have no nodes: the inner oracle alone is asked
abbrev pub stands_alone : Program → List Member → ℕ → Bool
stands_alone model set nodes = is_tiny model set || wants_nodes set nodes
