-- What a row that forces its columns makes of them.
use Rattle.std.specs.Prelude.{List, map, Some}
use Rattle.rational.specs.Linear.{Term}
use Rattle.lp_model.specs.declared.members.Side.{Side}
use Rattle.certs.specs.System.{Limits, LinearSystem}
use Rattle.reductions.specs.Limited.{taken_value}
use Rattle.presolve.specs.Plans.{At}

-- both limits of a term's column made equal to the one that a sum takes
abbrev pub forced_column : LinearSystem → Side → Term → At Limits
forced_column system sum t = record { number = t.column; item = record { lower = Some (taken_value system sum t); upper = Some (taken_value system sum t) } }

-- of all terms
abbrev pub forced_columns : LinearSystem → Side → List Term → List (At Limits)
forced_columns system sum terms = map (forced_column system sum) terms
