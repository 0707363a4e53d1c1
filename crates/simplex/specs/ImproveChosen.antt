-- The choice of an improve turn, in code.
use Rattle.std.specs.Prelude.{Option, Some, None}
use Rattle.certs.specs.Improves.{Block, Improvement, first_block}
use Rattle.certs.specs.Improves.Improvement.{Optimal, Free, Flip, Leaves}
use Rattle.dictionary.specs.Layouts.{side_of}
use Rattle.simplex.specs.declared.improve_choices.Choice.{Choice}
use Rattle.simplex.specs.declared.improve_choices.Choice.TheVariants.{Optimal as IsOptimal, Free as IsFree, Flip as IsFlip, Leaves as IsLeaves}

-- the one that the code names
abbrev pub choice_named : Choice → Improvement
choice_named IsOptimal = Optimal
choice_named (IsFree j) = Free j
choice_named (IsFlip j) = Flip j
choice_named (IsLeaves i upper j) = Leaves i (side_of upper) j

-- the first of two blocks that may be there
abbrev pub nearer : Option Block → Option Block → Option Block
nearer None c = c
nearer (Some b) c = Some (first_block b c)
