use Rattle.std.proofs.Common.{arith}
use Rattle.std.proofs.lemmas.Bool.Decides.{nat_tests}
use Rattle.text_fields.specs.Pieces.{mark_of}
use Rattle.text_fields.proofs.pieces.mark.Goals as goal

pub returns-then-next-eq62-clause-piece : goal.returns-then-next-eq62-clause-piece
unfolding mark_of
returns-then-next-eq62-clause-piece c = grind (arith, nat_tests)

pub returns-else-next-eq62-clause-piece : goal.returns-else-next-eq62-clause-piece
unfolding mark_of
returns-else-next-eq62-clause-piece c = grind (arith, nat_tests)

pub returns-in-43-clause-piece : goal.returns-in-43-clause-piece
unfolding mark_of
returns-in-43-clause-piece c = grind (arith, nat_tests)

pub returns-in-58-clause-piece : goal.returns-in-58-clause-piece
unfolding mark_of
returns-in-58-clause-piece c = grind (arith, nat_tests)

pub returns-in-46-clause-piece : goal.returns-in-46-clause-piece
unfolding mark_of
returns-in-46-clause-piece c = grind (arith, nat_tests)

pub returns-in-60-clause-piece : goal.returns-in-60-clause-piece
unfolding mark_of
returns-in-60-clause-piece c = grind (arith, nat_tests)

pub returns-in_default-clause-piece : goal.returns-in_default-clause-piece
unfolding mark_of
returns-in_default-clause-piece c = grind (arith, nat_tests)

pub returns-in_default-2-clause-piece : goal.returns-in_default-2-clause-piece
unfolding mark_of
returns-in_default-2-clause-piece c = grind (arith, nat_tests)
