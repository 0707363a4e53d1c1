use Rattle.std.proofs.Common.{refl}
use Rattle.lp_reader.specs.Faults.{statement_fault}
use Rattle.lp_reader.proofs.Holding.{hold_heading}
use Rattle.lp_reader.proofs.reader.take_statement.Goals as goal

pub returns-in-Heading : goal.returns-in-Heading
unfolding statement_fault
returns-in-Heading c = λ front holds. rw c.in-Heading.is (refl, hold_heading c.args.reader.now front c.in-Heading.field-0 holds)
