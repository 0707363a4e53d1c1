use Rattle.branch_oracle.proofs.Reference.{reference_answer}
use Rattle.branch_oracle.proofs.reference_answers.Goals as goal

pub returns : goal.returns
returns c = reference_answer
