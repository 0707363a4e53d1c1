use Rattle.frac128.proofs.Literals.{kept-value, kept-last, huge-Decides}
use Rattle.frac128.proofs.Written.{written_from, written_into}
use Rattle.frac128.proofs.literal.literal_laws.Goals as goal

pub returns : goal.returns
returns c = record {
  written = λ bs x. (written_from bs x, written_into bs x);
  kept_value = kept-value 0;
  kept_last = kept-last;
  huge = huge-Decides;
}
