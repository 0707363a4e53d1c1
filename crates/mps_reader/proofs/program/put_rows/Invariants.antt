use Rattle.std.proofs.Common.{◌≡◌, length}
use Rattle.mps_reader.specs.Gathered.{terms_shown}
use Rattle.mps_reader.specs.Built.{AreTermsFrom, rows_to}
use Rattle.mps_reader.proofs.program.put_rows.Given as goal

abbrev pub invariant-loop-index : goal.invariant-loop-index
invariant-loop-index l = record {
  before : l.model ≡ rows_to l.reader l.index;
  len : length l.terms.items ≡ length l.reader.rows;
  terms : AreTermsFrom l.reader l.index (terms_shown l.terms.items);
}
