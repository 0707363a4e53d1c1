use Rattle.text_fields.proofs.Longest.{number, longest}
use Rattle.text_fields.proofs.Scans.{scan_at-start}
use Rattle.std.proofs.Common.{refl}
use Rattle.text_fields.proofs.laws.token_laws.Goals as goal

pub returns : goal.returns
returns c = record {
  number = number;
  longest = longest;
  whole = λ bytes. scan_at-start bytes 0 1 refl;
}
