use Rattle.text_fields.proofs.Words.{each_field}
use Rattle.text_fields.proofs.laws.field_law.Goals as goal

pub returns : goal.returns
returns c = each_field
