-- Programs whose names can stand in a report.
use Rattle.std.specs.Prelude.{◌≡◌, true, All}
use Rattle.lp_model.specs.Program.{Program}
use Rattle.report_text.specs.Form.{is_word}

-- the name of each row and of each column is a word
pub record HasWords (model : Program) : Type 0 where
  pub rows : All (λ row. is_word row.name ≡ true) model.rows
  pub columns : All (λ column. is_word column.name ≡ true) model.columns
