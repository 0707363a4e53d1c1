-- The program that the text of a production plan stands for.
use Rattle.std.specs.Prelude.{ℕ, ◌+◌, ◌-◌, ◌==◌, if◌then◌else◌, false, List, [], ◌∷◌, ◌++◌, map, Some, None, pos}
use Rattle.std.specs.List.{range_with_len}
use Rattle.rational.specs.Rational.{ℚ, whole, zero_ℚ, one_ℚ, neg_ℚ}
use Rattle.rational.specs.Linear.{Term}
use Rattle.lp_model.specs.Program.{Program, NamedRow, NamedColumn}
use Rattle.lp_model.specs.Shown.{named_row, named_column, new_row, new_column}
use Rattle.model_maker.specs.PlanText.{demand, stock, made, balance}

-- a column, by its number, so often
abbrev pub times : ℚ → ℕ → Term
times factor column = record { column = column; factor = factor }

-- ---- rows: the stocks are the columns from number 0 on, and what is made are those from number n on
-- the stock from the period before, of which the first period has none
abbrev pub carried_terms : ℕ → List Term
carried_terms t = if t == 1 then [] else times one_ℚ (t - 2) ∷ []

-- the balance of a period: the stock from before, without what stays in stock and with what is made
abbrev pub balance_terms : ℕ → ℕ → List Term
balance_terms n t = carried_terms t ++ times (neg_ℚ one_ℚ) (t - 1) ∷ times one_ℚ (n + (t - 1)) ∷ []

-- it is equal to the demand
abbrev pub balance_row : ℕ → ℕ → NamedRow
balance_row n t = named_row (balance t) (new_row (balance_terms n t) (Some (whole (pos (demand n t)))) (Some (whole (pos (demand n t)))))

-- ---- columns
-- a stock, which is at least 0
abbrev pub stock_column : ℕ → NamedColumn
stock_column t = named_column (stock t) (new_column (Some zero_ℚ) None false)

-- what is made, from 0 to 10
abbrev pub made_column : ℕ → NamedColumn
made_column t = named_column (made t) (new_column (Some zero_ℚ) (Some (whole (pos 10))) false)

-- the program of n periods: the stocks are to be made least
unfoldable pub plan_program : ℕ → Program
plan_program n = record {
  rows = map (balance_row n) (range_with_len 1 n);
  columns = map stock_column (range_with_len 1 n) ++ map made_column (range_with_len 1 n);
  objective = map (λ t. times one_ℚ (t - 1)) (range_with_len 1 n);
  maximise = false;
  notes = [];
}
