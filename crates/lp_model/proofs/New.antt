-- New rows and columns are well formed.
use Rattle.std.proofs.Common.{◌≡◌, refl, sym, subst, ℕ, Bool, List, Option}
use Rattle.rational.specs.Rational.{ℚ, zero_ℚ, one_ℚ, ◌<ℚ◌}
use Rattle.rational.specs.Linear.{Term}
use Rattle.rational.proofs.Order.{positive_is, positive-one}
use Rattle.lp_model.specs.declared.parts.Row.{Row}
use Rattle.lp_model.specs.Program.{IsForm, IsWellFormedRow, IsWellFormedColumn}
use Rattle.lp_model.specs.Shown.{named_row, named_column, new_row, new_column}

pub one_positive : zero_ℚ <ℚ one_ℚ
one_positive = positive_is.1 positive-one

pub new_row_formed : (n : ℕ) (name : List ℕ) (terms : List Term) (lo up : Option ℚ) → IsForm n terms → IsWellFormedRow n (named_row name (new_row terms lo up))
new_row_formed n name terms lo up form = record {
  form = form;
  lower_weight = one_positive;
  upper_weight = one_positive;
  no_lower = λ e. (refl, refl);
  no_upper = λ e. (refl, refl);
}

-- so is a row that is one
pub as_new_row_formed : (n : ℕ) (name : List ℕ) (terms : List Term) (lo up : Option ℚ) (row : Row) → row ≡ new_row terms lo up → IsForm n terms → IsWellFormedRow n (named_row name row)
as_new_row_formed n name terms lo up row is form = subst (λ (r : Row). IsWellFormedRow n (named_row name r)) (sym is) (new_row_formed n name terms lo up form)

pub new_column_formed : (name : List ℕ) (lo up : Option ℚ) (whole : Bool) → IsWellFormedColumn (named_column name (new_column lo up whole))
new_column_formed name lo up whole = record {
  lower_weight = one_positive;
  upper_weight = one_positive;
  no_lower = λ e. (refl, refl);
  no_upper = λ e. (refl, refl);
  no_mark = λ e. refl;
}
