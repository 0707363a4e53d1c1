-- What a form's loop reads.
use Rattle.std.proofs.Common.{◌≡◌, ◌<◌, ℕ, List, length, get_or, sym, subst, refl}
use Rattle.std.specs.Prelude.{All}
use Rattle.std.proofs.lemmas.List.{get_or_read_under}
use Rattle.std.proofs.lemmas.List.Elements.{All-get_or}
use Rattle.rational.specs.Rational.{ℚ, zero_ℚ}
use Rattle.rational.specs.Linear.{Term}
use Rattle.lp_model.specs.Satisfaction.{values_at}

-- the factor of a term, and the value of its column
abbrev pub factor : Term → ℚ
factor t = t.factor

abbrev pub at : List ℚ → Term → ℚ
at ys t = values_at ys t.column

-- what the index reads
pub read : (ys : List ℚ) (xs : List Term) (i : ℕ) (x : Term) (j : ℕ) (y : ℚ) → All (λ t. t.column < length ys) xs → i < length xs → x ≡ get_or xs i x → j ≡ x.column → y ≡ get_or ys j y → y ≡ at ys x
read ys xs i x j y all h is e f =
    get_or_read_under ys x.column (length ys) y zero_ℚ (subst (λ (n : ℕ). y ≡ get_or ys n y) e f) (subst (λ (z : Term). z.column < length ys) (sym is) (All-get_or (λ (z : Term). z.column < length ys) xs i x h all)) refl
