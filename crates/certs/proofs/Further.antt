-- Columns past the last one have no part in what the shares add up to.
use Rattle.std.proofs.Common.{◌≡◌, ◌≤◌, ◌<◌, refl, sym, ◌∙◌, ap, subst, ℕ, zero, suc, Bool, true, false, true≢false, cond, ◌&&◌, ◌==◌, not, List, [], ◌∷◌, length, get_or, Some, is_some, option_map, IsSome, arith, ne_eqb}
use Rattle.std.specs.Prelude.{All}
use Rattle.std.proofs.lemmas.Bool.{and_parts, cond-false}
use Rattle.std.proofs.lemmas.List.Elements.{All-head, All-tail, All-nil, All-cons, All-weaker}
use lib.Dec.{T, eqb→eq}
use Rattle.algebra.proofs.Ring.{x0, ◌:+◌, ◌:*◌, zero_of}
use Rattle.rational.specs.Rational.{ℚ, whole, zero_ℚ, one_ℚ, ◌+ℚ◌, ◌*ℚ◌}
use Rattle.rational.specs.Linear.{Term, factor_of}
use Rattle.rational.proofs.Field.{ring_ℚ}
use Rattle.lp_model.specs.declared.members.Member.TheVariants.{RowLo, RowUp, Lower, Upper, Whole}
use Rattle.lp_model.specs.Program.{Program, NamedRow, IsWellFormedRow, IsWellFormed, empty_row}
use Rattle.lp_model.specs.Members.{column_form}
use Rattle.lp_model.proofs.Sets.{lower_there, upper_there}
use Rattle.certs.specs.declared.evidence.Branch.{Branch}
use Rattle.certs.specs.declared.evidence.Source.{Source}
use Rattle.certs.specs.declared.evidence.Source.TheVariants.{Member as Of, Below, Above}
use Rattle.certs.specs.declared.evidence.Share.{Share}
use Rattle.certs.specs.Combination.{lesser, greater, least_upper, greatest_lower, source_form, source_number, multiple, IsThere, column_sum, FurtherColumnsLaw}

nothing_more : (c z : ℚ) → c ≡ zero_ℚ → z ≡ zero_ℚ → c +ℚ z ≡ zero_ℚ
nothing_more c z p q = ap (λ a. a +ℚ z) p ∙ ap (λ a. zero_ℚ +ℚ a) q ∙ ring_ℚ [] (zero_of :+ zero_of) zero_of tt

pub factor_past : (n : ℕ) (terms : List Term) (j : ℕ) → All (λ t. t.column < n) terms → n ≤ j → factor_of terms j ≡ zero_ℚ
factor_past n [] j h l = refl
factor_past n (t ∷ terms) j h l =
    let below : t.column < n = All-head (λ t. t.column < n) t terms h in
    nothing_more (cond (t.column == j) t.factor zero_ℚ) (factor_of terms j)
    (cond-false (t.column == j) t.factor zero_ℚ (ne_eqb t.column j (λ e. omega arith)))
    (factor_past n terms j (All-tail (λ t. t.column < n) t terms h) l)

row_known : (n : ℕ) (rows : List NamedRow) (i : ℕ) → All (IsWellFormedRow n) rows → All (λ t. t.column < n) (get_or rows i empty_row).terms
row_known n [] i h = All-nil (λ (t : Term). t.column < n)
row_known n (r ∷ rows) zero h = (All-head (IsWellFormedRow n) r rows h).form.known
row_known n (r ∷ rows) (suc i) h = row_known n rows i (All-tail (IsWellFormedRow n) r rows h)

column_from : (c j n : ℕ) (u : Bool) → ((c == j) && u) ≡ true → c < n → j < n
column_from c j n u e l = subst (λ i. i < n) (eqb→eq c j (subst T (sym (and_parts (c == j) u e).0) tt)) l

least_there : (n : ℕ) (path : List Branch) (j : ℕ) → All (λ b. b.column < n) path → is_some (option_map whole (least_upper path j)) ≡ true → j < n
least_there n [] j h e = absurd (true≢false (sym e))
least_there n (b ∷ path) j h e = go (least_there n path j (All-tail (λ b. b.column < n) b path h)) ((b.column == j) && b.upper) refl e
  where
    go : (is_some (option_map whole (least_upper path j)) ≡ true → j < n) → (t : Bool) → ((b.column == j) && b.upper) ≡ t
        → is_some (option_map whole (cond t (Some (lesser b.at (least_upper path j))) (least_upper path j))) ≡ true → j < n
    go rest true p e = column_from b.column j n b.upper p (All-head (λ b. b.column < n) b path h)
    go rest false p e = rest e

greatest_there : (n : ℕ) (path : List Branch) (j : ℕ) → All (λ b. b.column < n) path → is_some (option_map whole (greatest_lower path j)) ≡ true → j < n
greatest_there n [] j h e = absurd (true≢false (sym e))
greatest_there n (b ∷ path) j h e = go (greatest_there n path j (All-tail (λ b. b.column < n) b path h)) ((b.column == j) && not b.upper) refl e
  where
    go : (is_some (option_map whole (greatest_lower path j)) ≡ true → j < n) → (t : Bool) → ((b.column == j) && not b.upper) ≡ t
        → is_some (option_map whole (cond t (Some (greater b.at (greatest_lower path j))) (greatest_lower path j))) ≡ true → j < n
    go rest true p e = column_from b.column j n (not b.upper) p (All-head (λ b. b.column < n) b path h)
    go rest false p e = rest e

column_known : (n j : ℕ) → j < n → All (λ t. t.column < n) (column_form j)
column_known n j l = All-cons (λ t. t.column < n) (record { column = j; factor = one_ℚ }) [] l (All-nil (λ (t : Term). t.column < n))

-- the form of a source that is there speaks of known columns
pub source_known : (model : Program) (path : List Branch) → IsWellFormed model → All (λ b. b.column < length model.columns) path
    → (s : Source) → IsSome (source_number model path s) → All (λ t. t.column < length model.columns) (source_form model s)
source_known model path f h (Of (RowLo i)) e = row_known (length model.columns) model.rows i f.rows
source_known model path f h (Of (RowUp i)) e = row_known (length model.columns) model.rows i f.rows
source_known model path f h (Of (Lower j)) e = column_known (length model.columns) j (lower_there model.columns j e)
source_known model path f h (Of (Upper j)) e = column_known (length model.columns) j (upper_there model.columns j e)
source_known model path f h (Of (Whole j)) e = absurd (true≢false (sym e))
source_known model path f h (Below j) e = column_known (length model.columns) j (least_there (length model.columns) path j h e)
source_known model path f h (Above j) e = column_known (length model.columns) j (greatest_there (length model.columns) path j h e)

pub shares_past : (n : ℕ) (model : Program) (shares : List Share) (j : ℕ) → All (λ s. All (λ t. t.column < n) (source_form model s.source)) shares → n ≤ j → column_sum model shares j ≡ zero_ℚ
shares_past n model [] j h l = refl
shares_past n model (s ∷ shares) j h l =
    nothing_more (multiple s *ℚ factor_of (source_form model s.source) j) (column_sum model shares j)
    (ap (λ z. multiple s *ℚ z) (factor_past n (source_form model s.source) j (All-head (λ s. All (λ t. t.column < n) (source_form model s.source)) s shares h) l)
    ∙ ring_ℚ (multiple s ∷ []) (x0 :* zero_of) zero_of tt)
    (shares_past n model shares j (All-tail (λ s. All (λ t. t.column < n) (source_form model s.source)) s shares h) l)

pub further_columns_law : FurtherColumnsLaw
further_columns_law model set path shares f h t j l =
    shares_past (length model.columns) model shares j
    (All-weaker (IsThere model set path) (λ s. All (λ t. t.column < length model.columns) (source_form model s.source)) (λ s e. source_known model path f h s.source e.number) shares t) l
