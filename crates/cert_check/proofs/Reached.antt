-- Points with few values: what reaches a member, and how the others stand.
use Rattle.std.proofs.Common.{◌≡◌, ◌≢◌, ◌<◌, ◌≤◌, ◌==◌, ℕ, All, Option, None, Some, zero, suc, ◌+◌, cond, filter, replicate, List, [], ◌∷◌, ◌++◌, length, get_or, set, Contains, subst, arith, ◌⊎◌, inl, inr, ◌||◌, ◌∙◌, refl, sym, ap, true, false, true≢false, not, Bool}
use Rattle.std.specs.Global.{Vec}
use Rattle.std.proofs.lemmas.Bool.{cases_eq, or_left, or_right}
use Rattle.std.proofs.lemmas.List.{get_or-map, get_or-set_same, get_or-set_other, length-map, map-set}
use Rattle.std.proofs.lemmas.List.Elements.{All-cons, All-contains, All-contains_itself, All-filter, All-head, All-nil, All-tail, All-weaker, Contains-append_left, Contains-push, Contains-push_cases, filter_passes}
use Rattle.rational.specs.Rational.{ℚ, zero_ℚ, eq_ℚ, ◌+ℚ◌, ◌*ℚ◌}
use Rattle.rational.specs.Linear.{Term, Assignment, form_value}
use Rattle.rational.proofs.Compare.{eq-Decides}
use Rattle.frac128.specs.declared.Op.TheVariants.{Plus, Times}
use Rattle.frac128.specs.Limit.{limit}
use Rattle.frac128.specs.Width.{operation}
use Rattle.frac128.specs.Calculation.{first_wide, product_steps}
use Rattle.lp_model.specs.Program.{Program, row_at, column_at}
use Rattle.lp_model.specs.Satisfaction.{values_at}
use Rattle.lp_model.specs.Evaluation.{side_operations}
use Rattle.lp_model.specs.declared.members.Member.{Member}
use Rattle.lp_model.specs.declared.members.Member.TheVariants.{RowLo, RowUp, Lower, Upper, Whole}
use Rattle.certs.specs.declared.evidence.Checked.TheVariants.{Yes, No}
use Rattle.certs.specs.Checks.{IsSetOf, outcome, unless_wide, point_steps, at_least_test, at_most_test}
use Rattle.certs.specs.Packed.{HasNonzeros}
use Rattle.certs.proofs.Walk.{member_decides}
use Rattle.cert_check.specs.declared.sparse.Sparse.{Sparse}
use Rattle.lp_model.specs.Members.{form, has, is_same}
use Rattle.lp_model.specs.MemberSets.{SetValue, IsMemberFor, IsPossibleIn, IsWithin, possible_in, set_with, set_without}
use Rattle.cert_check.specs.Sparse.{HasFailing, HasReached, IsListed, IsSparseFor, Lacks, ListsRows, Passes, Reaches, listed_rows, nonzero_count}
use Rattle.lp_model.proofs.Sets.{contains_of_has, has_of_contains, same_members, same_self}
use Rattle.lp_model.proofs.Marked.{has_filter, possible_of}

pub not_true : (b : Bool) → not b ≡ true → b ≡ false
not_true true e = sym e
not_true false e = refl

pub zero_or_not : (v : ℚ) → (v ≡ zero_ℚ) ⊎ (v ≢ zero_ℚ)
zero_or_not v = by (eq_ℚ v zero_ℚ) refl
  where
    by : (b : Bool) → eq_ℚ v zero_ℚ ≡ b → (v ≡ zero_ℚ) ⊎ (v ≢ zero_ℚ)
    by true h = inl ((eq-Decides v zero_ℚ).0 h)
    by false h = inr (λ e. true≢false (sym ((eq-Decides v zero_ℚ).1 e) ∙ h))

-- ---- a set with a member more
has_with : (set : SetValue) (n m : Member) → IsPossibleIn set m → has (set_with set n).members m ≡ (is_same m n || has set.members m)
has_with set n m possible = has_filter (λ k. is_same k n || has set.members k) (possible_in set) m (possible_of set.rows set.columns m possible)

-- it keeps what it has
pub with_keeps : (set : SetValue) (n m : Member) → IsPossibleIn set m → has set.members m ≡ true → has (set_with set n).members m ≡ true
with_keeps set n m possible h = has_with set n m possible ∙ or_right (is_same m n) (has set.members m) h

-- and has the member
pub with_has : (set : SetValue) (m : Member) → IsPossibleIn set m → has (set_with set m).members m ≡ true
with_has set m possible = has_with set m m possible ∙ or_left (is_same m m) (has set.members m) (same_self m)

-- ---- a set with a member less
-- what it does not have is that member, or was not there
pub gone : (set : SetValue) (n m : Member) → has (set_without set n).members m ≡ false → (m ≡ n) ⊎ (has set.members m ≡ false)
gone set n m e = by (has set.members m) refl (is_same m n) refl
  where
    by : (b : Bool) → has set.members m ≡ b → (t : Bool) → is_same m n ≡ t → (m ≡ n) ⊎ (has set.members m ≡ false)
    by false h t s = inr h
    by true h true s = inl (same_members m n s)
    by true h false s = absurd (true≢false (sym (has_filter (λ k. not (is_same k n)) set.members m (contains_of_has set.members m h) ∙ ap not s) ∙ e))

-- ---- the rows of columns
-- those of one column
pub rows_at : (lists : List (Vec ℕ)) (j : ℕ) (v : Vec ℕ) → j < length lists → v ≡ get_or lists j v → v.items ≡ get_or (listed_rows lists) j []
rows_at lists j v l is = ap (λ (w : Vec ℕ). w.items) is ∙ sym (get_or-map (λ (w : Vec ℕ). w.items) lists j v [] l)

-- a row more for one column
module _ (lists : List (Vec ℕ)) (at : ℕ) (old new : Vec ℕ) (row : ℕ) (within : at < length lists) (is : old ≡ get_or lists at old) (grows : new.items ≡ old.items ++ row ∷ []) where
  row_put : get_or (listed_rows (set lists at new)) at [] ≡ get_or (listed_rows lists) at [] ++ row ∷ []
  row_put =
      let long = length-map lists (λ (w : Vec ℕ). w.items) in
      ap (λ (l : List (List ℕ)). get_or l at []) (map-set (λ (w : Vec ℕ). w.items) lists at new)
      ∙ get_or-set_same (listed_rows lists) at new.items [] (omega arith)
      ∙ grows ∙ ap (λ (xs : List ℕ). xs ++ row ∷ []) (rows_at lists at old within is)

  rows_same : (j : ℕ) → j ≢ at → get_or (listed_rows (set lists at new)) j [] ≡ get_or (listed_rows lists) j []
  rows_same j other =
      ap (λ (l : List (List ℕ)). get_or l j []) (map-set (λ (w : Vec ℕ). w.items) lists at new)
      ∙ get_or-set_other (listed_rows lists) at j new.items [] other

  pub put_has : IsListed (set lists at new) at row
  put_has = subst (λ (xs : List ℕ). Contains xs row) (sym row_put) (Contains-push (get_or (listed_rows lists) at []) row)

  pub put_keeps : (j i : ℕ) → IsListed lists j i → IsListed (set lists at new) j i
  put_keeps j i c = elim (cases_eq j at) [
    | inl e ↦
        let here = subst (λ k. IsListed lists k i) e c in
        subst (λ k. IsListed (set lists at new) k i) (sym e) (subst (λ (xs : List ℕ). Contains xs i) (sym row_put) (Contains-append_left (get_or (listed_rows lists) at []) (row ∷ []) i here))
    | inr other ↦ subst (λ (xs : List ℕ). Contains xs i) (sym (rows_same j other)) c
  ]

  pub put_known : (j i : ℕ) → IsListed (set lists at new) j i → (i ≡ row) ⊎ IsListed lists j i
  put_known j i c = elim (cases_eq j at) [
    | inl e ↦
        let here = subst (λ (xs : List ℕ). Contains xs i) row_put (subst (λ k. IsListed (set lists at new) k i) e c) in
        elim (Contains-push_cases (get_or (listed_rows lists) at []) row i here) [
          | inl before ↦ inr (subst (λ k. IsListed lists k i) (sym e) before)
          | inr last ↦ inl (sym last)
        ]
    | inr other ↦ inr (subst (λ (xs : List ℕ). Contains xs i) (rows_same j other) c)
  ]

-- ---- values that are not 0
-- one more value, whatever its test says
count_head : (b : Bool) (v : ℚ) (xs : List ℚ) → cond b 1 0 + length xs ≡ length (cond b (v ∷ xs) xs)
count_head true v xs = omega arith
count_head false v xs = omega arith

-- a 0 before the values counts for nothing
count_zero : (values : List ℚ) → nonzero_count (zero_ℚ ∷ values) ≡ nonzero_count values
count_zero values = ap (λ b. length (cond (not b) (zero_ℚ ∷ filter (λ w. not (eq_ℚ w zero_ℚ)) values) (filter (λ w. not (eq_ℚ w zero_ℚ)) values))) ((eq-Decides zero_ℚ zero_ℚ).1 refl)

-- there are none among zeros
pub zeros_count : (n : ℕ) → nonzero_count (replicate n zero_ℚ) ≡ 0
zeros_count zero = refl
zeros_count (suc n) = count_zero (replicate n zero_ℚ) ∙ zeros_count n

-- a value that is set to 0 counts no more
pub cleared_count : (values : List ℚ) (j : ℕ) → j < length values → cond (not (eq_ℚ (get_or values j zero_ℚ) zero_ℚ)) 1 0 + nonzero_count (set values j zero_ℚ) ≡ nonzero_count values
cleared_count [] j l = absurd (omega arith)
cleared_count (v ∷ values) zero l =
    let none = count_zero values in
    let head = count_head (not (eq_ℚ v zero_ℚ)) v (filter (λ w. not (eq_ℚ w zero_ℚ)) values) in
    omega arith
cleared_count (v ∷ values) (suc j) l =
    let rest = cleared_count values j (let h : j < length values = omega arith in h) in
    let old = count_head (not (eq_ℚ v zero_ℚ)) v (filter (λ w. not (eq_ℚ w zero_ℚ)) values) in
    let new = count_head (not (eq_ℚ v zero_ℚ)) v (filter (λ w. not (eq_ℚ w zero_ℚ)) (set values j zero_ℚ)) in
    omega arith

-- ---- members that no column reaches
-- what is calculated for a member, and what is found, hang on the columns of its form alone
module _ (x y : Assignment) where
  pub same_value : (terms : List Term) → All (λ t. x t.column ≡ y t.column) terms → form_value terms x ≡ form_value terms y
  same_value [] h = refl
  same_value (t ∷ terms) h =
      let here = All-head (λ (s : Term). x s.column ≡ y s.column) t terms h in
      let rest = same_value terms (All-tail (λ (s : Term). x s.column ≡ y s.column) t terms h) in
      λ k. t.factor *ℚ here k +ℚ rest k

  same_steps : (terms : List Term) (p q : ℚ) → p ≡ q → All (λ t. x t.column ≡ y t.column) terms
      → product_steps (λ t. t.factor) (λ t. x t.column) p terms ≡ product_steps (λ t. t.factor) (λ t. y t.column) q terms
  unfolding product_steps
  same_steps [] p q e h = refl
  same_steps (t ∷ terms) p q e h =
      let here = All-head (λ (s : Term). x s.column ≡ y s.column) t terms h in
      let rest =
      same_steps terms (p +ℚ t.factor *ℚ x t.column) (q +ℚ t.factor *ℚ y t.column) (λ k. e k +ℚ t.factor *ℚ here k)
      (All-tail (λ (s : Term). x s.column ≡ y s.column) t terms h) in
      λ k. operation Times t.factor (here k) ∷ operation Plus (e k) (t.factor *ℚ here k) ∷ rest k

  pub same_side : (o : Option ℚ) (terms : List Term) → All (λ t. x t.column ≡ y t.column) terms → side_operations o terms x ≡ side_operations o terms y
  same_side None terms h = refl
  same_side (Some b) terms h = same_steps terms zero_ℚ zero_ℚ refl h

  same_outcome : (model : Program) (m : Member) → All (λ t. x t.column ≡ y t.column) (form model m) → outcome (point_steps model (m ∷ []) x) ≡ outcome (point_steps model (m ∷ []) y)
  same_outcome model (RowLo i) h =
      let row = row_at model i in
      λ k. unless_wide (first_wide limit (same_side row.lower row.terms h k)) (cond (at_least_test row.lower (same_value row.terms h k)) Yes No)
  same_outcome model (RowUp i) h =
      let row = row_at model i in
      λ k. unless_wide (first_wide limit (same_side row.upper row.terms h k)) (cond (at_most_test row.upper (same_value row.terms h k)) Yes No)
  same_outcome model (Lower j) h = λ k. unless_wide (first_wide limit []) (cond (at_least_test (column_at model j).lower (All-head (λ (s : Term). x s.column ≡ y s.column) _ [] h k)) Yes No)
  same_outcome model (Upper j) h = λ k. unless_wide (first_wide limit []) (cond (at_most_test (column_at model j).upper (All-head (λ (s : Term). x s.column ≡ y s.column) _ [] h k)) Yes No)
  same_outcome model (Whole j) h = λ k. unless_wide (first_wide limit []) (cond (cond (column_at model j).whole ((All-head (λ (s : Term). x s.column ≡ y s.column) _ [] h k).den == 1) true) Yes No)

-- each column of a member's form reaches it
reaches : (model : Program) (lists : List (Vec ℕ)) → ListsRows model lists → (m : Member) → IsMemberFor (length model.rows) (length model.columns) m
    → All (λ t. Reaches t.column (get_or (listed_rows lists) t.column []) m) (form model m)
reaches model lists rows (RowLo i) l = rows.listed i l
reaches model lists rows (RowUp i) l = rows.listed i l
reaches model lists rows (Lower j) l = All-cons (λ (t : Term). t.column ≡ j) _ [] refl (All-nil (λ (t : Term). t.column ≡ j))
reaches model lists rows (Upper j) l = All-cons (λ (t : Term). t.column ≡ j) _ [] refl (All-nil (λ (t : Term). t.column ≡ j))
reaches model lists rows (Whole j) l = All-cons (λ (t : Term). t.column ≡ j) _ [] refl (All-nil (λ (t : Term). t.column ≡ j))

-- each of some zeros, and what is past them
zero_at : (n j : ℕ) → get_or (replicate n zero_ℚ) j zero_ℚ ≡ zero_ℚ
zero_at zero j = refl
zero_at (suc n) zero = refl
zero_at (suc n) (suc j) = zero_at n j

-- a member that no column with a value reaches has zeros alone
pub untouched : (model : Program) (lists : List (Vec ℕ)) (set part : List Member) (columns : List ℕ) (values : List ℚ) (m : Member)
    → ListsRows model lists → HasReached lists set columns part → HasNonzeros values columns → IsMemberFor (length model.rows) (length model.columns) m → has set m ≡ true → has part m ≡ false
    → All (λ t. values_at values t.column ≡ zero_ℚ) (form model m)
untouched model lists set part columns values m rows reached nonzeros l h none =
    All-weaker (λ (t : Term). Reaches t.column (get_or (listed_rows lists) t.column []) m) (λ (t : Term). values_at values t.column ≡ zero_ℚ)
    (λ t r. elim (zero_or_not (values_at values t.column)) [
      | inl e ↦ e
      | inr ne ↦ absurd (true≢false (sym (reached m t.column h (nonzeros t.column ne) r) ∙ none))
    ]) (form model m) (reaches model lists rows m l)

left_true : (a b : Bool) → (a || b) ≡ true → b ≡ false → a ≡ true
left_true true b e none = refl
left_true false b e none = sym none ∙ e

-- a part of a set, and the member that is taken out of the set, where one is
abbrev pub joined : SetValue → Option Member → SetValue
joined part None = part
joined part (Some n) = set_with part n

-- what is in neither of a set and its part but in these is that member, which the set lacks
is_reached : (set part : SetValue) (without : Option Member) (m : Member) → Lacks set.members without → IsPossibleIn part m → has part.members m ≡ false → has (joined part without).members m ≡ true → has set.members m ≡ false
is_reached set part None m lacks possible e there = absurd (true≢false (sym there ∙ e))
is_reached set part (Some n) m lacks possible e there =
    ap (has set.members) (same_members m n (left_true (is_same m n) (has part.members m) (sym (has_with part n m possible) ∙ there) e)) ∙ lacks

-- What is left of a set passes where those that the columns reach do, and all that fail at zeros are reached, or are the one that is taken out.
module _ (model : Program) (lists : List (Vec ℕ)) (left part failing : SetValue) (member : Option Member) (columns : List ℕ) (values : List ℚ)
    (rows : ListsRows model lists) (reached : HasReached lists left.members columns part.members) (nonzeros : HasNonzeros values columns) (fails : HasFailing model left.members failing.members)
    (same : IsSetOf model left) (same_rows : part.rows ≡ left.rows) (same_columns : part.columns ≡ left.columns) (possible : All (IsPossibleIn left) left.members)
    (lacks : Lacks left.members member) (hold : All (Passes model (values_at values)) part.members) (within : IsWithin failing (joined part member)) where
  one_passes : (m : Member) → Contains left.members m → Passes model (values_at values) m
  one_passes m at = by (has part.members m) refl (has failing.members m) refl
    where
      h : has left.members m ≡ true
      h = has_of_contains left.members m at

      mine : IsPossibleIn left m
      mine = All-contains (IsPossibleIn left) left.members m possible at

      in_model : IsMemberFor (length model.rows) (length model.columns) m
      in_model = subst (λ n. IsMemberFor n (length model.columns) m) same.rows (subst (λ n. IsMemberFor left.rows n m) same.columns mine)

      in_part : IsPossibleIn part m
      in_part = subst (λ n. IsMemberFor n part.columns m) (sym same_rows) (subst (λ n. IsMemberFor left.rows n m) (sym same_columns) mine)

      by : (b : Bool) → has part.members m ≡ b → (f : Bool) → has failing.members m ≡ f → Passes model (values_at values) m
      by true e f g = All-contains (Passes model (values_at values)) part.members m hold (contains_of_has part.members m e)
      by false e false g =
          let zeros = replicate (length model.columns) zero_ℚ in
          let apart = untouched model lists left.members part.members columns values m rows reached nonzeros in_model h e in
          same_outcome (values_at values) (values_at zeros) model m
          (All-weaker (λ (t : Term). values_at values t.column ≡ zero_ℚ) (λ (t : Term). values_at values t.column ≡ values_at zeros t.column) (λ t z. z ∙ sym (zero_at (length model.columns) t.column)) (form model m) apart)
          ∙ fails m h g
      by false e true g =
          let there = has_of_contains (joined part member).members m (All-contains (Contains (joined part member).members) failing.members m within (contains_of_has failing.members m g)) in
          absurd (true≢false (sym h ∙ is_reached left part member m lacks in_part e there))

  pub left_passes : All (Passes model (values_at values)) left.members
  left_passes = All-weaker (Contains left.members) (Passes model (values_at values)) one_passes left.members (All-contains_itself left.members)

-- ---- the check of a point
-- a yes is said where each member passes
pub all_yes : (model : Program) (x : Assignment) (set : List Member) → All (Passes model x) set → outcome (point_steps model set x) ≡ Yes
all_yes model x [] h = refl
all_yes model x (m ∷ set) h = member_decides model m set x Yes (sym (All-head (Passes model x) m set h)) ∙ all_yes model x set (All-tail (Passes model x) m set h)

-- what is kept for a set serves for it without a member
pub sparse_without : (model : Program) (set : SetValue) (m : Member) (kept : Option Sparse) → IsSparseFor model set.members kept → IsSparseFor model (set_without set m).members kept
sparse_without model set m None h = tt
sparse_without model set m (Some s) h =
    let part = All-filter (λ n. not (is_same n m)) (Contains set.members) set.members (All-contains_itself set.members) in
    record {
      rows = h.rows;
      same = h.same;
      failing = λ n there. h.failing n (has_of_contains set.members n (All-contains (Contains set.members) (set_without set m).members n part (contains_of_has (set_without set m).members n there)));
    }

-- which does not have it
pub without_it : (set : SetValue) (m : Member) → has (set_without set m).members m ≡ false
without_it set m = by (has (set_without set m).members m) refl
  where
    by : (b : Bool) → has (set_without set m).members m ≡ b → has (set_without set m).members m ≡ false
    by false e = e
    by true e =
        let others = All-contains (λ n. not (is_same n m) ≡ true) (set_without set m).members m (filter_passes (λ n. not (is_same n m)) set.members) (contains_of_has (set_without set m).members m e) in
        absurd (true≢false (sym (same_self m) ∙ not_true (is_same m m) others))

-- no more values are not 0 than there are
pub few_nonzeros : (values : List ℚ) → nonzero_count values ≤ length values
few_nonzeros [] = omega arith
few_nonzeros (v ∷ values) = by (eq_ℚ v zero_ℚ) (few_nonzeros values)
  where
    by : (b : Bool) → nonzero_count values ≤ length values → length (cond (not b) (v ∷ filter (λ w. not (eq_ℚ w zero_ℚ)) values) (filter (λ w. not (eq_ℚ w zero_ℚ)) values)) ≤ suc (length values)
    by true l = omega arith
    by false l = omega arith
