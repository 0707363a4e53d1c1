-- A combination of the plain system of a set on a path is one of the set on the path.
use Rattle.std.proofs.Common.{◌≡◌, ◌+◌, ◌-◌, ◌<◌, ◌≤◌, refl, sym, ◌∙◌, ap, subst, ℕ, zero, suc, Bool, true, false, true≢false, cond, ◌==◌, List, [], ◌∷◌, ◌++◌, map, length, length-append, get_or, filter, None, IsSome, ltb, arith, inl, inr, eq-eqb, ne_eqb, lt-ltb}
use Rattle.std.specs.Prelude.{All, flat_map}
use Rattle.std.proofs.lemmas.Bool.{cases_eq, cases_lt, cond_both, cond-true, cond-false, le-ltb}
use Rattle.std.proofs.lemmas.List.{get_or-map, length-map}
use Rattle.std.proofs.lemmas.List.Concat.{flat_map-append}
use Rattle.std.proofs.lemmas.List.Elements.{All-head, All-tail, All-nil, All-cons, All-append, All-filter, All-map, All-weaker}
use Rattle.algebra.proofs.Ring.{x0, x1, ◌:+◌, ◌:*◌, zero_of, unit_of}
use Rattle.rational.specs.Rational.{ℚ, ◌+ℚ◌, ◌*ℚ◌, zero_ℚ, one_ℚ, ◌<ℚ◌}
use Rattle.rational.specs.Sum.{sum_over, sum_below}
use Rattle.rational.specs.Linear.{factor_of}
use Rattle.rational.proofs.Field.{ring_ℚ}
use Rattle.rational.proofs.Sums.{nothing_twice, sum_over-zero, sum_over-add, sum_over-append, sum_over-ext_on, sum_below-zero, sum_below-ext, sum_below-one}
use Rattle.lp_model.specs.declared.members.Member.{Member}
use Rattle.lp_model.specs.declared.members.Member.TheVariants.{Lower, Upper}
use Rattle.lp_model.specs.declared.members.Side.{Side}
use Rattle.lp_model.specs.declared.members.Side.TheVariants.{Lo, Up}
use Rattle.lp_model.specs.Program.{Program, IsWellFormed}
use Rattle.lp_model.specs.Members.{column_form, has, number}
use Rattle.lp_model.proofs.Sets.{contains_of_has}
use Rattle.certs.specs.declared.evidence.Branch.{Branch}
use Rattle.certs.specs.declared.evidence.Source.{Source}
use Rattle.certs.specs.declared.evidence.Source.TheVariants.{Member as Of, Below, Above}
use Rattle.certs.specs.declared.evidence.Share.{Share}
use Rattle.certs.specs.Combination.{number_or_zero, signed, multiple, source_form, source_side, source_number, IsFrom, IsThere, IsCombination, column_sum, right_side}
use Rattle.certs.specs.System.{LinearSystem, VariableShare, IsVariableCombination, empty_system_row, no_limits, limit_on, variable_form, variable_limits}
use Rattle.certs.specs.Ended.{numbers_from}
use Rattle.certs.specs.Plain.{number_in, is_raised, is_lowered, limit_source, limit_number, limit_of, column_limits, rows_in, plain_row, plain_system}
use Rattle.certs.specs.Named.{bound_of, row_side_of, member_of, named, stands_for, translated, is_member, is_below, is_above, on_column, arranged, program_shares, TranslationLaw}
use Rattle.certs.proofs.Further.{further_columns_law}

-- ---- numbers in order
pub length_numbers : (a n : ℕ) → length (numbers_from a n) ≡ n
length_numbers a zero = refl
length_numbers a (suc n) = length-append (numbers_from a n) ((a + n) ∷ []) ∙ ap (λ z. z + 1) (length_numbers a n) ∙ (let e : n + 1 ≡ suc n = omega arith in e)

at_front : {A : Type 0} (xs ys : List A) (i : ℕ) (d : A) → i < length xs → get_or (xs ++ ys) i d ≡ get_or xs i d
at_front [] ys i d l = absurd (omega arith)
at_front (x ∷ xs) ys zero d l = refl
at_front (x ∷ xs) ys (suc i) d l = at_front xs ys i d (let g : i < length xs = omega arith in g)

at_end : {A : Type 0} (xs : List A) (a : A) (n : ℕ) (d : A) → length xs ≡ n → get_or (xs ++ a ∷ []) n d ≡ a
at_end [] a zero d e = refl
at_end [] a (suc n) d e = absurd (omega arith)
at_end (x ∷ xs) a zero d e = absurd (omega arith)
at_end (x ∷ xs) a (suc n) d e = at_end xs a n d (let g : length xs ≡ n = omega arith in g)

pub number_at : (a n i d : ℕ) → i < n → get_or (numbers_from a n) i d ≡ a + i
number_at a zero i d l = absurd (omega arith)
number_at a (suc n) i d l =
    elim (cases_lt i n) [
      | inl h ↦ at_front (numbers_from a n) ((a + n) ∷ []) i d (subst (λ z. i < z) (sym (length_numbers a n)) h) ∙ number_at a n i d h
      | inr h ↦
          (let e : n ≡ i = omega arith in
          subst (λ k. get_or (numbers_from a n ++ (a + n) ∷ []) k d ≡ a + k) e (at_end (numbers_from a n) (a + n) n d (length_numbers a n)))
    ]

pub mapped_at : {A : Type 0} (f : ℕ → A) (n i : ℕ) (d : A) → i < n → get_or (map f (numbers_from 0 n)) i d ≡ f i
mapped_at f n i d l =
    get_or-map f (numbers_from 0 n) i 0 d (subst (λ z. i < z) (sym (length_numbers 0 n)) l)
    ∙ ap f (number_at 0 n i 0 l ∙ (let e : 0 + i ≡ i = omega arith in e))

pub length_mapped : {A : Type 0} (f : ℕ → A) (n : ℕ) → length (map f (numbers_from 0 n)) ≡ n
length_mapped f n = length-map (numbers_from 0 n) f ∙ length_numbers 0 n

-- ---- sums
sum_over-map : {A B : Type 0} (f : B → ℚ) (g : A → B) (xs : List A) → sum_over f (map g xs) ≡ sum_over (λ a. f (g a)) xs
sum_over-map f g [] = refl
sum_over-map f g (a ∷ xs) = ap (λ z. f (g a) +ℚ z) (sum_over-map f g xs)

-- what passes a test counts, and the rest does not
sum_over-filter : {A : Type 0} (f : A → ℚ) (test : A → Bool) (xs : List A) → sum_over f (filter test xs) ≡ sum_over (λ a. cond (test a) (f a) zero_ℚ) xs
sum_over-filter f test [] = refl
sum_over-filter f test (a ∷ xs) = by (sum_over-filter f test xs) (test a)
  where
    by : sum_over f (filter test xs) ≡ sum_over (λ a. cond (test a) (f a) zero_ℚ) xs
        → (b : Bool) → sum_over f (cond b (a ∷ filter test xs) (filter test xs)) ≡ cond b (f a) zero_ℚ +ℚ sum_over (λ a. cond (test a) (f a) zero_ℚ) xs
    by rest true = ap (λ z. f a +ℚ z) rest
    by rest false = rest ∙ ring_ℚ (sum_over (λ a. cond (test a) (f a) zero_ℚ) xs ∷ []) x0 (zero_of :+ x0) tt

-- ---- the shares, arranged
-- a source that has a place in the arrangement
abbrev IsPlaced : ℕ → Source → Type 0
IsPlaced n (Of m) = Unit {0}
IsPlaced n (Below j) = j < n
IsPlaced n (Above j) = j < n

-- how much a source counts among the branches of a column
abbrev on_branches : Source → ℚ → ℕ → ℚ
on_branches q c j = cond (is_below j q) c zero_ℚ +ℚ cond (is_above j q) c zero_ℚ

column_gathered : (f : Share → ℚ) (list : List Share) (j : ℕ) → sum_over f (on_column list j) ≡ sum_over (λ s. on_branches s.source (f s) j) list
column_gathered f list j =
    sum_over-append f (filter (λ s. is_below j s.source) list) (filter (λ s. is_above j s.source) list)
    ∙ ap (λ z. z +ℚ sum_over f (filter (λ s. is_above j s.source) list)) (sum_over-filter f (λ s. is_below j s.source) list)
    ∙ ap (λ z. sum_over (λ s. cond (is_below j s.source) (f s) zero_ℚ) list +ℚ z) (sum_over-filter f (λ s. is_above j s.source) list)
    ∙ sym (sum_over-add (λ s. cond (is_below j s.source) (f s) zero_ℚ) (λ s. cond (is_above j s.source) (f s) zero_ℚ) list)

branches_gathered : (f : Share → ℚ) (list : List Share) (n : ℕ) → sum_over f (flat_map (on_column list) (numbers_from 0 n)) ≡ sum_over (λ s. sum_below n (on_branches s.source (f s))) list
branches_gathered f list zero = sym (sum_over-zero list)
branches_gathered f list (suc n) =
    let e : 0 + n ≡ n = omega arith in
    let front : List Share = flat_map (on_column list) (numbers_from 0 n) in
    ap (sum_over f) (flat_map-append (on_column list) (numbers_from 0 n) ((0 + n) ∷ []))
    ∙ sum_over-append f front (on_column list (0 + n) ++ [])
    ∙ ap (λ z. sum_over f front +ℚ z) (sum_over-append f (on_column list (0 + n)) [])
    ∙ ring_ℚ (sum_over f front ∷ sum_over f (on_column list (0 + n)) ∷ []) (x0 :+ (x1 :+ zero_of)) (x0 :+ x1) tt
    ∙ ap (λ k. sum_over f front +ℚ sum_over f (on_column list k)) e
    ∙ ap (λ z. z +ℚ sum_over f (on_column list n)) (branches_gathered f list n)
    ∙ ap (λ z. sum_over (λ s. sum_below n (on_branches s.source (f s))) list +ℚ z) (column_gathered f list n)
    ∙ sym (sum_over-add (λ s. sum_below n (on_branches s.source (f s))) (λ s. on_branches s.source (f s) n) list)

-- a number that counts at one place counts once
once : (n k : ℕ) (c : ℚ) (g : ℕ → ℚ) → k < n → ((j : ℕ) → g j ≡ cond (j == k) c zero_ℚ) → sum_below n g ≡ c
once n k c g l h =
    sum_below-ext n g (λ j. cond (k == j) c zero_ℚ *ℚ one_ℚ) (λ j _. h j ∙ turned j)
    ∙ sum_below-one n k c (λ j. one_ℚ) l
    ∙ ring_ℚ (c ∷ []) (x0 :* unit_of) x0 tt
  where
    turned : (j : ℕ) → cond (j == k) c zero_ℚ ≡ cond (k == j) c zero_ℚ *ℚ one_ℚ
    turned j =
        elim (cases_eq j k) [
          | inl e ↦
              (cond-true (j == k) c zero_ℚ (eq-eqb j k e) ∙ ring_ℚ (c ∷ []) x0 (x0 :* unit_of) tt ∙ ap (λ z. z *ℚ one_ℚ) (sym (cond-true (k == j) c zero_ℚ (eq-eqb k j (sym e)))))
          | inr e ↦
              (cond-false (j == k) c zero_ℚ (ne_eqb j k e) ∙ ring_ℚ [] zero_of (zero_of :* unit_of) tt ∙ ap (λ z. z *ℚ one_ℚ) (sym (cond-false (k == j) c zero_ℚ (ne_eqb k j (λ p. e (sym p))))))
        ]

counted : (n : ℕ) (q : Source) (c : ℚ) → IsPlaced n q → cond (is_member q) c zero_ℚ +ℚ sum_below n (on_branches q c) ≡ c
counted n (Of m) c h =
    ap (λ z. c +ℚ z) (sum_below-ext n (λ j. zero_ℚ +ℚ zero_ℚ) (λ j. zero_ℚ) (λ j l. nothing_twice) ∙ sum_below-zero n)
    ∙ ring_ℚ (c ∷ []) (x0 :+ zero_of) x0 tt
counted n (Below k) c h =
    ap (λ z. zero_ℚ +ℚ z) (once n k c (λ j. cond (j == k) c zero_ℚ +ℚ zero_ℚ) h (λ j. ring_ℚ (cond (j == k) c zero_ℚ ∷ []) (x0 :+ zero_of) x0 tt))
    ∙ ring_ℚ (c ∷ []) (zero_of :+ x0) x0 tt
counted n (Above k) c h =
    ap (λ z. zero_ℚ +ℚ z) (once n k c (λ j. zero_ℚ +ℚ cond (j == k) c zero_ℚ) h (λ j. ring_ℚ (cond (j == k) c zero_ℚ ∷ []) (zero_of :+ x0) x0 tt))
    ∙ ring_ℚ (c ∷ []) (zero_of :+ x0) x0 tt

-- a sum does not go by the order
arranged_sum : (f : Share → ℚ) (n : ℕ) (list : List Share) → All (λ s. IsPlaced n s.source) list → sum_over f (arranged n list) ≡ sum_over f list
arranged_sum f n list h =
    let members : List Share = filter (λ s. is_member s.source) list in
    sum_over-append f members (flat_map (on_column list) (numbers_from 0 n))
    ∙ ap (λ z. z +ℚ sum_over f (flat_map (on_column list) (numbers_from 0 n))) (sum_over-filter f (λ s. is_member s.source) list)
    ∙ ap (λ z. sum_over (λ s. cond (is_member s.source) (f s) zero_ℚ) list +ℚ z) (branches_gathered f list n)
    ∙ sym (sum_over-add (λ s. cond (is_member s.source) (f s) zero_ℚ) (λ s. sum_below n (on_branches s.source (f s))) list)
    ∙ sum_over-ext_on (λ (s : Share). IsPlaced n s.source) (λ s. cond (is_member s.source) (f s) zero_ℚ +ℚ sum_below n (on_branches s.source (f s))) f (λ s p. counted n s.source (f s) p) list h

All-columns : (P : Share → Type 0) (list : List Share) (numbers : List ℕ) → All P list → All P (flat_map (on_column list) numbers)
All-columns P list [] h = All-nil P
All-columns P list (j ∷ numbers) h =
    All-append P (on_column list j) (flat_map (on_column list) numbers)
    (All-append P (filter (λ s. is_below j s.source) list) (filter (λ s. is_above j s.source) list) (All-filter (λ s. is_below j s.source) P list h) (All-filter (λ s. is_above j s.source) P list h))
    (All-columns P list numbers h)

All-arranged : (P : Share → Type 0) (n : ℕ) (list : List Share) → All P list → All P (arranged n list)
All-arranged P n list h =
    All-append P (filter (λ s. is_member s.source) list) (flat_map (on_column list) (numbers_from 0 n))
    (All-filter (λ s. is_member s.source) P list h) (All-columns P list (numbers_from 0 n) h)

-- ---- what a share of a variable stands for
module _ (model : Program) (set : List Member) (path : List Branch) (objective : Bool) where
  abbrev system : LinearSystem
  system = plain_system model set path objective

  abbrev columns : ℕ
  columns = length model.columns

  columns_are : length system.columns ≡ columns
  columns_are = length_mapped (column_limits model set path) columns

  -- the source of a variable's side
  abbrev source_of : ℕ → Side → Source
  source_of v side = stands_for model set path (Of (member_of (length system.columns) v side))

  -- it has the form and the number of the variable
  record StandsFor (v : ℕ) (side : Side) (q : Source) : Type 0 where
    form : source_form model q ≡ variable_form system v
    side_is : source_side q ≡ side
    number_is : source_number model path q ≡ limit_on (variable_limits system v) side
    from : IsFrom set q
    placed : IsPlaced columns q

  -- a limit's number is in the system only where the set has the member
  member_there : (m : Member) (b : Bool) → has set m ≡ b → IsSome (cond b (number model m) None) → (number model m ≡ cond b (number model m) None) × IsFrom set (Of m)
  member_there m true e h = (refl, contains_of_has set m e)
  member_there m false e h = absurd (true≢false (sym h))

  limit_there : (q : Source) → IsSome (limit_number model set path q) → (source_number model path q ≡ limit_number model set path q) × IsFrom set q
  limit_there (Of m) h = member_there m (has set m) refl h
  limit_there (Below j) h = (refl, tt)
  limit_there (Above j) h = (refl, tt)

  -- the source of a column's limit has the column's form, and its own side
  abbrev IsBound : ℕ → Side → Source → Type 0
  IsBound v side q = (source_form model q ≡ column_form v) × ((source_side q ≡ side) × IsPlaced columns q)

  bound_form : (v : ℕ) (side : Side) → v < columns → IsBound v side (limit_source model set path v side)
  bound_form v Lo l =
      cond_both (is_raised (number_in model set (Lower v)) (source_number model path (Above v))) (Above v) (Of (Lower v))
      (IsBound v Lo) (λ e. (refl, (refl, l))) (λ e. (refl, (refl, tt)))
  bound_form v Up l =
      cond_both (is_lowered (number_in model set (Upper v)) (source_number model path (Below v))) (Below v) (Of (Upper v))
      (IsBound v Up) (λ e. (refl, (refl, l))) (λ e. (refl, (refl, tt)))

  column_limit : (v : ℕ) (side : Side) → limit_on (column_limits model set path v) side ≡ limit_of model set path v side
  column_limit v Lo = refl
  column_limit v Up = refl

  bound_source : (v : ℕ) (side : Side) → stands_for model set path (Of (bound_of v side)) ≡ limit_source model set path v side
  bound_source v Lo = refl
  bound_source v Up = refl

  column_stands : (v : ℕ) (side : Side) → v < length system.columns → IsSome (limit_on (variable_limits system v) side) → StandsFor v side (source_of v side)
  column_stands v side l h =
      let below : v < columns = subst (λ z. v < z) columns_are l in
      let first : ltb v (length system.columns) ≡ true = lt-ltb v (length system.columns) l in
      let limits : variable_limits system v ≡ column_limits model set path v =
      cond-true (ltb v (length system.columns)) (get_or system.columns v no_limits) (get_or system.rows (v - length system.columns) empty_system_row).limits first
      ∙ mapped_at (column_limits model set path) columns v no_limits below in
      let limit : limit_on (variable_limits system v) side ≡ limit_of model set path v side = ap (λ z. limit_on z side) limits ∙ column_limit v side in
      let source : source_of v side ≡ limit_source model set path v side =
      ap (λ m. stands_for model set path (Of m)) (cond-true (ltb v (length system.columns)) (bound_of v side) (row_side_of (v - length system.columns) side) first) ∙ bound_source v side in
      let there = limit_there (limit_source model set path v side) (subst (λ z. IsSome z) limit h) in
      let formed = bound_form v side below in
      subst (StandsFor v side) (sym source)
      (record {
        form = formed.0 ∙ sym (cond-true (ltb v (length system.columns)) (column_form v) (get_or system.rows (v - length system.columns) empty_system_row).terms first);
        side_is = formed.1.0;
        number_is = there.0 ∙ sym limit;
        from = there.1;
        placed = formed.1.1;
      })

  row_limit : (i : ℕ) (side : Side) → limit_on (plain_row model set i).limits side ≡ number_in model set (row_side_of i side)
  row_limit i Lo = refl
  row_limit i Up = refl

  row_source : (k : ℕ) (side : Side) → stands_for model set path (Of (row_side_of k side)) ≡ Of (row_side_of (get_or (rows_in model set) k 0) side)
  row_source k Lo = refl
  row_source k Up = refl

  row_form : (i : ℕ) (side : Side) → source_form model (Of (row_side_of i side)) ≡ (plain_row model set i).terms
  row_form i Lo = refl
  row_form i Up = refl

  row_side : (i : ℕ) (side : Side) → source_side (Of (row_side_of i side)) ≡ side
  row_side i Lo = refl
  row_side i Up = refl

  row_stands : (v : ℕ) (side : Side) → length system.columns ≤ v → v < length system.columns + length system.rows → IsSome (limit_on (variable_limits system v) side) → StandsFor v side (source_of v side)
  row_stands v side l h some =
      let k : ℕ = v - length system.columns in
      let i : ℕ = get_or (rows_in model set) k 0 in
      let below : k < length (rows_in model set) = subst (λ z. k < z) (length-map (rows_in model set) (plain_row model set)) (let g : v - length system.columns < length system.rows = omega arith in g) in
      let later : ltb v (length system.columns) ≡ false = le-ltb v (length system.columns) l in
      let row : get_or system.rows k empty_system_row ≡ plain_row model set i = get_or-map (plain_row model set) (rows_in model set) k 0 empty_system_row below in
      let source : source_of v side ≡ Of (row_side_of i side) =
      ap (λ m. stands_for model set path (Of m)) (cond-false (ltb v (length system.columns)) (bound_of v side) (row_side_of (v - length system.columns) side) later) ∙ row_source k side in
      let limit : limit_on (variable_limits system v) side ≡ number_in model set (row_side_of i side) =
      ap (λ z. limit_on z side) (cond-false (ltb v (length system.columns)) (get_or system.columns v no_limits) (get_or system.rows (v - length system.columns) empty_system_row).limits later ∙ ap (λ r. r.limits) row) ∙ row_limit i side in
      let there = limit_there (Of (row_side_of i side)) (subst (λ z. IsSome z) limit some) in
      subst (StandsFor v side) (sym source)
      (record {
        form = row_form i side ∙ sym (cond-false (ltb v (length system.columns)) (column_form v) (get_or system.rows (v - length system.columns) empty_system_row).terms later ∙ ap (λ r. r.terms) row);
        side_is = row_side i side;
        number_is = there.0 ∙ sym limit;
        from = there.1;
        placed = tt;
      })

  stands : (v : ℕ) (side : Side) → v < length system.columns + length system.rows → IsSome (limit_on (variable_limits system v) side) → StandsFor v side (source_of v side)
  stands v side l h = elim (cases_lt v (length system.columns)) [ inl c ↦ column_stands v side c h | inr c ↦ row_stands v side c l h ]

  -- ---- the shares
  abbrev share_of : VariableShare → Share
  share_of s = translated model set path (named (length system.columns) s)

  -- the share stands for the variable's, and its limit is there
  record IsTranslated (s : VariableShare) : Type 0 where
    positive : zero_ℚ <ℚ s.weight
    there : IsSome (limit_on (variable_limits system s.variable) s.side)
    stands_as : StandsFor s.variable s.side (source_of s.variable s.side)

  all_translated : (of : List VariableShare) → All (λ s. zero_ℚ <ℚ s.weight) of → All (λ s. s.variable < length system.columns + length system.rows) of
      → All (λ s. IsSome (limit_on (variable_limits system s.variable) s.side)) of → All IsTranslated of
  all_translated [] p k h = All-nil IsTranslated
  all_translated (s ∷ of) p k h =
      let there : IsSome (limit_on (variable_limits system s.variable) s.side) = All-head (λ (s : VariableShare). IsSome (limit_on (variable_limits system s.variable) s.side)) s of h in
      All-cons IsTranslated s of
      (record {
        positive = All-head (λ (s : VariableShare). zero_ℚ <ℚ s.weight) s of p;
        there = there;
        stands_as = stands s.variable s.side (All-head (λ (s : VariableShare). s.variable < length system.columns + length system.rows) s of k) there;
      })
      (all_translated of (All-tail (λ (s : VariableShare). zero_ℚ <ℚ s.weight) s of p) (All-tail (λ (s : VariableShare). s.variable < length system.columns + length system.rows) s of k)
      (All-tail (λ (s : VariableShare). IsSome (limit_on (variable_limits system s.variable) s.side)) s of h))

  module _ (of : List VariableShare) (combination : IsVariableCombination system of) where
    fine : All IsTranslated of
    fine = all_translated of combination.positive combination.known combination.there

    abbrev shares : List Share
    shares = map (translated model set path) (map (named (length system.columns)) of)

    -- what holds of each translated share holds of the arranged ones
    all_shares : (P : Share → Type 0) → ((s : VariableShare) → IsTranslated s → P (share_of s)) → All P shares
    all_shares P h =
        All-map P (translated model set path) (map (named (length system.columns)) of)
        (All-map (λ s. P (translated model set path s)) (named (length system.columns)) of (All-weaker IsTranslated (λ s. P (share_of s)) h of fine))

    all_arranged : (P : Share → Type 0) → ((s : VariableShare) → IsTranslated s → P (share_of s)) → All P (arranged columns shares)
    all_arranged P h = All-arranged P columns shares (all_shares P h)

    total : (f : Share → ℚ) (g : VariableShare → ℚ) → ((s : VariableShare) → IsTranslated s → f (share_of s) ≡ g s) → sum_over f (arranged columns shares) ≡ sum_over g of
    total f g h =
        arranged_sum f columns shares (all_shares (λ s. IsPlaced columns s.source) (λ s t. t.stands_as.placed))
        ∙ sum_over-map f (translated model set path) (map (named (length system.columns)) of)
        ∙ sum_over-map (λ s. f (translated model set path s)) (named (length system.columns)) of
        ∙ sum_over-ext_on IsTranslated (λ s. f (share_of s)) g h of fine

    there_all : All (IsThere model set path) (arranged columns shares)
    there_all = all_arranged (IsThere model set path) (λ s t. record { from = t.stands_as.from; number = subst (λ z. IsSome z) (sym t.stands_as.number_is) t.there })

    cancels_in : (j : ℕ) → j < columns → column_sum model (arranged columns shares) j ≡ zero_ℚ
    cancels_in j l =
        total (λ s. multiple s *ℚ factor_of (source_form model s.source) j) (λ s. signed s.side s.weight *ℚ factor_of (variable_form system s.variable) j)
        (λ s t. (λ i. signed (t.stands_as.side_is i) s.weight *ℚ factor_of (t.stands_as.form i) j))
        ∙ combination.cancels j (subst (λ z. j < z) (sym columns_are) l)

    contradicts_in : right_side model path (arranged columns shares) <ℚ zero_ℚ
    contradicts_in =
        subst (λ z. z <ℚ zero_ℚ)
        (sym (total (λ s. multiple s *ℚ number_or_zero (source_number model path s.source)) (λ s. signed s.side s.weight *ℚ number_or_zero (limit_on (variable_limits system s.variable) s.side))
        (λ s t. (λ i. signed (t.stands_as.side_is i) s.weight *ℚ number_or_zero (t.stands_as.number_is i)))))
        combination.contradicts

    translated_is : IsWellFormed model → All (λ b. b.column < columns) path → IsCombination model set path (arranged columns shares)
    translated_is formed known = record {
      positive = all_arranged (λ s. zero_ℚ <ℚ s.weight) (λ s t. t.positive);
      there = there_all;
      cancels = λ j. elim (cases_lt j columns) [ inl l ↦ cancels_in j l | inr l ↦ further_columns_law model set path (arranged columns shares) formed known there_all j l ];
      contradicts = contradicts_in;
    }

pub translation : TranslationLaw
translation model set path objective list formed known h =
    subst (λ z. IsCombination model set path (program_shares model set path z)) (sym h.same) (translated_is model set path objective h.of h.combination formed known)
