-- Rows and limits of the plain system of a set on no path, as members.
use Rattle.std.proofs.Common.{◌≡◌, ◌+◌, ◌-◌, ◌<◌, ◌≤◌, refl, sym, ◌∙◌, ap, subst, ℕ, Bool, true, false, true≢false, cond, List, [], length, get_or, Option, None, Some, IsSome, ltb, arith, inl, inr, lt-ltb}
use Rattle.std.proofs.lemmas.Bool.{cases_lt, cond-true, cond-false, le-ltb}
use Rattle.std.proofs.lemmas.List.{get_or-map, length-map}
use Rattle.rational.specs.Rational.{ℚ}
use Rattle.lp_model.specs.declared.members.Member.{Member}
use Rattle.lp_model.specs.declared.members.Member.TheVariants.{Lower, Upper}
use Rattle.lp_model.specs.declared.members.Side.{Side}
use Rattle.lp_model.specs.declared.members.Side.TheVariants.{Lo, Up}
use Rattle.lp_model.specs.Program.{Program}
use Rattle.lp_model.specs.Members.{column_form, form, has, is_mark, number, side as member_side}
use Rattle.certs.specs.declared.evidence.Source.{Source}
use Rattle.certs.specs.declared.evidence.Source.TheVariants.{Member as Of, Below, Above}
use Rattle.certs.specs.System.{LinearSystem, SystemRow, empty_system_row, no_limits, limit_on, variable_form, variable_limits}
use Rattle.certs.specs.Plain.{number_in, is_raised, is_lowered, limit_source, column_limits, rows_in, plain_row, plain_system}
use Rattle.certs.specs.Named.{bound_of, row_side_of, member_of, stands_for}
use Rattle.certs.proofs.Translated.{length_mapped, mapped_at}

module _ (model : Program) (set : List Member) where
  abbrev system : LinearSystem
  system = plain_system model set [] true

  abbrev columns : ℕ
  columns = length model.columns

  pub columns_are : length system.columns ≡ columns
  columns_are = length_mapped (column_limits model set []) columns

  -- ---- limits of columns: the set's bounds
  not_raised : (o : Option ℚ) → is_raised o None ≡ false
  not_raised None = refl
  not_raised (Some b) = refl

  not_lowered : (o : Option ℚ) → is_lowered o None ≡ false
  not_lowered None = refl
  not_lowered (Some b) = refl

  bound_source : (j : ℕ) (side : Side) → limit_source model set [] j side ≡ Of (bound_of j side)
  bound_source j Lo = ap (λ b. cond b (Above j) (Of (Lower j))) (not_raised (number_in model set (Lower j)))
  bound_source j Up = ap (λ b. cond b (Below j) (Of (Upper j))) (not_lowered (number_in model set (Upper j)))

  limit_is : (j : ℕ) (side : Side) → limit_on (column_limits model set [] j) side ≡ number_in model set (bound_of j side)
  limit_is j Lo = ap (λ b. elim (cond b (Above j) (Of (Lower j))) [ Of m ↦ number_in model set m | Below k ↦ None | Above k ↦ None ]) (not_raised (number_in model set (Lower j)))
  limit_is j Up = ap (λ b. elim (cond b (Below j) (Of (Upper j))) [ Of m ↦ number_in model set m | Below k ↦ None | Above k ↦ None ]) (not_lowered (number_in model set (Upper j)))

  pub column_limit : (j : ℕ) (side : Side) → j < length system.columns → limit_on (variable_limits system j) side ≡ number_in model set (bound_of j side)
  column_limit j side l =
      let below : j < columns = subst (λ n. j < n) columns_are l in
      ap (λ z. limit_on z side)
      (cond-true (ltb j (length system.columns)) (get_or system.columns j no_limits) (get_or system.rows (j - length system.columns) empty_system_row).limits (lt-ltb j (length system.columns) l)
      ∙ mapped_at (column_limits model set []) columns j no_limits below)
      ∙ limit_is j side

  -- ---- limits of rows: the set's sides
  row_limit : (i : ℕ) (side : Side) → limit_on (plain_row model set i).limits side ≡ number_in model set (row_side_of i side)
  row_limit i Lo = refl
  row_limit i Up = refl

  -- ---- the member that a limit of a variable is
  pub record StandsAs (v : ℕ) (side : Side) (q : Source) : Type 0 where
    pub member : Member
    pub is : q ≡ Of member
    pub form_is : form model member ≡ variable_form system v
    pub side_is : member_side member ≡ side
    pub number_is : number model member ≡ limit_on (variable_limits system v) side
    pub there : has set member ≡ true
    pub plain : is_mark member ≡ false

  -- a limit's number is in the system only where the set has the member
  member_there : (m : Member) (b : Bool) → has set m ≡ b → IsSome (cond b (number model m) None) → (number model m ≡ cond b (number model m) None) × (has set m ≡ true)
  member_there m true e h = (refl, e)
  member_there m false e h = absurd (true≢false (sym h))

  bound_form : (j : ℕ) (side : Side) → form model (bound_of j side) ≡ column_form j
  bound_form j Lo = refl
  bound_form j Up = refl

  bound_side : (j : ℕ) (side : Side) → member_side (bound_of j side) ≡ side
  bound_side j Lo = refl
  bound_side j Up = refl

  bound_plain : (j : ℕ) (side : Side) → is_mark (bound_of j side) ≡ false
  bound_plain j Lo = refl
  bound_plain j Up = refl

  bound_stands : (j : ℕ) (side : Side) → stands_for model set [] (Of (bound_of j side)) ≡ limit_source model set [] j side
  bound_stands j Lo = refl
  bound_stands j Up = refl

  row_form : (i : ℕ) (side : Side) → form model (row_side_of i side) ≡ (plain_row model set i).terms
  row_form i Lo = refl
  row_form i Up = refl

  row_side : (i : ℕ) (side : Side) → member_side (row_side_of i side) ≡ side
  row_side i Lo = refl
  row_side i Up = refl

  row_plain : (i : ℕ) (side : Side) → is_mark (row_side_of i side) ≡ false
  row_plain i Lo = refl
  row_plain i Up = refl

  row_stands : (k : ℕ) (side : Side) → stands_for model set [] (Of (row_side_of k side)) ≡ Of (row_side_of (get_or (rows_in model set) k 0) side)
  row_stands k Lo = refl
  row_stands k Up = refl

  abbrev source_of : ℕ → Side → Source
  source_of v side = stands_for model set [] (Of (member_of (length system.columns) v side))

  column_as : (v : ℕ) (side : Side) → v < length system.columns → IsSome (limit_on (variable_limits system v) side) → StandsAs v side (source_of v side)
  column_as v side l h =
      let first : ltb v (length system.columns) ≡ true = lt-ltb v (length system.columns) l in
      let limit = column_limit v side l in
      let there = member_there (bound_of v side) (has set (bound_of v side)) refl (subst (λ z. IsSome z) limit h) in
      record {
        member = bound_of v side;
        is = ap (λ m. stands_for model set [] (Of m)) (cond-true (ltb v (length system.columns)) (bound_of v side) (row_side_of (v - length system.columns) side) first) ∙ bound_stands v side ∙ bound_source v side;
        form_is = bound_form v side ∙ sym (cond-true (ltb v (length system.columns)) (column_form v) (get_or system.rows (v - length system.columns) empty_system_row).terms first);
        side_is = bound_side v side;
        number_is = there.0 ∙ sym limit;
        there = there.1;
        plain = bound_plain v side;
      }

  row_as : (v : ℕ) (side : Side) → length system.columns ≤ v → v < length system.columns + length system.rows → IsSome (limit_on (variable_limits system v) side) → StandsAs v side (source_of v side)
  row_as v side l h some =
      let k : ℕ = v - length system.columns in
      let i : ℕ = get_or (rows_in model set) k 0 in
      let below : k < length (rows_in model set) = subst (λ z. k < z) (length-map (rows_in model set) (plain_row model set)) (let g : v - length system.columns < length system.rows = omega arith in g) in
      let later : ltb v (length system.columns) ≡ false = le-ltb v (length system.columns) l in
      let row : get_or system.rows k empty_system_row ≡ plain_row model set i = get_or-map (plain_row model set) (rows_in model set) k 0 empty_system_row below in
      let limit : limit_on (variable_limits system v) side ≡ number_in model set (row_side_of i side) =
      ap (λ z. limit_on z side) (cond-false (ltb v (length system.columns)) (get_or system.columns v no_limits) (get_or system.rows (v - length system.columns) empty_system_row).limits later ∙ ap (λ (r : SystemRow). r.limits) row) ∙ row_limit i side in
      let there = member_there (row_side_of i side) (has set (row_side_of i side)) refl (subst (λ z. IsSome z) limit some) in
      record {
        member = row_side_of i side;
        is = ap (λ m. stands_for model set [] (Of m)) (cond-false (ltb v (length system.columns)) (bound_of v side) (row_side_of (v - length system.columns) side) later) ∙ row_stands k side;
        form_is = row_form i side ∙ sym (cond-false (ltb v (length system.columns)) (column_form v) (get_or system.rows (v - length system.columns) empty_system_row).terms later ∙ ap (λ (r : SystemRow). r.terms) row);
        side_is = row_side i side;
        number_is = there.0 ∙ sym limit;
        there = there.1;
        plain = row_plain i side;
      }

  -- each limit that is there is a member of the set that is no mark
  pub stands_as : (v : ℕ) (side : Side) → v < length system.columns + length system.rows → IsSome (limit_on (variable_limits system v) side) → StandsAs v side (source_of v side)
  stands_as v side l h = elim (cases_lt v (length system.columns)) [ inl c ↦ column_as v side c h | inr c ↦ row_as v side c l h ]
