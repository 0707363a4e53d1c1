-- A dual of the plain system of a set on no path, as one of the set.
use Rattle.std.proofs.Common.{◌≡◌, ◌+◌, ◌<◌, refl, sym, ◌∙◌, ap, subst, ℕ, Bool, true, false, true≢false, not, List, [], ◌∷◌, ◌++◌, map, length, filter, IsSome, inl, inr}
use Rattle.std.specs.Prelude.{All, flat_map}
use Rattle.std.proofs.lemmas.Bool.{cases_lt, cond-true, cond-false}
use Rattle.std.proofs.lemmas.List.{length-map}
use Rattle.std.proofs.lemmas.List.Elements.{All-head, All-tail, All-nil, All-cons, All-map, All-weaker}
use Rattle.rational.specs.Rational.{ℚ, ◌+ℚ◌, ◌*ℚ◌, zero_ℚ, ◌<ℚ◌}
use Rattle.rational.specs.Sum.{sum_over}
use Rattle.rational.specs.Linear.{Term, factor_of}
use Rattle.rational.proofs.Sums.{sum_over-ext_on}
use Rattle.lp_model.specs.declared.members.Member.{Member}
use Rattle.lp_model.specs.declared.members.Side.{Side}
use Rattle.lp_model.specs.Program.{Program, IsWellFormed}
use Rattle.lp_model.specs.Members.{is_mark}
use Rattle.lp_model.proofs.Sets.{Contains-filter, contains_of_has}
use Rattle.certs.specs.declared.evidence.Branch.{Branch}
use Rattle.certs.specs.declared.evidence.Source.{Source}
use Rattle.certs.specs.declared.evidence.Source.TheVariants.{Member as Of, Below, Above}
use Rattle.certs.specs.declared.evidence.Share.{Share}
use Rattle.certs.specs.Bound.{directed, without_marks, IsBoundDual}
use Rattle.certs.specs.Combination.{number_or_zero, signed, multiple, source_form, source_side, source_number, IsFrom, IsThere, column_sum, right_side}
use Rattle.certs.specs.System.{LinearSystem, VariableShare, limit_on, variable_form, variable_limits}
use Rattle.certs.specs.Ended.{numbers_from}
use Rattle.certs.specs.Plain.{greatest_objective, plain_row, plain_system, rows_in}
use Rattle.certs.specs.Named.{named, translated, is_member, is_below, is_above, on_column, arranged, program_shares, IsOfSystem}
use Rattle.certs.proofs.Further.{factor_past, further_columns_law}
use Rattle.linear_oracle.proofs.Shares.{all_known}
use Rattle.simplex.specs.Duals.{IsNamedDual, IsVariableDual}
use Rattle.unbounded.specs.Programs.{ProgramDualLaw}
use Rattle.unbounded.proofs.Directed.{directed_nothing, directed_twice, greatest_factor}
use Rattle.unbounded.proofs.Systems.{columns_are, stands_as, StandsAs}

-- ---- shares of members stay where they are
filter_all : {A : Type 0} (p : A → Bool) (xs : List A) → All (λ x. p x ≡ true) xs → filter p xs ≡ xs
filter_all p [] h = refl
filter_all p (x ∷ xs) h =
    cond-true (p x) (x ∷ filter p xs) (filter p xs) (All-head (λ x. p x ≡ true) x xs h) ∙ ap (λ z. x ∷ z) (filter_all p xs (All-tail (λ x. p x ≡ true) x xs h))

filter_none : {A : Type 0} (p : A → Bool) (xs : List A) → All (λ x. p x ≡ false) xs → filter p xs ≡ []
filter_none p [] h = refl
filter_none p (x ∷ xs) h =
    cond-false (p x) (x ∷ filter p xs) (filter p xs) (All-head (λ x. p x ≡ false) x xs h) ∙ filter_none p xs (All-tail (λ x. p x ≡ false) x xs h)

not_below : (j : ℕ) (q : Source) → is_member q ≡ true → is_below j q ≡ false
not_below j (Of m) e = refl
not_below j (Below k) e = absurd (true≢false (sym e))
not_below j (Above k) e = refl

not_above : (j : ℕ) (q : Source) → is_member q ≡ true → is_above j q ≡ false
not_above j (Of m) e = refl
not_above j (Below k) e = refl
not_above j (Above k) e = absurd (true≢false (sym e))

abbrev IsOfMember : Share → Type 0
IsOfMember s = is_member s.source ≡ true

none_on : (shares : List Share) (j : ℕ) → All IsOfMember shares → on_column shares j ≡ []
none_on shares j h =
    ap (λ z. z ++ filter (λ s. is_above j s.source) shares) (filter_none (λ s. is_below j s.source) shares (All-weaker IsOfMember (λ s. is_below j s.source ≡ false) (λ s e. not_below j s.source e) shares h))
    ∙ filter_none (λ s. is_above j s.source) shares (All-weaker IsOfMember (λ s. is_above j s.source ≡ false) (λ s e. not_above j s.source e) shares h)

none_listed : (shares : List Share) (numbers : List ℕ) → All IsOfMember shares → flat_map (on_column shares) numbers ≡ []
none_listed shares [] h = refl
none_listed shares (j ∷ numbers) h = ap (λ z. z ++ flat_map (on_column shares) numbers) (none_on shares j h) ∙ none_listed shares numbers h

nothing_after : {A : Type 0} (xs : List A) → xs ++ [] ≡ xs
nothing_after [] = refl
nothing_after (x ∷ xs) = ap (λ z. x ∷ z) (nothing_after xs)

arranged_same : (n : ℕ) (shares : List Share) → All IsOfMember shares → arranged n shares ≡ shares
arranged_same n shares h =
    ap (λ z. z ++ flat_map (on_column shares) (numbers_from 0 n)) (filter_all (λ s. is_member s.source) shares h)
    ∙ ap (λ z. shares ++ z) (none_listed shares (numbers_from 0 n) h)
    ∙ nothing_after shares

sum_over-map : {A B : Type 0} (f : B → ℚ) (g : A → B) (xs : List A) → sum_over f (map g xs) ≡ sum_over (λ a. f (g a)) xs
sum_over-map f g [] = refl
sum_over-map f g (a ∷ xs) = ap (λ z. f (g a) +ℚ z) (sum_over-map f g xs)

-- ---- the shares of a dual
module _ (model : Program) (set : List Member) where
  abbrev system : LinearSystem
  system = plain_system model set [] true

  abbrev columns : ℕ
  columns = length model.columns

  abbrev share_of : VariableShare → Share
  share_of s = translated model set [] (named (length system.columns) s)

  record IsTranslated (s : VariableShare) : Type 0 where
    positive : zero_ℚ <ℚ s.weight
    there : IsSome (limit_on (variable_limits system s.variable) s.side)
    stands : StandsAs model set s.variable s.side (share_of s).source

  all_translated : (of : List VariableShare) → All (λ s. zero_ℚ <ℚ s.weight) of → All (λ s. s.variable < length system.columns + length system.rows) of
      → All (λ s. IsSome (limit_on (variable_limits system s.variable) s.side)) of → All IsTranslated of
  all_translated [] p k h = All-nil IsTranslated
  all_translated (s ∷ of) p k h =
      let there : IsSome (limit_on (variable_limits system s.variable) s.side) = All-head (λ (s : VariableShare). IsSome (limit_on (variable_limits system s.variable) s.side)) s of h in
      All-cons IsTranslated s of
      (record {
        positive = All-head (λ (s : VariableShare). zero_ℚ <ℚ s.weight) s of p;
        there = there;
        stands = stands_as model set s.variable s.side (All-head (λ (s : VariableShare). s.variable < length system.columns + length system.rows) s of k) there;
      })
      (all_translated of (All-tail (λ (s : VariableShare). zero_ℚ <ℚ s.weight) s of p) (All-tail (λ (s : VariableShare). s.variable < length system.columns + length system.rows) s of k)
      (All-tail (λ (s : VariableShare). IsSome (limit_on (variable_limits system s.variable) s.side)) s of h))

  form_of : (v : ℕ) (side : Side) (q : Source) (a : StandsAs model set v side q) → source_form model q ≡ variable_form system v
  form_of v side q a = ap (source_form model) a.is ∙ a.form_is

  side_of : (v : ℕ) (side : Side) (q : Source) (a : StandsAs model set v side q) → source_side q ≡ side
  side_of v side q a = ap source_side a.is ∙ a.side_is

  number_of : (v : ℕ) (side : Side) (q : Source) (a : StandsAs model set v side q) → source_number model [] q ≡ limit_on (variable_limits system v) side
  number_of v side q a = ap (source_number model []) a.is ∙ a.number_is

  module _ (terms : List Term) (b : ℚ) (of : List VariableShare) (dual : IsVariableDual system of terms b) where
    fine : All IsTranslated of
    fine = all_translated of dual.positive dual.known dual.there

    abbrev shares : List Share
    shares = map (translated model set []) (map (named (length system.columns)) of)

    all_shares : (P : Share → Type 0) → ((s : VariableShare) → IsTranslated s → P (share_of s)) → All P shares
    all_shares P h =
        All-map P (translated model set []) (map (named (length system.columns)) of)
        (All-map (λ s. P (translated model set [] s)) (named (length system.columns)) of (All-weaker IsTranslated (λ s. P (share_of s)) h of fine))

    total : (f : Share → ℚ) (g : VariableShare → ℚ) → ((s : VariableShare) → IsTranslated s → f (share_of s) ≡ g s) → sum_over f shares ≡ sum_over g of
    total f g h =
        sum_over-map f (translated model set []) (map (named (length system.columns)) of)
        ∙ sum_over-map (λ s. f (translated model set [] s)) (named (length system.columns)) of
        ∙ sum_over-ext_on IsTranslated (λ s. f (share_of s)) g h of fine

    all_there : All (IsThere model (without_marks set) []) shares
    all_there = all_shares (IsThere model (without_marks set) [])
        (λ s t. record {
          from = subst (IsFrom (without_marks set)) (sym t.stands.is) (Contains-filter (λ m. not (is_mark m)) set t.stands.member (contains_of_has set t.stands.member t.stands.there) (ap not t.stands.plain));
          number = subst (λ z. IsSome z) (sym (number_of s.variable s.side (share_of s).source t.stands)) t.there;
        })

    column_is : (j : ℕ) → j < columns → column_sum model shares j ≡ factor_of terms j
    column_is j l =
        total (λ s. multiple s *ℚ factor_of (source_form model s.source) j) (λ s. signed s.side s.weight *ℚ factor_of (variable_form system s.variable) j)
        (λ s t. ap (λ z. signed z s.weight *ℚ factor_of (source_form model (share_of s).source) j) (side_of s.variable s.side (share_of s).source t.stands)
        ∙ ap (λ z. signed s.side s.weight *ℚ factor_of z j) (form_of s.variable s.side (share_of s).source t.stands))
        ∙ dual.matches j (subst (λ z. j < z) (sym (columns_are model set)) l)

    right_is : right_side model [] shares ≡ b
    right_is =
        total (λ s. multiple s *ℚ number_or_zero (source_number model [] s.source)) (λ s. signed s.side s.weight *ℚ number_or_zero (limit_on (variable_limits system s.variable) s.side))
        (λ s t. ap (λ z. signed z s.weight *ℚ number_or_zero (source_number model [] (share_of s).source)) (side_of s.variable s.side (share_of s).source t.stands)
        ∙ ap (λ z. signed s.side s.weight *ℚ number_or_zero z) (number_of s.variable s.side (share_of s).source t.stands))
        ∙ dual.bound

    arranged_is : program_shares model set [] (map (named (length system.columns)) of) ≡ shares
    arranged_is = arranged_same columns shares (all_shares IsOfMember (λ s t. ap is_member t.stands.is))

  no_branches : All (λ (b : Branch). b.column < columns) []
  no_branches = All-nil (λ (b : Branch). b.column < columns)

  bound_dual : (formed : IsWellFormed model) (b : ℚ) (of : List VariableShare) (dual : IsVariableDual system of (greatest_objective model) b)
      → IsBoundDual model (without_marks set) (shares (greatest_objective model) b of dual) (directed model b)
  bound_dual formed b of dual = record {
    positive = all_shares (greatest_objective model) b of dual (λ s. zero_ℚ <ℚ s.weight) (λ s t. t.positive);
    there = all_there (greatest_objective model) b of dual;
    matches = λ j. elim (cases_lt j columns) [
      | inl l ↦ column_is (greatest_objective model) b of dual j l ∙ greatest_factor model j
      | inr l ↦
          further_columns_law model (without_marks set) [] (shares (greatest_objective model) b of dual) formed no_branches (all_there (greatest_objective model) b of dual) j l
          ∙ sym (directed_nothing model)
          ∙ ap (directed model) (sym (factor_past columns model.objective j formed.objective.known l))
    ];
    bound = right_is (greatest_objective model) b of dual ∙ sym (directed_twice model b);
  }

pub program_dual : ProgramDualLaw
program_dual model set list b formed h =
    subst (λ z. IsBoundDual model (without_marks set) (program_shares model set [] z) (directed model b)) (sym h.same)
    (subst (λ z. IsBoundDual model (without_marks set) z (directed model b)) (sym (arranged_is model set (greatest_objective model) b h.of h.dual)) (bound_dual model set formed b h.of h.dual))

-- and its shares name rows and bounds of the system
pub known_sources : (model : Program) (set : List Member) (shares : List Share) (b : ℚ) → IsNamedDual (plain_system model set [] true) (greatest_objective model) shares b
    → All (λ (s : Share). IsOfSystem (length model.columns) (length (rows_in model set)) s.source) shares
known_sources model set list b h =
    let system : LinearSystem = plain_system model set [] true in
    subst (λ n. All (λ (s : Share). IsOfSystem n (length (rows_in model set)) s.source) list) (columns_are model set)
    (subst (λ n. All (λ (s : Share). IsOfSystem (length system.columns) n s.source) list) (length-map (rows_in model set) (plain_row model set))
    (subst (All (λ (s : Share). IsOfSystem (length system.columns) (length system.rows) s.source)) (sym h.same) (all_known (length system.columns) (length system.rows) h.of h.dual.known)))
