-- The members that a plain cut names, where no limits cross, are irreducible.
use Rattle.std.proofs.Common.{◌≡◌, ◌≢◌, ◌+◌, ◌-◌, ◌<◌, ◌≤◌, refl, sym, ◌∙◌, ap, subst, ℕ, Bool, true, false, true≢false, cond, not, List, [], ◌∷◌, ◌++◌, map, length, get_or, filter, Option, Some, None, ltb, arith, inl, inr, lt-ltb}
use Rattle.std.specs.Prelude.{All, Any, Contains, IsTrue, flat_map}
use Rattle.std.specs.List.{list_any}
use Rattle.std.proofs.lemmas.Bool.{cases_lt, cond-true, cond-false, le-ltb, or_cases, or_left}
use Rattle.std.proofs.lemmas.List.{get_or-map, length-map}
use Rattle.std.proofs.lemmas.List.Elements.{All-append, All-contains, All-filter, All-map, All-nil, Contains-get_or, filter_passes}
use Rattle.std.proofs.lemmas.List.Folds.{Any-from_list_any, list_any_at}
use Rattle.std.proofs.lemmas.List.Kept.{AllPairs-filter}
use Rattle.rational.specs.Rational.{ℚ, ◌*ℚ◌}
use Rattle.rational.specs.Linear.{Term, Assignment, form_value, factor_of}
use Rattle.rational.proofs.Forms.{by_known}
use Rattle.rational.proofs.Sums.{sum_below-ext}
use Rattle.lp_model.specs.declared.members.Member.{Member}
use Rattle.lp_model.specs.declared.members.Side.{Side}
use Rattle.lp_model.specs.declared.members.Side.TheVariants.{Lo, Up}
use Rattle.lp_model.specs.Program.{Program, IsWellFormed, row_at}
use Rattle.lp_model.specs.Members.{IsInOrder, comes_before, has, is_same, number}
use Rattle.lp_model.specs.Satisfaction.{Holds, IsSatisfiable, Satisfies, coordinate, values_at}
use Rattle.lp_model.proofs.Sets.{Contains-filter, same_members, same_self}
use Rattle.lp_model.proofs.Walk.{in_middle, list_without}
use Rattle.certs.specs.declared.evidence.Branch.{Branch}
use Rattle.certs.specs.declared.evidence.Combo.{Combo}
use Rattle.certs.specs.declared.evidence.Node.TheVariants.{Leaf}
use Rattle.certs.specs.declared.evidence.Share.{Share}
use Rattle.certs.specs.declared.evidence.Source.{Source}
use Rattle.certs.specs.declared.evidence.Source.TheVariants.{Member as Of, Below, Above}
use Rattle.certs.specs.Combination.{IsCombination, IsFrom, KeepsBranch}
use Rattle.certs.specs.System.{LinearSystem, KeepsRows, SystemRow, VariableShare, empty_system_row, limit_on, no_limits, variable_limits}
use Rattle.certs.specs.Ended.{blocked_multiple, blocked_shares, numbers_from}
use Rattle.certs.specs.Named.{arranged, bound_of, is_above, is_below, is_member, member_of, named, node_uses, on_column, program_shares, row_side_of, stands_for, translated, used_members}
use Rattle.certs.specs.Plain.{column_limits, first_crossing, number_in, plain_row, plain_system, rows_in}
use Rattle.certs.specs.Solves.{BlocksWith, IsPlainCut}
use Rattle.certs.specs.Violation.{is_of}
use Rattle.certs.proofs.PlainCuts.{plain_cut}
use Rattle.certs.proofs.PlainForms.{plain_formed, row_form}
use Rattle.certs.proofs.Refuted.{combination_law}
use Rattle.certs.proofs.Translated.{length_mapped, mapped_at}
use Rattle.evidence_laws.specs.Cores.{CoreLaw, MeetsLimit, witness}
use Rattle.evidence_laws.proofs.CoresWitness.{All-flat_map, IsRowShare, side_for, row_shares, witness_law}
use Rattle.evidence_laws.proofs.LastTable.{tabulate, tabulated}
use Rattle.evidence_laws.proofs.Support.{holds_met, satisfiable_at}

-- ---- what holds of all shares holds of them arranged
all_arranged : (P : Share → Type 0) (n : ℕ) (list : List Share) → All P list → All P (arranged n list)
all_arranged P n list h =
    All-append P (filter (λ s. is_member s.source) list) (flat_map (on_column list) (numbers_from 0 n)) (All-filter (λ s. is_member s.source) P list h)
    (All-flat_map P (on_column list) (numbers_from 0 n)
    (λ k d l.
    let j : ℕ = get_or (numbers_from 0 n) k d in
    All-append P (filter (λ s. is_below j s.source) list) (filter (λ s. is_above j s.source) list) (All-filter (λ s. is_below j s.source) P list h) (All-filter (λ s. is_above j s.source) P list h)))

module _ (model : Program) (set : List Member) where
  abbrev system : LinearSystem
  system = plain_system model set [] false

  abbrev columns : ℕ
  columns = length model.columns

  columns_are : length system.columns ≡ columns
  columns_are = length_mapped (column_limits model set []) columns

  rows_are : length system.rows ≡ length (rows_in model set)
  rows_are = length-map (rows_in model set) (plain_row model set)

  -- ---- the member that a side of a variable is
  abbrev row_number : ℕ → ℕ
  row_number v = get_or (rows_in model set) (v - columns) 0

  abbrev member_at : ℕ → Side → Member
  member_at v side = cond (ltb v columns) (bound_of v side) (row_side_of (row_number v) side)

  source_is : (v : ℕ) (side : Side) → stands_for model set [] (Of (member_of columns v side)) ≡ Of (member_at v side)
  source_is v side = by (ltb v columns) side
    where
      by : (b : Bool) (side : Side) → stands_for model set [] (Of (cond b (bound_of v side) (row_side_of (v - columns) side))) ≡ Of (cond b (bound_of v side) (row_side_of (row_number v) side))
      by true Lo = refl
      by true Up = refl
      by false Lo = refl
      by false Up = refl

  -- ---- where values meet a limit exactly, the member holds
  module _ (x y : Assignment) (formed : IsWellFormed model) (keeps : KeepsRows system x) (same : (j : ℕ) → j < columns → y j ≡ x j) where
    number_there : (m : Member) (q : ℚ) → number_in model set m ≡ Some q → number model m ≡ Some q
    number_there m q e = by (has set m) e
      where
        none : ◌≡◌ {A = Option ℚ} None (Some q) → ⊥
        none e = cc

        by : (b : Bool) → cond b (number model m) None ≡ Some q → number model m ≡ Some q
        by true e = e
        by false e = absurd (none e)

    bound_holds : (v : ℕ) (side : Side) → v < columns → limit_on (variable_limits system v) side ≡ Some (x v) → Holds model y (bound_of v side)
    bound_holds v side l e =
        let limits : variable_limits system v ≡ column_limits model set [] v =
        cond-true (ltb v (length system.columns)) (get_or system.columns v no_limits) (get_or system.rows (v - length system.columns) empty_system_row).limits (lt-ltb v (length system.columns) (subst (λ n. v < n) (sym columns_are) l))
        ∙ mapped_at (column_limits model set []) columns v no_limits l in
        by side (sym (ap (λ z. limit_on z side) limits) ∙ e ∙ ap Some (sym (same v l)))
      where
        by : (side : Side) → limit_on (column_limits model set [] v) side ≡ Some (y v) → Holds model y (bound_of v side)
        by Lo e = holds_met model y (bound_of v Lo) (number_there (bound_of v Lo) (y v) e)
        by Up e = holds_met model y (bound_of v Up) (number_there (bound_of v Up) (y v) e)

    row_value_same : (i : ℕ) → form_value (row_at model i).terms x ≡ form_value (row_at model i).terms y
    row_value_same i =
        let terms : List Term = (row_at model i).terms in
        let known = (row_form model i formed).known in
        by_known columns terms x known
        ∙ sum_below-ext columns (λ j. factor_of terms j *ℚ x j) (λ j. factor_of terms j *ℚ y j) (λ j l. ap (λ z. factor_of terms j *ℚ z) (sym (same j l)))
        ∙ sym (by_known columns terms y known)

    row_holds : (v : ℕ) (side : Side) → columns ≤ v → v < columns + length (rows_in model set) → limit_on (variable_limits system v) side ≡ Some (x v) → Holds model y (row_side_of (row_number v) side)
    row_holds v side l h e =
        let k : ℕ = v - columns in
        let i : ℕ = row_number v in
        let n : ℕ = length system.columns in
        let below : k < length (rows_in model set) = omega arith in
        let row : get_or system.rows k empty_system_row ≡ plain_row model set i = get_or-map (plain_row model set) (rows_in model set) k 0 empty_system_row below in
        let limits : variable_limits system v ≡ (plain_row model set i).limits =
        cond-false (ltb v n) (get_or system.columns v no_limits) (get_or system.rows (v - n) empty_system_row).limits (le-ltb v n (subst (λ n. n ≤ v) (sym columns_are) l))
        ∙ ap (λ n. (get_or system.rows (v - n) empty_system_row).limits) columns_are
        ∙ ap (λ (r : SystemRow). r.limits) row in
        let value_is : x v ≡ form_value (row_at model i).terms y =
        ap x (let e : v ≡ columns + k = omega arith in e)
        ∙ ap (λ n. x (n + k)) (sym columns_are)
        ∙ keeps.rows k (subst (λ n. k < n) (sym rows_are) below)
        ∙ ap (λ (r : SystemRow). form_value r.terms x) row
        ∙ row_value_same i in
        by i side (sym (ap (λ z. limit_on z side) limits) ∙ e ∙ ap Some value_is)
      where
        by : (i : ℕ) (side : Side) → limit_on (plain_row model set i).limits side ≡ Some (form_value (row_at model i).terms y) → Holds model y (row_side_of i side)
        by i Lo e = holds_met model y (row_side_of i Lo) (number_there (row_side_of i Lo) (form_value (row_at model i).terms y) e)
        by i Up e = holds_met model y (row_side_of i Up) (number_there (row_side_of i Up) (form_value (row_at model i).terms y) e)

    member_holds : (u : VariableShare) → u.variable < length system.columns + length system.rows → MeetsLimit system x u → Holds model y (member_at u.variable u.side)
    member_holds u l e =
        elim (cases_lt u.variable columns) [
          | inl h ↦ subst (Holds model y) (sym (cond-true (ltb u.variable columns) _ _ (lt-ltb u.variable columns h))) (bound_holds u.variable u.side h e)
          | inr h ↦
              subst (Holds model y) (sym (cond-false (ltb u.variable columns) _ _ (le-ltb u.variable columns h)))
              (row_holds u.variable u.side h (subst (λ n. u.variable < columns + n) rows_are (subst (λ n. u.variable < n + length system.rows) columns_are l)) e)
        ]

  -- ---- the members that the shares name
  -- a share of a list that names the member
  record IsNamed (of : List VariableShare) (m : Member) : Type 0 where
    share : VariableShare
    listed : Contains of share
    is : m ≡ member_at share.variable share.side

  abbrev HasName : List VariableShare → Source → Type 0
  HasName of q = (m : Member) → is_of m q ≡ true → IsNamed of m

  name_of : (of : List VariableShare) (u : VariableShare) → Contains of u → HasName of (stands_for model set [] (Of (member_of columns u.variable u.side)))
  name_of of u h m e = record { share = u; listed = h; is = same_members m (member_at u.variable u.side) (ap (is_of m) (sym (source_is u.variable u.side)) ∙ e) }

  all_named : (of : List VariableShare) → All (λ (s : Share). HasName of s.source) (program_shares model set [] (map (named columns) of))
  all_named of =
      all_arranged (λ (s : Share). HasName of s.source) columns (map (translated model set []) (map (named columns) of))
      (All-map (λ (s : Share). HasName of s.source) (translated model set []) (map (named columns) of)
      (All-map (λ (s : Share). HasName of (translated model set [] s).source) (named columns) of (λ k d l. name_of of (get_or of k d) (Contains-get_or of k d l))))

  module _ (pivots : ℕ) (combo : Combo) (formed : IsWellFormed model) (order : IsInOrder set) (apart : first_crossing system ≡ None) (cut : IsPlainCut model set [] pivots combo.shares) where
    abbrev shares : List Share
    shares = combo.shares

    abbrev used : Member → Bool
    used m = list_any (node_uses m) (Leaf combo ∷ [])

    abbrev core : List Member
    core = used_members set (Leaf combo ∷ [])

    blocks : BlocksWith system pivots cut.of
    blocks = elim cut.given [ inl c ↦ absurd (never c.variable (sym apart ∙ c.crosses)) | inr b ↦ b ]
      where
        never : (v : ℕ) → ◌≡◌ {A = Option ℕ} None (Some v) → ⊥
        never v e = cc

    -- ---- no point satisfies them
    from_core : (k : ℕ) (d : Share) → k < length shares → (q : Source) → (get_or shares k d).source ≡ q → IsFrom set q → IsFrom core q
    from_core k d l (Of m) e c = Contains-filter used set m c (or_left (node_uses m (Leaf combo)) false (list_any_at (λ (s : Share). is_of m s.source) shares k d l (ap (is_of m) e ∙ same_self m)))
    from_core k d l (Below j) e c = tt
    from_core k d l (Above j) e c = tt

    combination : IsCombination model core [] shares
    combination =
        let whole : IsCombination model set [] shares = plain_cut model set [] pivots shares formed (All-nil (λ (b : Branch). b.column < columns)) cut in
        record {
          positive = whole.positive;
          there = λ k d l. record { from = from_core k d l (get_or shares k d).source refl (whole.there k d l).from; number = (whole.there k d l).number };
          cancels = whole.cancels;
          contradicts = whole.contradicts;
        }

    unsatisfiable : IsSatisfiable model core → ⊥
    unsatisfiable s = combination_law model core [] shares combination (coordinate s.point) s.satisfies (All-nil (KeepsBranch (coordinate s.point)))

    -- ---- without one of them some point does
    abbrev multiple : ℕ → ℚ
    multiple = blocked_multiple blocks.here.tableau blocks.variable blocks.side

    abbrev row : List VariableShare
    row = blocked_shares system blocks.here.tableau blocks.variable blocks.side

    name_in : (m : Member) → used m ≡ true → IsNamed row m
    name_in m e =
        let found : Any (λ (s : Share). is_of m s.source ≡ true) shares = Any-from_list_any (λ (s : Share). is_of m s.source) shares (elim (or_cases (node_uses m (Leaf combo)) false e) [ inl h ↦ h | inr h ↦ absurd (true≢false (sym h)) ]) in
        let all : All (λ (s : Share). HasName cut.of s.source) shares = subst (All (λ (s : Share). HasName cut.of s.source)) (sym cut.shares_are) (all_named cut.of) in
        subst (λ of. IsNamed of m) blocks.shares_are (All-contains (λ (s : Share). HasName cut.of s.source) shares found.1 all (found.0, found.2, found.3) m found.4)

    -- the values that meet all limits but that of one share
    module _ (s : VariableShare) (inside : Contains row s) where
      abbrev x : Assignment
      x = witness system blocks.here.tableau blocks.variable blocks.side s.variable

      given : List ℚ
      given = tabulate columns x

      side_of : (u : VariableShare) → Contains row u → IsRowShare multiple (length system.columns + length system.rows) u
      side_of u c = All-contains (IsRowShare multiple (length system.columns + length system.rows)) row u (row_shares system blocks.here.tableau blocks.variable blocks.side) c

      -- they satisfy each other member
      other_holds : (n : Member) → IsNamed row n → n ≢ member_at s.variable s.side → Holds model (values_at given) n
      unfolding given
      other_holds n name differ =
          let u : VariableShare = name.share in
          let kept = witness_law system blocks.here.tableau blocks.variable blocks.side s (plain_formed model set [] false formed apart) blocks.here.is_of blocks.blocked inside in
          let own = side_of s inside in
          let its = side_of u name.listed in
          let other : u.variable ≢ s.variable =
          λ e. differ (name.is ∙ ap (λ v. member_at v u.side) e ∙ ap (member_at s.variable) (its.side_is ∙ ap (λ v. side_for (multiple v)) e ∙ sym own.side_is)) in
          subst (Holds model (values_at given)) (sym name.is)
          (member_holds x (values_at given) formed kept.rows (tabulated columns x) u its.known
          (All-contains (λ (u : VariableShare). u.variable ≢ s.variable → MeetsLimit system x u) row u kept.limits name.listed other))

    satisfiable_without : (front : List Member) (m : Member) (back : List Member) → core ≡ front ++ m ∷ back → IsSatisfiable model (front ++ back)
    satisfiable_without front m back e =
        let others : Member → Bool = λ n. not (is_same n m) in
        let inside : Contains core m = subst (λ l. Contains l m) (sym e) (in_middle front m back) in
        let name : IsNamed row m = name_in m (All-contains (λ n. used n ≡ true) core m (filter_passes used set) inside) in
        let point : List ℚ = given name.share name.listed in
        let ordered : IsInOrder (front ++ m ∷ back) = subst IsInOrder e (AllPairs-filter (λ a b. IsTrue (comes_before a b)) used set order) in
        let rest : filter others core ≡ front ++ back = ap (filter others) e ∙ list_without front m back ordered in
        satisfiable_at model (front ++ back) point
        (subst (λ l. Satisfies model l (values_at point)) rest
        (λ k d l.
        let n : Member = get_or (filter others core) k d in
        let differs : n ≢ m = λ q. true≢false (sym (filter_passes others core k d l) ∙ ap others q ∙ ap not (same_self m)) in
        other_holds name.share name.listed n (name_in n (All-filter others (λ n. used n ≡ true) core (filter_passes used set) k d l))
        (λ q. differs (q ∙ sym name.is))))

pub core_law : CoreLaw
core_law model set pivots combo formed order apart cut = record {
  cannot = unsatisfiable model set pivots combo formed order apart cut;
  minimal = satisfiable_without model set pivots combo formed order apart cut;
}
