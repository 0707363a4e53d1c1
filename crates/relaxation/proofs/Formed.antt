-- Where no limits cross, the elastic system of a set is well formed.
use Rattle.std.proofs.Common.{◌≢◌, ◌+◌, ◌-◌, ◌<◌, ◌≤◌, sym, ◌∙◌, ap, subst, ℕ, suc, not, List, [], ◌∷◌, ◌++◌, length, arith}
use Rattle.std.specs.Prelude.{All}
use Rattle.std.proofs.lemmas.List.Elements.{All-append, All-cons, All-filter, All-get_or, All-head, All-map, All-nil, All-tail, All-weaker}
use Rattle.std.proofs.lemmas.List.Kept.{AllPairs-cons}
use Rattle.algebra.proofs.Ring.{x0, minus, zero_of}
use Rattle.rational.specs.Rational.{ℚ, neg_ℚ, zero_ℚ, one_ℚ, ◌<ℚ◌}
use Rattle.rational.specs.Linear.{Term}
use Rattle.rational.proofs.Field.{ring_ℚ}
use Rattle.rational.proofs.Order.{lt_irrefl_ℚ}
use Rattle.lp_model.specs.declared.members.Member.{Member}
use Rattle.lp_model.specs.declared.members.Member.TheVariants.{RowLo, RowUp, Lower, Upper, Whole}
use Rattle.lp_model.specs.declared.members.Side.{Side}
use Rattle.lp_model.specs.declared.members.Side.TheVariants.{Lo, Up}
use Rattle.lp_model.specs.declared.parts.Weight.{Weight}
use Rattle.lp_model.specs.declared.parts.Weight.TheVariants.{Soft as Weighs, Rigid}
use Rattle.lp_model.specs.Program.{Program, IsForm, IsPositiveWeight, IsWellFormed, IsWellFormedColumn, IsWellFormedRow, empty_column, empty_row, row_at}
use Rattle.lp_model.specs.MemberSets.{IsMemberFor}
use Rattle.lp_model.specs.Members.{column_form, form, has, side, weight}
use Rattle.lp_model.proofs.New.{one_positive}
use Rattle.certs.specs.Alternative.{cost_of}
use Rattle.certs.specs.Elastic.{cost_terms, elastic_factor, numbered_soft, soft_members}
use Rattle.certs.specs.System.{SystemRow}
use Rattle.certs.proofs.PlainForms.{ordered_all, row_form}
use Rattle.relaxation.specs.declared.systems.Costs.{Costs}
use Rattle.relaxation.specs.declared.systems.Costs.TheVariants.{Ones, Weights}
use Rattle.relaxation.specs.Costs.{cost_by, system_by}
use Rattle.relaxation.specs.Laws.{FormedLaw, IsElastic}
use Rattle.relaxation.specs.Origins.{origin_row, origins}
use Rattle.relaxation.specs.declared.origins.Origin.{Origin}
use Rattle.relaxation.proofs.Joined.{no_pairs, one_pair, pairs_append}
use Rattle.relaxation.proofs.Listed.{origins_all}
use Rattle.relaxation.proofs.Rows.{length_columns, rows_are}
use Rattle.relaxation.proofs.Soft.{IsNumbered, all_have_numbers, numbered}

-- ---- numbers that are not 0
positive_some : (q : ℚ) → zero_ℚ <ℚ q → q ≢ zero_ℚ
positive_some q h e = lt_irrefl_ℚ (subst (λ z. zero_ℚ <ℚ z) e h)

negative_some : (q : ℚ) → zero_ℚ <ℚ q → neg_ℚ q ≢ zero_ℚ
negative_some q h e = positive_some q h (ring_ℚ (q ∷ []) x0 (minus (minus x0)) tt ∙ ap neg_ℚ e ∙ ring_ℚ [] (minus zero_of) zero_of tt)

factor_some : (side : Side) → elastic_factor side ≢ zero_ℚ
factor_some Lo = positive_some one_ℚ one_positive
factor_some Up = negative_some one_ℚ one_positive

weight_positive : (w : Weight) → IsPositiveWeight w → zero_ℚ <ℚ cost_of w
weight_positive (Weighs w) h = h
weight_positive Rigid h = one_positive

pub member_positive : (model : Program) (m : Member) → IsWellFormed model → IsMemberFor (length model.rows) (length model.columns) m → zero_ℚ <ℚ cost_of (weight model m)
member_positive model (RowLo i) formed l = weight_positive (weight model (RowLo i)) (All-get_or (IsWellFormedRow (length model.columns)) model.rows i empty_row l formed.rows).lower_weight
member_positive model (RowUp i) formed l = weight_positive (weight model (RowUp i)) (All-get_or (IsWellFormedRow (length model.columns)) model.rows i empty_row l formed.rows).upper_weight
member_positive model (Lower j) formed l = weight_positive (weight model (Lower j)) (All-get_or IsWellFormedColumn model.columns j empty_column l formed.columns).lower_weight
member_positive model (Upper j) formed l = weight_positive (weight model (Upper j)) (All-get_or IsWellFormedColumn model.columns j empty_column l formed.columns).upper_weight
member_positive model (Whole j) formed l = one_positive

cost_positive : (model : Program) (costs : Costs) (m : Member) → IsWellFormed model → IsMemberFor (length model.rows) (length model.columns) m → zero_ℚ <ℚ cost_by model costs m
cost_positive model Ones m formed l = one_positive
cost_positive model Weights m formed l = member_positive model m formed l

-- ---- forms
abbrev Ascending : Term → Term → Type 0
Ascending s t = s.column < t.column

one_column : (n j : ℕ) → j < n → IsForm n (column_form j)
one_column n j l = record {
  ascending = one_pair Ascending (record { column = j; factor = one_ℚ });
  known = All-cons (λ (t : Term). t.column < n) (record { column = j; factor = one_ℚ }) [] l (All-nil (λ (t : Term). t.column < n));
  nonzero = All-cons (λ (t : Term). t.factor ≢ zero_ℚ) (record { column = j; factor = one_ℚ }) [] (positive_some one_ℚ one_positive) (All-nil (λ (t : Term). t.factor ≢ zero_ℚ));
}

pub member_form : (model : Program) (m : Member) → IsWellFormed model → IsMemberFor (length model.rows) (length model.columns) m → IsForm (length model.columns) (form model m)
member_form model (RowLo i) formed l = row_form model i formed
member_form model (RowUp i) formed l = row_form model i formed
member_form model (Lower j) formed l = one_column (length model.columns) j l
member_form model (Upper j) formed l = one_column (length model.columns) j l
member_form model (Whole j) formed l = one_column (length model.columns) j l

known_wider : (n k : ℕ) (terms : List Term) → n ≤ k → All (λ (t : Term). t.column < n) terms → All (λ (t : Term). t.column < k) terms
known_wider n k terms l h = All-weaker (λ (t : Term). t.column < n) (λ (t : Term). t.column < k) (λ t m. omega arith) terms h

wider : (n k : ℕ) (terms : List Term) → n ≤ k → IsForm n terms → IsForm k terms
wider n k terms l h = record { ascending = h.ascending; known = known_wider n k terms l h.known; nonzero = h.nonzero }

-- one variable more, past all columns
with_variable : (n k : ℕ) (terms : List Term) (t : Term) → n ≤ t.column → t.column < k → t.factor ≢ zero_ℚ → IsForm n terms → IsForm k (terms ++ t ∷ [])
with_variable n k terms t first last some h = record {
  ascending = pairs_append Ascending terms (t ∷ []) h.ascending (one_pair Ascending t)
      (All-weaker (λ (s : Term). s.column < n) (λ (s : Term). All (Ascending s) (t ∷ [])) (λ s l. All-cons (Ascending s) t [] (omega (arith, l, first)) (All-nil (Ascending s))) terms h.known);
  known = All-append (λ (s : Term). s.column < k) terms (t ∷ []) (known_wider n k terms (omega (arith, first, last)) h.known) (All-cons (λ (s : Term). s.column < k) t [] last (All-nil (λ (s : Term). s.column < k)));
  nonzero = All-append (λ (s : Term). s.factor ≢ zero_ℚ) terms (t ∷ []) h.nonzero (All-cons (λ (s : Term). s.factor ≢ zero_ℚ) t [] some (All-nil (λ (s : Term). s.factor ≢ zero_ℚ)));
}

-- ---- the objective
costs_form : (cost : Member → ℚ) (k n : ℕ) (list : List Member) → k + length list ≤ n → All (λ m. zero_ℚ <ℚ cost m) list
    → IsForm n (cost_terms cost k list) × All (λ (t : Term). k ≤ t.column) (cost_terms cost k list)
costs_form cost k n [] l h =
    (record { ascending = no_pairs Ascending; known = All-nil (λ (t : Term). t.column < n); nonzero = All-nil (λ (t : Term). t.factor ≢ zero_ℚ) }, All-nil (λ (t : Term). k ≤ t.column))
costs_form cost k n (m ∷ list) l h =
    let rest = costs_form cost (suc k) n list (omega (arith, l)) (All-tail (λ m. zero_ℚ <ℚ cost m) m list h) in
    let t : Term = record { column = k; factor = neg_ℚ (cost m) } in
    let terms : List Term = cost_terms cost (suc k) list in (
      record {
        ascending = AllPairs-cons Ascending t terms (All-weaker (λ (s : Term). suc k ≤ s.column) (Ascending t) (λ s g. omega (arith, g)) terms rest.1) rest.0.ascending;
        known = All-cons (λ (s : Term). s.column < n) t terms (omega (arith, l)) rest.0.known;
        nonzero = All-cons (λ (s : Term). s.factor ≢ zero_ℚ) t terms (negative_some (cost m) (All-head (λ m. zero_ℚ <ℚ cost m) m list h)) rest.0.nonzero;
      },
      All-cons (λ (s : Term). k ≤ s.column) t terms (omega arith) (All-weaker (λ (s : Term). suc k ≤ s.column) (λ (s : Term). k ≤ s.column) (λ s g. omega (arith, g)) terms rest.1),
    )

-- ---- the system
module _ (model : Program) (set enforced : List Member) (costs : Costs) (formed : IsWellFormed model) (elastic : IsElastic model set enforced) where
  abbrev n : ℕ
  n = length model.columns

  abbrev softs : List Member
  softs = soft_members set enforced

  abbrev IsKnown : Member → Type 0
  IsKnown m = IsMemberFor (length model.rows) n m

  softs_known : All IsKnown softs
  softs_known = All-filter (λ m. not (has enforced m)) IsKnown set elastic.known

  -- each soft member is one of the program
  pub known_one : (e : ℕ × Member) → IsNumbered n softs e → IsKnown e.1
  known_one e h = subst IsKnown (h.member e.1) (softs_known h.index e.1 h.below)

  origin_form : All (λ (o : Origin). IsForm (n + length softs) (origin_row model enforced o).terms) (origins model set enforced)
  unfolding numbered
  origin_form =
      origins_all model enforced (λ (o : Origin). IsForm (n + length softs) (origin_row model enforced o).terms) (IsNumbered n softs)
      (λ i l e. wider n (n + length softs) (row_at model i).terms (omega arith) (row_form model i formed))
      (λ e some h.
      let first = h.number in
      let last = h.below in
      with_variable n (n + length softs) (form model e.1) (record { column = e.0; factor = elastic_factor (side e.1) }) (omega (arith, first)) (omega (arith, first, last)) (factor_some (side e.1))
      (member_form model e.1 formed (known_one e h)))
      (numbered_soft n set enforced) (all_have_numbers n softs)

  system_rows : All (λ (r : SystemRow). IsForm (length (system_by model set enforced costs).columns) r.terms) (system_by model set enforced costs).rows
  system_rows =
      subst (λ k. All (λ (r : SystemRow). IsForm k r.terms) (system_by model set enforced costs).rows) (sym (length_columns model set enforced (cost_by model costs)))
      (subst (All (λ (r : SystemRow). IsForm (n + length softs) r.terms)) (rows_are model set enforced (cost_by model costs))
      (All-map (λ (r : SystemRow). IsForm (n + length softs) r.terms) (origin_row model enforced) (origins model set enforced) origin_form))

  system_objective : IsForm (length (system_by model set enforced costs).columns) (cost_terms (cost_by model costs) n softs)
  system_objective =
      subst (λ k. IsForm k (cost_terms (cost_by model costs) n softs)) (sym (length_columns model set enforced (cost_by model costs)))
      (costs_form (cost_by model costs) n (n + length softs) softs (omega arith)
      (All-weaker IsKnown (λ m. zero_ℚ <ℚ cost_by model costs m) (λ m l. cost_positive model costs m formed l) softs softs_known)).0

pub formed_law : FormedLaw
formed_law model set enforced costs formed elastic apart = record {
  rows = system_rows model set enforced costs formed elastic;
  objective = system_objective model set enforced costs formed elastic;
  ordered = ordered_all (system_by model set enforced costs) apart;
}
