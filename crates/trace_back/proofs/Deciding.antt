-- What decides a reduction takes no limit twice.
use Rattle.std.proofs.Common.{◌≡◌, ◌+◌, ◌<◌, ◌&&◌, refl, subst, ℕ, zero, suc, Bool, true, false, cond, List, [], ◌∷◌, ◌++◌, map, length, Option, Some, None, get_or, arith}
use Rattle.std.specs.Prelude.{All, AllPairs, filter}
use Rattle.std.specs.Option.{option_or}
use Rattle.std.proofs.lemmas.List.Elements.{All-nil, All-cons, All-head, All-tail, All-append, All-filter, All-map, All-weaker}
use Rattle.std.proofs.lemmas.List.Kept.{AllPairs-cons, AllPairs-filter}
use Rattle.rational.specs.Rational.{ℚ, zero_ℚ, one_ℚ}
use Rattle.rational.specs.Linear.{Term}
use Rattle.lp_model.specs.Program.{IsForm}
use Rattle.lp_model.specs.declared.members.Side.{Side}
use Rattle.lp_model.specs.declared.members.Side.TheVariants.{Lo, Up}
use Rattle.lp_model.proofs.Sets.{pairs_head, pairs_tail}
use Rattle.certs.specs.Improves.{magnitude}
use Rattle.certs.specs.Plain.{crosses, crossing_shares}
use Rattle.certs.specs.System.{LinearSystem, SystemRow, VariableShare, empty_system_row}
use Rattle.certs.specs.Turns.{missed_side}
use Rattle.reductions.specs.declared.steps.Step.TheVariants.{Redundant}
use Rattle.reductions.specs.Limited.{opposite, is_side, turned, is_narrow}
use Rattle.reductions.specs.Stage.{Stage, row_in, limits_in, is_live}
use Rattle.reductions.specs.Rules.{Found, where_found, row_variable, share_on, empty_or_missed, empty_at, single_step, single_work, singleton_at, fixed_value, fixed_step, fixed_work, fixed_with, taken_shares, is_impossible, impossible_shares, is_kept, is_forcing, forcing_step, pair_step, pair_work, pair_with, doubleton_at}
use Rattle.reductions.specs.Rules.Found.{Goes, Decides}
use Rattle.reductions.specs.Reduction.{Rule, found_at, found_in_row, places, first_found, rules}
use Rattle.reductions.specs.Reduction.Rule.{CrossingLimits, EmptyRow, SingletonRow, FixedColumn, ImpossibleRow, RedundantRow, ForcingRow, DoubletonRow}
use Rattle.reductions.specs.Laws.{IsFormed}
use Rattle.trace_back.specs.Ends.{AreApart, AreOnce, DecidingOnceLaw}
use Rattle.trace_back.proofs.Once.{other_variable, other_side, none_twice, each_once, across}

-- ---- what is found
-- what decides takes no limit twice
abbrev IsOnce : Found → Type 0
IsOnce (Goes step) = Unit {0}
IsOnce (Decides shares) = AreOnce shares

-- where something is found
abbrev IsOnceFound : Option Found → Type 0
IsOnceFound None = Unit {0}
IsOnceFound (Some f) = IsOnce f

where_once : (b : Bool) (f : Found) → IsOnce f → IsOnceFound (where_found b f)
where_once true f h = h
where_once false f h = tt

or_once : (a b : Option Found) → IsOnceFound a → IsOnceFound b → IsOnceFound (option_or a b)
or_once None b h k = k
or_once (Some f) b h k = h

first_once : {A : Type 0} (seek : A → Option Found) → ((a : A) → IsOnceFound (seek a)) → (list : List A) → IsOnceFound (first_found seek list)
first_once seek each [] = tt
first_once seek each (a ∷ list) = or_once (seek a) (first_found seek list) (each a) (first_once seek each list)

-- ---- lists of shares
one_once : (s : VariableShare) → AreOnce (s ∷ [])
one_once s = AllPairs-cons AreApart s [] (All-nil (AreApart s)) none_twice

crossing_once : (v : ℕ) → AreOnce (crossing_shares v)
crossing_once v =
    let lower = share_on Lo v one_ℚ in
    let upper = share_on Up v one_ℚ in
    AllPairs-cons AreApart lower (upper ∷ []) (All-cons (AreApart lower) upper [] (other_side lower upper refl refl) (All-nil (AreApart lower))) (one_once upper)

-- those of terms, whose columns ascend
mapped_once : (side : Side) (terms : List Term) → AllPairs (λ (s t : Term). s.column < t.column) terms → AreOnce (map (λ (t : Term). share_on side t.column (magnitude t.factor)) terms)
mapped_once side [] h = none_twice
mapped_once side (t ∷ terms) h =
    let f = λ (t : Term). share_on side t.column (magnitude t.factor) in
    AllPairs-cons AreApart (f t) (map f terms)
    (All-map (AreApart (f t)) f terms
    (All-weaker (λ (u : Term). t.column < u.column) (λ (u : Term). AreApart (f t) (f u)) (λ u l. other_variable (f t) (f u) (λ e. less t.column u.column l e)) terms (pairs_head (λ (s t : Term). s.column < t.column) t terms h)))
    (mapped_once side terms (pairs_tail (λ (s t : Term). s.column < t.column) t terms h))
  where
    less : (v w : ℕ) → v < w → v ≡ w → ⊥
    less v w l e = omega arith

module _ (system : LinearSystem) (formed : IsFormed system) where
  abbrev n : ℕ
  n = length system.columns

  abbrev HasForm : SystemRow → Type 0
  HasForm r = IsForm n r.terms

  no_form : HasForm empty_system_row
  no_form = record { ascending = λ i j d l m. absurd (omega arith); known = λ k d l. absurd (omega arith); nonzero = λ k d l. absurd (omega arith) }

  form_in : (rows : List SystemRow) (i : ℕ) → All HasForm rows → HasForm (get_or rows i empty_system_row)
  form_in [] i h = no_form
  form_in (r ∷ rows) zero h = All-head HasForm r rows h
  form_in (r ∷ rows) (suc i) h = form_in rows i (All-tail HasForm r rows h)

  module _ (i : ℕ) where
    abbrev terms : List Term
    terms = (row_in system i).terms

    form : IsForm n (row_in system i).terms
    form = form_in system.rows i formed.rows

    impossible_once : (side : Side) → AreOnce (impossible_shares system i side)
    impossible_once side =
        let sum = opposite side in
        let row = share_on side (row_variable system i) one_ℚ in
        let on = λ (one : Side). filter (λ (t : Term). is_side one (turned t.factor sum)) terms in
        let lower = taken_shares sum terms Lo in
        let upper = taken_shares sum terms Up in
        let below = λ (one : Side). All-map (λ (s : VariableShare). s.variable < n) (λ (t : Term). share_on one t.column (magnitude t.factor)) (on one)
        (All-filter (λ (t : Term). is_side one (turned t.factor sum)) (λ (t : Term). t.column < n) terms form.known) in
        let once = λ (one : Side). mapped_once one (on one) (AllPairs-filter (λ (s t : Term). s.column < t.column) (λ (t : Term). is_side one (turned t.factor sum)) terms form.ascending) in
        let all_on = λ (one : Side). All-map (λ (s : VariableShare). s.side ≡ one) (λ (t : Term). share_on one t.column (magnitude t.factor)) (on one) (λ k d l. refl) in
        AllPairs-cons AreApart row (lower ++ upper)
        (All-weaker (λ (s : VariableShare). s.variable < n) (AreApart row) (λ s l. other_variable row s (λ e. past n i s.variable l e)) (lower ++ upper)
        (All-append (λ (s : VariableShare). s.variable < n) lower upper (below Lo) (below Up)))
        (each_once lower upper (once Lo) (once Up) (across (λ (s : VariableShare). s.side ≡ Lo) (λ (t : VariableShare). t.side ≡ Up) other_side lower upper (all_on Lo) (all_on Up)))
      where
        past : (n i v : ℕ) → v < n → n + i ≡ v → ⊥
        past n i v l e = omega arith

    -- ---- at a row
    empty_once : (list : List Term) → IsOnceFound (empty_at system i list)
    empty_once (t ∷ list) = tt
    empty_once [] = by (missed_side (row_in system i).limits zero_ℚ)
      where
        by : (o : Option Side) → IsOnce (empty_or_missed system i o)
        by None = tt
        by (Some side) = one_once (share_on side (row_variable system i) one_ℚ)

    single_once : (list : List Term) → IsOnceFound (singleton_at system i list)
    single_once [] = tt
    single_once (t ∷ []) = where_once (is_narrow (single_work (row_in system i).limits t.factor)) (Goes (single_step (limits_in system t.column) (row_in system i).limits i t)) tt
    single_once (t ∷ u ∷ list) = tt

    pair_once : (list : List Term) → IsOnceFound (doubleton_at system i list)
    pair_once [] = tt
    pair_once (s ∷ []) = tt
    pair_once (s ∷ t ∷ u ∷ list) = tt
    pair_once (s ∷ t ∷ []) = by (fixed_value (row_in system i).limits)
      where
        by : (o : Option ℚ) → IsOnceFound (pair_with system i s t o)
        by None = tt
        by (Some c) = where_once (is_narrow (pair_work system i s t c)) (Goes (pair_step system i s t c)) tt

    either_once : (a b : Bool) (f g : Found) → IsOnce f → IsOnce g → IsOnceFound (cond a (Some f) (where_found b g))
    either_once true b f g h k = h
    either_once false b f g h k = where_once b g k

    row_once : (rule : Rule) → IsOnceFound (found_in_row rule system i)
    row_once CrossingLimits = tt
    row_once EmptyRow = empty_once terms
    row_once SingletonRow = single_once terms
    row_once FixedColumn = tt
    row_once ImpossibleRow =
        either_once (is_impossible system i Up) (is_impossible system i Lo) (Decides (impossible_shares system i Up)) (Decides (impossible_shares system i Lo)) (impossible_once Up) (impossible_once Lo)
    row_once RedundantRow = where_once (is_kept system i Lo && is_kept system i Up) (Goes (Redundant i)) tt
    row_once ForcingRow = either_once (is_forcing system i Up) (is_forcing system i Lo) (Goes (forcing_step system i Up)) (Goes (forcing_step system i Lo)) tt tt
    row_once DoubletonRow = pair_once terms

-- ---- at any place
module _ (stage : Stage) (formed : IsFormed stage.system) where
  live_once : (rule : Rule) (i : ℕ) (b : Bool) → IsOnceFound (cond b (found_in_row rule stage.system i) None)
  live_once rule i true = row_once stage.system formed i rule
  live_once rule i false = tt

  fixed_once : (j : ℕ) (o : Option ℚ) → IsOnceFound (fixed_with stage.system j o)
  fixed_once j None = tt
  fixed_once j (Some q) = where_once (is_narrow (fixed_work stage.system j q)) (Goes (fixed_step stage.system j q)) tt

  found_once : (rule : Rule) (i : ℕ) → IsOnceFound (found_at rule stage i)
  found_once CrossingLimits v = where_once (crosses stage.system v) (Decides (crossing_shares v)) (crossing_once v)
  found_once FixedColumn j = fixed_once j (fixed_value (limits_in stage.system j))
  found_once EmptyRow i = live_once EmptyRow i (is_live stage i)
  found_once SingletonRow i = live_once SingletonRow i (is_live stage i)
  found_once ImpossibleRow i = live_once ImpossibleRow i (is_live stage i)
  found_once RedundantRow i = live_once RedundantRow i (is_live stage i)
  found_once ForcingRow i = live_once ForcingRow i (is_live stage i)
  found_once DoubletonRow i = live_once DoubletonRow i (is_live stage i)

  next_once : IsOnceFound (first_found (λ rule. first_found (found_at rule stage) (places rule stage.system)) rules)
  next_once = first_once (λ rule. first_found (found_at rule stage) (places rule stage.system)) (λ rule. first_once (found_at rule stage) (found_once rule) (places rule stage.system)) rules

pub deciding_once : DecidingOnceLaw
deciding_once stage shares formed decided = subst IsOnceFound decided (next_once stage formed)
