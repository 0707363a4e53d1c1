-- What a run gives at its end is fixed: the values of the columns, and the shares of the variable that nothing helps.
use Rattle.std.proofs.Common.{◌≡◌, ◌+◌, ◌<◌, ◌≤◌, ◌==◌, ℕ, suc, refl, sym, ◌∙◌, ap, subst, Bool, true, false, cond, List, [], ◌∷◌, ◌++◌, map, length, get_or, filter, not, Option, Some, arith, inl, inr}
use Rattle.std.specs.Prelude.{All, ◌⊎◌}
use Rattle.std.proofs.lemmas.Option.{none-some}
use Rattle.std.proofs.lemmas.List.Elements.{All-from_get_or, All-head, All-tail}
use Rattle.rational.specs.Rational.{ℚ, ◌*ℚ◌, neg_ℚ, one_ℚ, zero_ℚ}
use Rattle.frac128.specs.Limit.{limit}
use Rattle.lp_model.specs.declared.members.Member.{Member}
use Rattle.lp_model.specs.declared.members.Side.{Side}
use Rattle.lp_model.specs.Program.{Program}
use Rattle.lp_model.specs.Satisfaction.{values_at}
use Rattle.certs.specs.declared.evidence.Branch.{Branch}
use Rattle.certs.specs.declared.evidence.Share.{Share}
use Rattle.certs.specs.Combination.{signed}
use Rattle.certs.specs.Ended.{blocked_multiple, blocked_shares, is_upper, numbers_from, share_for, shares_for}
use Rattle.certs.specs.Named.{named, program_shares}
use Rattle.certs.specs.Plain.{crossing_shares, plain_system}
use Rattle.certs.specs.Runs.{End, TableauAt}
use Rattle.certs.specs.Runs.End.{Feasible, Infeasible, TooWide, Spent}
use Rattle.certs.specs.Solves.{BlocksWith, CrossesWith, IsPlainCut, SettlesAt, StartRun}
use Rattle.certs.specs.System.{LinearSystem, Place, VariableShare, is_basic}
use Rattle.certs.specs.Tableau.{Tableau, basic_value, place_value, start_basis, value_of}
use Rattle.certs.specs.Turns.{Choice, is_outside, limited, limited_basics, settle_choice}
use Rattle.certs.specs.Turns.Choice.{Settled, Blocked, Exchange}
use Rattle.certs.proofs.Agreement.{Agrees, agreed_choice}
use Rattle.certs.proofs.Choices.{below_all, blocked_parts, found_is}
use Rattle.certs.proofs.RunEnds.{one_end_law}
use Rattle.certs.proofs.Tableaus.{sum_nonbasic, table_law}
use Rattle.certs.proofs.Translated.{length_numbers, number_at}

-- ---- lists
-- values are a list by their number and each of them
lists_same : (xs ys : List ℚ) → length xs ≡ length ys → ((j : ℕ) → j < length xs → values_at xs j ≡ values_at ys j) → xs ≡ ys
lists_same [] [] e h = refl
lists_same [] (y ∷ ys) e h = absurd (omega (arith, e))
lists_same (x ∷ xs) [] e h = absurd (omega (arith, e))
lists_same (x ∷ xs) (y ∷ ys) e h = ap (λ (v : ℚ). v ∷ xs) (h 0 (omega arith)) ∙ ap (λ (l : List ℚ). y ∷ l) (lists_same xs ys (omega (arith, e)) (λ j l. h (suc j) (omega (arith, l))))

numbers_under : (a n m : ℕ) → a + n ≤ m → All (λ v. v < m) (numbers_from a n)
numbers_under a n m l =
    All-from_get_or (λ v. v < m) (numbers_from a n) 0
    (λ i h. let within : i < n = subst (λ k. i < k) (length_numbers a n) h in subst (λ v. v < m) (sym (number_at a n i 0 within)) (omega arith))

shares_same : (c d : ℕ → ℚ) (list : List ℕ) → All (λ v. c v ≡ d v) list → shares_for c list ≡ shares_for d list
shares_same c d [] h = refl
shares_same c d (v ∷ list) h =
    ap (λ (q : ℚ). share_for v q ++ shares_for c list) (All-head (λ w. c w ≡ d w) v list h)
    ∙ ap (λ (l : List VariableShare). share_for v (d v) ++ l) (shares_same c d list (All-tail (λ w. c w ≡ d w) v list h))

-- ---- tableaus of a system at one basis
agree_at : (system : LinearSystem) (basis other : List Place) → basis ≡ other → (a : TableauAt system basis) (b : TableauAt system other) → Agrees a.tableau b.tableau
agree_at system basis other e a b = record {
  limits = a.is_of.limits ∙ sym b.is_of.limits;
  objective = a.is_of.objective ∙ sym b.is_of.objective;
  basis = a.at ∙ e ∙ sym b.at;
  factor = table_law system a.tableau b.tableau a.is_of b.is_of (a.at ∙ e ∙ sym b.at);
}

module _ (t u : Tableau) (agrees : Agrees t u) where
  moved : record t { factor = u.factor } ≡ u
  moved =
      ap (λ l. record t { limits = l; factor = u.factor }) agrees.limits
      ∙ ap (λ o. record t { limits = u.limits; objective = o; factor = u.factor }) agrees.objective
      ∙ ap (λ b. record u { basis = b }) agrees.basis

  value_same : (v : ℕ) → value_of t v ≡ value_of u v
  value_same v =
      by (is_basic t.basis v) refl ∙ ap (λ (w : Tableau). value_of w v) moved
    where
      own : Tableau
      own = record t { factor = u.factor }

      by : (b : Bool) → is_basic t.basis v ≡ b → cond (is_basic t.basis v) (basic_value t v) (place_value t v) ≡ cond (is_basic t.basis v) (basic_value (record t { factor = u.factor }) v) (place_value t v)
      by true e =
          ap (λ (q : ℚ). cond (is_basic t.basis v) q (place_value t v))
          (sum_nonbasic t.basis (λ k. t.factor v k *ℚ place_value t k) (λ k. u.factor v k *ℚ place_value t k) (λ k l n. ap (λ q. q *ℚ place_value t k) (agrees.factor v k e l n)))
      by false e =
          ap (λ (b : Bool). cond b (basic_value t v) (place_value t v)) e ∙ ap (λ (b : Bool). cond b (basic_value (record t { factor = u.factor }) v) (place_value t v)) (sym e)

  -- ---- a variable that nothing helps
  basic_blocked : (i : ℕ) (side : Side) → settle_choice t ≡ Blocked i side → is_basic t.basis i ≡ true
  basic_blocked i side e =
      let parts = blocked_parts t i side e in
      (found_is (is_outside t) (λ k. (k < limited t) × (is_basic t.basis k ≡ true)) (limited_basics t) i (below_all (is_basic t.basis) (limited t)) parts.first).0.1

  multiple_same : (i : ℕ) (side : Side) → settle_choice t ≡ Blocked i side → (v : ℕ) → v < length t.basis → blocked_multiple t i side v ≡ blocked_multiple u i side v
  multiple_same i side e v l =
      ap (λ (q : ℚ). signed side (cond (v == i) one_ℚ q)) (by (is_basic t.basis v) refl)
      ∙ ap (λ (b : List Place). signed side (cond (v == i) one_ℚ (cond (is_basic b v) zero_ℚ (neg_ℚ (u.factor i v))))) agrees.basis
    where
      by : (b : Bool) → is_basic t.basis v ≡ b → cond (is_basic t.basis v) zero_ℚ (neg_ℚ (t.factor i v)) ≡ cond (is_basic t.basis v) zero_ℚ (neg_ℚ (u.factor i v))
      by true f = ap (λ (b : Bool). cond b zero_ℚ (neg_ℚ (t.factor i v))) f ∙ ap (λ (b : Bool). cond b zero_ℚ (neg_ℚ (u.factor i v))) (sym f)
      by false f = ap (λ (q : ℚ). cond (is_basic t.basis v) zero_ℚ (neg_ℚ q)) (agrees.factor i v (basic_blocked i side e) l f)

  blocked_same : (system : LinearSystem) → length system.columns + length system.rows ≤ length t.basis → (i : ℕ) (side : Side) → settle_choice t ≡ Blocked i side → blocked_shares system t i side ≡ blocked_shares system u i side
  blocked_same system l i side e =
      let m : ℕ = length t.basis in
      let c : ℕ → ℚ = blocked_multiple t i side in
      let d : ℕ → ℚ = blocked_multiple u i side in
      let each : (list : List ℕ) → All (λ v. v < m) list → All (λ v. c v ≡ d v) list = λ list h k x b. multiple_same i side e (get_or list k x) (h k x b) in
      let rows : List ℕ = numbers_from (length system.columns) (length system.rows) in
      let columns : List ℕ = numbers_from 0 (length system.columns) in
      ap (λ (x : List VariableShare). x ++ (filter (λ s. not (is_upper s)) (shares_for c columns) ++ filter is_upper (shares_for c columns)))
      (shares_same c d rows (each rows (numbers_under (length system.columns) (length system.rows) m l)))
      ∙ ap (λ (y : List VariableShare). shares_for d rows ++ (filter (λ s. not (is_upper s)) y ++ filter is_upper y))
      (shares_same c d columns (each columns (numbers_under 0 (length system.columns) m (omega (arith, l)))))

-- ---- ends of runs
module _ (system : LinearSystem) (pivots : ℕ) where
  pub one_run : (end other : End) (last other_last : List Place) → StartRun system pivots end last → StartRun system pivots other other_last → (end ≡ other) × (last ≡ other_last)
  one_run end other last other_last a b =
      let r = one_end_law limit system (start_basis system) pivots 0 end other last other_last a.left b.left a.turns b.turns a.run b.run in
      (r.0, r.1)

  -- a run that settles has one list of values
  pub values_same : (values other : List ℚ) → SettlesAt system pivots values → SettlesAt system pivots other → values ≡ other
  values_same values other a b =
      let agrees = agree_at system a.last b.last (one_run Feasible Feasible a.last b.last a.run b.run).1 a.here b.here in
      lists_same values other (a.count ∙ sym b.count)
      (λ j l. let below : j < length system.columns = subst (λ n. j < n) a.count l in
      a.values_are j below ∙ value_same a.here.tableau b.here.tableau agrees j ∙ sym (b.values_are j below))

  infeasible_same : (v w : ℕ) → Infeasible v ≡ Infeasible w → v ≡ w
  infeasible_same v w e = ap variable e
    where
      variable : End → ℕ
      variable (Infeasible v) = v
      variable Feasible = 0
      variable (TooWide step operation) = 0
      variable Spent = 0

  side_same : (i j : ℕ) (a b : Side) → Blocked i a ≡ Blocked j b → a ≡ b
  side_same i j a b e = ap (side_of a) e
    where
      side_of : Side → Choice → Side
      side_of d (Blocked i s) = s
      side_of d Settled = d
      side_of d (Exchange i s k) = d

  few_shown : (basis : List Place) (a : TableauAt system basis) → length system.columns + length system.rows ≤ length a.tableau.basis
  few_shown basis a = let size = a.is_of.size in omega (arith, size)

  pub blocks_same : (of other : List VariableShare) → BlocksWith system pivots of → BlocksWith system pivots other → of ≡ other
  blocks_same of other a b =
      let same = one_run (Infeasible a.variable) (Infeasible b.variable) a.last b.last a.run b.run in
      let v = infeasible_same a.variable b.variable same.0 in
      let t : Tableau = a.here.tableau in
      let u : Tableau = b.here.tableau in
      let agrees = agree_at system a.last b.last same.1 a.here b.here in
      let side = side_same a.variable b.variable a.side b.side (sym a.blocked ∙ agreed_choice t u agrees ∙ b.blocked) in
      a.shares_are ∙ blocked_same t u agrees system (few_shown a.last a.here) a.variable a.side a.blocked
      ∙ ap (λ (i : ℕ). blocked_shares system u i a.side) v ∙ ap (λ (s : Side). blocked_shares system u b.variable s) side ∙ sym b.shares_are

  some_same : (v w : ℕ) → ◌≡◌ {A = Option ℕ} (Some v) (Some w) → v ≡ w
  some_same v w e = cc

  given_same : (of other : List VariableShare) → CrossesWith system of ⊎ BlocksWith system pivots of → CrossesWith system other ⊎ BlocksWith system pivots other → of ≡ other
  given_same of other (inl a) (inl b) = a.shares_are ∙ ap crossing_shares (some_same a.variable b.variable (sym a.crosses ∙ b.crosses)) ∙ sym b.shares_are
  given_same of other (inl a) (inr b) = absurd (none-some a.variable (sym b.run.apart ∙ a.crosses))
  given_same of other (inr a) (inl b) = absurd (none-some b.variable (sym a.run.apart ∙ b.crosses))
  given_same of other (inr a) (inr b) = blocks_same of other a b

-- a cut has one list of shares
pub cuts_same : (model : Program) (set : List Member) (path : List Branch) (pivots : ℕ) (shares other : List Share) → IsPlainCut model set path pivots shares → IsPlainCut model set path pivots other → shares ≡ other
cuts_same model set path pivots shares other a b =
    a.shares_are
    ∙ ap (λ (of : List VariableShare). program_shares model set path (map (named (length model.columns)) of)) (given_same (plain_system model set path false) pivots a.of b.of a.given b.given)
    ∙ sym b.shares_are
