-- Parts of the work of an improve turn, put together.
use Rattle.std.proofs.Common.{◌≡◌, refl, sym, ◌∙◌, ap, ℕ, Bool, true, false, cond, List, [], ◌∷◌, ◌++◌, Option, Some, None, Result, Ok, Err, flat_map}
use Rattle.std.specs.Prelude.{MatchResult, option_to_list}
use Rattle.algebra.proofs.Ring.{x0, minus, zero_of}
use Rattle.rational.specs.Rational.{ℚ, ◌/ℚ◌, neg_ℚ, zero_ℚ, lt_q}
use Rattle.rational.proofs.Field.{ring_ℚ}
use Rattle.frac128.specs.declared.Op.TheVariants.{Over}
use Rattle.frac128.specs.declared.Wide.{Wide as Operation}
use Rattle.frac128.specs.Calculation.{Calculation, first_wide}
use Rattle.frac128.proofs.Calculations.{first_wide-past}
use Rattle.lp_model.specs.declared.members.Side.TheVariants.{Lo, Up}
use Rattle.certs.specs.System.{is_basic}
use Rattle.certs.specs.Tableau.{Tableau}
use Rattle.certs.specs.Turns.{counted, limited_basics, operations_of, value_operations}
use Rattle.certs.specs.Improves.{Block, improve_choice, improve_values, improvement_for, improving, magnitude, nearest, reach_operations}
use Rattle.dictionary.specs.Layouts.{side_of}
use Rattle.simplex.specs.declared.improve_choices.Choice.{Choice}
use Rattle.simplex.specs.ImproveChosen.{choice_named}

-- the operations of a basic variable are those of its value
pub value_work : (m : ℕ) (t : Tableau) (v : ℕ) → is_basic t.basis v ≡ true → (o : Option Operation) → first_wide m (operations_of t v) ≡ o → first_wide m (value_operations t v) ≡ o
value_work m t v b o e = ap (λ z. first_wide m (cond z (value_operations t v) [])) (sym b) ∙ e

-- what one block, or none, is as a list
one_is : (o : Option Block) → o ≡ nearest (option_to_list o)
one_is None = refl
one_is (Some b) = refl

pub as_nearest : (o : Option Block) (list : List Block) → option_to_list o ≡ list → o ≡ nearest list
as_nearest o list e = one_is o ∙ ap nearest e

-- the side to which what rises goes
pub side_risen : (b : Bool) → side_of b ≡ cond b Up Lo
side_risen true = refl
side_risen false = refl

-- the values are looked at, and then what comes of the variable that moves
module _ (m : ℕ) (t : Tableau) (moves : Option ℕ) (is : improving t ≡ moves) (narrow : first_wide m (flat_map (value_operations t) (limited_basics t)) ≡ None) where
  pub whole_work : (o : Option Operation) → first_wide m (reach_operations t moves) ≡ o → first_wide m (improve_values t) ≡ o
  whole_work o e = first_wide-past m (flat_map (value_operations t) (limited_basics t)) (reach_operations t (improving t)) narrow ∙ ap (λ z. first_wide m (reach_operations t z)) is ∙ e

  pub whole_choice : (result : Result Choice Operation)
      → MatchResult result (λ c. (first_wide m (reach_operations t moves) ≡ None) × (choice_named c ≡ improvement_for t moves)) (λ w. first_wide m (reach_operations t moves) ≡ Some w)
      → MatchResult result (λ c. (first_wide m (improve_values t) ≡ None) × (choice_named c ≡ improve_choice t)) (λ w. first_wide m (improve_values t) ≡ Some w)
  whole_choice (Ok c) h = (whole_work None h.0, h.1 ∙ ap (improvement_for t) (sym is))
  whole_choice (Err w) h = whole_work (Some w) h

-- ---- a quotient
-- only 0 is without a magnitude
pub magnitude_none : (q : ℚ) → magnitude q ≡ zero_ℚ → q ≡ zero_ℚ
magnitude_none q e = by (lt_q q zero_ℚ) refl
  where
    by : (b : Bool) → lt_q q zero_ℚ ≡ b → q ≡ zero_ℚ
    by true l = ring_ℚ (q ∷ []) x0 (minus (minus x0)) tt ∙ ap neg_ℚ (sym (ap (λ b. cond b (neg_ℚ q) q) l) ∙ e) ∙ ring_ℚ [] (minus zero_of) zero_of tt
    by false l = sym (ap (λ b. cond b (neg_ℚ q) q) l) ∙ e

-- a quotient after operations that fit
pub over_done : {X : Type 0} (m : ℕ) (value : X → ℚ) (first : Calculation) (a b l g : ℚ) → l ≡ a → g ≡ b → first_wide m first ≡ None → (result : Result X Operation)
    → MatchResult result (λ r. (value r ≡ l /ℚ g) × (first_wide m (counted Over l g) ≡ None)) (λ w. first_wide m (counted Over l g) ≡ Some w)
    → MatchResult result (λ r. (value r ≡ a /ℚ b) × (first_wide m (first ++ counted Over a b) ≡ None)) (λ w. first_wide m (first ++ counted Over a b) ≡ Some w)
over_done m value first a b l g e f n (Ok r) h = (h.0 ∙ (λ i. e i /ℚ f i), first_wide-past m first (counted Over a b) n ∙ (λ i. first_wide m (counted Over (sym e i) (sym f i))) ∙ h.1)
over_done m value first a b l g e f n (Err w) h = first_wide-past m first (counted Over a b) n ∙ (λ i. first_wide m (counted Over (sym e i) (sym f i))) ∙ h
