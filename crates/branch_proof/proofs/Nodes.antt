-- What the check of one node says.
use Rattle.std.proofs.Common.{◌≡◌, ◌<◌, ℕ, refl, sym, Bool, true, false, cond, List, [], ◌∷◌, length, Option, None, Some}
use Rattle.std.specs.Prelude.{All}
use Rattle.std.proofs.lemmas.Bool.{and_parts, and_from}
use Rattle.std.proofs.lemmas.List.Elements.{All-head, All-tail, All-nil, All-cons}
use Rattle.lp_model.specs.declared.members.Member.{Member}
use Rattle.lp_model.specs.declared.members.Member.TheVariants.{Whole}
use Rattle.lp_model.specs.Program.{Program}
use Rattle.lp_model.specs.Members.{exists, has}
use Rattle.lp_model.proofs.Sets.{contains_of_has, has_of_contains, whole_there}
use Rattle.frac128.specs.Limit.{limit}
use Rattle.frac128.specs.Width.{is_wide}
use Rattle.frac128.specs.declared.Wide.{Wide as Operation}
use Rattle.frac128.specs.Calculation.{first_wide}
use Rattle.frac128.proofs.Firsts.{none_for, narrow_for}
use Rattle.certs.specs.declared.evidence.Branch.{Branch}
use Rattle.certs.specs.declared.evidence.Checked.{Checked}
use Rattle.certs.specs.declared.evidence.Checked.TheVariants.{Yes as Passes, No as Fails, Wide as TooWide}
use Rattle.certs.specs.declared.evidence.Share.{Share}
use Rattle.certs.specs.Checks.{Step, unless_wide, outcome, combination_steps}
use Rattle.certs.specs.Combination.{IsCombination}
use Rattle.certs.specs.Proof.{IsMarked}
use Rattle.certs.proofs.Refused.{combination_no_law}
use Rattle.certs.specs.declared.evidence.Node.{Node}
use Rattle.certs.specs.declared.evidence.Node.TheVariants.{Split, Leaf}
use Rattle.certs.specs.Trees.{mark_test}
use Rattle.branch_proof.specs.Walk.{node_check}
use Rattle.branch_proof.specs.Pending.{IsKnown}
use Rattle.branch_proof.specs.Narrow.{AreNarrow}

-- ---- splits
pub split_yes : (b : Bool) → cond b Passes Fails ≡ Passes → b ≡ true
split_yes true e = refl
split_yes false e = cc

pub marked_by : (model : Program) (set : List Member) (j : ℕ) → mark_test model set j ≡ true → IsMarked model set j
marked_by model set j e =
    let both = and_parts (exists model (Whole j)) (has set (Whole j)) e in
    record { exists = both.0; in_set = contains_of_has set (Whole j) both.1 }

pub mark_passes : (model : Program) (set : List Member) (j : ℕ) → IsMarked model set j → mark_test model set j ≡ true
mark_passes model set j m = and_from (exists model (Whole j)) (has set (Whole j)) m.exists (has_of_contains set (Whole j) m.in_set)

-- a column with a mark is one of the program
pub mark_known : (model : Program) (set : List Member) (j : ℕ) → IsMarked model set j → j < length model.columns
mark_known model set j m = whole_there model.columns j m.exists

-- ---- leaves
-- no operation of the step is too wide
Fits : Step → Type 0
Fits s = All (λ o. is_wide limit o ≡ false) s.operations

step_yes : (o : Option Operation) (p : Bool) (r : Checked) → unless_wide o (cond p r Fails) ≡ Passes → (o ≡ None) × (r ≡ Passes)
step_yes None true r e = (refl, e)
step_yes None false r e = absurd (cc)
step_yes (Some o) p r e = absurd (cc)

-- where all steps pass, none is too wide
pub narrow_by : (steps : List Step) → outcome steps ≡ Passes → AreNarrow steps
unfolding Fits
narrow_by [] e = All-nil Fits
narrow_by (s ∷ steps) e =
    let both : (first_wide limit s.operations ≡ None) × (outcome steps ≡ Passes) = step_yes (first_wide limit s.operations) s.passes (outcome steps) e in
    All-cons Fits s steps (narrow_for limit s.operations both.0) (narrow_by steps both.1)

step_wide : (o : Option Operation) (p : Bool) (r : Checked) (w : Operation) → o ≡ None → (r ≡ TooWide w → ⊥) → unless_wide o (cond p r Fails) ≡ TooWide w → ⊥
step_wide None true r w n h e = h e
step_wide None false r w n h e = cc
step_wide (Some o) p r w n h e = cc

narrow_never : (steps : List Step) → AreNarrow steps → (w : Operation) → outcome steps ≡ TooWide w → ⊥
unfolding Fits
narrow_never [] h w e = cc
narrow_never (s ∷ steps) h w e =
    step_wide (first_wide limit s.operations) s.passes (outcome steps) w (none_for limit s.operations (All-head Fits s steps h)) (narrow_never steps (All-tail Fits s steps h) w) e

only_yes : (c : Checked) → (c ≡ Fails → ⊥) → ((w : Operation) → c ≡ TooWide w → ⊥) → c ≡ Passes
only_yes Passes n w = refl
only_yes Fails n w = absurd (n refl)
only_yes (TooWide o) n w = absurd (w o refl)

-- a combination of which no sum is too wide passes
pub leaf_passes : (model : Program) (set : List Member) (path : List Branch) (shares : List Share) → IsCombination model set path shares → AreNarrow (combination_steps model set path shares)
    → outcome (combination_steps model set path shares) ≡ Passes
leaf_passes model set path shares c h =
    only_yes (outcome (combination_steps model set path shares)) (combination_no_law limit model set path shares c) (narrow_never (combination_steps model set path shares) h)

-- a split that passes is on a column of the program
pub passes_known : (model : Program) (set : List Member) (path : List Branch) (node : Node) → Passes ≡ node_check model set path node → IsKnown (length model.columns) node
passes_known model set path (Split j k) e = mark_known model set j (marked_by model set j (split_yes (mark_test model set j) (sym e)))
passes_known model set path (Leaf combo) e = tt
