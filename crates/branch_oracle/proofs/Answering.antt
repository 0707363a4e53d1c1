-- What an oracle by trees answers, by what its tree gives or its inner oracle answers.
use Rattle.std.proofs.Common.{◌≡◌, ℕ, refl, sym, ◌∙◌, subst, ap, Bool, true, false, not, cond, List, [], ◌∷◌, filter, Ok, Err, inl, inr}
use Rattle.std.specs.Prelude.{IfOk, Result, ◌⊎◌}
use Rattle.std.specs.List.{list_any}
use Rattle.std.proofs.lemmas.Bool.{or_parts}
use Rattle.lp_model.specs.declared.members.Member.{Member}
use Rattle.lp_model.specs.Members.{has, is_mark}
use Rattle.lp_model.specs.MemberSets.{SetValue, possible_in}
use Rattle.lp_model.specs.Program.{IsWellFormed}
use Rattle.certs.specs.declared.solving.Stop.{Stop}
use Rattle.certs.specs.declared.solving.Stop.TheVariants.{Memory}
use Rattle.certs.specs.declared.solving.Verdict.{Verdict}
use Rattle.certs.specs.Answers.{IsTreeAnswer, IsTreeVerdict}
use Rattle.certs.specs.Bound.{without_marks}
use Rattle.certs.specs.Checks.{IsSetOf}
use Rattle.certs.specs.Sites.{Budgets}
use Rattle.certs.specs.Tales.{IsKnownVerdict, IsVerdict, OracleState, asked_after}
use Rattle.certs.specs.Trees.{has_mark}
use Rattle.certs.proofs.Possible.{known_verdict, members_for_model}
use Rattle.branch_proof.proofs.TreeAnswers.{tree_holds}
use Rattle.branch_oracle.specs.Answers.{IsBranchAnswer, Relation}

-- a set without marks is itself without its marks
pub no_marks : (set : List Member) → has_mark set ≡ false → without_marks set ≡ set
no_marks [] e = refl
no_marks (m ∷ set) e =
    let both = or_parts (is_mark m) (list_any is_mark set) e in
    ap (λ (b : Bool). cond (not b) (m ∷ without_marks set) (without_marks set)) both.0 ∙ ap (λ (l : List Member). m ∷ l) (no_marks set both.1)

module _ (answers : Relation) (before after : OracleState) (set : SetValue) (nodes : ℕ) (answer : Result Verdict Stop) where
  abbrev pub budgets : Budgets
  budgets = record { pivots = before.budgets.pivots; nodes = nodes }

  -- the answer is that of the tree, or of the inner oracle
  pub record IsMade : Type 0 where
    pub formed : IsWellFormed before.model
    pub same : IsSetOf before.model set
    pub possible : set.members ≡ filter (has set.members) (possible_in set)
    pub marked : has_mark set.members ≡ true → IsTreeVerdict before.model budgets set.members answer × (after ≡ before)
    pub plain : has_mark set.members ≡ false → answers before.model before.budgets set.members answer × (after ≡ asked_after before set.members answer)

  module _ (made : IsMade) where
    tree_answer : has_mark set.members ≡ true → IsTreeAnswer before.model budgets set.members answer
    tree_answer e = record {
      asked = record { formed = made.formed; known = members_for_model before.model set made.same made.possible; marked = e };
      ends = (made.marked e).0;
    }

    -- told it is so too, or there is want of memory
    pub marked_answer : (result : Result Verdict Stop) → (result ≡ answer) ⊎ (result ≡ Err Memory) → has_mark set.members ≡ true → IsTreeAnswer before.model budgets set.members result
    marked_answer result (inl e) h = subst (IsTreeAnswer before.model budgets set.members) (sym e) (tree_answer h)
    marked_answer result (inr e) h = record { asked = (tree_answer h).asked; ends = subst (IsTreeVerdict before.model budgets set.members) (sym e) tt }

    pub told_answer : (result : Result Verdict Stop) → (result ≡ answer) ⊎ (result ≡ Err Memory) → IsBranchAnswer answers before.model budgets set.members result
    told_answer result given = by (has_mark set.members) refl
      where
        by : (b : Bool) → has_mark set.members ≡ b → IsBranchAnswer answers before.model budgets set.members result
        by true e = inr (marked_answer result given e)
        by false e = inl (record { linear = ap not e; nodes = before.budgets.nodes; answer = answer; answered = (made.plain e).0; given = given })

-- its proofs name members that the set may have
pub known_answer : (answers : Relation) (before after : OracleState) (set : SetValue) (nodes : ℕ) (answer : Result Verdict Stop) → IsMade answers before after set nodes answer
    → ((verdict : Verdict) → answers before.model before.budgets set.members (Ok verdict) → IsVerdict before.model set.members verdict) → IfOk answer (IsKnownVerdict set)
known_answer answers before after set nodes (Err stop) made holds = tt
known_answer answers before after set nodes (Ok verdict) made holds = known_verdict before.model set verdict made.possible (by (has_mark set.members) refl)
  where
    by : (b : Bool) → has_mark set.members ≡ b → IsVerdict before.model set.members verdict
    by true e = tree_holds before.model (budgets answers before after set nodes (Ok verdict)) set.members verdict (tree_answer answers before after set nodes (Ok verdict) made e)
    by false e = holds verdict (made.plain e).0
