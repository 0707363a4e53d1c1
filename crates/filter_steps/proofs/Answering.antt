-- What filters answer, and what they leave of an oracle.
use Rattle.std.proofs.Common.{◌≡◌, ◌≤◌, ◌+◌, ◌-◌, ◌^◌, ℕ, suc, nat_lt, Bool, cond, refl, sym, ◌∙◌, ap, subst, true, false, true≢false, List, [], ◌++◌, append-nil, arith, Ok, Err, inl, inr}
use Rattle.std.specs.Prelude.{Result, IfOk, IsTrue, ◌↔◌, ◌⊎◌}
use Rattle.lp_model.specs.declared.members.Member.{Member}
use Rattle.lp_model.specs.Program.{Program}
use Rattle.lp_model.specs.Satisfaction.{IsSatisfiable}
use Rattle.certs.specs.declared.evidence.Node.{Node}
use Rattle.certs.specs.declared.evidence.Point.{Point}
use Rattle.certs.specs.declared.evidence.Proof.{Proof}
use Rattle.certs.specs.declared.solving.Irreducible.{Irreducible}
use Rattle.certs.specs.declared.solving.Irreducible.TheVariants.{Set, Feasible as AtPoint}
use Rattle.certs.specs.declared.solving.Stop.{Stop}
use Rattle.certs.specs.declared.solving.Stop.TheVariants.{Memory}
use Rattle.certs.specs.declared.solving.Verdict.{Verdict}
use Rattle.certs.specs.declared.solving.Verdict.TheVariants.{Feasible, Infeasible}
use Rattle.certs.specs.Answers.{AnswersAt, IsAnsweredProof, IsAnsweredStop}
use Rattle.certs.specs.Sites.{Budgets}
use Rattle.certs.specs.Tales.{IsSiteWithin, IsVerdict, OracleState, asked_after, first_core_after, listed_stop, one_more}
use Rattle.certs.proofs.Refuted.{proof_law}
use Rattle.filter_steps.specs.Isolated.{IsIsolation, IsLeft, IsReduced, IsStoppedAt, is_feasible}
use Rattle.filter_steps.proofs.Reducing.{point_of_verdict, proof_of_verdict}
use Rattle.filter_steps.proofs.Witnessed.{satisfiable_by}

-- ---- what is left of an oracle
-- nothing was asked
pub left_as_it_was : (most : ℕ) (state : OracleState) → IsLeft most state state
left_as_it_was most state = record { asks = omega arith; few = omega arith; first_core = λ first e. e; model = refl; budgets = refl; serves = refl }

one_more_few : (n : ℕ) → (n ≤ one_more n) × (one_more n ≤ n + 1)
one_more_few n = by (nat_lt n (2 ^ 64 - 1))
  where
    by : (b : Bool) → (n ≤ cond b (n + 1) n) × (cond b (n + 1) n ≤ n + 1)
    by true = (omega arith, omega arith)
    by false = (omega arith, omega arith)

-- one ask
pub left_by_ask : (before after : OracleState) (set : List Member) (result : Result Verdict Stop) → after ≡ asked_after before set result → IsLeft 1 before after
left_by_ask before after set result e =
    subst (IsLeft 1 before) (sym e)
    (record {
      asks = (one_more_few before.tale.asks).0;
      few = (one_more_few before.tale.asks).1;
      first_core = λ first told. ap (λ o. first_core_after o set result) told;
      model = refl;
      budgets = refl;
      serves = refl;
    })

-- and then more
pub left_then : (a b : ℕ) (first second third : OracleState) → IsLeft a first second → IsLeft b second third → IsLeft (a + b) first third
left_then a b first second third h k = record {
  asks = (let l = h.asks in let m = k.asks in omega (arith, l, m));
  few = (let l = h.few in let m = k.few in omega (arith, l, m));
  first_core = λ core e. k.first_core core (h.first_core core e);
  model = k.model ∙ h.model;
  budgets = k.budgets ∙ h.budgets;
  serves = k.serves ∙ h.serves;
}

-- more asks are allowed
pub left_of_more : (a b : ℕ) (before after : OracleState) → a ≤ b → IsLeft a before after → IsLeft b before after
left_of_more a b before after l h = record {
  asks = h.asks;
  few = (let m = h.few in omega (arith, l, m));
  first_core = h.first_core;
  model = h.model;
  budgets = h.budgets;
  serves = h.serves;
}

-- so many asks at most, of which so many are still to come
pub record IsLeftSoFar (total rest : ℕ) (before now : OracleState) : Type 0 where
  pub made : ℕ
  pub counted : made + rest ≡ total
  pub left : IsLeft made before now

pub so_far_at_first : (total rest : ℕ) (state : OracleState) → rest ≡ total → IsLeftSoFar total rest state state
so_far_at_first total rest state e = record { made = 0; counted = omega (arith, e); left = left_as_it_was 0 state }

pub so_far_one_more : (total before_it rest : ℕ) (first now next : OracleState) → before_it ≡ suc rest → IsLeftSoFar total before_it first now → IsLeft 1 now next → IsLeftSoFar total rest first next
so_far_one_more total before_it rest first now next e h k = record {
  made = h.made + 1;
  counted = (let c = h.counted in omega (arith, c, e));
  left = left_then h.made 1 first now next h.left k;
}

pub left_so_far : (total rest : ℕ) (before now : OracleState) → IsLeftSoFar total rest before now → IsLeft total before now
left_so_far total rest before now h = left_of_more h.made total before now (let c = h.counted in omega (arith, c)) h.left

module _ (answers : Program → Budgets → List Member → Result Verdict Stop → Type 0) where
  -- ---- stops
  -- for want of memory nothing is told
  pub no_memory : (IsTest : Program → List Member → List Member → Type 0) (set asked : List Member) (state : OracleState) → IsTest state.model set asked → IsStoppedAt IsTest answers set state state Memory
  no_memory IsTest set asked state test = record { asked = asked; test = test; answered = inl refl; within = tt; told = sym (append-nil state.tale.stops) }

  -- the stop of an ask
  pub stopped_by_ask : (IsTest : Program → List Member → List Member → Type 0) (set asked : List Member) (before after : OracleState) (stop : Stop) → IsTest before.model set asked → answers before.model before.budgets asked (Err stop)
      → IsSiteWithin asked stop → after ≡ asked_after before asked (Err stop) → IsStoppedAt IsTest answers set before after stop
  stopped_by_ask IsTest set asked before after stop test answered within e =
      record { asked = asked; test = test; answered = inr answered; within = within; told = ap (λ (s : OracleState). s.tale.stops) e }

  -- the stop of a call after which the program, the budgets and the stops are as before
  pub stopped_later : (IsTest IsLater : Program → List Member → List Member → Type 0) (set later : List Member) (before now after : OracleState) (stop : Stop) → now.model ≡ before.model → now.budgets ≡ before.budgets → now.tale.stops ≡ before.tale.stops
      → ((asked : List Member) → IsLater before.model later asked → IsTest before.model set asked) → IsStoppedAt IsLater answers later now after stop → IsStoppedAt IsTest answers set before after stop
  stopped_later IsTest IsLater set later before now after stop m b s is h = record {
    asked = h.asked;
    test = is h.asked (subst (λ k. IsLater k later h.asked) m h.test);
    answered = subst (λ (k : Program). IsAnsweredStop (answers k before.budgets) h.asked stop) m (subst (λ (k : Budgets). IsAnsweredStop (answers now.model k) h.asked stop) b h.answered);
    within = h.within;
    told = h.told ∙ ap (λ l. l ++ listed_stop stop h.asked []) s;
  }

  -- ---- what is found
  -- the proof that was given, or one that was answered, stays or is replaced by one that was answered
  pub proof_told : (first now : OracleState) (given : List Node) (before after : Proof) → now.model ≡ first.model → now.budgets ≡ first.budgets → (before.nodes ≡ given) ⊎ IsAnsweredProof (AnswersAt answers first) before.nodes
      → (after ≡ before) ⊎ IsAnsweredProof (AnswersAt answers now) after.nodes → (after.nodes ≡ given) ⊎ IsAnsweredProof (AnswersAt answers first) after.nodes
  proof_told first now given before after m b told (inl e) = subst (λ (p : Proof). (p.nodes ≡ given) ⊎ IsAnsweredProof (AnswersAt answers first) p.nodes) (sym e) told
  proof_told first now given before after m b told (inr h) = inr (record {
    asked = h.asked;
    proof = h.proof;
    answered = subst (λ (k : Program). answers k first.budgets h.asked (Ok (Infeasible h.proof))) m (subst (λ (k : Budgets). answers now.model k h.asked (Ok (Infeasible h.proof))) b h.answered);
    nodes_are = h.nodes_are;
  })

  -- the proof that was given was answered to the ask before
  pub found_asked : (IsKept : Program → List Member → List Member → Type 0) (set : List Member) (before : OracleState) (verdict : Verdict) (proof : Proof) → verdict ≡ Infeasible proof → answers before.model before.budgets set (Ok verdict)
      → (result : Result Irreducible Stop) → IfOk result (IsReduced IsKept answers (asked_after before set (Ok verdict)) set proof.nodes) → IfOk result (IsIsolation IsKept answers before set)
  found_asked IsKept set before verdict proof is answered = by
    where
      from : (nodes : List Node) → (nodes ≡ proof.nodes) ⊎ IsAnsweredProof (AnswersAt answers before) nodes → IsAnsweredProof (AnswersAt answers before) nodes
      from nodes (inl same) = record { asked = set; proof = proof; answered = subst (λ (v : Verdict). answers before.model before.budgets set (Ok v)) is answered; nodes_are = same }
      from nodes (inr k) = k

      by : (r : Result Irreducible Stop) → IfOk r (IsReduced IsKept answers (asked_after before set (Ok verdict)) set proof.nodes) → IfOk r (IsIsolation IsKept answers before set)
      by (Ok (Set members witnesses found)) k = record {
        same = k.same;
        kept = k.kept;
        proof = k.proof;
        told = from found.nodes k.told;
        witnesses = k.witnesses;
        irreducible = k.irreducible;
      }
      by (Ok (AtPoint point)) k = absurd k
      by (Err stop) k = tt

  pub found_after_ask : (IsKept : Program → List Member → List Member → Type 0) (set : List Member) (before now : OracleState) (verdict : Verdict) (proof : Proof) → verdict ≡ Infeasible proof → answers before.model before.budgets set (Ok verdict)
      → now ≡ asked_after before set (Ok verdict) → (result : Result Irreducible Stop) → IfOk result (IsReduced IsKept answers now set proof.nodes) → IfOk result (IsIsolation IsKept answers before set)
  found_after_ask IsKept set before now verdict proof is answered e result h =
      found_asked IsKept set before verdict proof is answered result (subst (λ (s : OracleState). IfOk result (IsReduced IsKept answers s set proof.nodes)) e h)

  -- ---- whether a point comes
  -- the verdict is a proof, and no point comes
  pub which_is_set : (IsKept : Program → List Member → List Member → Type 0) (model : Program) (set : List Member) (v : Verdict) (p : Proof) → v ≡ Infeasible p → IsVerdict model set v → (state : OracleState) (given : List Node)
      → (result : Result Irreducible Stop) → IfOk result (IsReduced IsKept answers state set given) → IfOk result (λ a. IsTrue (is_feasible a) ↔ IsSatisfiable model set)
  which_is_set IsKept model set v p e h state given (Ok (Set members witnesses proof)) k = (λ t. absurd (true≢false (sym t)), λ s. absurd (proof_law model set p.nodes (proof_of_verdict model set v p e h) s))
  which_is_set IsKept model set v p e h state given (Ok (AtPoint point)) k = absurd k
  which_is_set IsKept model set v p e h state given (Err stop) k = tt

-- the verdict is a point
pub which_is_point : (model : Program) (set : List Member) (v : Verdict) (p : Point) → v ≡ Feasible p → IsVerdict model set v → IsTrue true ↔ IsSatisfiable model set
which_is_point model set v p e h = (λ t. satisfiable_by model set p (point_of_verdict model set v p e h), λ s. refl)
