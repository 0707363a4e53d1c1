-- The run of a node has one outcome, which fixes the node, or how the tree ends there.
use Rattle.std.proofs.Common.{◌≡◌, ℕ, refl, sym, ◌∙◌, ap, false, List, Option, None, Some, arith, inl, inr}
use Rattle.std.specs.Prelude.{◌⊎◌}
use Rattle.std.proofs.lemmas.Option.{none-some}
use Rattle.rational.specs.Rational.{ℚ, floor}
use Rattle.frac128.specs.declared.Wide.{Wide as Operation}
use Rattle.lp_model.specs.declared.members.Member.{Member}
use Rattle.lp_model.specs.Program.{Program}
use Rattle.lp_model.specs.Satisfaction.{values_at}
use Rattle.certs.specs.declared.evidence.Branch.{Branch}
use Rattle.certs.specs.declared.evidence.Node.{Node}
use Rattle.certs.specs.declared.evidence.Node.TheVariants.{Split, Leaf}
use Rattle.certs.specs.declared.evidence.Share.{Share}
use Rattle.certs.specs.Plain.{first_crossing, plain_system}
use Rattle.certs.specs.Runs.{End}
use Rattle.certs.specs.Runs.End.{Feasible, Infeasible, TooWide, Spent}
use Rattle.certs.specs.Solves.{BlocksWith, CrossesWith, IsPlainCut, RunEnds, SettlesAt, StartRun}
use Rattle.certs.specs.System.{LinearSystem, Place, VariableShare}
use Rattle.certs.specs.Trees.{TreeEnd, EndsAtNode, IsTreeNode, first_broken}
use Rattle.branch_proof.proofs.Cuts.{cuts_same, one_run, values_same}

-- what the run of a node gives
data Outcome : Type 0 where
  Point : List ℚ → Outcome
  Cut : List Share → Outcome
  Wide : ℕ → Operation → Outcome
  Out : Outcome

kind : Outcome → ℕ
kind (Point values) = 0
kind (Cut shares) = 1
kind (Wide step operation) = 2
kind Out = 3

end_kind : End → ℕ
end_kind Feasible = 0
end_kind (Infeasible v) = 1
end_kind (TooWide step operation) = 2
end_kind Spent = 3

module _ (model : Program) (set : List Member) (pivots : ℕ) (path : List Branch) where
  abbrev system : LinearSystem
  system = plain_system model set path false

  abbrev IsOutcome : Outcome → Type 0
  IsOutcome (Point values) = SettlesAt system pivots values
  IsOutcome (Cut shares) = IsPlainCut model set path pivots shares
  IsOutcome (Wide step operation) = RunEnds system pivots (TooWide step operation)
  IsOutcome Out = RunEnds system pivots Spent

  -- limits cross, or a run ends so
  record IsCrossed (o : Outcome) : Type 0 where
    variable : ℕ
    crosses : first_crossing system ≡ Some variable
    cut : kind o ≡ 1

  record IsRun (o : Outcome) : Type 0 where
    end : End
    last : List Place
    run : StartRun system pivots end last
    same : end_kind end ≡ kind o

  cut_by : (shares : List Share) (of : List VariableShare) → CrossesWith system of ⊎ BlocksWith system pivots of → IsCrossed (Cut shares) ⊎ IsRun (Cut shares)
  unfolding kind end_kind
  cut_by shares of (inl c) = inl (record { variable = c.variable; crosses = c.crosses; cut = refl })
  cut_by shares of (inr b) = inr (record { end = Infeasible b.variable; last = b.last; run = b.run; same = refl })

  by_run : (o : Outcome) → IsOutcome o → IsCrossed o ⊎ IsRun o
  unfolding kind end_kind
  by_run (Point values) h = inr (record { end = Feasible; last = h.last; run = h.run; same = refl })
  by_run (Cut shares) h = cut_by shares h.of h.given
  by_run (Wide step operation) h = inr (record { end = TooWide step operation; last = h.last; run = h.run; same = refl })
  by_run Out h = inr (record { end = Spent; last = h.last; run = h.run; same = refl })

  kinds : (o p : Outcome) → IsCrossed o ⊎ IsRun o → IsCrossed p ⊎ IsRun p → kind o ≡ kind p
  kinds o p (inl a) (inl b) = a.cut ∙ sym b.cut
  kinds o p (inl a) (inr b) = absurd (none-some a.variable (sym b.run.apart ∙ a.crosses))
  kinds o p (inr a) (inl b) = absurd (none-some b.variable (sym a.run.apart ∙ b.crosses))
  kinds o p (inr a) (inr b) = sym a.same ∙ ap end_kind (one_run system pivots a.end b.end a.last b.last a.run b.run).0 ∙ b.same

  apart : {P : Type 0} (m n : ℕ) → m ≡ n → (m ≡ n → ⊥) → P
  apart m n e h = absurd (h e)

  outcome_by : (o p : Outcome) → IsOutcome o → IsOutcome p → kind o ≡ kind p → o ≡ p
  unfolding kind
  outcome_by (Point v) (Point w) h k e = ap (λ (l : List ℚ). Point l) (values_same system pivots v w h k)
  outcome_by (Cut s) (Cut t) h k e = ap (λ (l : List Share). Cut l) (cuts_same model set path pivots s t h k)
  outcome_by (Wide m a) (Wide n b) h k e =
      let r = (one_run system pivots (TooWide m a) (TooWide n b) h.last k.last h.run k.run).0 in
      let same : Wide m a ≡ Wide n b = cc in same
  outcome_by Out Out h k e = refl
  outcome_by (Point v) (Cut t) h k e = absurd (let z : 0 ≡ 1 = e in omega arith)
  outcome_by (Point v) (Wide n b) h k e = absurd (let z : 0 ≡ 2 = e in omega arith)
  outcome_by (Point v) Out h k e = absurd (let z : 0 ≡ 3 = e in omega arith)
  outcome_by (Cut s) (Point w) h k e = absurd (let z : 1 ≡ 0 = e in omega arith)
  outcome_by (Cut s) (Wide n b) h k e = absurd (let z : 1 ≡ 2 = e in omega arith)
  outcome_by (Cut s) Out h k e = absurd (let z : 1 ≡ 3 = e in omega arith)
  outcome_by (Wide m a) (Point w) h k e = absurd (let z : 2 ≡ 0 = e in omega arith)
  outcome_by (Wide m a) (Cut t) h k e = absurd (let z : 2 ≡ 1 = e in omega arith)
  outcome_by (Wide m a) Out h k e = absurd (let z : 2 ≡ 3 = e in omega arith)
  outcome_by Out (Point w) h k e = absurd (let z : 3 ≡ 0 = e in omega arith)
  outcome_by Out (Cut t) h k e = absurd (let z : 3 ≡ 1 = e in omega arith)
  outcome_by Out (Wide n b) h k e = absurd (let z : 3 ≡ 2 = e in omega arith)

  outcome_same : (o p : Outcome) → IsOutcome o → IsOutcome p → o ≡ p
  outcome_same o p h k = outcome_by o p h k (kinds o p (by_run o h) (by_run p k))

  -- ---- what follows from it
  follows_point : List ℚ → Option ℕ → Node ⊎ TreeEnd
  follows_point values None = inr (TreeEnd.Found values)
  follows_point values (Some j) = inl (Split j (floor (values_at values j)))

  follows : Outcome → Node ⊎ TreeEnd
  follows (Point values) = follows_point values (first_broken model set values)
  follows (Cut shares) = inl (Leaf (record { shares = shares }))
  follows (Wide step operation) = inr (TreeEnd.TooWide path step operation)
  follows Out = inr (TreeEnd.OutOfPivots path)

  -- a node, or the end there, is what follows from some outcome
  pub record Follows (what : Node ⊎ TreeEnd) : Type 0 where
    outcome : Outcome
    is : IsOutcome outcome
    what_is : follows outcome ≡ what

  pub node_follows : (node : Node) → IsTreeNode model set pivots path node → Follows (inl node)
  unfolding follows follows_point
  node_follows (Split j k) h = record {
    outcome = Point h.values;
    is = h.settles;
    what_is = ap (follows_point h.values) h.least ∙ ap (λ (z : _). inl (Split j z)) (sym h.at);
  }
  node_follows (Leaf combo) h = record { outcome = Cut combo.shares; is = h; what_is = refl }

  pub end_follows : (end : TreeEnd) → EndsAtNode model set pivots path end → Follows (inr end)
  unfolding follows follows_point
  end_follows (TreeEnd.Found values) h = record { outcome = Point values; is = h.settles; what_is = ap (follows_point values) h.whole }
  end_follows TreeEnd.Closed h = absurd h
  end_follows (TreeEnd.TooWide on step operation) h = record { outcome = Wide step operation; is = h.1; what_is = ap (λ (l : List Branch). inr (TreeEnd.TooWide l step operation)) (sym h.0) }
  end_follows (TreeEnd.OutOfPivots on) h = record { outcome = Out; is = h.1; what_is = ap (λ (l : List Branch). inr (TreeEnd.OutOfPivots l)) (sym h.0) }
  end_follows TreeEnd.OutOfNodes h = absurd h

  -- there is one
  pub one_follows : (a b : Node ⊎ TreeEnd) → Follows a → Follows b → a ≡ b
  one_follows a b x y = sym x.what_is ∙ ap follows (outcome_same x.outcome y.outcome x.is y.is) ∙ y.what_is
