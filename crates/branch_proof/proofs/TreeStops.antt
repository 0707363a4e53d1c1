-- Stops that the reference answers are those of its runs and trees.
use Rattle.std.proofs.Common.{◌≡◌, ℕ, zero, suc, refl, sym, ◌∙◌, ap, subst, true, false, true≢false, not, List, [], ◌∷◌, ◌++◌, Err, inl, inr}
use Rattle.lp_model.specs.declared.members.Member.{Member}
use Rattle.lp_model.specs.Program.{Program}
use Rattle.certs.specs.declared.evidence.Branch.{Branch}
use Rattle.certs.specs.declared.evidence.Node.{Node}
use Rattle.certs.specs.declared.solving.Site.{Site}
use Rattle.certs.specs.declared.solving.SiteKind.{SiteKind}
use Rattle.certs.specs.declared.solving.Stop.{Stop}
use Rattle.certs.specs.declared.solving.Stop.TheVariants.{Wide, Pivots, Nodes, Large, Memory}
use Rattle.certs.specs.Answers.{IsPlainAnswer, IsReferenceAnswer, IsTreeAnswer}
use Rattle.certs.specs.Improves.{ImproveEnd}
use Rattle.certs.specs.Improves.ImproveEnd.{TooWide as ImproveTooWide, Spent as ImproveSpent}
use Rattle.certs.specs.Plain.{plain_system}
use Rattle.certs.specs.Runs.{End}
use Rattle.certs.specs.Runs.End.{TooWide as SettleTooWide, Spent as SettleSpent}
use Rattle.certs.specs.Sites.{Budgets, IsFirstStopped, IsStopped, StopsBy, site_system}
use Rattle.certs.specs.Solves.{RunEnds}
use Rattle.certs.specs.Tales.{IsNodeSite}
use Rattle.certs.specs.Trees.{TreeEnd, HasTree, EndsAtNode, TreeGoesOn, child_paths, has_mark}

-- a tree that is not closed, and does not run out of nodes, ends at a node
ends_at : (model : Program) (set : List Member) (pivots most : ℕ) (paths : List (List Branch)) (nodes : List Node) (end : TreeEnd) → (end ≡ TreeEnd.Closed → ⊥) → (end ≡ TreeEnd.OutOfNodes → ⊥)
    → TreeGoesOn model set pivots most paths nodes end → (path : List Branch) × EndsAtNode model set pivots path end
ends_at model set pivots most [] [] end closed out h = absurd (closed h)
ends_at model set pivots zero (path ∷ paths) [] end closed out h = absurd (out h)
ends_at model set pivots (suc most) (path ∷ paths) [] end closed out h = (path, h)
ends_at model set pivots most [] (node ∷ nodes) end closed out h = absurd h
ends_at model set pivots zero (path ∷ paths) (node ∷ nodes) end closed out h = absurd h
ends_at model set pivots (suc most) (path ∷ paths) (node ∷ nodes) end closed out h = ends_at model set pivots most (child_paths path node ++ paths) nodes end closed out h.1

module _ (model : Program) (budgets : Budgets) (set : List Member) where
  -- the run of a settle site is that of its set on its path
  settle_stops : (path : List Branch) (site : Site) (end : End) (further : ImproveEnd) → IsNodeSite model set path site → RunEnds (plain_system model set path false) budgets.pivots end
      → StopsBy site.kind (site_system model site) budgets.pivots end further
  settle_stops path site end further is run =
      let own : RunEnds (plain_system model site.set.members site.path false) budgets.pivots end =
      subst (λ (l : List Member). RunEnds (plain_system model l site.path false) budgets.pivots end) (sym is.set_is)
      (subst (λ (l : List Branch). RunEnds (plain_system model set l false) budgets.pivots end) (sym is.path_is) run) in
      subst (λ (k : SiteKind). StopsBy k (site_system model (record site { kind = k })) budgets.pivots end further) (sym is.kind) own

  -- that of a set with a mark is the first of its tree
  first_marked : (path : List Branch) (site : Site) (end : TreeEnd) → IsNodeSite model set path site → has_mark set ≡ true → HasTree model set budgets.pivots budgets.nodes end → IsFirstStopped model budgets site end
  first_marked path site end is marked tree = record {
    alone = λ kind none. absurd (true≢false (sym (ap has_mark is.set_is ∙ marked) ∙ none));
    first = λ kind some. subst (λ (l : List Member). HasTree model l budgets.pivots budgets.nodes end) (sym is.set_is) tree;
  }

  -- and of one without it is the set's own
  first_alone : (site : Site) (end : TreeEnd) → IsNodeSite model set [] site → not (has_mark set) ≡ true → IsFirstStopped model budgets site end
  first_alone site end is linear = record {
    alone = λ kind none. is.path_is;
    first = λ kind some. absurd (true≢false (sym linear ∙ ap not (sym (ap has_mark is.set_is) ∙ some)));
  }

  plain_stopped : (stop : Stop) → (stop ≡ Memory → ⊥) → IsPlainAnswer model budgets.pivots set (Err stop) → IsStopped model budgets stop
  plain_stopped (Wide site step operation) memory h = (
    settle_stops [] site (SettleTooWide step operation) (ImproveTooWide step operation) h.ends.0 h.ends.1,
    first_alone site (TreeEnd.TooWide site.path step operation) h.ends.0 h.asked.linear,
  )
  plain_stopped (Pivots site) memory h = (
    settle_stops [] site SettleSpent ImproveSpent h.ends.0 h.ends.1,
    first_alone site (TreeEnd.OutOfPivots site.path) h.ends.0 h.asked.linear,
  )
  plain_stopped (Nodes site) memory h = absurd h.ends
  plain_stopped (Large size) memory h = absurd h.ends
  plain_stopped Memory memory h = absurd (memory refl)

  tree_stopped : (stop : Stop) → (stop ≡ Memory → ⊥) → IsTreeAnswer model budgets set (Err stop) → IsStopped model budgets stop
  tree_stopped (Wide site step operation) memory h =
      let end : TreeEnd = TreeEnd.TooWide site.path step operation in
      let (path, (on, run)) = ends_at model set budgets.pivots budgets.nodes ([] ∷ []) h.ends.1.nodes end (λ e. cc) (λ e. cc) h.ends.1.tree in
      let own : RunEnds (plain_system model set site.path false) budgets.pivots (SettleTooWide step operation) = subst (λ (l : List Branch). RunEnds (plain_system model set l false) budgets.pivots (SettleTooWide step operation)) (sym on) run in
      (settle_stops site.path site (SettleTooWide step operation) (ImproveTooWide step operation) h.ends.0.node own, first_marked site.path site end h.ends.0.node h.asked.marked h.ends.1)
  tree_stopped (Pivots site) memory h =
      let end : TreeEnd = TreeEnd.OutOfPivots site.path in
      let (path, (on, run)) = ends_at model set budgets.pivots budgets.nodes ([] ∷ []) h.ends.1.nodes end (λ e. cc) (λ e. cc) h.ends.1.tree in
      let own : RunEnds (plain_system model set site.path false) budgets.pivots SettleSpent = subst (λ (l : List Branch). RunEnds (plain_system model set l false) budgets.pivots SettleSpent) (sym on) run in
      (settle_stops site.path site SettleSpent ImproveSpent h.ends.0.node own, first_marked site.path site end h.ends.0.node h.asked.marked h.ends.1)
  tree_stopped (Nodes site) memory h = record {
    kind = h.ends.0.kind;
    path_is = h.ends.0.path_is;
    marked = ap has_mark h.ends.0.set_is ∙ h.asked.marked;
    ends = subst (λ (l : List Member). HasTree model l budgets.pivots budgets.nodes TreeEnd.OutOfNodes) (sym h.ends.0.set_is) h.ends.1;
  }
  tree_stopped (Large size) memory h = absurd h.ends
  tree_stopped Memory memory h = absurd (memory refl)

  pub reference_stopped : (stop : Stop) → (stop ≡ Memory → ⊥) → IsReferenceAnswer model budgets set (Err stop) → IsStopped model budgets stop
  reference_stopped stop memory (inl h) = plain_stopped stop memory h
  reference_stopped stop memory (inr h) = tree_stopped stop memory h
