-- Where the columns with marks stand in a box, twice its points are nodes enough for a check.
use Rattle.std.proofs.Common.{subst, List, inl, inr}
use Rattle.std.specs.Prelude.{⊤}
use Rattle.std.proofs.lemmas.Bool.{cases_lt}
use Rattle.lp_model.specs.declared.members.Member.{Member}
use Rattle.lp_model.specs.Members.{active_members}
use Rattle.certs.specs.Trees.{TreeEnd, HasTree}
use Rattle.branch_proof.proofs.Boxes.{box_law}
use Rattle.report_text.specs.declared.report.ToldStop.TheVariants.{Nodes}
use Rattle.report_text.specs.declared.report.Answer.{Answer}
use Rattle.report_text.specs.declared.report.Answer.TheVariants.{Stopped}
use Rattle.analysis.specs.Objectives.{most_entries, system_size}
use Rattle.analysis.specs.Right.{BoxLaw, IsChecked, IsSolved}
use Rattle.analysis.proofs.Found.{possible_members_are}

-- a stop for want of nodes is not one for a size
abbrev IsOfNodes : Answer → Type 0
IsOfNodes (Stopped (Nodes site)) = ⊤
IsOfNodes _ = ⊥

pub nodes_in_box : BoxLaw
nodes_in_box model budgets answer box formed h is enough site e =
    let told : IsChecked model budgets (Stopped (Nodes site)) = subst (IsChecked model budgets) e h in
    let solved : IsSolved model budgets (Stopped (Nodes site)) = elim (cases_lt most_entries (system_size model 0)) [
      | inl l ↦ absurd (subst IsOfNodes (told.0 l) tt)
      | inr l ↦ told.1 l
    ] in
    let tree : HasTree model (active_members model) budgets.pivots budgets.nodes TreeEnd.OutOfNodes = subst (λ (l : List Member). HasTree model l budgets.pivots budgets.nodes TreeEnd.OutOfNodes) solved.so.0.test solved.so.1.ends in
    box_law model (active_members model) box budgets.pivots budgets.nodes formed (possible_members_are model) is tree enough
