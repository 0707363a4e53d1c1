use Rattle.std.proofs.Common.{◌≡◌, refl, ap, sym, ◌∙◌, List, [], ◌∷◌, ◌++◌, FitsSigned, rules}
use Rattle.std.proofs.lemmas.Int.{to_z-of_z}
use lib.IntN.{ℤ}
use mir.Syntax.{w128}
use Rattle.certs.specs.declared.evidence.Branch.{Branch}
use Rattle.certs.specs.declared.evidence.Node.{Node}
use Rattle.certs.specs.Proof.{at_most}
use Rattle.certs.specs.Trees.{child_paths}
use Rattle.branch_proof.specs.Pending.{pending}
use Rattle.branch_proof.proofs.Turns.{pending-lower}
use Rattle.branch_proof.proofs.paths.go_on.Goals as goal

pub returns-in_ok-push-in-Split-clause-next : goal.returns-in_ok-push-in-Split-clause-next
returns-in_ok-push-in-Split-clause-next c =
    let path = c.args.path.now in
    let b = at_most c.in-Split.column c.in-Split.at in
    let fits : FitsSigned w128 c.in-Split.at = search rules in
    let made : c.at_most.result ≡ b = c.at_most.ensures ∙ ap (λ (k : ℤ). at_most c.in-Split.column k) (to_z-of_z w128 c.in-Split.at fits) in
    let after : c.push.new.self ≡ path ++ b ∷ [] = c.in_ok-push-in-Split.ensures ∙ ap (λ (x : Branch). path ++ x ∷ []) made in
    ap (λ (n : Node). child_paths path n ++ pending path) c.in-Split.is
    ∙ (ap (λ (l : List (List Branch)). (path ++ b ∷ []) ∷ l) (sym (pending-lower path b refl))
    ∙ ap (λ (l : List Branch). l ∷ pending l) (sym after))
