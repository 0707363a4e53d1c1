use Rattle.std.proofs.Common.{◌≡◌, ◌≤◌, ℕ, All, sym, ◌∙◌, ap, refl, subst, List, [], ◌∷◌, Some, None, Result, Ok, Err, length, replicate, arith}
use Rattle.std.specs.Prelude.{OnOk}
use Rattle.std.proofs.lemmas.List.{with_items_is, length-replicate}
use Rattle.std.proofs.lemmas.List.Elements.{All-head, All-tail, All-weaker}
use Rattle.rational.specs.Rational.{ℚ, zero_ℚ}
use Rattle.lp_model.specs.Program.{Program}
use Rattle.certs.specs.declared.evidence.Node.{Node}
use Rattle.certs.specs.declared.evidence.Node.TheVariants.{Split, Leaf}
use Rattle.certs.specs.Proof.{IsFittingNode}
use Rattle.branch_proof.specs.declared.checks.Judged.{Judged}
use Rattle.branch_proof.specs.Walk.{IsWithin}
use Rattle.report_text.specs.Form.{IsNodeFor}
use Rattle.certs.specs.declared.evidence.Checked.{Checked}
use Rattle.certs.specs.declared.evidence.Checked.TheVariants.{Yes as Passes}
use Rattle.cert_check.specs.declared.outcome.Stop.{Stop}
use Rattle.cert_check.specs.declared.outcome.Stop.TheVariants.{Rejected, Wide}
use Rattle.cert_check.specs.Trials.{judged_trials, node_line}
use Rattle.cert_check.specs.Stops.{first_stop, stop_or, Says}
use Rattle.cert_check.proofs.Firsts.{found_yes}
use Rattle.cert_check.proofs.trees.check_tree.Goals as goal

fitting_node : (model : Program) (node : Node) → IsNodeFor model node → IsFittingNode node
fitting_node model (Split j k) h = h.1
fitting_node model (Leaf combo) h = tt

pub check_proof-requires-clause-fitting : goal.check_proof-requires-clause-fitting
check_proof-requires-clause-fitting c = All-weaker (IsNodeFor c.args.model.now) IsFittingNode (fitting_node c.args.model.now) c.args.proof.now.nodes c.requires.form.each

pub returns-in-Yes-clause-says : goal.returns-in-Yes-clause-says
returns-in-Yes-clause-says c = ap (λ (j : Judged). first_stop (judged_trials c.args.line c.args.proof.now.nodes j)) (sym c.in-Ok.ensures.said ∙ c.in-Yes.is)

pub returns-in-No-clause-says : goal.returns-in-No-clause-says
returns-in-No-clause-says c =
    let nodes = c.args.proof.now.nodes in
    ap (λ (j : Judged). first_stop (judged_trials c.args.line nodes j)) (sym c.in-Ok.ensures.said ∙ c.in-No.is)
    ∙ ap (λ (k : ℕ). Some (Rejected k)) (sym (c.line_of.ensures ∙ ap (λ (l : List Node). node_line c.args.line l c.in-No.n) c.as_slice-nodes.ensures))

pub returns-in-Wide-clause-says : goal.returns-in-Wide-clause-says
returns-in-Wide-clause-says c =
    let nodes = c.args.proof.now.nodes in
    ap (λ (j : Judged). first_stop (judged_trials c.args.line nodes j)) (sym c.in-Ok.ensures.said ∙ c.in-Wide.is)
    ∙ ap (λ (k : ℕ). Some (Wide k c.in-Wide.wide)) (sym (c.line_of-in-Wide.ensures ∙ ap (λ (l : List Node). node_line c.args.line l c.in-Wide.n) c.as_slice-nodes.ensures))

pub line_of-requires-clause-there : goal.line_of-requires-clause-there
line_of-requires-clause-there c =
    subst (λ (l : List Node). c.in-No.n ≤ length l) (sym c.as_slice-nodes.ensures)
    (subst (IsWithin (length c.args.proof.now.nodes)) c.in-No.is c.in-Ok.ensures.within)

-- zeros alone
all_zeros : (xs : List ℚ) → All (λ q. q ≡ zero_ℚ) xs → xs ≡ replicate (length xs) zero_ℚ
all_zeros [] h = refl
all_zeros (x ∷ xs) h =
    let here = All-head (λ q. q ≡ zero_ℚ) x xs h in
    let rest = all_zeros xs (All-tail (λ q. q ≡ zero_ℚ) x xs h) in
    λ k. here k ∷ rest k

passed : {P : Type 0} (line : ℕ) (found : Checked) (r : Result (Unit {0}) Stop) → Says (stop_or line found None) r → (found ≡ Passes → P) → OnOk r P
passed line found (Ok done) h f = f (found_yes line found None h).0
passed line found (Err s) h f = tt

pub returns-in-Leaf-clause-room : goal.returns-in-Leaf-clause-room
returns-in-Leaf-clause-room c =
    let n = length c.args.model.now.columns in
    let sums = c.check_leaf-found.new.sums in
    let room = c.args.room.now in
    let long : length sums ≡ room.len = c.check_leaf-found.auto.sums ∙ c.as_mut_slice.ensures.len in
    let count : length sums ≡ n = omega (arith, long, room.ok, ap length c.requires.room.zeros, length-replicate n zero_ℚ) in
    passed c.args.line c.check_leaf-found.result c.settle.result c.settle.ensures (λ yes. record {
      zeros = with_items_is room sums long ∙ (all_zeros sums (c.check_leaf-found.ensures.zeros yes) ∙ ap (λ k. replicate k zero_ℚ) count);
      few = c.requires.room.few;
    })
