use Rattle.std.proofs.Common.{◌≡◌, ◌<◌, refl, ap, sym, ◌∙◌, subst, List, [], ◌∷◌, ◌++◌, Some}
use Rattle.std.proofs.lemmas.List.Elements.{All-pop, All-push}
use Rattle.certs.specs.declared.evidence.Branch.{Branch}
use Rattle.branch_proof.specs.Pending.{AreKnown, IsTurnable, pending, turned}
use Rattle.branch_proof.proofs.Turns.{pending-lower, pending-upper}
use Rattle.branch_proof.proofs.paths.turn.Goals as goal

pub returns-then-branch-clause-next : goal.returns-then-branch-clause-next
returns-then-branch-clause-next c =
    let front = c.pop.new.self in
    let b = c.in-Some.branch in
    let after : c.push.new.self ≡ front ++ turned b ∷ [] = c.in_ok-push.ensures ∙ ap (λ (x : Branch). front ++ x ∷ []) c.turned.ensures in
    let left : pending c.args.path.now ≡ (front ++ turned b ∷ []) ∷ pending front =
    sym c.loop-branch.invariant.next ∙ (ap pending c.in-Some.ensures.popped ∙ pending-lower front b c.if-branch.true) in
    left
    ∙ (ap (λ (l : List (List Branch)). (front ++ turned b ∷ []) ∷ l) (sym (pending-upper front (turned b) refl))
    ∙ ap (λ (l : List Branch). l ∷ pending l) (sym after))

pub returns-then-branch-clause-known : goal.returns-then-branch-clause-known
returns-then-branch-clause-known c = λ n h.
    let front = c.pop.new.self in
    let b = c.in-Some.branch in
    let after : c.push.new.self ≡ front ++ turned b ∷ [] = c.in_ok-push.ensures ∙ ap (λ (x : Branch). front ++ x ∷ []) c.turned.ensures in
    let both = All-pop (λ (x : Branch). x.column < n) c.loop-branch.path front (Some b) c.in-Some.ensures.popped (c.loop-branch.invariant.known n h) in
    subst (AreKnown n) (sym after) (All-push (λ (x : Branch). x.column < n) front (turned b) both.0 both.1)

pub loop-branch-preserved : goal.loop-branch-preserved
loop-branch-preserved c =
    let front = c.pop.new.self in
    let b = c.in-Some.branch in
    record {
      turnable = (All-pop IsTurnable c.loop-branch.path front _ c.pop.ensures.popped c.loop-branch.invariant.turnable).0;
      known = λ n h. (All-pop (λ (x : Branch). x.column < n) c.loop-branch.path front _ c.pop.ensures.popped (c.loop-branch.invariant.known n h)).0;
      next = sym (pending-upper front b c.if-branch.false) ∙ (sym (ap pending c.in-Some.ensures.popped) ∙ c.loop-branch.invariant.next);
    }
