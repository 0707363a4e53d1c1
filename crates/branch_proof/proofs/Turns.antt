-- What a path tells of a walk, when its last branch comes, goes or turns.
use Rattle.std.proofs.Common.{◌≡◌, ap, sym, ◌∙◌, true, false, cond, Bool, List, [], ◌∷◌, ◌++◌, append_assoc, append-nil}
use Rattle.certs.specs.declared.evidence.Branch.{Branch}
use Rattle.branch_proof.specs.Pending.{pending, pending_behind, turned, turn_at}

-- the last branch comes first
pending_behind-push : (front path : List Branch) (b : Branch) → pending_behind front (path ++ b ∷ []) ≡ turn_at (front ++ path) b ++ pending_behind front path
pending_behind-push front [] b = ap (λ (f : List Branch). turn_at f b) (sym (append-nil front)) ∙ sym (append-nil (turn_at (front ++ []) b))
pending_behind-push front (c ∷ path) b =
    ap (λ (l : List (List Branch)). l ++ turn_at front c) (pending_behind-push (front ++ c ∷ []) path b)
    ∙ (append_assoc (turn_at ((front ++ c ∷ []) ++ path) b) (pending_behind (front ++ c ∷ []) path) (turn_at front c)
    ∙ ap (λ (f : List Branch). turn_at f b ++ (pending_behind (front ++ c ∷ []) path ++ turn_at front c)) (append_assoc front (c ∷ []) path))

-- behind a branch to a lower child the upper one is still to come
pub pending-lower : (path : List Branch) (b : Branch) → b.upper ≡ true → pending (path ++ b ∷ []) ≡ (path ++ turned b ∷ []) ∷ pending path
pending-lower path b e =
    pending_behind-push [] path b
    ∙ ap (λ (t : Bool). cond t ((path ++ turned b ∷ []) ∷ []) [] ++ pending path) e

-- behind one to an upper child nothing is
pub pending-upper : (path : List Branch) (b : Branch) → b.upper ≡ false → pending (path ++ b ∷ []) ≡ pending path
pending-upper path b e =
    pending_behind-push [] path b
    ∙ ap (λ (t : Bool). cond t ((path ++ turned b ∷ []) ∷ []) [] ++ pending path) e
