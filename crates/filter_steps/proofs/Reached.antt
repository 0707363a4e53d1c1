-- What filters reach: parts of the set, that can be satisfied where the set can.
use Rattle.std.proofs.Common.{sym, subst, List, [], ◌∷◌, ◌++◌, append_assoc, append-nil}
use Rattle.std.specs.Prelude.{All, Contains}
use Rattle.std.proofs.lemmas.List.Elements.{All-weaker, All-contains, All-contains_itself}
use Rattle.lp_model.proofs.Sets.{part_without}
use Rattle.certs.specs.Filter.{LateReaches, EarlyReaches}

-- what leaves out a middle is a part where the whole is
pub part_of_part : {X : Type 0} (set a b c : List X) → All (Contains set) (a ++ (b ++ c)) → All (Contains set) (a ++ c)
part_of_part set a b c h = All-weaker (Contains (a ++ (b ++ c))) (Contains set) (λ m d. All-contains (Contains set) (a ++ (b ++ c)) m h d) (a ++ c) (part_without a b c)

module _ {X : Type 0} (Can : List X → Type 0) (set : List X) where
  pub late_part : {kept rest : List X} → LateReaches Can set kept rest → All (Contains set) (kept ++ rest)
  late_part LateReaches.start = All-contains_itself set
  late_part (LateReaches.stays {kept = k} {x = x} {rest = r} d c) = subst (All (Contains set)) (sym (append_assoc k (x ∷ []) r)) (late_part d)
  late_part (LateReaches.goes {kept = k} {x = x} {rest = r} d n) = part_of_part set k (x ∷ []) r (late_part d)

  pub late_weaker : ((a b c : List X) → Can (a ++ (b ++ c)) → Can (a ++ c)) → {kept rest : List X} → LateReaches Can set kept rest → Can set → Can (kept ++ rest)
  late_weaker weaker LateReaches.start h = h
  late_weaker weaker (LateReaches.stays {kept = k} {x = x} {rest = r} d c) h = subst Can (sym (append_assoc k (x ∷ []) r)) (late_weaker weaker d h)
  late_weaker weaker (LateReaches.goes {kept = k} {x = x} {rest = r} d n) h = weaker k (x ∷ []) r (late_weaker weaker d h)

  pub early_part : {front kept : List X} → EarlyReaches Can set front kept → All (Contains set) (front ++ kept)
  early_part EarlyReaches.start = subst (All (Contains set)) (sym (append-nil set)) (All-contains_itself set)
  early_part (EarlyReaches.stays {front = f} {x = x} {kept = k} d c) = subst (All (Contains set)) (append_assoc f (x ∷ []) k) (early_part d)
  early_part (EarlyReaches.goes {front = f} x {kept = k} d n) = part_of_part set f (x ∷ []) k (subst (All (Contains set)) (append_assoc f (x ∷ []) k) (early_part d))

  pub early_weaker : ((a b c : List X) → Can (a ++ (b ++ c)) → Can (a ++ c)) → {front kept : List X} → EarlyReaches Can set front kept → Can set → Can (front ++ kept)
  early_weaker weaker EarlyReaches.start h = subst Can (sym (append-nil set)) h
  early_weaker weaker (EarlyReaches.stays {front = f} {x = x} {kept = k} d c) h = subst Can (append_assoc f (x ∷ []) k) (early_weaker weaker d h)
  early_weaker weaker (EarlyReaches.goes {front = f} x {kept = k} d n) h = weaker f (x ∷ []) k (subst Can (append_assoc f (x ∷ []) k) (early_weaker weaker d h))
