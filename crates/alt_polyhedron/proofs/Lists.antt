-- Lists that a loop filters, and a list with one element more.
use Rattle.std.proofs.Common.{◌≡◌, sym, ◌∙◌, ap, Bool, true, false, cond, List, [], ◌∷◌, ◌++◌, append_assoc, filter}

-- one that passes is appended
pub passed_more : {A : Type 0} (p : A → Bool) (a : A) (list rest all : List A) → p a ≡ true → list ++ filter p (a ∷ rest) ≡ all → (list ++ a ∷ []) ++ filter p rest ≡ all
passed_more p a list rest all e h = append_assoc list (a ∷ []) (filter p rest) ∙ ap (λ b. list ++ cond b (a ∷ filter p rest) (filter p rest)) (sym e) ∙ h

-- one that does not is left out
pub passed_same : {A : Type 0} (p : A → Bool) (a : A) (list rest all : List A) → p a ≡ false → list ++ filter p (a ∷ rest) ≡ all → list ++ filter p rest ≡ all
passed_same p a list rest all e h = ap (λ b. list ++ cond b (a ∷ filter p rest) (filter p rest)) (sym e) ∙ h
