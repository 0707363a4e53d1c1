-- The line of a phrase, word by word behind its keyword.
use Rattle.std.proofs.Common.{◌≡◌, refl, sym, ◌∙◌, ap, ℕ, List, [], ◌∷◌, ◌++◌, append_assoc, append-nil, flat_map}
use Rattle.report_text.specs.Grammar.{spelled}
use Rattle.report_printer.specs.Evidence.{ended}
use Rattle.report_printer.specs.Rows.{behind}

behind_more : (words more : List (List ℕ)) → behind (words ++ more) ≡ behind words ++ behind more
behind_more [] more = refl
behind_more (w ∷ []) [] = sym (append-nil (32 ∷ w))
behind_more (w ∷ []) (v ∷ more) = refl
behind_more (w ∷ v ∷ words) more = ap (λ t. 32 ∷ (w ++ t)) (behind_more (v ∷ words) more) ∙ ap (λ t. 32 ∷ t) (sym (append_assoc w (behind (v ∷ words)) (behind more)))

all_behind : {K : Type 0} (f : K → List (List ℕ)) (ks : List K) → flat_map (λ k. behind (f k)) ks ≡ behind (flat_map f ks)
all_behind f [] = refl
all_behind f (k ∷ ks) = ap (λ t. behind (f k) ++ t) (all_behind f ks) ∙ sym (behind_more (f k) (flat_map f ks))

spelled_behind : (word : List ℕ) (words : List (List ℕ)) → spelled word words ≡ word ++ behind words
spelled_behind word [] = sym (append-nil word)
spelled_behind word (next ∷ []) = refl
spelled_behind word (next ∷ v ∷ words) = ap (λ t. word ++ (32 ∷ t)) (spelled_behind next (v ∷ words))

-- a keyword, what stands behind it, and the end of the line
pub row_text : {K : Type 0} (f : K → List (List ℕ)) (ks : List K) (word start one two new : List ℕ) → one ≡ start ++ word → two ≡ one ++ flat_map (λ k. behind (f k)) ks → new ≡ two ++ 10 ∷ [] → new ≡ start ++ ended (spelled word (flat_map f ks))
row_text f ks word start one two new e g h =
    let rest = behind (flat_map f ks) in
    h ∙ ap (λ t. t ++ 10 ∷ []) (g ∙ ap (λ t. one ++ t) (all_behind f ks) ∙ ap (λ t. t ++ rest) e ∙ append_assoc start word rest ∙ ap (λ t. start ++ t) (sym (spelled_behind word (flat_map f ks))))
    ∙ append_assoc start (spelled word (flat_map f ks)) (10 ∷ [])
