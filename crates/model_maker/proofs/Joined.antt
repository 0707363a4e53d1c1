-- Texts of lists, and of a whole plan.
use Rattle.std.proofs.Common.{◌≡◌, ℕ, ◌+◌, sym, ◌∙◌, ap, List, [], ◌∷◌, ◌++◌, map, append_assoc}
use Rattle.std.specs.Prelude.{codes}
use Rattle.std.specs.List.{range_with_len, flat_map}
use Rattle.std.proofs.lemmas.List.{flat_map_more}
use Rattle.std.proofs.lemmas.List.FromFn.{map-range_with_len_more}
use Rattle.std.proofs.lemmas.Grind.{flat_map-append}
use Rattle.model_maker.specs.PlanText.{cost_line, balance_line, bound_line, ended, text_of, plan_text}

-- what is written of the first k elements and of the next one is what is written of one more
pub joined_more : (g : List ℕ → List ℕ) (f : ℕ → List ℕ) (start mid new : List ℕ) (a k m j : ℕ) → a + k ≡ j → k + 1 ≡ m → mid ≡ start ++ flat_map g (map f (range_with_len a k)) → new ≡ mid ++ g (f j)
    → new ≡ start ++ flat_map g (map f (range_with_len a m))
joined_more g f start mid new a k m j at one so_far next =
    next ∙ (ap (λ t. t ++ g (f j)) so_far
    ∙ (flat_map_more g start (map f (range_with_len a k)) (f j)
    ∙ (ap (λ l. start ++ flat_map g l) (sym (map-range_with_len_more f a k j at)) ∙ ap (λ n. start ++ flat_map g (map f (range_with_len a n))) one)))

regrouped : (a b c d e f g : List ℕ) → (((((a ++ b) ++ c) ++ d) ++ e) ++ f) ++ g ≡ a ++ (b ++ (c ++ (d ++ (e ++ (f ++ g)))))
regrouped a b c d e f g = simp append_assoc

-- the parts of a text, one after another
pub in_parts : (n : ℕ) (t1 t2 t3 t4 t5 t6 t7 : List ℕ) → t1 ≡ codes "Minimize\n" → t2 ≡ t1 ++ ended (cost_line n) → t3 ≡ t2 ++ codes "Subject To\n" → t4 ≡ t3 ++ text_of (map (balance_line n) (range_with_len 1 n))
    → t5 ≡ t4 ++ codes "Bounds\n" → t6 ≡ t5 ++ text_of (map bound_line (range_with_len 1 n)) → t7 ≡ t6 ++ codes "End\n" → t7 ≡ plan_text n
unfolding plan_text
in_parts n t1 t2 t3 t4 t5 t6 t7 e1 e2 e3 e4 e5 e6 e7 =
    let rows = map (balance_line n) (range_with_len 1 n) in
    let bounds = map bound_line (range_with_len 1 n) in
    let written : t7 ≡ (((((codes "Minimize\n" ++ ended (cost_line n)) ++ codes "Subject To\n") ++ text_of rows) ++ codes "Bounds\n") ++ text_of bounds) ++ codes "End\n" =
    e7 ∙ ap (λ t. t ++ codes "End\n") (e6 ∙ ap (λ t. t ++ text_of bounds) (e5 ∙ ap (λ t. t ++ codes "Bounds\n") (e4 ∙ ap (λ t. t ++ text_of rows) (e3 ∙ ap (λ t. t ++ codes "Subject To\n") (e2 ∙ ap (λ t. t ++ ended (cost_line n)) e1))))) in
    written
    ∙ (regrouped (codes "Minimize\n") (ended (cost_line n)) (codes "Subject To\n") (text_of rows) (codes "Bounds\n") (text_of bounds) (codes "End\n")
    ∙ sym (ap (λ t. codes "Minimize\n" ++ (ended (cost_line n) ++ (codes "Subject To\n" ++ t)))
    (flat_map-append ended rows (codes "Bounds" ∷ (bounds ++ codes "End" ∷ [])) ∙ ap (λ t. text_of rows ++ (codes "Bounds\n" ++ t)) (flat_map-append ended bounds (codes "End" ∷ [])))))
