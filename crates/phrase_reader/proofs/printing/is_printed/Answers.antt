use Rattle.std.proofs.Common.{◌≡◌, ◌≤◌, ◌-◌, refl, sym, ap, subst, ◌∙◌, ℕ, suc, true, List, [], ◌∷◌, length, get_or, map, arith}
use Rattle.std.specs.Borrow.{Bor}
use Rattle.phrase_reader.specs.Parts.{last_word}
use Rattle.phrase_reader.specs.Words.{IsPlain}
use Rattle.phrase_reader.proofs.printing.is_printed.Goals as goal

last_at : (words : List (Bor (List ℕ))) (d : Bor (List ℕ)) → 1 ≤ length words → last_word (map (λ (w : Bor (List ℕ)). w.now) words) ≡ (get_or words (length words - 1) d).now
last_at [] d l = absurd (omega arith)
last_at (w ∷ []) d l = refl
last_at (w ∷ v ∷ words) d l =
    let e : length (w ∷ v ∷ words) - 1 ≡ suc (length (v ∷ words) - 1) = omega arith in
    last_at (v ∷ words) d (omega arith) ∙ ap (λ n. (get_or (w ∷ v ∷ words) n d).now) (sym e)

pub returns-in-len1-up : goal.returns-in-len1-up
returns-in-len1-up c =
    let r = c.is_printed_number-in-len1-up.result in
    subst (λ w. (r ≡ true → IsPlain w c.args.command.now) × (IsPlain w c.args.command.now → r ≡ true)) (sym (last_at c.args.words.now _ c.in-len1-up.len_at_least)) c.is_printed_number-in-len1-up.ensures
