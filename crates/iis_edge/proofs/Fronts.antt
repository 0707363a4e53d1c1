-- What a reader that stops after so many bytes gave, against all that was left to read.
use Rattle.std.proofs.Common.{◌≡◌, ℕ, ◌<◌, List, [], ◌++◌, length, take, drop, Option, Some, None, option_map, IfSome, ap, sym, ◌∙◌, arith}
use Rattle.std.specs.Io.{StartsWith, appended_bytes}
use Rattle.std.specs.Io.KnownBytes.{Consumes}
use Rattle.std.proofs.Math.Seq.{take-append_seam}
use Rattle.std.proofs.lemmas.List.{length-take, take_all, take-append-drop, append_assoc}

-- what stands at the front is a front
front_of : (b xs ys : List ℕ) → b ≡ xs ++ ys → StartsWith b xs
front_of b xs ys e = ap (λ (l : List ℕ). take (length xs) l) e ∙ take-append_seam xs ys

-- what it gave at any answer is a front
pub part_is_front : (n m : ℕ) (old new : Option (List ℕ)) (before got : List ℕ) → before ≡ [] → Consumes (option_map (take n) old) (option_map (take m) new) (appended_bytes before got) → IfSome old (λ b. StartsWith b got)
part_is_front n m None new before got e h = tt
part_is_front n m (Some b) None before got e h = absurd h
part_is_front n m (Some b) (Some ys) before got e h =
    let given : take n b ≡ got ++ take m ys = h ∙ ap (λ (l : List ℕ). drop (length l) got ++ take m ys) e in
    front_of b got (take m ys ++ drop n b)
    (sym (take-append-drop n b)
    ∙ ap (λ (l : List ℕ). l ++ drop n b) given
    ∙ append_assoc got (take m ys) (drop n b))

-- at the end of what it may give, it gave all that was left, where that is fewer bytes
pub part_is_all : (n : ℕ) (old : Option (List ℕ)) (before got : List ℕ) → before ≡ [] → length got < n → IfSome (option_map (take n) old) (λ xs. got ≡ before ++ xs) → IfSome old (λ b. got ≡ b)
part_is_all n None before got e short h = tt
part_is_all n (Some b) before got e short h =
    let given : got ≡ take n b = h ∙ ap (λ (l : List ℕ). l ++ take n b) e in
    given ∙ take_all n b (omega (arith, length-take n b, ap length given))
