use Rattle.std.proofs.Common.{◌≡◌, ℕ, ◌+◌, ◌-◌, List, ◌∷◌, length, take, drop, eqb, sym, ap, subst, ◌∙◌, arith}
use Rattle.std.proofs.lemmas.Grind.{common_steps}
use Rattle.std.specs.List.{slice_split}
use Rattle.phrase_reader.proofs.Cuts.{Cuts, cut_parts}
use Rattle.phrase_reader.proofs.parts.cut.Goals as goal

pub returns-in_default-clause-parts : goal.returns-in_default-clause-parts
returns-in_default-clause-parts c =
    subst (Cuts (λ b. eqb b c.args.mark) c.args.bytes.now) (sym c.in_default.ensures) (cut_parts (λ b. eqb b c.args.mark) c.args.bytes.now)

rest_is : (xs : List ℕ) (i : ℕ) → take (length xs - (i + 1)) (drop (i + 1) xs) ≡ drop (i + 1) xs
rest_is xs i = grind (arith, common_steps)

pub returns-clause-parts : goal.returns-clause-parts
returns-clause-parts c =
    let xs = c.args.bytes.now in
    let e = subst (Cuts (λ b. eqb b c.args.mark) xs) (sym c.in-Some.ensures) (cut_parts (λ b. eqb b c.args.mark) xs) in
    e.1 ∙ ap (λ ds. take c.in-Some.place xs ∷ slice_split (λ b. eqb b c.args.mark) ds) (sym (rest_is xs c.in-Some.place))
