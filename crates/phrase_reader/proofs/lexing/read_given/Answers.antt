use Rattle.std.proofs.Common.{◌≡◌, ◌≤◌, refl, sym, ap, ◌∙◌, ℕ, true, false, true≢false, List, [], ◌∷◌, drop, length, Option, None, is_some}
use Rattle.std.specs.Borrow.{Bor}
use Rattle.std.proofs.Math.ListN.{drop_of_length-le}
use Rattle.lp_model.specs.Program.{Program}
use Rattle.report_text.specs.declared.table.Kind.{Kind}
use Rattle.report_text.specs.declared.table.Given.{Given}
use Rattle.phrase_reader.specs.Parts.{words_left}
use Rattle.phrase_reader.specs.Words.{given_in}
use Rattle.phrase_reader.proofs.Spelling.{words_or_none}
use Rattle.phrase_reader.proofs.lexing.read_given.Goals as goal

-- where words are left and no kind is, they say nothing
too_many : (model : Program) (kinds : List Kind) (i : ℕ) (left : Option (Bor (List ℕ))) (g : Given) → length kinds ≤ i → is_some left ≡ true → None ≡ given_in model (drop i kinds) (words_left left) g
too_many model kinds i left g e some = sym (ap (λ ks. given_in model ks (words_left left) g) (drop_of_length-le kinds e) ∙ by (words_left left) (words_or_none left))
  where
    by : (ws : List (List ℕ)) → (ws ≡ [] → is_some left ≡ false) → given_in model [] ws g ≡ None
    by [] none = absurd (true≢false (sym some ∙ none refl))
    by (w ∷ ws) none = refl

pub returns-then-is_some : goal.returns-then-is_some
returns-then-is_some c =
    too_many c.args.model.now c.args.kinds.now c.loop-kind.kind-index c.loop-kind.left c.loop-kind.given c.loop-kind-test.false (sym c.is_some.ensures ∙ c.if-is_some.true) ∙ c.loop-kind.invariant
