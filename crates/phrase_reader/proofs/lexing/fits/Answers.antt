use Rattle.std.proofs.Common.{◌≡◌, ◌≤◌, ◌<◌, refl, sym, ap, ◌∙◌, ℕ, false, List, [], ◌∷◌, length, Option, Some, None, is_some, not, Bool, true, true≢false, get_or, arith}
use Rattle.std.specs.Borrow.{Bor}
use Rattle.report_text.specs.declared.table.Kind.{Kind}
use Rattle.phrase_reader.specs.Parts.{words_left}
use Rattle.phrase_reader.specs.Words.{fits, starts}
use Rattle.phrase_reader.proofs.Spelling.{words_or_none}
use Rattle.phrase_reader.proofs.lexing.fits.Goals as goal

-- where there are no kinds, there are to be no words
no_kinds : (kinds : List Kind) (left : Option (Bor (List ℕ))) → length kinds < 1 → not (is_some left) ≡ fits kinds (words_left left)
no_kinds [] None l = refl
no_kinds [] (Some text) l = by (words_left (Some text)) (words_or_none (Some text))
  where
    by : (ws : List (List ℕ)) → (ws ≡ [] → is_some (Some text) ≡ false) → false ≡ fits [] ws
    by [] none = absurd (true≢false (none refl))
    by (w ∷ ws) none = refl
no_kinds (k ∷ ks) left l = absurd (omega arith)

flipped : (a b : Bool) → not a ≡ b → a ≡ not b
flipped true b e = ap not e
flipped false b e = ap not e

first_kind : (kinds : List Kind) (d : Kind) (ws : List (List ℕ)) (w : List ℕ) (rest : List (List ℕ)) → 1 ≤ length kinds → ws ≡ w ∷ rest → starts (get_or kinds 0 d) w ≡ fits kinds ws
first_kind [] d ws w rest l e = absurd (omega arith)
first_kind (k ∷ kinds) d ws w rest l e = sym (ap (fits (k ∷ kinds)) e)

pub returns-in_default : goal.returns-in_default
returns-in_default c = flipped c.is_none.result _ (sym c.is_none.ensures) ∙ no_kinds c.args.kinds.now c.args.rest c.in_default.len_below

pub returns : goal.returns
returns c = c.may_start.ensures ∙ first_kind c.args.kinds.now _ _ _ _ c.in-len1-up.len_at_least (ap words_left c.in-Some.is ∙ c.first_word.ensures)
