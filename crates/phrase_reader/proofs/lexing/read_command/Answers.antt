use Rattle.std.proofs.Common.{◌≡◌, sym, ap, ◌∙◌, subst, true≢false, ℕ, List, map}
use Rattle.std.specs.Borrow.{Bor}
use Rattle.std.proofs.lemmas.Option.{same_Some}
use Rattle.phrase_reader.specs.Parts.{last_word}
use Rattle.phrase_reader.specs.Commands.{command_said}
use Rattle.phrase_reader.specs.Words.{IsPlain}
use Rattle.phrase_reader.proofs.Scripted.{command_found, no_command_found}
use Rattle.phrase_reader.proofs.lexing.read_command.Goals as goal

-- a slice of the words, as what is left
slice_is : (slice words : List (Bor (List ℕ))) (left : List (List ℕ)) → slice ≡ words → map (λ (w : Bor (List ℕ)). w.now) words ≡ left → map (λ (w : Bor (List ℕ)). w.now) slice ≡ left
slice_is slice words left e f = ap (map (λ (w : Bor (List ℕ)). w.now)) e ∙ f

pub returns-in_default : goal.returns-in_default
returns-in_default c = λ model. no_command_found model _ (λ command plain said. c.in_default.not-Some command
    (c.in_ok-command.ensures ∙ ap command_said (slice_is _ _ _ c.as_slice.ensures.value c.in_ok-words.ensures) ∙ said))

pub returns-then-not-is_printed : goal.returns-then-not-is_printed
returns-then-not-is_printed c = λ model. no_command_found model _ (λ command plain said.
    let told = c.in_ok-command.ensures ∙ ap command_said (slice_is _ _ _ c.as_slice.ensures.value c.in_ok-words.ensures) ∙ said in
    let same : c.in-Some.command ≡ command = same_Some c.in-Some.command command (sym c.in-Some.is ∙ told) in
    let left = slice_is _ _ _ c.as_slice-2.ensures.value c.in_ok-words.ensures in
    let printed = c.is_printed.ensures.1 (subst (λ ws. IsPlain (last_word ws) c.in-Some.command) (sym left) (subst (IsPlain _) (sym same) plain)) in
    true≢false (sym printed ∙ c.if-not-is_printed.true))

pub returns : goal.returns
returns c = λ model.
    let told = sym (ap command_said (slice_is _ _ _ c.as_slice.ensures.value c.in_ok-words.ensures)) ∙ sym c.in_ok-command.ensures ∙ c.in-Some.is in
    let left = slice_is _ _ _ c.as_slice-2.ensures.value c.in_ok-words.ensures in
    command_found model _ c.in-Some.command (subst (λ ws. IsPlain (last_word ws) c.in-Some.command) left (c.is_printed.ensures.0 c.if-not-is_printed.false)) told
