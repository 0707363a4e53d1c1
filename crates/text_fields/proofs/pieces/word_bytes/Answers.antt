use Rattle.std.proofs.Common.{◌≡◌, ℕ, ◌+◌, not, length, ap, ◌∙◌, arith}
use Rattle.std.specs.List.{position_or_len, slice_range}
use Rattle.std.proofs.lemmas.List.{take_rest}
use Rattle.text_fields.specs.Pieces.{is_word_byte}
use Rattle.text_fields.proofs.PieceLists.{position-not}
use Rattle.text_fields.proofs.pieces.word_bytes.Goals as goal

pub returns-clause-len : goal.returns-clause-len
returns-clause-len c =
    let xs = c.args.text.now in
    let n : ℕ = position_or_len (λ b. not (is_word_byte b)) (slice_range xs 0 (length xs)) in
    let from_first : 0 + n ≡ n = omega arith in
    c.first_of.ensures.place ∙ from_first ∙ ap (position_or_len (λ b. not (is_word_byte b))) (take_rest xs 0) ∙ position-not is_word_byte xs
