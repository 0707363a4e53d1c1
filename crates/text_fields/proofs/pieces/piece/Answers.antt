use Rattle.std.proofs.Common.{refl, sym, ap, ◌∙◌, get_or, ltb, true, false, arith}
use Rattle.std.proofs.lemmas.Bool.{lt-ltb, le-ltb}
use Rattle.text_fields.specs.declared.pieces.TokenKind.TheVariants.{Word, Number}
use Rattle.text_fields.specs.Pieces.{piece, mark_of}
use Rattle.text_fields.proofs.PieceLists.{piece-by, word-some}
use Rattle.text_fields.proofs.pieces.piece.Goals as goal

pub returns-then-may_begin_word-clause-piece : goal.returns-then-may_begin_word-clause-piece
returns-then-may_begin_word-clause-piece c =
    piece-by c.args.text.now true _ (sym c.if-may_begin_word.ensures) refl ∙ ap (piece Word) (sym c.word_bytes.ensures.len)

pub returns-then-may_begin_word-clause-some : goal.returns-then-may_begin_word-clause-some
returns-then-may_begin_word-clause-some c = omega (arith, word-some c.args.text.now c.requires (sym c.if-may_begin_word.ensures), c.word_bytes.ensures.len)

pub returns-then-number-gt0-clause-piece : goal.returns-then-number-gt0-clause-piece
returns-then-number-gt0-clause-piece c =
    let e = c.number_bytes-number.ensures.len in
    piece-by c.args.text.now false true (sym c.if-may_begin_word.ensures) (ap (λ n. ltb 0 n) (sym e) ∙ lt-ltb 0 c.number_bytes-number.result c.if-number-gt0.true) ∙ ap (piece Number) (sym e)

pub returns-clause-piece : goal.returns-clause-piece
returns-clause-piece c =
    let e = c.number_bytes-number.ensures.len in
    piece-by c.args.text.now false false (sym c.if-may_begin_word.ensures) (ap (λ n. ltb 0 n) (sym e) ∙ le-ltb 0 c.number_bytes-number.result c.if-number-gt0.false)
    ∙ ap (mark_of (get_or c.args.text.now 0 0)) (sym c.byte_at.ensures.byte) ∙ c.mark.ensures.piece
