use Rattle.std.proofs.Common.{inl, inr, refl, sym, ap, ◌∙◌, arith, length-take, length-drop}
use Rattle.std.proofs.lemmas.List.{take_rest}
use Rattle.text_fields.specs.Pieces.{piece_at}
use Rattle.text_fields.proofs.Scans.{AtNonblank, at_nonblank, line_done, token_there}
use Rattle.text_fields.proofs.tokens.token_in_line.Goals.{then-bytes-from-eq10-via-then-bytes-from-eq10, then-bytes-from-eq10-via-else-bytes-from-eq10+then-bytes-from-eq92, After-next_nonblank-from}
use Rattle.text_fields.proofs.tokens.token_in_line.Goals as goal

there : (c : After-next_nonblank-from) → AtNonblank c.args.bytes.now c.args.place.at c.next_nonblank-from.result
there c = at_nonblank c.args.bytes.now c.args.place.at c.next_nonblank-from.result c.requires.within c.next_nonblank-from.ensures.place

pub returns-then-from-bytes : goal.returns-then-from-bytes
returns-then-from-bytes c =
    line_done c.args.bytes.now c.args.place.at c.next_nonblank-from.result c.args.first c.args.place.line (there (goal.at.returns-then-from-bytes c).After-next_nonblank-from) (inl c.if-from-bytes.true)

pub returns-then-bytes-from-eq10 : goal.returns-then-bytes-from-eq10
returns-then-bytes-from-eq10 c =
    let high = c.next_nonblank-from.ensures.high in
    let ne = c.if-from-bytes.false in
    line_done c.args.bytes.now c.args.place.at c.next_nonblank-from.result c.args.first c.args.place.line (there (goal.at.returns-then-bytes-from-eq10 c).After-next_nonblank-from)
    (inr (
      omega arith,
      elim c.then-bytes-from-eq10.branch [
        | then-bytes-from-eq10-via-then-bytes-from-eq10 w ↦ inl w.if-bytes-from-eq10.true
        | then-bytes-from-eq10-via-else-bytes-from-eq10+then-bytes-from-eq92 w ↦ inr w.if-bytes-from-eq92.true
      ],
    ))

pub returns : goal.returns
returns c =
    let high = c.next_nonblank-from.ensures.high in
    let ne = c.if-from-bytes.false in
    let bytes = c.args.bytes.now in
    let from = c.next_nonblank-from.result in
    let found = c.piece-kind.ensures in
    record {
      first = token_there bytes c.args.place.at from c.piece-kind.result.1 c.piece-kind.result.0 c.args.first c.args.place.line
          (there (goal.at.returns c).After-next_nonblank-from) (omega arith) c.if-bytes-from-eq10.false c.if-bytes-from-eq92.false
          (ap piece_at (sym (take_rest bytes from)) ∙ found.piece);
      next_at = refl;
      next_line = refl;
      low = c.next_nonblank-from.ensures.low;
      some = (let a = found.some in omega arith);
      within = (let a = simp (length-take, length-drop) at found.within in omega arith);
      line_low = omega arith;
      line_high = (let a = c.requires.few in let b = c.next_nonblank-from.ensures.low in omega arith);
    }
