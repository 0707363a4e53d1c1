use Rattle.std.proofs.Common.{◌≡◌, ◌+◌, length, drop, ap, sym, ◌∙◌, arith, length-drop}
use Rattle.std.specs.List.{after_first, position_or_len}
use Rattle.std.proofs.lemmas.Result.{MatchResult-weaker}
use Rattle.lane_scan.specs.Bytes.{is_end}
use Rattle.text_fields.specs.Lines.{lines_of}
use Rattle.text_fields.specs.Tokens.{scan_lines, scan_at, rest_scan}
use Rattle.text_fields.proofs.Scans.{scan_at-start, scan_at-rest, scan_lines-none, token_from, next_from}
use Rattle.text_fields.proofs.tokens.next_token.Goals.{After-token_in_line}
use Rattle.text_fields.proofs.tokens.next_token.Goals as goal

pub returns-then-starts_line : goal.returns-then-starts_line
returns-then-starts_line c =
    let p = c.args.place in
    let bytes = c.args.bytes.now in
    let same = scan_at-start bytes p.at p.line (sym c.if-starts_line.ensures) in
    MatchResult-weaker c.token_from_line.result c.token_from_line.ensures
    (λ found h. next_from bytes (scan_lines p.line (lines_of (drop p.at bytes))) (scan_at bytes p.at p.line) p.at p.line p found same (omega arith) (omega arith) h)
    (λ fault h. same ∙ h)

pub returns-in-Some : goal.returns-in-Some
returns-in-Some c =
    let p = c.args.place in
    let bytes = c.args.bytes.now in
    let rest = drop p.at bytes in
    token_from bytes (rest_scan c.has_only_blanks-first.result p.line rest) (scan_at bytes p.at p.line) p.at p.line p c.in-Some.found.0 c.in-Some.found.1
    (scan_at-rest bytes p.at p.line (sym c.if-starts_line.ensures) ∙ ap (λ f. rest_scan f p.line rest) (sym c.has_only_blanks-first.ensures))
    (omega arith) (omega arith) c.in-Some.ensures

-- no token is left in the line
whole : (c : After-token_in_line)
    → rest_scan c.has_only_blanks-first.result c.args.place.line (drop c.args.place.at c.args.bytes.now) ≡ scan_lines (c.args.place.line + 1) (lines_of (after_first is_end (drop c.args.place.at c.args.bytes.now)))
    → scan_at c.args.bytes.now c.args.place.at c.args.place.line ≡ scan_lines (c.args.place.line + 1) (lines_of (after_first is_end (drop c.args.place.at c.args.bytes.now)))
whole c h =
    let p = c.args.place in
    let bytes = c.args.bytes.now in
    scan_at-rest bytes p.at p.line (sym c.if-starts_line.ensures) ∙ ap (λ f. rest_scan f p.line (drop p.at bytes)) (sym c.has_only_blanks-first.ensures) ∙ h

pub returns-then-place-bytes : goal.returns-then-place-bytes
returns-then-place-bytes c =
    let p = c.args.place in
    let none : length (after_first is_end (drop p.at c.args.bytes.now)) ≡ 0 =
    (let a = length-drop p.at c.args.bytes.now in let b = length-drop (position_or_len is_end (drop p.at c.args.bytes.now) + 1) (drop p.at c.args.bytes.now) in let e = c.if-place-bytes.true in omega arith) in
    whole (goal.at.returns-then-place-bytes c).After-token_in_line c.in_default.ensures ∙ scan_lines-none (p.line + 1) (after_first is_end (drop p.at c.args.bytes.now)) none

pub returns : goal.returns
returns c =
    let p = c.args.place in
    let q = c.next_begin.result in
    let n = c.next_begin.ensures in
    let bytes = c.args.bytes.now in
    let same = whole (goal.at.returns c).After-token_in_line c.in_default.ensures
    ∙ ap (λ ys. scan_lines (p.line + 1) (lines_of ys)) (sym n.after)
    ∙ ap (λ k. scan_lines k (lines_of (drop q.at bytes))) (sym n.line) in
    MatchResult-weaker c.token_from_line-2.result c.token_from_line-2.ensures
    (λ found h. next_from bytes (scan_lines q.line (lines_of (drop q.at bytes))) (scan_at bytes p.at p.line) q.at q.line p found same (let a = n.further in omega arith) (let a = n.line in omega arith) h)
    (λ fault h. same ∙ h)
