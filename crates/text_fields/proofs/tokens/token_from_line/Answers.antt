use Rattle.std.proofs.Common.{◌+◌, drop, ap, sym, ◌∙◌, arith, length-drop}
use Rattle.text_fields.specs.Lines.{lines_of}
use Rattle.text_fields.specs.Tokens.{scan_lines, rest_scan}
use Rattle.text_fields.proofs.Scans.{scan_lines-fault, scan_lines-rest, scan_lines-none, token_from}
use Rattle.text_fields.proofs.tokens.token_from_line.Goals as goal

pub returns-in-Some : goal.returns-in-Some
returns-in-Some c =
    let b = c.loop-begin.begin in
    let rest = drop b.at c.args.bytes.now in
    let long = length-drop b.at c.args.bytes.now in
    c.loop-begin.invariant.same ∙ scan_lines-fault b.line rest c.in-Some.kind (omega arith) (sym c.in-Some.ensures)

pub returns-in-Some-token_in_line : goal.returns-in-Some-token_in_line
returns-in-Some-token_in_line c =
    let b = c.loop-begin.begin in
    let rest = drop b.at c.args.bytes.now in
    let long = length-drop b.at c.args.bytes.now in
    token_from c.args.bytes.now (rest_scan _ b.line rest) (scan_lines c.args.place.line (lines_of (drop c.args.place.at c.args.bytes.now))) b.at b.line c.args.place
    c.in-Some-token_in_line.found.0 c.in-Some-token_in_line.found.1
    (c.loop-begin.invariant.same ∙ scan_lines-rest b.line rest (omega arith) (sym c.in_default.ensures))
    c.loop-begin.invariant.further c.loop-begin.invariant.later c.in-Some-token_in_line.ensures

pub loop-begin-preserved : goal.loop-begin-preserved
loop-begin-preserved c =
    let b = c.loop-begin.begin in
    let n = c.next_begin-begin.ensures in
    let rest = drop b.at c.args.bytes.now in
    let long = length-drop b.at c.args.bytes.now in
    record {
      same = c.loop-begin.invariant.same ∙ scan_lines-rest b.line rest (omega arith) (sym c.in_default.ensures) ∙ c.in_default-token_in_line.ensures
          ∙ ap (λ ys. scan_lines (b.line + 1) (lines_of ys)) (sym n.after)
          ∙ ap (λ k. scan_lines k (lines_of (drop c.next_begin-begin.result.at c.args.bytes.now))) (sym n.line);
      further = (let a = n.further in let f = c.loop-begin.invariant.further in omega arith);
      later = (let a = n.line in let f = c.loop-begin.invariant.later in omega arith);
      within = n.within;
      few = (let a = n.line in let f = n.further in let g = c.loop-begin.invariant.few in omega arith);
    }

pub returns : goal.returns
returns c =
    let b = c.loop-begin.begin in
    let rest = drop b.at c.args.bytes.now in
    let long = length-drop b.at c.args.bytes.now in
    c.loop-begin.invariant.same ∙ scan_lines-none b.line rest (omega arith)
