use Rattle.std.proofs.Common.{◌≡◌, ◌+◌, refl, sym, ◌∙◌, ap, subst, length, find, None, arith}
use Rattle.std.proofs.lemmas.List.{length-map}
use Rattle.certs.specs.Ended.{numbers_from}
use Rattle.certs.specs.Plain.{crosses}
use Rattle.certs.specs.Rows.{row_of}
use Rattle.linear_oracle.proofs.Firsts.{first_found, none_more}
use Rattle.linear_oracle.proofs.crossings.first_crossing.Goals as goal

pub loop-variable-init : goal.loop-variable-init
loop-variable-init c = refl

pub returns-then-is_crossing : goal.returns-then-is_crossing
returns-then-is_crossing c =
    let s = c.args.system.now in
    let d = c.system.inside in
    let columns : c.len.result ≡ length s.columns = c.len.ensures ∙ d.columns.ok.0 ∙ ap (λ z. length z.columns) c.system.view_is in
    let rows : c.len-2.result ≡ length s.rows = c.len-2.ensures ∙ d.rows.ok.0 ∙ sym (length-map d.rows.items row_of) ∙ ap (λ z. length z.rows) c.system.view_is in
    let within = c.loop-variable-test.true in
    sym (first_found (crosses s) c.loop-variable.variable (length s.columns + length s.rows) (omega (arith, columns, rows, within)) c.loop-variable.invariant (sym c.is_crossing.ensures ∙ c.if-is_crossing.true))

pub loop-variable-preserved : goal.loop-variable-preserved
loop-variable-preserved c = none_more (crosses c.args.system.now) c.loop-variable.variable c.loop-variable.invariant (sym c.is_crossing.ensures ∙ c.if-is_crossing.false)

pub returns : goal.returns
returns c =
    let s = c.args.system.now in
    let d = c.system.inside in
    let columns : c.len.result ≡ length s.columns = c.len.ensures ∙ d.columns.ok.0 ∙ ap (λ z. length z.columns) c.system.view_is in
    let rows : c.len-2.result ≡ length s.rows = c.len-2.ensures ∙ d.rows.ok.0 ∙ sym (length-map d.rows.items row_of) ∙ ap (λ z. length z.rows) c.system.view_is in
    let past = c.loop-variable-test.false in
    let end = c.loop-variable.auto.variable-end in
    let all : c.loop-variable.variable ≡ length s.columns + length s.rows = omega (arith, columns, rows, past, end) in
    sym (subst (λ n. find (crosses s) (numbers_from 0 n) ≡ None) all c.loop-variable.invariant)
