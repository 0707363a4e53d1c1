use Rattle.std.proofs.Common.{◌≡◌, ◌≢◌, ◌<◌, ◌∙◌, ap, sym, subst, length, get_or, arith}
use Rattle.std.proofs.lemmas.List.Elements.{All-get_or}
use Rattle.rational.specs.Rational.{zero_ℚ}
use Rattle.rational.specs.Linear.{Term}
use Rattle.reductions.specs.Stage.{row_in}
use Rattle.reductions.proofs.Formed.{row_form}
use Rattle.presolve.proofs.row_rules.singleton_at.Goals as goal

pub single_limits-requires : goal.single_limits-requires
single_limits-requires c =
    let terms = (row_in c.args.system.now c.args.index).terms in
    let form = row_form c.args.system.now c.args.index c.requires.formed in
    let x : Term = c.term-item.result in
    let is : x ≡ get_or terms 0 x = c.term-item.is ∙ ap (λ l. get_or l 0 x) c.row_terms.ensures in
    let within : 0 < length terms = (let n = ap length c.row_terms.ensures in let m = c.in-len1.len_at_least in omega arith) in
    λ z. subst (λ (t : Term). t.factor ≢ zero_ℚ) (sym is) (All-get_or (λ (t : Term). t.factor ≢ zero_ℚ) terms 0 x within form.nonzero) (sym (ap (λ (t : Term). t.factor) c.term.view_is) ∙ z)

pub singleton-requires-clause-column : goal.singleton-requires-clause-column
singleton-requires-clause-column c =
    let terms = (row_in c.args.system.now c.args.index).terms in
    let form = row_form c.args.system.now c.args.index c.requires.formed in
    let x : Term = c.term-item.result in
    let is : x ≡ get_or terms 0 x = c.term-item.is ∙ ap (λ l. get_or l 0 x) c.row_terms.ensures in
    let within : 0 < length terms = (let n = ap length c.row_terms.ensures in let m = c.in-len1.len_at_least in omega arith) in
    let columns = length c.args.system.now.columns in
    let here : x.column < columns = subst (λ (t : Term). t.column < columns) (sym is) (All-get_or (λ (t : Term). t.column < columns) terms 0 x within form.known) in
    subst (λ k. k < columns) (sym (ap (λ (t : Term). t.column) c.term.view_is)) here
