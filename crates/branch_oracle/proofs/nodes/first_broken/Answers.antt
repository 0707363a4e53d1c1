use Rattle.std.proofs.Common.{◌≡◌, ◌<◌, ℕ, refl, sym, ◌∙◌, subst, length, find, None, arith}
use Rattle.certs.specs.Ended.{numbers_from}
use Rattle.certs.specs.Trees.{is_broken}
use Rattle.linear_oracle.proofs.Firsts.{first_found, none_more}
use Rattle.branch_oracle.proofs.Values.{read_value}
use Rattle.branch_oracle.proofs.nodes.first_broken.Goals as goal

pub loop-column-init : goal.loop-column-init
loop-column-init c = refl

pub returns-then-is_broken : goal.returns-then-is_broken
returns-then-is_broken c =
    let model = c.args.model.now in
    let set = c.args.set.now.members in
    let values = c.args.values.now in
    let column = c.loop-column.column in
    let within : column < length model.columns = subst (λ (n : ℕ). column < n) c.column_count-column-end.ensures.count c.loop-column-test.true in
    let read = c.index-values-column.is ∙ read_value values column c.index-values-column.result (subst (λ (n : ℕ). column < n) (sym c.requires.each) within) in
    sym (first_found (is_broken model set values) column (length model.columns) within c.loop-column.invariant (sym (c.is_broken.ensures values read) ∙ c.if-is_broken.true))

pub loop-column-preserved : goal.loop-column-preserved
loop-column-preserved c =
    let model = c.args.model.now in
    let set = c.args.set.now.members in
    let values = c.args.values.now in
    let column = c.loop-column.column in
    let within : column < length model.columns = subst (λ (n : ℕ). column < n) c.column_count-column-end.ensures.count c.loop-column-test.true in
    let read = c.index-values-column.is ∙ read_value values column c.index-values-column.result (subst (λ (n : ℕ). column < n) (sym c.requires.each) within) in
    none_more (is_broken model set values) column c.loop-column.invariant (sym (c.is_broken.ensures values read) ∙ c.if-is_broken.false)

pub returns : goal.returns
returns c =
    let model = c.args.model.now in
    let set = c.args.set.now.members in
    let values = c.args.values.now in
    let past = c.loop-column-test.false in
    let end = c.loop-column.auto.column-end in
    let count = c.column_count-column-end.ensures.count in
    let all : c.loop-column.column ≡ length model.columns = omega (arith, past, end, count) in
    sym (subst (λ (n : ℕ). find (is_broken model set values) (numbers_from 0 n) ≡ None) all c.loop-column.invariant)
