use Rattle.std.proofs.Common.{sym, ◌∙◌, arith}
use Rattle.std.specs.Prelude.{Ok, Err}
use Rattle.std.proofs.lemmas.Fmt.{IsAscii-from_digits}
use Rattle.std.proofs.lemmas.Str.{IsUtf8-from_ascii}
use Rattle.phrase_reader.proofs.Budgets.{own, parsed, no_budget, some_budget}
use Rattle.phrase_reader.proofs.numerals.budget_in.Goals as goal

pub returns-in_default : goal.returns-in_default
returns-in_default c = absurd (c.in_default.ensures.cases.0 (IsUtf8-from_ascii _ (IsAscii-from_digits _ (own.to _ (sym c.all_digits.ensures ∙ c.if-not-all_digits.false)))))

pub returns-in_default-parse : goal.returns-in_default-parse
returns-in_default-parse c =
    let p = parsed c.args.word.now c.in-Ok.digits.now (Err tt) c.in-Ok.ensures.cases.0 (sym c.all_digits.ensures ∙ c.if-not-all_digits.false) c.in_default-parse.ensures.value.0 in
    sym (no_budget c.args.word.now (λ some few. p (some, omega arith)))

pub returns-then-most-gt-MOST_BUDGET : goal.returns-then-most-gt-MOST_BUDGET
returns-then-most-gt-MOST_BUDGET c =
    let p = parsed c.args.word.now c.in-Ok.digits.now (Ok c.in-Ok-parse.most) c.in-Ok.ensures.cases.0 (sym c.all_digits.ensures ∙ c.if-not-all_digits.false) c.in-Ok-parse.ensures.value.0 in
    sym (no_budget c.args.word.now (λ some few. (let many = c.if-most-gt-MOST_BUDGET.true in omega (arith, p.1))))

pub returns : goal.returns
returns c =
    let digits = sym c.all_digits.ensures ∙ c.if-not-all_digits.false in
    let p = parsed c.args.word.now c.in-Ok.digits.now (Ok c.in-Ok-parse.most) c.in-Ok.ensures.cases.0 digits c.in-Ok-parse.ensures.value.0 in
    sym (some_budget c.args.word.now c.in-Ok-parse.most (λ e. (let some = p.0.0 in omega arith)) digits (sym p.1) c.if-most-gt-MOST_BUDGET.false)
