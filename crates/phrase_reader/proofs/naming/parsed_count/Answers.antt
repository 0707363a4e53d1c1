use Rattle.std.proofs.Common.{arith, ◌∙◌}
use Rattle.std.proofs.lemmas.Fmt.{parse-decimal}
use Rattle.frac128.proofs.Texts.{utf8_number}
use Rattle.phrase_reader.proofs.naming.parsed_count.Goals as goal

pub returns-in_default : goal.returns-in_default
returns-in_default c = λ n h e. absurd (c.in_default.ensures.cases.0 (utf8_number n _ (omega arith) e))

pub returns-in_default-parse : goal.returns-in_default-parse
returns-in_default-parse c = λ n h e.
    let k = c.in-Ok.ensures in
    let r = parse-decimal 64 n _ _ h h (k.cases.0 ∙ e) c.parse.ensures.value.0 in
    absurd (c.in_default-parse.not-Ok n r)

pub returns : goal.returns
returns c = λ n h e.
    let k = c.in-Ok.ensures in
    let r = parse-decimal 64 n _ _ h h (k.cases.0 ∙ e) c.parse.ensures.value.0 in
    let i = c.in-Ok-parse.is in
    cc
