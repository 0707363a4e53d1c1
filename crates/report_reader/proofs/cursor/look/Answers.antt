use Rattle.std.proofs.Common.{◌≡◌, refl, sym, ◌∙◌, None, Some}
use Rattle.phrase_reader.specs.Parts.{parts}
use Rattle.phrase_reader.proofs.Spelling.{some_parts}
use Rattle.report_reader.proofs.cursor.look.Goals as goal

pub returns-in_default-said-clause-ahead : goal.returns-in_default-said-clause-ahead
returns-in_default-said-clause-ahead c = (
  refl,
  record {
    line = c.in-Some.line.now;
    back = parts 10 c.in-Some.rest.now;
    cut = c.in-Some.ensures.parts;
    whole = some_parts 10 c.in-Some.rest.now;
    unsaid = λ q h. let t : None ≡ Some q = sym c.in_default-said.is ∙ c.in-Ok.ensures.all q h in absurd (cc);
  },
)
