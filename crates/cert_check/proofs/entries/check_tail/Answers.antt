use Rattle.std.proofs.Common.{◌≤◌, ◌+◌, ap, ℕ, length, Option, None, Some, arith}
use Rattle.std.proofs.lemmas.Result.{err_from_is_err_and}
use Rattle.report_text.specs.Grammar.{rounds_phrases}
use Rattle.cert_check.specs.Trials.{price_trials, rounds_trials}
use Rattle.cert_check.specs.Stops.{first_stop}
use Rattle.cert_check.proofs.Firsts.{stop_first, says_second, says_of}
use Rattle.cert_check.proofs.entries.check_tail.Goals as goal

-- the rounds have a line at most
few : (rounds : Option ℕ) → length (rounds_phrases rounds) ≤ 1
few None = omega arith
few (Some n) = omega arith

pub check_priced-requires-clause-short : goal.check_priced-requires-clause-short
check_priced-requires-clause-short c =
    let next = c.in_ok-next.ensures.1 in
    let one = few c.args.core.now.rounds in
    let short = c.requires.short in
    omega (arith, next, one, short)

pub returns-in_err-next : goal.returns-in_err-next
returns-in_err-next c =
    let core = c.args.core.now in
    let line = c.args.line + length (rounds_phrases core.rounds) in
    let p = err_from_is_err_and c.from_residual.result c.from_residual.ensures.1 in
    rw (p.1, p.2)
    (stop_first (rounds_trials (length core.members.members) c.args.line core.rounds) (price_trials c.args.model.now line core.proof core.price) c.in_err-next.field-0.0 c.in_err-next.ensures)

pub returns : goal.returns
returns c =
    let model = c.args.model.now in
    let core = c.args.core.now in
    let line = c.args.line + length (rounds_phrases core.rounds) in
    let both = c.in_ok-next.ensures in
    says_second (rounds_trials (length core.members.members) c.args.line core.rounds) (price_trials model line core.proof core.price) c.check_priced.result both.0
    (says_of _ _ c.check_priced.result (ap (λ (k : ℕ). first_stop (price_trials model k core.proof core.price)) both.1) c.check_priced.ensures)
