use Rattle.std.proofs.Common.{◌<◌, [], ◌∷◌, ◌++◌, refl, ap, sym, ◌∙◌, length, Ok}
use Rattle.std.proofs.lemmas.Result.{err_from_is_err_and}
use Rattle.std.proofs.lemmas.List.Elements.{All-nil}
use Rattle.rational.specs.Rational.{eq_ℚ, neg_ℚ}
use Rattle.certs.specs.declared.evidence.Branch.{Branch}
use Rattle.certs.specs.Checks.{right_step, checked_of}
use Rattle.certs.proofs.Combined.{shares_known}
use Rattle.least_checks.specs.Parts.{weight_steps}
use Rattle.least_checks.proofs.Steps.{first_is_wide, first_fails, first_passes, unusable, usable}
use Rattle.least_checks.proofs.least.is_shown.Goals as goal

pub returns-then-not-are_usable : goal.returns-then-not-are_usable
returns-then-not-are_usable c =
    let right = right_step c.args.model.now [] c.args.shares.now (λ r. eq_ℚ c.args.total (neg_ℚ r)) ∷ [] in
    unusable c.args.model.now c.args.set.now.members c.args.shares.now (weight_steps c.args.model.now c.args.set.now.members c.args.shares.now ++ right) (sym c.are_usable.ensures ∙ c.if-not-are_usable.true)

pub are_weights-requires-clause-known : goal.are_weights-requires-clause-known
are_weights-requires-clause-known c =
    shares_known c.args.model.now c.args.set.now.members [] c.args.shares.now (length c.args.model.now.columns) c.row_count-rows.ensures.well_formed (All-nil (λ (b : Branch). b.column < length c.args.model.now.columns))
    (sym c.are_usable.ensures ∙ c.if-not-are_usable.false) refl

pub returns-in_err-are_weights : goal.returns-in_err-are_weights
returns-in_err-are_weights c =
    let model = c.args.model.now in
    let set = c.args.set.now.members in
    let shares = c.args.shares.now in
    let right = right_step model [] shares (λ r. eq_ℚ c.args.total (neg_ℚ r)) ∷ [] in
    let p = err_from_is_err_and c.from_residual.result c.from_residual.ensures.1 in
    rw (p.1, p.2)
    (first_is_wide (weight_steps model set shares) right _ c.in_err-are_weights.ensures
    ∙ sym (usable model set shares (weight_steps model set shares ++ right) (sym c.are_usable.ensures ∙ c.if-not-are_usable.false)))

pub returns-then-not-branch : goal.returns-then-not-branch
returns-then-not-branch c =
    let model = c.args.model.now in
    let set = c.args.set.now.members in
    let shares = c.args.shares.now in
    let right = right_step model [] shares (λ r. eq_ℚ c.args.total (neg_ℚ r)) ∷ [] in
    first_fails (weight_steps model set shares) right (ap (λ b. checked_of (Ok b)) (sym c.if-not-branch.true) ∙ c.in_ok-are_weights.ensures)
    ∙ sym (usable model set shares (weight_steps model set shares ++ right) (sym c.are_usable.ensures ∙ c.if-not-are_usable.false))

pub returns : goal.returns
returns c =
    let model = c.args.model.now in
    let set = c.args.set.now.members in
    let shares = c.args.shares.now in
    let right = right_step model [] shares (λ r. eq_ℚ c.args.total (neg_ℚ r)) ∷ [] in
    c.is_right.ensures
    ∙ sym (first_passes (weight_steps model set shares) right (ap (λ b. checked_of (Ok b)) (sym c.if-not-branch.false) ∙ c.in_ok-are_weights.ensures))
    ∙ sym (usable model set shares (weight_steps model set shares ++ right) (sym c.are_usable.ensures ∙ c.if-not-are_usable.false))
