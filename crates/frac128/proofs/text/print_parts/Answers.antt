use Rattle.std.proofs.Common.{◌++◌, List, ℕ, ◌∙◌, ap, ◌∷◌, []}
use Rattle.std.specs.Fmt.{signed_decimal}
use Rattle.frac128.specs.Value.{value_of}
use Rattle.frac128.proofs.Machine.{z_read}
use Rattle.frac128.proofs.Texts.{on_err, some_number, some_slash}
use Rattle.frac128.proofs.text.print_parts.Goals as goal

pub returns-in_err-push-clause-err : goal.returns-in_err-push-clause-err
returns-in_err-push-clause-err c =
    let number = c.as_bytes.ensures.value ∙ c.format.ensures.text ∙ ap signed_decimal (z_read c.args.value.num c.args.value.num_fits) in
    let first = c.in_ok-extend_from_slice.ensures.items ∙ ap (λ (l : List ℕ). c.args.into.now.items ++ l) number in
    on_err _ (some_number (value_of c.args.value) _ _ c.if-value-ne1.true (c.in_err-push.ensures.items ∙ first))

pub returns-in_err-extend_from_slice-2-clause-err : goal.returns-in_err-extend_from_slice-2-clause-err
returns-in_err-extend_from_slice-2-clause-err c =
    let number = c.as_bytes.ensures.value ∙ c.format.ensures.text ∙ ap signed_decimal (z_read c.args.value.num c.args.value.num_fits) in
    let first = c.in_ok-extend_from_slice.ensures.items ∙ ap (λ (l : List ℕ). c.args.into.now.items ++ l) number in
    let second = c.in_ok-push.ensures.items ∙ ap (λ (l : List ℕ). l ++ (47 ∷ [])) first in
    on_err _ (some_slash (value_of c.args.value) _ _ c.if-value-ne1.true (c.in_err-extend_from_slice-2.ensures.items ∙ second))
