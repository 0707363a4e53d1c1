use Rattle.std.proofs.Common.{◌≡◌, sym, ◌∙◌, ap, Some, None}
use Rattle.std.specs.Option.{option_map}
use Rattle.frac128.specs.Calculation.{first_wide}
use Rattle.frac128.proofs.Calculations.{first_wide-nil}
use Rattle.certs.specs.Tableau.{limits_at}
use Rattle.certs.specs.Improves.{own_block, own_operations}
use Rattle.dictionary.specs.Layouts.{side_of}
use Rattle.dictionary.specs.Value.{tableau_of}
use Rattle.simplex.proofs.blocks.own_block.Goals as goal

pub returns-in_default : goal.returns-in_default
returns-in_default g c =
    let limits = limits_at (tableau_of c.args.dictionary.now) c.args.moving.variable in
    let none : limits.lower ≡ None = sym c.lower.ensures ∙ ap (option_map g.N.Exact.value) c.in_default.is in
    (sym (ap (λ o. own_block c.args.moving.variable (side_of c.args.moving.rises) o limits.upper) none), ap (λ o. first_wide g.N.Exact.most (own_operations o limits.upper)) none ∙ first_wide-nil g.N.Exact.most)

pub returns-in_default-upper : goal.returns-in_default-upper
returns-in_default-upper g c =
    let limits = limits_at (tableau_of c.args.dictionary.now) c.args.moving.variable in
    let there : limits.lower ≡ Some (g.N.Exact.value c.in-Some.lower) = sym c.lower.ensures ∙ ap (option_map g.N.Exact.value) c.in-Some.is in
    let none : limits.upper ≡ None = sym c.upper.ensures ∙ ap (option_map g.N.Exact.value) c.in_default-upper.is in
    (sym (λ i. own_block c.args.moving.variable (side_of c.args.moving.rises) (there i) (none i)), (λ i. first_wide g.N.Exact.most (own_operations (there i) (none i))) ∙ first_wide-nil g.N.Exact.most)
