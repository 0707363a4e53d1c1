use Rattle.std.proofs.Common.{◌≡◌, sym, ◌∙◌, ap, Bool, cond, Some, None}
use Rattle.std.specs.Option.{option_map}
use Rattle.rational.specs.Rational.{ℚ, neg_ℚ}
use Rattle.frac128.specs.Calculation.{first_wide}
use Rattle.frac128.proofs.Calculations.{first_wide-nil}
use Rattle.certs.specs.System.{limit_on}
use Rattle.certs.specs.Tableau.{limits_at}
use Rattle.certs.specs.Improves.{block_at, block_on, block_operations, distance_operations, rate, towards}
use Rattle.dictionary.specs.Layouts.{side_of}
use Rattle.dictionary.specs.Value.{tableau_of}
use Rattle.simplex.proofs.Turned.{factor_moves}
use Rattle.simplex.proofs.blocks.basic_block.Goals as goal

-- a change by the direction and the factor
changed : (a b : Bool) (q f : ℚ) → a ≡ b → q ≡ f → cond a q (neg_ℚ q) ≡ cond b f (neg_ℚ f)
changed a b q f e h = λ i. cond (e i) (h i) (neg_ℚ (h i))

pub returns-in_default : goal.returns-in_default
returns-in_default g c =
    let t = tableau_of c.args.dictionary.now in
    let j = c.args.moving.variable in
    let i = c.args.basic in
    let change : g.N.Exact.value c.directed-change.result ≡ rate t j i = c.directed-change.ensures ∙ changed _ _ _ _ c.requires.rises c.entry-factor.ensures in
    let none : towards (rate t j i) ≡ None = sym (c.towards.ensures ∙ ap towards change) ∙ ap (option_map side_of) c.in_default.is in
    (sym (ap (block_on t j i) none), ap (λ o. first_wide g.N.Exact.most (block_operations t j i o)) none ∙ first_wide-nil g.N.Exact.most)

pub returns-in_default-limit_of : goal.returns-in_default-limit_of
returns-in_default-limit_of g c =
    let t = tableau_of c.args.dictionary.now in
    let j = c.args.moving.variable in
    let i = c.args.basic in
    let side = side_of c.in-Some.upper in
    let change : g.N.Exact.value c.directed-change.result ≡ rate t j i = c.directed-change.ensures ∙ changed _ _ _ _ c.requires.rises c.entry-factor.ensures in
    let way : towards (rate t j i) ≡ Some side = sym (c.towards.ensures ∙ ap towards change) ∙ ap (option_map side_of) c.in-Some.is in
    let none : limit_on (limits_at t i) side ≡ None = sym c.limit_of.ensures ∙ ap (option_map g.N.Exact.value) c.in_default-limit_of.is in
    (sym (ap (block_on t j i) way ∙ ap (block_at t j i side) none), ap (λ o. first_wide g.N.Exact.most (block_operations t j i o)) way ∙ ap (λ o. first_wide g.N.Exact.most (distance_operations t j i side o)) none ∙ first_wide-nil g.N.Exact.most)

pub distance-requires : goal.distance-requires
distance-requires g c =
    let t = tableau_of c.args.dictionary.now in
    let j = c.args.moving.variable in
    let i = c.args.basic in
    let side = side_of c.in-Some.upper in
    let change : g.N.Exact.value c.directed-change.result ≡ rate t j i = c.directed-change.ensures ∙ changed _ _ _ _ c.requires.rises c.entry-factor.ensures in
    let way : towards (rate t j i) ≡ Some side = sym (c.towards.ensures ∙ ap towards change) ∙ ap (option_map side_of) c.in-Some.is in
    λ z. factor_moves t j i side way (sym c.entry-factor.ensures ∙ z)
