use Rattle.std.proofs.Common.{◌≡◌, ◌<◌, sym, ◌∙◌, subst, arith, not, false, length}
use Rattle.std.specs.Prelude.{All}
use Rattle.std.proofs.lemmas.Bool.{not_from_false, not_from_true}
use Rattle.std.proofs.lemmas.List.Elements.{All-nil}
use Rattle.certs.specs.System.{is_basic}
use Rattle.certs.specs.Tableau.{below}
use Rattle.certs.specs.Turns.{helps}
use Rattle.dictionary.specs.Layouts.{side_of}
use Rattle.dictionary.specs.Value.{tableau_of}
use Rattle.simplex.proofs.Firsts.{find-at, find-none, none-more, none-same}
use Rattle.simplex.proofs.choices.entering.Goals as goal

pub loop-variable-init : goal.loop-variable-init
loop-variable-init g c = All-nil (λ k. helps (tableau_of c.args.dictionary.now) (side_of c.args.upper) c.args.basic k ≡ false)

pub loop-variable-preserved-then-is_basic : goal.loop-variable-preserved-then-is_basic
loop-variable-preserved-then-is_basic g c =
    let d = c.args.dictionary.now in
    none-same (λ k. not (is_basic d.basis k)) (helps (tableau_of d) (side_of c.args.upper) c.args.basic) c.loop-variable.variable (not_from_true (is_basic d.basis c.loop-variable.variable) (sym c.is_basic.ensures ∙ c.if-is_basic.true)) c.loop-variable.invariant

pub returns-then-helps : goal.returns-then-helps
returns-then-helps g c =
    let d = c.args.dictionary.now in
    let v = c.loop-variable.variable in
    let l : v < length d.basis = subst (λ n. v < n) c.variables-variable-end.ensures c.loop-variable-test.true in
    sym (find-at (λ k. not (is_basic d.basis k)) (helps (tableau_of d) (side_of c.args.upper) c.args.basic) (length d.basis) v l (not_from_false (is_basic d.basis v) (sym c.is_basic.ensures ∙ c.if-is_basic.false)) c.loop-variable.invariant
    (sym c.helps.ensures ∙ c.if-helps.true))

pub loop-variable-preserved : goal.loop-variable-preserved
loop-variable-preserved g c =
    let d = c.args.dictionary.now in
    let v = c.loop-variable.variable in
    none-more (λ k. not (is_basic d.basis k)) (helps (tableau_of d) (side_of c.args.upper) c.args.basic) v (not_from_false (is_basic d.basis v) (sym c.is_basic.ensures ∙ c.if-is_basic.false)) (sym c.helps.ensures ∙ c.if-helps.false) c.loop-variable.invariant

pub returns : goal.returns
returns g c =
    let d = c.args.dictionary.now in
    let p = helps (tableau_of d) (side_of c.args.upper) c.args.basic in
    let e : c.loop-variable.variable ≡ length d.basis = (let a = c.loop-variable-test.false in let b = c.loop-variable.auto in omega arith) ∙ c.variables-variable-end.ensures in
    sym (find-none p (below (length d.basis) (λ k. not (is_basic d.basis k))) (subst (λ n. All (λ k. p k ≡ false) (below n (λ k. not (is_basic d.basis k)))) e c.loop-variable.invariant))
