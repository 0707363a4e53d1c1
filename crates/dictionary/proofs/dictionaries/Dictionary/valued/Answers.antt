use Rattle.std.proofs.Common.{◌≡◌, ◌<◌, true, length, sym, ◌∙◌, subst}
use Rattle.certs.specs.System.{is_basic}
use Rattle.dictionary.specs.Layouts.{basis_of}
use Rattle.dictionary.specs.Rows.{bounds_of, rows_of}
use Rattle.dictionary.specs.Sound.{IsValue}
use Rattle.dictionary.specs.Value.{table_of, tableau_of}
use Rattle.dictionary.proofs.Kept.{value_found, value_kept}
use Rattle.dictionary.proofs.dictionaries.Dictionary.valued.Goals as goal

pub invariant_of-self : goal.invariant_of-self
invariant_of-self g c = (
  c.self.invariant.0,
  λ u.
      (let m = g.N.Exact.most in
      let v = g.N.Exact.value in
      let d = c.self.inside in
      let i = c.args.variable in
      let x = c.in_ok-value.value in
      let t = table_of (bounds_of v d.bounds.items) d.objective (basis_of d.places.items) (rows_of v d.rows.items) in
      let are = c.self.invariant.1 u in
      let l : i < length d.values.items = subst (λ n. i < n) (sym are.long) (subst (λ d. i < length d.basis) (sym c.self.view_is) c.requires.known) in
      let b : is_basic c.args.self.now.basis i ≡ true = sym c.is_basic.ensures ∙ c.if-is_basic.true in
      value_kept m v t d.values.items i x l (subst (λ d. IsValue m (tableau_of d) i (v x)) (sym c.self.view_is) (value_found m (tableau_of c.args.self.now) i (v x) b c.in_ok-value.ensures)) are),
)
