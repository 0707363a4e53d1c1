use Rattle.std.proofs.Common.{◌≡◌, ◌<◌, ℕ, sym, ◌∙◌, subst, ap, List, length, get_or, Some, FitsSigned, rules}
use Rattle.std.proofs.lemmas.Int.{to_z-of_z}
use lib.IntN.{ℤ}
use mir.Syntax.{w128}
use Rattle.rational.specs.Rational.{ℚ, IsWhole, floor}
use Rattle.certs.specs.declared.evidence.Node.TheVariants.{Split}
use Rattle.certs.specs.Trees.{first_broken}
use Rattle.branch_oracle.specs.Steps.{IsFurtherNode}
use Rattle.branch_oracle.proofs.Values.{broken_column, read_value}
use Rattle.branch_oracle.proofs.nodes.step_at.Goals as goal

pub bounds-as_slice-column : goal.bounds-as_slice-column
bounds-as_slice-column c =
    let model = c.args.model.now in
    let set = c.args.set.now.members in
    let values = c.args.point.values in
    let found : first_broken model set values ≡ Some c.in-Some.column = ap (first_broken model set) (sym c.as_slice.ensures) ∙ sym c.first_broken.ensures ∙ c.in-Some.is in
    subst (λ (l : List ℚ). c.in-Some.column < length l) (sym c.as_slice-in-Some.ensures)
    (subst (λ (n : ℕ). c.in-Some.column < n) (sym c.requires.each) (broken_column model set values c.in-Some.column found).0)

pub floor_of-requires : goal.floor_of-requires
floor_of-requires c =
    let model = c.args.model.now in
    let set = c.args.set.now.members in
    let values = c.args.point.values in
    let column = c.in-Some.column in
    let found : first_broken model set values ≡ Some column = ap (first_broken model set) (sym c.as_slice.ensures) ∙ sym c.first_broken.ensures ∙ c.in-Some.is in
    let broken = broken_column model set values column found in
    let read = subst (λ (l : List ℚ). c.index-as_slice-column.result ≡ get_or l column c.index-as_slice-column.result) c.as_slice-in-Some.ensures c.index-as_slice-column.is
    ∙ read_value values column c.index-as_slice-column.result (subst (λ (n : ℕ). column < n) (sym c.requires.each) broken.0) in
    λ h. broken.1 (subst IsWhole read h)

pub returns-in-Some : goal.returns-in-Some
returns-in-Some c = λ path pivots settles.
    let model = c.args.model.now in
    let set = c.args.set.now.members in
    let values = c.args.point.values in
    let column = c.in-Some.column in
    let found : first_broken model set values ≡ Some column = ap (first_broken model set) (sym c.as_slice.ensures) ∙ sym c.first_broken.ensures ∙ c.in-Some.is in
    let broken = broken_column model set values column found in
    let read = subst (λ (l : List ℚ). c.index-as_slice-column.result ≡ get_or l column c.index-as_slice-column.result) c.as_slice-in-Some.ensures c.index-as_slice-column.is
    ∙ read_value values column c.index-as_slice-column.result (subst (λ (n : ℕ). column < n) (sym c.requires.each) broken.0) in
    let z : ℤ = c.floor_of.result in
    let fits : FitsSigned w128 z = search rules in
    subst (λ (k : ℤ). IsFurtherNode model set pivots path (Split column k)) (sym (to_z-of_z w128 z fits))
    (record {
      is = record { values = values; settles = settles; least = found; at = c.floor_of.ensures.floor ∙ ap floor read };
      known = broken.0;
      fitting = c.floor_of.ensures.fitting column;
    })
