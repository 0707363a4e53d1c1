-- Values of points, by column.
use Rattle.std.proofs.Common.{◌≡◌, ◌<◌, ℕ, zero, suc, refl, List, [], ◌∷◌, length, get_or, sym, ◌∙◌, Some, Ok, subst, false, true≢false, eq-eqb, arith}
use Rattle.rational.specs.Rational.{ℚ, IsWhole}
use Rattle.lp_model.specs.declared.members.Member.{Member}
use Rattle.lp_model.specs.Program.{Program}
use Rattle.lp_model.specs.Satisfaction.{values_at}
use Rattle.certs.specs.declared.evidence.Branch.{Branch}
use Rattle.certs.specs.declared.evidence.Point.{Point as OnePoint}
use Rattle.certs.specs.declared.solving.NodeEnd.{NodeEnd}
use Rattle.certs.specs.declared.solving.NodeEnd.TheVariants.{Point}
use Rattle.certs.specs.Plain.{column_limits, plain_system}
use Rattle.certs.specs.Solves.{SettlesAt}
use Rattle.certs.specs.Tales.{IsNodeEnd}
use Rattle.certs.specs.Trees.{first_broken}
use Rattle.certs.proofs.Translated.{length_mapped}
use Rattle.branch_proof.proofs.Nodes.{mark_known, marked_by}
use Rattle.branch_proof.proofs.TreeAnswers.{broken_parts}

-- what is read within the list is the value of the column
pub read_value : (values : List ℚ) (j : ℕ) (d : ℚ) → j < length values → get_or values j d ≡ values_at values j
read_value [] j d l = absurd (let m : j < 0 = l in omega arith)
read_value (v ∷ values) zero d l = refl
read_value (v ∷ values) (suc j) d l = read_value values j d (omega (arith, l))

-- a column whose mark is broken is one of the program, and its value is not whole
pub broken_column : (model : Program) (set : List Member) (values : List ℚ) (j : ℕ) → first_broken model set values ≡ Some j → (j < length model.columns) × (IsWhole (values_at values j) → ⊥)
broken_column model set values j e =
    let parts = broken_parts model set values j e in
    (mark_known model set j (marked_by model set j parts.0), λ h. true≢false (sym (eq-eqb (values_at values j).den 1 h) ∙ parts.1))

-- the point of a node's run has a value for each column
pub point_each : (model : Program) (set : List Member) (path : List Branch) (pivots : ℕ) (end : NodeEnd) (point : OnePoint) → end ≡ Point point → IsNodeEnd model set path pivots (Ok end) → length point.values ≡ length model.columns
point_each model set path pivots end point e h =
    let settles : SettlesAt (plain_system model set path false) pivots point.values = subst (λ (n : NodeEnd). IsNodeEnd model set path pivots (Ok n)) e h in
    settles.count ∙ length_mapped (column_limits model set path) (length model.columns)
