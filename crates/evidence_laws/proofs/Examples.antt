-- Small programs, on which the definitions are tried by computation.
use Rattle.std.proofs.Common.{◌≡◌, refl, subst, ℕ, Bool, true, false, List, [], ◌∷◌, Option, None, Some}
use Rattle.std.proofs.lemmas.List.Elements.{All-nil}
use lib.IntN.{ℤ, pos, negsuc}
use Rattle.algebra.specs.Gcd.{gcd, gcd_within}
use Rattle.algebra.proofs.Gcd.{one_pos}
use Rattle.rational.specs.Rational.{ℚ, frac, whole, zero_ℚ, one_ℚ, ◌+ℚ◌, ◌*ℚ◌, neg_ℚ, lt_q, le_q, eq_ℚ, ◌<ℚ◌}
use Rattle.rational.specs.Linear.{Term}
use Rattle.rational.proofs.Values.{unique}
use Rattle.rational.proofs.Order.{lt_q-true, lt_irrefl_ℚ}
use Rattle.lp_model.specs.declared.members.Member.{Member}
use Rattle.lp_model.specs.declared.members.Member.TheVariants.{RowLo, RowUp, Lower, Upper, Whole}
use Rattle.lp_model.specs.declared.parts.Weight.TheVariants.{Soft}
use Rattle.lp_model.specs.Program.{Program, NamedRow, NamedColumn}
use Rattle.lp_model.specs.Members.{active_members}
use Rattle.lp_model.specs.Satisfaction.{Point, coordinate, Holds, IsUnsatisfiable}
use Rattle.lp_model.specs.declared.edits.Target.TheVariants.{OneMember}
use Rattle.lp_model.specs.declared.edits.Edit.TheVariants.{Weigh}
use Rattle.lp_model.specs.Edits.{edited}
use Rattle.certs.specs.declared.evidence.Source.TheVariants.{Member as Of, Below, Above}
use Rattle.certs.specs.declared.evidence.Share.{Share}
use Rattle.certs.specs.Combination.{KeepsBranch, column_sum, right_side, IsCombination}
use Rattle.certs.specs.Proof.{Tree, Tip, Fork, IsProof, preorder}
use Rattle.certs.specs.Violation.{IsLeastDual, IsLeast, weighted_violation}
use Rattle.certs.specs.Filter.{Late, Early, start, stays, goes}
use Rattle.certs.proofs.Evaluate.{satisfiable_by, combination_by, least_by}
use Rattle.certs.proofs.Refuted.{combination_law}
use Rattle.evidence_laws.proofs.Missed.{least_point_law}
use Rattle.lp_model.proofs.Sets.{contains_of_has}

abbrev term : ℕ → ℤ → Term
term j n = record { column = j; factor = whole n }

abbrev row : List Term → Option ℚ → Option ℚ → NamedRow
row terms lo up = record { name = []; terms = terms; lower = lo; upper = up; lower_active = true; upper_active = true; lower_weight = Soft one_ℚ; upper_weight = Soft one_ℚ }

abbrev column : Option ℚ → Option ℚ → Bool → NamedColumn
column lo up whole = record { name = []; lower = lo; upper = up; whole = whole; lower_active = true; upper_active = true; whole_active = true; lower_weight = Soft one_ℚ; upper_weight = Soft one_ℚ }

abbrev least_of_nothing : List NamedRow → List NamedColumn → Program
least_of_nothing rows columns = record { rows = rows; columns = columns; objective = []; maximise = false; notes = [] }

abbrev use_of : Member → ℤ → Share
use_of m w = record { source = Of m; weight = whole w }

-- what a combination refutes is unsatisfiable
refuted : (model : Program) (set : List Member) (shares : List Share) → IsCombination model set [] shares → IsUnsatisfiable model set
refuted model set shares c s = combination_law model set [] shares c (coordinate s.point) s.satisfies (All-nil (KeepsBranch (coordinate s.point)))

-- ---- 3 x + 3 y ≤ 1 and x + y ≥ 1/2
abbrev two_rows : Program
two_rows = least_of_nothing (row (term 0 (pos 3) ∷ term 1 (pos 3) ∷ []) None (Some one_ℚ) ∷ row (term 0 (pos 1) ∷ term 1 (pos 1) ∷ []) (Some (frac (pos 1) 2)) None ∷ [])
    (column (Some zero_ℚ) None false ∷ column (Some zero_ℚ) None false ∷ [])

two_members : active_members two_rows ≡ RowUp 0 ∷ RowLo 1 ∷ Lower 0 ∷ Lower 1 ∷ []
two_members = refl

abbrev two_shares : List Share
two_shares = use_of (RowUp 0) (pos 1) ∷ use_of (RowLo 1) (pos 3) ∷ []

two_refuted : IsCombination two_rows (RowUp 0 ∷ RowLo 1 ∷ []) [] two_shares
unfolding frac ◌+ℚ◌ ◌*ℚ◌ neg_ℚ gcd gcd_within le_q lt_q eq_ℚ
two_refuted = combination_by 2 two_rows (RowUp 0 ∷ RowLo 1 ∷ []) [] two_shares refl

two_right : right_side two_rows [] two_shares ≡ frac (negsuc 0) 2
unfolding frac ◌+ℚ◌ ◌*ℚ◌ neg_ℚ gcd gcd_within
two_right = unique (right_side two_rows [] two_shares) (frac (negsuc 0) 2) refl

-- with weight 2 the columns do not cancel
false_weight : ¬ (IsCombination two_rows (RowUp 0 ∷ RowLo 1 ∷ []) [] (use_of (RowUp 0) (pos 1) ∷ use_of (RowLo 1) (pos 2) ∷ []))
unfolding frac ◌+ℚ◌ ◌*ℚ◌ neg_ℚ gcd gcd_within le_q lt_q eq_ℚ
false_weight c =
    lt_irrefl_ℚ {a = zero_ℚ}
    (subst (λ z. zero_ℚ <ℚ z) (c.cancels 0) (lt_q-true zero_ℚ (column_sum two_rows (use_of (RowUp 0) (pos 1) ∷ use_of (RowLo 1) (pos 2) ∷ []) 0) refl))

-- ---- A: x ≤ 0, B: x ≥ 1, C: x ≤ 0
abbrev x_row : Option ℚ → Option ℚ → NamedRow
x_row lo up = row (term 0 (pos 1) ∷ []) lo up

abbrev three : Program
three = least_of_nothing (x_row None (Some zero_ℚ) ∷ x_row (Some one_ℚ) None ∷ x_row None (Some zero_ℚ) ∷ []) (column (Some zero_ℚ) None false ∷ [])

abbrev all_three : List Member
all_three = RowUp 0 ∷ RowLo 1 ∷ RowUp 2 ∷ Lower 0 ∷ []

three_members : active_members three ≡ all_three
three_members = refl

abbrev at : ℤ → Point
at n = record { numerators = n ∷ []; denominator = 1; positive = one_pos }

late_three : Late three all_three (RowLo 1 ∷ RowUp 2 ∷ [])
unfolding frac ◌+ℚ◌ ◌*ℚ◌ neg_ℚ gcd gcd_within le_q lt_q eq_ℚ
late_three =
    goes (stays (stays (goes start
    (refuted three (RowLo 1 ∷ RowUp 2 ∷ Lower 0 ∷ []) (use_of (RowLo 1) (pos 1) ∷ use_of (RowUp 2) (pos 1) ∷ []) (combination_by 1 three (RowLo 1 ∷ RowUp 2 ∷ Lower 0 ∷ []) [] (use_of (RowLo 1) (pos 1) ∷ use_of (RowUp 2) (pos 1) ∷ []) refl)))
    (satisfiable_by three (RowUp 2 ∷ Lower 0 ∷ []) (at (pos 0)) refl))
    (satisfiable_by three (RowLo 1 ∷ Lower 0 ∷ []) (at (pos 1)) refl))
    (refuted three (RowLo 1 ∷ RowUp 2 ∷ []) (use_of (RowLo 1) (pos 1) ∷ use_of (RowUp 2) (pos 1) ∷ []) (combination_by 1 three (RowLo 1 ∷ RowUp 2 ∷ []) [] (use_of (RowLo 1) (pos 1) ∷ use_of (RowUp 2) (pos 1) ∷ []) refl))

early_three : Early three all_three (RowUp 0 ∷ RowLo 1 ∷ [])
unfolding frac ◌+ℚ◌ ◌*ℚ◌ neg_ℚ gcd gcd_within le_q lt_q eq_ℚ
early_three =
    stays {front = []} (stays {front = RowUp 0 ∷ []} (goes {front = RowUp 0 ∷ RowLo 1 ∷ []} (RowUp 2) (goes {front = RowUp 0 ∷ RowLo 1 ∷ RowUp 2 ∷ []} (Lower 0) start
    (refuted three (RowUp 0 ∷ RowLo 1 ∷ RowUp 2 ∷ []) (use_of (RowUp 0) (pos 1) ∷ use_of (RowLo 1) (pos 1) ∷ []) (combination_by 1 three (RowUp 0 ∷ RowLo 1 ∷ RowUp 2 ∷ []) [] (use_of (RowUp 0) (pos 1) ∷ use_of (RowLo 1) (pos 1) ∷ []) refl)))
    (refuted three (RowUp 0 ∷ RowLo 1 ∷ []) (use_of (RowUp 0) (pos 1) ∷ use_of (RowLo 1) (pos 1) ∷ []) (combination_by 1 three (RowUp 0 ∷ RowLo 1 ∷ []) [] (use_of (RowUp 0) (pos 1) ∷ use_of (RowLo 1) (pos 1) ∷ []) refl)))
    (satisfiable_by three (RowUp 0 ∷ []) (at (pos 0)) refl))
    (satisfiable_by three (RowLo 1 ∷ []) (at (pos 1)) refl)

-- the least total is 1 at 0; with weight 5 on B it is 2 at 1
least_three : IsLeastDual three all_three [] (use_of (RowUp 0) (pos 1) ∷ use_of (RowLo 1) (pos 1) ∷ []) one_ℚ
unfolding frac ◌+ℚ◌ ◌*ℚ◌ neg_ℚ gcd gcd_within le_q lt_q eq_ℚ
least_three = least_by 1 three all_three (use_of (RowUp 0) (pos 1) ∷ use_of (RowLo 1) (pos 1) ∷ []) one_ℚ refl

abbrev heavy : Program
heavy = edited three (Weigh (OneMember (RowLo 1)) (Soft (whole (pos 5))))

heavy_total : weighted_violation heavy all_three (coordinate (at (pos 1))) ≡ whole (pos 2)
unfolding frac ◌+ℚ◌ ◌*ℚ◌ neg_ℚ gcd gcd_within le_q lt_q eq_ℚ
heavy_total = unique (weighted_violation heavy all_three (coordinate (at (pos 1)))) (whole (pos 2)) refl

heavy_dual : IsLeastDual heavy all_three [] (use_of (RowUp 0) (pos 1) ∷ use_of (RowLo 1) (pos 2) ∷ use_of (RowUp 2) (pos 1) ∷ []) (weighted_violation heavy all_three (coordinate (at (pos 1))))
unfolding frac ◌+ℚ◌ ◌*ℚ◌ neg_ℚ gcd gcd_within le_q lt_q eq_ℚ
heavy_dual = least_by 1 heavy all_three (use_of (RowUp 0) (pos 1) ∷ use_of (RowLo 1) (pos 2) ∷ use_of (RowUp 2) (pos 1) ∷ []) (weighted_violation heavy all_three (coordinate (at (pos 1)))) refl

heavy_least : IsLeast heavy all_three (at (pos 1))
heavy_least = least_point_law heavy all_three (use_of (RowUp 0) (pos 1) ∷ use_of (RowLo 1) (pos 2) ∷ use_of (RowUp 2) (pos 1) ∷ []) (at (pos 1)) heavy_dual (All-nil (Holds heavy (coordinate (at (pos 1)))))

-- ---- 1/5 ≤ x ≤ 4/5 and x whole
abbrev marked : Program
marked = least_of_nothing (x_row (Some (frac (pos 1) 5)) (Some (frac (pos 4) 5)) ∷ []) (column (Some zero_ℚ) None true ∷ [])

abbrev split : Tree
split =
    Fork 0 (pos 0)
    (Tip (use_of (RowLo 0) (pos 1) ∷ record { source = Below 0; weight = one_ℚ } ∷ []))
    (Tip (use_of (RowUp 0) (pos 1) ∷ record { source = Above 0; weight = one_ℚ } ∷ []))

marked_proof : IsProof marked (RowLo 0 ∷ RowUp 0 ∷ Whole 0 ∷ []) (preorder split)
unfolding frac ◌+ℚ◌ ◌*ℚ◌ neg_ℚ gcd gcd_within le_q lt_q eq_ℚ
marked_proof = record {
  tree = split;
  listed = refl;
  proves = (
    record { exists = refl; in_set = contains_of_has (RowLo 0 ∷ RowUp 0 ∷ Whole 0 ∷ []) (Whole 0) refl },
    combination_by 1 marked (RowLo 0 ∷ RowUp 0 ∷ Whole 0 ∷ []) (record { column = 0; upper = true; at = pos 0 } ∷ []) (use_of (RowLo 0) (pos 1) ∷ record { source = Below 0; weight = one_ℚ } ∷ []) refl,
    combination_by 1 marked (RowLo 0 ∷ RowUp 0 ∷ Whole 0 ∷ []) (record { column = 0; upper = false; at = pos 1 } ∷ []) (use_of (RowUp 0) (pos 1) ∷ record { source = Above 0; weight = one_ℚ } ∷ []) refl,
  );
}

-- ---- a plan of three periods: columns s1 s2 s3 p1 p2 p3
abbrev equation : List Term → ℤ → NamedRow
equation terms n = row terms (Some (whole n)) (Some (whole n))

abbrev plan : Program
plan =
    least_of_nothing
    (equation (term 0 (negsuc 0) ∷ term 3 (pos 1) ∷ []) (pos 8)
    ∷ equation (term 0 (pos 1) ∷ term 1 (negsuc 0) ∷ term 4 (pos 1) ∷ []) (pos 12)
    ∷ equation (term 1 (pos 1) ∷ term 2 (negsuc 0) ∷ term 5 (pos 1) ∷ []) (pos 13) ∷ [])
    (column (Some zero_ℚ) None false ∷ column (Some zero_ℚ) None false ∷ column (Some zero_ℚ) None false
    ∷ column (Some zero_ℚ) (Some (whole (pos 10))) false ∷ column (Some zero_ℚ) (Some (whole (pos 10))) false ∷ column (Some zero_ℚ) (Some (whole (pos 10))) false ∷ [])

abbrev plan_set : List Member
plan_set = RowLo 0 ∷ RowLo 1 ∷ RowLo 2 ∷ Lower 2 ∷ Upper 3 ∷ Upper 4 ∷ Upper 5 ∷ []

abbrev plan_shares : List Share
plan_shares =
    use_of (RowLo 0) (pos 1) ∷ use_of (RowLo 1) (pos 1) ∷ use_of (RowLo 2) (pos 1) ∷ use_of (Lower 2) (pos 1)
    ∷ use_of (Upper 3) (pos 1) ∷ use_of (Upper 4) (pos 1) ∷ use_of (Upper 5) (pos 1) ∷ []

plan_refuted : IsCombination plan plan_set [] plan_shares
unfolding frac ◌+ℚ◌ ◌*ℚ◌ neg_ℚ gcd gcd_within le_q lt_q eq_ℚ
plan_refuted = combination_by 6 plan plan_set [] plan_shares refl

plan_right : right_side plan [] plan_shares ≡ whole (negsuc 2)
unfolding frac ◌+ℚ◌ ◌*ℚ◌ neg_ℚ gcd gcd_within
plan_right = unique (right_side plan [] plan_shares) (whole (negsuc 2)) refl
