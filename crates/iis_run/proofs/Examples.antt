-- Small reports, tried on the definitions: one whose answer is right, one whose answer is right and whose check is too wide, and one whose answer is wrong.
use Rattle.std.proofs.Common.{◌≡◌, ◌^◌, refl, sym, subst, true≢false, true, false, List, [], ◌∷◌, Option, None, Some, arith}
use Rattle.std.proofs.lemmas.List.Elements.{All-cons, All-nil}
use lib.IntN.{pos}
use Rattle.algebra.specs.Gcd.{gcd, gcd_within}
use Rattle.rational.specs.Rational.{ℚ, frac, whole, zero_ℚ, one_ℚ, ◌+ℚ◌, ◌*ℚ◌, neg_ℚ, lt_q, le_q, eq_ℚ}
use Rattle.rational.specs.Linear.{Term}
use Rattle.frac128.specs.declared.Op.TheVariants.{Plus}
use Rattle.frac128.specs.Calculation.{first_wide, product_steps}
use Rattle.frac128.specs.Width.{is_wide, operation}
use Rattle.lp_model.specs.declared.members.Member.{Member}
use Rattle.lp_model.specs.declared.members.Member.TheVariants.{RowLo, RowUp}
use Rattle.lp_model.specs.declared.parts.Weight.TheVariants.{Soft}
use Rattle.lp_model.specs.MemberSets.{SetValue}
use Rattle.lp_model.specs.Program.{Program, NamedRow, NamedColumn}
use Rattle.lp_model.specs.Members.{active_members}
use Rattle.lp_model.specs.Satisfaction.{values_at, Holds}
use Rattle.certs.specs.declared.evidence.Node.TheVariants.{Leaf}
use Rattle.certs.specs.declared.evidence.Point.{Point}
use Rattle.certs.specs.declared.evidence.Proof.{Proof}
use Rattle.certs.specs.declared.evidence.Share.{Share}
use Rattle.certs.specs.declared.evidence.Source.TheVariants.{Member as Of}
use Rattle.certs.specs.Checks.{holds_test}
use Rattle.certs.specs.Order.{IsNodeInOrder}
use Rattle.certs.specs.Proof.{IsFittingNode, Tip}
use Rattle.certs.proofs.PlainOrder.{in_order_by_test}
use Rattle.certs.proofs.Evaluate.{combination_by, every_all, holds-true}
use Rattle.report_text.specs.declared.report.Answer.{Answer}
use Rattle.report_text.specs.declared.report.Answer.TheVariants.{Feasible, Infeasible}
use Rattle.report_text.specs.declared.report.Command.TheVariants.{Check}
use Rattle.report_text.specs.declared.report.Entry.{Entry}
use Rattle.report_text.specs.Form.{IsWithinLimit}
use Rattle.report_printer.specs.Numbers.{HasWeightsWithin}
use Rattle.analysis.specs.Right.{AreRight}
use Rattle.analysis.specs.Written.{report_of}
use Rattle.cert_check.specs.declared.outcome.Outcome.{Outcome}
use Rattle.cert_check.specs.declared.outcome.Outcome.TheVariants.{Accepted, Rejected, Wide as TooWide}
use Rattle.cert_check.specs.Trials.{outcome_of, trials}
use Rattle.iis_run.specs.Again.{IsAcceptedOrWide}
use Rattle.iis_run.proofs.Entries.{accepted_again}

abbrev row : List Term → Option ℚ → Option ℚ → NamedRow
row terms lo up = record { name = []; terms = terms; lower = lo; upper = up; lower_active = true; upper_active = true; lower_weight = Soft one_ℚ; upper_weight = Soft one_ℚ }

abbrev free : NamedColumn
free = record { name = []; lower = None; upper = None; whole = false; lower_active = true; upper_active = true; whole_active = true; lower_weight = Soft one_ℚ; upper_weight = Soft one_ℚ }

abbrev x : List Term
x = record { column = 0; factor = one_ℚ } ∷ []

-- ---- x ≤ 1 and x ≥ 2
abbrev program : Program
program = record { rows = row x None (Some one_ℚ) ∷ row x (Some (whole (pos 2))) None ∷ []; columns = free ∷ []; objective = []; maximise = false; notes = [] }

abbrev use_of : Member → Share
use_of m = record { source = Of m; weight = one_ℚ }

abbrev shares : List Share
shares = use_of (RowUp 0) ∷ use_of (RowLo 1) ∷ []

abbrev proof : Proof
proof = record { nodes = Leaf (record { shares = shares }) ∷ [] }

abbrev both : SetValue
both = record { rows = 2; columns = 1; members = RowUp 0 ∷ RowLo 1 ∷ [] }

-- the answer to `check` on line 2
abbrev answered : Answer → List Entry
answered answer = record { command = Check; answer = answer; line = 2 } ∷ []

abbrev checked : Program → List Entry → Outcome
checked model entries = outcome_of entries (trials model (report_of model entries))

-- that both rows contradict one another is right
right : AreRight program (Check ∷ []) (answered (Infeasible both proof))
unfolding frac ◌+ℚ◌ ◌*ℚ◌ neg_ℚ gcd gcd_within le_q lt_q eq_ℚ
right = record {
  rest = [];
  first = refl;
  each = (
    record {
      right = (
        λ l. absurd (omega (arith, l)),
        λ few. (
          record {
            proves = record { tree = Tip shares; listed = refl; proves = combination_by 1 program both.members [] shares refl };
            ordered = All-cons IsNodeInOrder (Leaf (record { shares = shares })) [] (in_order_by_test shares refl) (All-nil IsNodeInOrder);
            fits = All-cons IsFittingNode (Leaf (record { shares = shares })) [] tt (All-nil IsFittingNode);
            used = refl;
          },
          λ marked. absurd (true≢false (sym marked)),
        ),
      );
      numbers =
          All-cons HasWeightsWithin (Leaf (record { shares = shares })) []
          (All-cons (λ (s : Share). IsWithinLimit s.weight) (use_of (RowUp 0)) (use_of (RowLo 1) ∷ []) refl (All-cons (λ (s : Share). IsWithinLimit s.weight) (use_of (RowLo 1)) [] refl (All-nil (λ (s : Share). IsWithinLimit s.weight))))
          (All-nil HasWeightsWithin);
    },
    tt,
  );
}

-- and it is accepted
accepted : checked program (answered (Infeasible both proof)) ≡ Accepted 1 0
unfolding frac ◌+ℚ◌ ◌*ℚ◌ neg_ℚ gcd gcd_within le_q lt_q eq_ℚ first_wide is_wide product_steps
accepted = refl

-- ---- the point 0 does not satisfy them: it is rejected, so it is not right
abbrev zero : List Entry
zero = answered (Feasible (record { values = zero_ℚ ∷ [] }))

rejected : checked program zero ≡ Rejected 4
unfolding frac ◌+ℚ◌ ◌*ℚ◌ neg_ℚ gcd gcd_within le_q lt_q eq_ℚ first_wide is_wide product_steps
rejected = refl

wrong : AreRight program (Check ∷ []) zero → ⊥
wrong h = subst (IsAcceptedOrWide zero) rejected (accepted_again program (Check ∷ []) zero h)

-- ---- x + y ≥ 0 at 1 / 2^100 and 1 / 3^70: the point is right, and the sum of its values has a denominator past the limit
abbrev sum_of_both : Program
sum_of_both = record { rows = row (record { column = 0; factor = one_ℚ } ∷ record { column = 1; factor = one_ℚ } ∷ []) (Some zero_ℚ) None ∷ []; columns = free ∷ free ∷ []; objective = []; maximise = false; notes = [] }

abbrev half : ℚ
half = frac (pos 1) (2 ^ 100)

abbrev third : ℚ
third = frac (pos 1) (3 ^ 70)

abbrev point : Point
point = record { values = half ∷ third ∷ [] }

abbrev narrow : List Entry
narrow = answered (Feasible point)

near : AreRight sum_of_both (Check ∷ []) narrow
unfolding frac ◌+ℚ◌ ◌*ℚ◌ neg_ℚ gcd gcd_within le_q lt_q eq_ℚ
near = record {
  rest = [];
  first = refl;
  each = (
    record {
      right = (
        λ l. absurd (omega (arith, l)),
        λ few. (
          record { each_column = refl; satisfies = every_all (holds_test sum_of_both (values_at point.values)) (Holds sum_of_both (values_at point.values)) (holds-true sum_of_both (values_at point.values)) (active_members sum_of_both) refl },
          λ marked. absurd (true≢false (sym marked)),
        ),
      );
      numbers = All-cons IsWithinLimit half (third ∷ []) refl (All-cons IsWithinLimit third [] refl (All-nil IsWithinLimit));
    },
    tt,
  );
}

wide : checked sum_of_both narrow ≡ TooWide 4 (operation Plus half third)
unfolding frac ◌+ℚ◌ ◌*ℚ◌ neg_ℚ gcd gcd_within le_q lt_q eq_ℚ first_wide is_wide product_steps
wide = refl
