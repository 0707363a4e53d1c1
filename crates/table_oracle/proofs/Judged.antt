-- What right answers show.
use Rattle.std.proofs.Common.{◌≡◌, ◌<◌, refl, sym, subst, true, true≢false, ◌==◌, List, [], ◌∷◌, filter, length, Ok, Err}
use Rattle.std.specs.Prelude.{Result, IfOk}
use Rattle.std.proofs.lemmas.Bool.{and_parts}
use Rattle.std.proofs.lemmas.List.Elements.{All-cons, All-nil}
use lib.Dec.{T, eqb→eq}
use Rattle.frac128.specs.Limit.{limit}
use Rattle.lp_model.specs.declared.members.Member.{Member}
use Rattle.lp_model.specs.Members.{has}
use Rattle.lp_model.specs.MemberSets.{SetValue, possible_in}
use Rattle.lp_model.specs.Program.{Program, IsWellFormed}
use Rattle.lp_model.specs.Satisfaction.{values_at}
use Rattle.certs.specs.declared.evidence.Branch.{Branch}
use Rattle.certs.specs.declared.evidence.Checked.{Checked}
use Rattle.certs.specs.declared.evidence.Checked.TheVariants.{Yes, No, Wide as TooWide}
use Rattle.certs.specs.declared.evidence.Combo.{Combo}
use Rattle.certs.specs.declared.evidence.Node.TheVariants.{Leaf as LeafNode}
use Rattle.certs.specs.declared.evidence.Point.{Point}
use Rattle.certs.specs.declared.evidence.Proof.{Proof}
use Rattle.certs.specs.declared.solving.Stop.{Stop}
use Rattle.certs.specs.declared.solving.Verdict.{Verdict}
use Rattle.certs.specs.declared.solving.Verdict.TheVariants.{Feasible, Infeasible}
use Rattle.certs.specs.Checks.{outcome, point_steps, combination_steps}
use Rattle.certs.specs.Order.{AreLeavesInOrder, IsNodeInOrder, are_in_order}
use Rattle.certs.specs.Proof.{Tip}
use Rattle.certs.specs.Tales.{IsKnownVerdict}
use Rattle.certs.proofs.Passed.{point_check_law, combination_check_law}
use Rattle.certs.proofs.PlainOrder.{in_order_by_test}
use Rattle.certs.proofs.Possible.{known_verdict}
use Rattle.table_oracle.specs.Judged.{IsJudged, judged_holds}
use Rattle.table_oracle.specs.Value.{is_yes, is_point, is_leaf}

yes_of : (c : Checked) → is_yes c ≡ true → c ≡ Yes
yes_of Yes e = refl
yes_of No e = absurd (true≢false (sym e))
yes_of (TooWide operation) e = absurd (true≢false (sym e))

-- a point that is right
pub point_judged : (model : Program) (set : List Member) (p : Point) → is_point model set p ≡ true → IsJudged model set (Ok (Feasible p))
point_judged model set p e =
    let both = and_parts (length p.values == length model.columns) (is_yes (outcome (point_steps model set (values_at p.values)))) e in
    record {
      each_column = eqb→eq (length p.values) (length model.columns) (subst T (sym both.0) tt);
      satisfies = point_check_law limit model set (values_at p.values) (yes_of (outcome (point_steps model set (values_at p.values))) both.1);
    }

-- a combination that is right
pub leaf_judged : (model : Program) (set : List Member) (combo : Combo) (proof : Proof) → IsWellFormed model → is_leaf model set combo ≡ true → proof.nodes ≡ LeafNode combo ∷ [] → IsJudged model set (Ok (Infeasible proof))
leaf_judged model set combo proof formed e is =
    let both = and_parts (is_yes (outcome (combination_steps model set [] combo.shares))) (are_in_order combo.shares) e in (
      record {
        tree = Tip combo.shares;
        listed = sym is;
        proves = combination_check_law limit model set [] combo.shares formed (All-nil (λ (b : Branch). b.column < length model.columns)) (yes_of (outcome (combination_steps model set [] combo.shares)) both.0);
      },
      subst AreLeavesInOrder (sym is) (All-cons IsNodeInOrder (LeafNode combo) [] (in_order_by_test combo.shares both.1) (All-nil IsNodeInOrder)),
    )

-- a proof that is answered names members that the set may have
pub known_answer : (model : Program) (set : SetValue) (answer : Result Verdict Stop) → set.members ≡ filter (has set.members) (possible_in set) → IsJudged model set.members answer → IfOk answer (IsKnownVerdict set)
known_answer model set (Ok verdict) is h = known_verdict model set verdict is (judged_holds model set.members verdict h)
known_answer model set (Err stop) is h = tt
