-- What a quick oracle answers names members that the set may have.
use Rattle.std.proofs.Common.{◌≡◌, sym, subst, List, filter, Ok, Err, inl, inr}
use Rattle.std.specs.Prelude.{IfOk, Result, ◌⊎◌}
use Rattle.lp_model.specs.declared.members.Member.{Member}
use Rattle.lp_model.specs.Members.{has}
use Rattle.lp_model.specs.MemberSets.{SetValue, possible_in}
use Rattle.certs.specs.declared.solving.Stop.{Stop}
use Rattle.certs.specs.declared.solving.Stop.TheVariants.{Memory}
use Rattle.certs.specs.declared.solving.Verdict.{Verdict}
use Rattle.certs.specs.Tales.{IsKnownVerdict, IsVerdict, OracleState}
use Rattle.certs.proofs.Possible.{known_verdict}
use Rattle.quick_answers.specs.Answers.{Came, IsConfirmedAnswer, IsQuickAnswer, IsWide, Relation, asked, unasked, quick_holds}

-- what came is an answer
came_answered : (answers : Relation) (before after : OracleState) (set : List Member) (result : Result Verdict Stop) → Came answers before after set result → IsQuickAnswer answers before.model before.budgets set result
came_answered answers before after set (Ok verdict) (unasked same h) = inr h
came_answered answers before after set (Err stop) (unasked same h) = inr h
came_answered answers before after set result (asked h) = by result h.given
  where
    by : (r : Result Verdict Stop) → (r ≡ h.answer) ⊎ (IsWide h.answer × IsConfirmedAnswer before.model set r) ⊎ (r ≡ Err Memory) → IsQuickAnswer answers before.model before.budgets set r
    by (Ok verdict) (inl e) = inl (subst (answers before.model before.budgets set) (sym e) h.answered)
    by (Ok verdict) (inr (inl k)) = inr k.1
    by (Ok verdict) (inr (inr e)) = absurd (let impossible : ⊥ = cc in impossible)
    by (Err stop) (inl e) = inl (subst (answers before.model before.budgets set) (sym e) h.answered)
    by (Err stop) (inr (inl k)) = inr k.1
    by (Err stop) (inr (inr e)) = inr (let memory : stop ≡ Memory = cc in memory)

-- and names members that the set may have
pub known_answer : (answers : Relation) (before after : OracleState) (set : SetValue) (result : Result Verdict Stop)
    → ((verdict : Verdict) → answers before.model before.budgets set.members (Ok verdict) → IsVerdict before.model set.members verdict)
    → set.members ≡ filter (has set.members) (possible_in set) → Came answers before after set.members result → IfOk result (IsKnownVerdict set)
known_answer answers before after set (Ok verdict) holds is came =
    known_verdict before.model set verdict is (quick_holds answers before.model before.budgets set.members verdict (holds verdict) (came_answered answers before after set.members (Ok verdict) came))
known_answer answers before after set (Err stop) holds is came = tt
