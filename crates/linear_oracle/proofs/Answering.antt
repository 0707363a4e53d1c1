-- What an oracle answers, by the ends of its runs.
use Rattle.std.proofs.Common.{◌≡◌, ℕ, sym, subst, List, filter, Ok, Err, inl, inr}
use Rattle.std.specs.Prelude.{IfOk, Result, ◌⊎◌}
use Rattle.lp_model.specs.declared.members.Member.{Member}
use Rattle.lp_model.specs.Members.{has}
use Rattle.lp_model.specs.MemberSets.{SetValue, possible_in}
use Rattle.lp_model.specs.Program.{Program}
use Rattle.certs.specs.declared.solving.Stop.{Stop}
use Rattle.certs.specs.declared.solving.Stop.TheVariants.{Memory}
use Rattle.certs.specs.declared.solving.Verdict.{Verdict}
use Rattle.certs.specs.Answers.{IsPlainAnswer, IsPlainSet, IsPlainVerdict}
use Rattle.certs.specs.Tales.{IsKnownVerdict}
use Rattle.certs.proofs.PlainAnswers.{plain_holds}
use Rattle.certs.proofs.Possible.{known_verdict}

-- a proof that is answered names members that the set may have
pub known_answer : (model : Program) (set : SetValue) (pivots : ℕ) (answer : Result Verdict Stop) → set.members ≡ filter (has set.members) (possible_in set) → IsPlainSet model set.members
    → IsPlainVerdict model set.members pivots answer → IfOk answer (IsKnownVerdict set)
known_answer model set pivots (Ok verdict) is asked h = known_verdict model set verdict is (plain_holds model pivots set.members verdict (record { asked = asked; ends = h }))
known_answer model set pivots (Err stop) is asked h = tt

-- what is told of an answer, or want of memory for telling it
pub told_answer : (model : Program) (set : List Member) (pivots : ℕ) (answer result : Result Verdict Stop) → IsPlainSet model set → IsPlainVerdict model set pivots answer → (result ≡ answer) ⊎ (result ≡ Err Memory)
    → IsPlainAnswer model pivots set result
told_answer model set pivots answer result asked h (inl e) = record { asked = asked; ends = subst (IsPlainVerdict model set pivots) (sym e) h }
told_answer model set pivots answer result asked h (inr e) = record { asked = asked; ends = subst (IsPlainVerdict model set pivots) (sym e) tt }
