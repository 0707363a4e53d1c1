-- Answers that are right for a set, and the laws of an oracle that gives them.
use Rattle.std.specs.Prelude.{◌≡◌, ⊤, List, Result, Ok, Err}
use Rattle.std.proofs.Common.{sym, subst}
use Rattle.std.proofs.lemmas.List.Elements.{All-contains_itself}
use Rattle.lp_model.specs.declared.members.Member.{Member}
use Rattle.lp_model.specs.Program.{Program}
use Rattle.lp_model.specs.Satisfaction.{IsPart}
use Rattle.certs.specs.declared.solving.Stop.{Stop}
use Rattle.certs.specs.declared.solving.Stop.TheVariants.{Wide, Pivots, Nodes, Large, Memory}
use Rattle.certs.specs.declared.solving.Verdict.{Verdict}
use Rattle.certs.specs.declared.solving.Verdict.TheVariants.{Feasible, Infeasible}
use Rattle.certs.specs.Order.{AreLeavesInOrder}
use Rattle.certs.specs.Proof.{IsProof}
use Rattle.certs.specs.Tales.{IsPointOf, IsSiteWithin, IsVerdict}

-- a point of the set; a proof of it, with its shares in order; or that no pivot is left, at the set
abbrev pub IsJudged : Program → List Member → Result Verdict Stop → Type 0
IsJudged model set (Ok (Feasible point)) = IsPointOf model set point
IsJudged model set (Ok (Infeasible proof)) = IsProof model set proof.nodes × AreLeavesInOrder proof.nodes
IsJudged model set (Err (Pivots site)) = site.set.members ≡ set
IsJudged model set (Err (Wide site step operation)) = ⊥
IsJudged model set (Err (Nodes site)) = ⊥
IsJudged model set (Err (Large size)) = ⊥
IsJudged model set (Err Memory) = ⊤

-- such a verdict holds
pub judged_holds : (model : Program) (set : List Member) (verdict : Verdict) → IsJudged model set (Ok verdict) → IsVerdict model set verdict
judged_holds model set (Feasible point) h = h
judged_holds model set (Infeasible proof) h = h.0

-- and such a stop is within the set
pub judged_within : (model : Program) (set : List Member) (stop : Stop) → IsJudged model set (Err stop) → IsSiteWithin set stop
judged_within model set (Pivots site) h = subst (λ (l : List Member). IsPart l set) (sym h) (All-contains_itself set)
judged_within model set (Wide site step operation) h = absurd h
judged_within model set (Nodes site) h = absurd h
judged_within model set (Large size) h = absurd h
judged_within model set Memory h = tt
