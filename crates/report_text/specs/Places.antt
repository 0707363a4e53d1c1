-- How many lines stand before the parts of a report.
use Rattle.std.specs.Prelude.{◌≡◌, ℕ, ◌+◌, ◌++◌, [], ◌∷◌, length, map, flat_map, zip, drop}
use Rattle.lp_model.specs.Program.{Program}
use Rattle.lp_model.specs.declared.members.Member.{Member}
use Rattle.lp_model.specs.MemberSets.{SetValue}
use Rattle.certs.specs.declared.evidence.Point.{Point}
use Rattle.certs.specs.declared.evidence.Proof.{Proof}
use Rattle.certs.specs.declared.evidence.Ray.{Ray}
use Rattle.certs.specs.declared.evidence.Dual.{Dual}
use Rattle.report_text.specs.declared.report.Core.{Core}
use Rattle.report_text.specs.declared.report.Bounded.{Bounded as Reached}
use Rattle.report_text.specs.declared.report.Answer.TheVariants.{Feasible, Infeasible, Irreducible, Unbounded, Bounded, Least, RigidInfeasible}
use Rattle.report_text.specs.declared.report.Command.{Command}
use Rattle.report_text.specs.declared.report.Report.{Report}
use Rattle.report_text.specs.declared.layout.TheConstants.{HEAD_LINES, OPENING_LINES, MEMBER_LINES, PROOF_LINES, BOUND_LINES, LEAST_LINES}
use Rattle.report_text.specs.declared.phrases.Phrase.{Phrase}
use Rattle.report_text.specs.Grammar.{point_phrases, value_phrases, objective_phrases, dual_phrases, node_phrases, price_phrases, proof_phrases, rounds_phrases, witness_phrases, entry_phrases, entries_phrases, report_phrases}

-- what is left behind so many lines
pub record PlacesLaw : Type 0 where
  pub notes : (model : Program) (report : Report) → drop HEAD_LINES (report_phrases model report) ≡ (map Phrase.Note report.notes ++ entries_phrases model [] report.entries) ++ Phrase.Foot ∷ []
  pub point : (model : Program) (c : Command) (p : Point) (n : ℕ) → drop OPENING_LINES (entry_phrases model (record { command = c; answer = Feasible p; line = n })) ≡ point_phrases p ++ Phrase.End ∷ []
  pub members : (model : Program) (c : Command) (set : SetValue) (proof : Proof) (n : ℕ)
      → drop OPENING_LINES (entry_phrases model (record { command = c; answer = Infeasible set proof; line = n })) ≡ (map Phrase.Member set.members ++ proof_phrases proof) ++ Phrase.End ∷ []
  pub witnesses : (model : Program) (c : Command) (core : Core) (n : ℕ)
      → drop OPENING_LINES (entry_phrases model (record { command = c; answer = Irreducible core; line = n })) ≡ (flat_map witness_phrases (zip core.members.members core.witnesses) ++ (proof_phrases core.proof ++ (rounds_phrases core.rounds ++ price_phrases core.price))) ++ Phrase.End ∷ []
  pub witness : (m : Member) (p : Point) → drop MEMBER_LINES (witness_phrases (m, p)) ≡ point_phrases p
  pub nodes : (proof : Proof) → drop PROOF_LINES (proof_phrases proof) ≡ flat_map node_phrases proof.nodes
  pub ray : (model : Program) (c : Command) (p : Point) (ray : Ray) (n : ℕ)
      → drop (OPENING_LINES + length (point_phrases p)) (entry_phrases model (record { command = c; answer = Unbounded p ray; line = n })) ≡ (Phrase.Ray ∷ value_phrases 0 ray.values) ++ Phrase.End ∷ []
  pub objective : (model : Program) (c : Command) (b : Reached) (n : ℕ)
      → drop (OPENING_LINES + length (point_phrases b.point)) (entry_phrases model (record { command = c; answer = Bounded b; line = n })) ≡ (objective_phrases b.objective ++ dual_phrases b.dual) ++ Phrase.End ∷ []
  pub bound : (model : Program) (c : Command) (b : Reached) (n : ℕ)
      → drop ((OPENING_LINES + length (point_phrases b.point)) + length (objective_phrases b.objective)) (entry_phrases model (record { command = c; answer = Bounded b; line = n })) ≡ dual_phrases b.dual ++ Phrase.End ∷ []
  pub dual : (dual : Dual) → drop BOUND_LINES (dual_phrases dual) ≡ Phrase.Dual ∷ map Phrase.Use dual.combo.shares
  pub total : (model : Program) (c : Command) (p : Point) (dual : Dual) (n : ℕ)
      → drop OPENING_LINES (entry_phrases model (record { command = c; answer = Least p dual; line = n })) ≡ (Phrase.Total dual.bound ∷ (point_phrases p ++ Phrase.Dual ∷ map Phrase.Use dual.combo.shares)) ++ Phrase.End ∷ []
  pub least : (model : Program) (c : Command) (p : Point) (dual : Dual) (n : ℕ)
      → drop LEAST_LINES (entry_phrases model (record { command = c; answer = Least p dual; line = n })) ≡ (point_phrases p ++ Phrase.Dual ∷ map Phrase.Use dual.combo.shares) ++ Phrase.End ∷ []
  pub uses : (model : Program) (c : Command) (p : Point) (dual : Dual) (n : ℕ)
      → drop (LEAST_LINES + length (point_phrases p)) (entry_phrases model (record { command = c; answer = Least p dual; line = n })) ≡ (Phrase.Dual ∷ map Phrase.Use dual.combo.shares) ++ Phrase.End ∷ []
  pub rigid : (model : Program) (c : Command) (set : SetValue) (proof : Proof) (n : ℕ)
      → drop OPENING_LINES (entry_phrases model (record { command = c; answer = RigidInfeasible set proof; line = n })) ≡ (map Phrase.Member set.members ++ proof_phrases proof) ++ Phrase.End ∷ []
  pub rounds : (model : Program) (c : Command) (core : Core) (n : ℕ)
      → drop ((OPENING_LINES + length (flat_map witness_phrases (zip core.members.members core.witnesses))) + length (proof_phrases core.proof)) (entry_phrases model (record { command = c; answer = Irreducible core; line = n }))
      ≡ (rounds_phrases core.rounds ++ price_phrases core.price) ++ Phrase.End ∷ []
  pub price : (model : Program) (c : Command) (core : Core) (n : ℕ)
      → drop (((OPENING_LINES + length (flat_map witness_phrases (zip core.members.members core.witnesses))) + length (proof_phrases core.proof)) + length (rounds_phrases core.rounds)) (entry_phrases model (record { command = c; answer = Irreducible core; line = n }))
      ≡ price_phrases core.price ++ Phrase.End ∷ []
