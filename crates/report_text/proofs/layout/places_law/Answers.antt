use Rattle.std.proofs.Common.{refl, [], ◌∷◌, ◌++◌, map, flat_map, zip}
use Rattle.report_text.specs.declared.phrases.Phrase.{Phrase}
use Rattle.report_text.specs.Grammar.{point_phrases, value_phrases, objective_phrases, dual_phrases, price_phrases, proof_phrases, rounds_phrases, witness_phrases}
use Rattle.report_text.proofs.Passed.{past_one, past_two, past_three, past_third}
use Rattle.report_text.proofs.layout.places_law.Goals as goal

pub returns : goal.returns
returns c = record {
  notes = λ model report. refl;
  point = λ model k p n. refl;
  members = λ model k set proof n. refl;
  witnesses = λ model k core n. refl;
  witness = λ m p. refl;
  nodes = λ proof. refl;
  ray = λ model k p ray n. past_one (Phrase.Command k) Phrase.Unbounded (point_phrases p) (Phrase.Ray ∷ value_phrases 0 ray.values) (Phrase.End ∷ []);
  objective = λ model k b n. past_one (Phrase.Command k) Phrase.Bounded (point_phrases b.point) _ (Phrase.End ∷ []);
  bound = λ model k b n. past_two (Phrase.Command k) Phrase.Bounded (point_phrases b.point) (objective_phrases b.objective) (dual_phrases b.dual) (Phrase.End ∷ []);
  dual = λ dual. refl;
  total = λ model k p dual n. refl;
  least = λ model k p dual n. refl;
  uses = λ model k p dual n. past_third (Phrase.Command k) Phrase.Least (Phrase.Total dual.bound) (point_phrases p) (Phrase.Dual ∷ map Phrase.Use dual.combo.shares) (Phrase.End ∷ []);
  rigid = λ model k set proof n. refl;
  rounds = λ model k core n. past_two (Phrase.Command k) Phrase.Irreducible (flat_map witness_phrases (zip core.members.members core.witnesses)) (proof_phrases core.proof) (rounds_phrases core.rounds ++ price_phrases core.price) (Phrase.End ∷ []);
  price = λ model k core n. past_three (Phrase.Command k) Phrase.Irreducible (flat_map witness_phrases (zip core.members.members core.witnesses)) (proof_phrases core.proof) (rounds_phrases core.rounds) (price_phrases core.price) (Phrase.End ∷ []);
}
