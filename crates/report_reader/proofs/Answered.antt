-- An answer is known by what it says.
use Rattle.std.proofs.Common.{◌≡◌, refl, sym, ap, ◌∙◌, false, List, [], ◌∷◌, ◌++◌}
use Rattle.lp_model.specs.Program.{Program, IsWellFormed}
use Rattle.report_text.specs.declared.report.Command.{Command}
use Rattle.report_text.specs.declared.report.Answer.{Answer}
use Rattle.report_text.specs.declared.report.ToldStop.{ToldStop}
use Rattle.report_text.specs.declared.phrases.Phrase.{Phrase}
use Rattle.report_text.specs.declared.phrases.StopPhrase.{StopPhrase}
use Rattle.report_text.specs.Grammar.{answer_phrases}
use Rattle.report_reader.specs.declared.cursor.Word.{Word}
use Rattle.report_reader.specs.Kinds.{Kind, word, begins}
use Rattle.report_reader.specs.Things.{feasible, refuted, irreducible, unbounded, bounded, least, reduced, too_wide, spent, ended, answer, may_split, method_of}
use Rattle.report_reader.proofs.Both.{Alone}
use Rattle.report_reader.proofs.Choices as choice

module _ (model : Program) (names : IsWellFormed model) (c : Command) where
  -- answers that begin with one phrase are of one kind, and say what things of it say
  known : (K : Kind) (to : K.Value → Answer) (p : Phrase) → choice.Begins model names c K to p → (a b : Answer) (m n rest : List Phrase) → (answer model c).IsFor a → (answer model c).IsFor b → answer_phrases model a ++ m ≡ p ∷ rest → answer_phrases model a ++ m ≡ answer_phrases model b ++ n → a ≡ b
  known K to p h a b m n rest ha hb starts e =
      let v = h.only a m rest ha starts in
      let w = h.only b n rest hb (sym e ∙ starts) in
      let same = h.ends.alone v.0 w.0 m n v.1.0 w.1.0 (ap (λ l. l ++ m) (said a v) ∙ e ∙ ap (λ l. l ++ n) (sym (said b w))) (off v.0 m) (off w.0 n) in
      sym v.1.1 ∙ ap to same ∙ w.1.1
    where
      said : (x : Answer) (v : (u : K.Value) × (K.IsFor u × (to u ≡ x))) → K.said v.0 ≡ answer_phrases model x
      said x v = sym (h.is v.0) ∙ ap (answer_phrases model) v.1.1

      off : (v : K.Value) (l : List Phrase) → begins (K.goes_on v) l ≡ false
      off v [] = refl
      off v (q ∷ l) = h.ends.off v q

  pub answer_alone : Alone (answer model c)
  answer_alone (Answer.Feasible p) b m n ha hb e na nb = known (feasible model) (choice.feasible_answer model names c) Phrase.Feasible (choice.feasible_begins model names c) (Answer.Feasible p) b m n _ ha hb refl e
  answer_alone (Answer.Infeasible set proof) b m n ha hb e na nb = known (refuted model Word.Infeasible (may_split c)) (choice.infeasible_answer model names c (may_split c)) Phrase.Infeasible (choice.infeasible_begins model names c (may_split c) refl) (Answer.Infeasible set proof) b m n _ ha hb refl e
  answer_alone (Answer.Irreducible core) b m n ha hb e na nb = known (irreducible model (method_of c)) (choice.irreducible_answer model names c) Phrase.Irreducible (choice.irreducible_begins model names c) (Answer.Irreducible core) b m n _ ha hb refl e
  answer_alone (Answer.Unbounded p ray) b m n ha hb e na nb = known (unbounded model) (choice.unbounded_answer model names c) Phrase.Unbounded (choice.unbounded_begins model names c) (Answer.Unbounded p ray) b m n _ ha hb refl e
  answer_alone (Answer.Bounded d) b m n ha hb e na nb = known (bounded model) (choice.bounded_answer model names c) Phrase.Bounded (choice.bounded_begins model names c) (Answer.Bounded d) b m n _ ha hb refl e
  answer_alone (Answer.Least p dual) b m n ha hb e na nb = known (least model) (choice.least_answer model names c) Phrase.Least (choice.least_begins model names c) (Answer.Least p dual) b m n _ ha hb refl e
  answer_alone (Answer.RigidInfeasible set proof) b m n ha hb e na nb = known (refuted model Word.RigidInfeasible (may_split c)) (choice.rigid_answer model names c (may_split c)) Phrase.RigidInfeasible (choice.rigid_begins model names c (may_split c) refl) (Answer.RigidInfeasible set proof) b m n _ ha hb refl e
  answer_alone (Answer.Reduced r) b m n ha hb e na nb = known (reduced model) (choice.reduced_answer model names c) Phrase.Reduced (choice.reduced_begins model names c) (Answer.Reduced r) b m n _ ha hb refl e
  answer_alone (Answer.Stopped (ToldStop.Wide s k o)) b m n ha hb e na nb = known (too_wide model) (choice.wide_answer model names c) (Phrase.Stop StopPhrase.Wide) (choice.wide_begins model names c) (Answer.Stopped (ToldStop.Wide s k o)) b m n _ ha hb refl e
  answer_alone (Answer.Stopped (ToldStop.Pivots s)) b m n ha hb e na nb = known (spent model Word.Spent) (choice.spent_answer model names c) (Phrase.Stop StopPhrase.Spent) (choice.spent_begins model names c) (Answer.Stopped (ToldStop.Pivots s)) b m n _ ha hb refl e
  answer_alone (Answer.Stopped (ToldStop.Nodes s)) b m n ha hb e na nb = known (spent model Word.Nodes) (choice.nodes_answer model names c) (Phrase.Stop StopPhrase.Nodes) (choice.nodes_begins model names c) (Answer.Stopped (ToldStop.Nodes s)) b m n _ ha hb refl e
  answer_alone (Answer.Stopped (ToldStop.Large k)) b m n ha hb e na nb = known (ended (Phrase.Stop (StopPhrase.Large k))) (λ v. Answer.Stopped (ToldStop.Large k)) (Phrase.Stop (StopPhrase.Large k)) (choice.large_begins model names c k) (Answer.Stopped (ToldStop.Large k)) b m n _ ha hb refl e
  answer_alone (Answer.Done) b m n ha hb e na nb = known (word Phrase.Done) (λ v. Answer.Done) Phrase.Done (choice.done_begins model names c) (Answer.Done) b m n _ ha hb refl e
  answer_alone (Answer.Refused r) b m n ha hb e na nb = known (word (Phrase.Refused r)) (λ v. Answer.Refused r) (Phrase.Refused r) (choice.refused_begins model names c r) (Answer.Refused r) b m n _ ha hb refl e
  answer_alone (Answer.NotLinear j) b m n ha hb e na nb = known (word (Phrase.NotLinear j)) (λ v. Answer.NotLinear j) (Phrase.NotLinear j) (choice.not_linear_begins model names c j) (Answer.NotLinear j) b m n _ ha hb refl e
