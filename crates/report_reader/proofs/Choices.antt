-- What is read behind the phrase that an answer begins with is that answer.
use Rattle.std.proofs.Common.{◌≡◌, refl, sym, ap, subst, ◌∙◌, ℕ, Bool, true, false, true≢false, ◌&&◌, ◌||◌, List, [], ◌∷◌, ◌++◌, length, suc, append_assoc, Option, Some, None}
use Rattle.std.specs.Prelude.{All, is_some, unwrap_or, map, flat_map, zip, Result, Ok, Err}
use Rattle.std.proofs.lemmas.Slice.Zip.{firsts-zip, seconds-zip}
use Rattle.report_reader.specs.declared.reader.ReportStop.{ReportStop}
use Rattle.lp_model.specs.Program.{Program, IsWellFormed}
use Rattle.lp_model.specs.declared.members.Member.{Member}
use Rattle.lp_model.specs.MemberSets.{SetValue, empty_set}
use Rattle.certs.specs.Checks.{IsSetOf}
use Rattle.certs.specs.declared.evidence.Point.{Point}
use Rattle.certs.specs.declared.evidence.Proof.{Proof}
use Rattle.certs.specs.declared.evidence.Ray.{Ray}
use Rattle.certs.specs.declared.evidence.Dual.{Dual}
use Rattle.report_text.specs.declared.report.Command.{Command}
use Rattle.report_text.specs.declared.report.Method.{Method}
use Rattle.report_text.specs.declared.report.Method.TheVariants.{Deletion}
use Rattle.report_text.specs.declared.report.Refusal.{Refusal}
use Rattle.report_text.specs.declared.report.Answer.{Answer}
use Rattle.report_text.specs.declared.report.Core.{Core}
use Rattle.report_text.specs.declared.report.Bounded.{Bounded}
use Rattle.report_text.specs.declared.report.Reduced.{Reduced}
use Rattle.report_text.specs.declared.report.ToldSite.{ToldSite}
use Rattle.report_text.specs.declared.report.ToldStop.{ToldStop}
use Rattle.report_text.specs.declared.phrases.Phrase.{Phrase}
use Rattle.report_text.specs.declared.phrases.StopPhrase.{StopPhrase}
use Rattle.report_text.specs.Grammar.{value_phrases, point_phrases, objective_phrases, rounds_phrases, price_phrases, witness_phrases, site_phrases, node_phrases, answer_phrases}
use Rattle.report_text.specs.Form.{IsListed, AreMembers, IsPointFor, IsProofFor, IsSiteFor, is_one_leaf, is_kept, asks_of}
use Rattle.report_reader.specs.declared.answers.Opening.{Opening}
use Rattle.report_reader.specs.declared.cursor.Cursor.{Cursor}
use Rattle.report_reader.specs.declared.cursor.Word.{Word}
use Rattle.report_reader.specs.Kinds.{Kind, word, IsRead, IsCursor, IsLookedAt, Passes}
use Rattle.report_reader.specs.Things.{proof, feasible, refuted, irreducible, unbounded, bounded, least, reduced, too_wide, spent, ended, site, site_read, answer, may_begin, may_split, method_of}
use Rattle.phrase_reader.specs.Phrases.{IsPhraseFor}
use Rattle.frac128.specs.declared.Wide.{Wide as Operation}
use Rattle.report_reader.proofs.Both.{Ends}
use Rattle.report_reader.proofs.Parts.{word_ends, ended_ends, feasible_ends, refuted_ends, irreducible_ends, unbounded_ends, bounded_ends, least_ends, reduced_ends, wide_ends, spent_ends}
use Rattle.report_reader.proofs.Passing.{read_to, one_ahead, word_read, looked_at, any_value}

-- ---- which answers a command may have
-- a proof is one leaf where it may have no split
and_leaf : (a s l : Bool) → a ≡ true → (s ≡ false → l ≡ true) → (a && (s || l)) ≡ true
and_leaf true true l h f = refl
and_leaf true false l h f = f refl
and_leaf false s l h f = absurd (true≢false (sym h))

one_leaf : (a s l : Bool) → (a && (s || l)) ≡ true → s ≡ false → l ≡ true
one_leaf true true l h f = absurd (true≢false f)
one_leaf true false l h f = h
one_leaf false s l h f = absurd (true≢false (sym h))

-- an irreducible set is kept by the method, where there is one
kept_by : (s : Option Method) (core : Core) → is_some s ≡ true → is_kept (Some (unwrap_or s Deletion)) core ≡ true → is_kept s core ≡ true
kept_by (Some method) core h f = f
kept_by None core h f = absurd (true≢false (sym h))

by_method : (s : Option Method) (core : Core) → is_kept s core ≡ true → is_kept (Some (unwrap_or s Deletion)) core ≡ true
by_method (Some method) core h = h
by_method None core h = absurd (true≢false (sym h))

-- ---- sets and pairs
set_of : ℕ → ℕ → List Member → SetValue
set_of r c ms = record { rows = r; columns = c; members = ms }

pairs_of : (ws : List (Member × Point)) → zip (map (λ w. w.0) ws) (map (λ w. w.1) ws) ≡ ws
pairs_of [] = refl
pairs_of (w ∷ ws) = ap (λ l. w ∷ l) (pairs_of ws)

module _ (model : Program) where
  set_is : (set : SetValue) → IsSetOf model set → record (empty_set model) { members = set.members } ≡ set
  unfolding set_of
  set_is set h = ap (λ r. set_of r (length model.columns) set.members) (sym h.rows) ∙ ap (λ c. set_of set.rows c set.members) (sym h.columns)

  abbrev site_of : (site model).Value → ToldSite
  site_of v = record { kind = v.0; left = v.1.0; enforced = v.1.1.0; path = v.1.1.1 }

  -- a stop begins with what is said of one
  stop_begins : (stop : ToldStop) (more rest : List Phrase) (p : Phrase) → answer_phrases model (Answer.Stopped stop) ++ more ≡ p ∷ rest → (s : StopPhrase) × (p ≡ Phrase.Stop s)
  stop_begins (ToldStop.Wide s k o) more rest p e = (StopPhrase.Wide, cc)
  stop_begins (ToldStop.Pivots s) more rest p e = (StopPhrase.Spent, cc)
  stop_begins (ToldStop.Nodes s) more rest p e = (StopPhrase.Nodes, cc)
  stop_begins (ToldStop.Large n) more rest p e = (StopPhrase.Large n, cc)

module _ (model : Program) (names : IsWellFormed model) (c : Command) where
  -- all answers to the command that begin with the phrase are of the kind
  abbrev Only : (K : Kind) → (K.Value → Answer) → Phrase → Type 0
  Only K to p = (w : Answer) (more rest : List Phrase) → (answer model c).IsFor w → answer_phrases model w ++ more ≡ p ∷ rest → (v : K.Value) × (K.IsFor v × (to v ≡ w))

  -- and say what things of it say
  pub record Begins (K : Kind) (to : K.Value → Answer) (p : Phrase) : Type 0 where
    pub ends : Ends K
    pub is : (v : K.Value) → answer_phrases model (to v) ≡ K.said v
    pub only : Only K to p

  -- ---- feasible points
  abbrev pub feasible_answer : (feasible model).Value → Answer
  feasible_answer v = Answer.Feasible v.1.0.1

  pub feasible_begins : Begins (feasible model) feasible_answer Phrase.Feasible
  feasible_begins = record { ends = feasible_ends model names; is = λ v. refl; only = only }
    where
      only : Only (feasible model) feasible_answer Phrase.Feasible
      only (Answer.Feasible p) more rest h e = ((tt, ((tt, p), tt)), ((tt, ((tt, h.0), tt)), refl))
      only (Answer.Stopped stop) more rest h e = absurd (let s = stop_begins model stop more rest Phrase.Feasible e in let t = s.1 in cc)
      only w more rest h e = absurd (cc)

  -- ---- refutations
  abbrev told_set : List Member → SetValue
  told_set ms = record (empty_set model) { members = ms }

  module _ (w : Word) (splits : Bool) where
    refuted_form : (v : (refuted model w splits).Value) → (refuted model w splits).IsFor v → IsListed model (told_set v.1.0) × IsProofFor model (record { nodes = v.1.1.0.1 })
    refuted_form v form = (record { of_model = record { rows = refl; columns = refl }; named = form.1.0.named; in_order = form.1.0.in_order }, form.1.1.0.1.0)

    refuted_some : (set : SetValue) (proof : Proof) → IsListed model set × IsProofFor model proof → (splits ≡ false → is_one_leaf proof.nodes ≡ true) → (refuted model w splits).IsFor (tt, (set.members, ((tt, proof.nodes), tt)))
    refuted_some set proof h leaf = (tt, (record { named = h.0.named; in_order = h.0.in_order }, ((tt, (h.1, leaf)), tt)))

  abbrev pub infeasible_answer : (splits : Bool) → (refuted model Word.Infeasible splits).Value → Answer
  infeasible_answer splits v = Answer.Infeasible (told_set v.1.0) (record { nodes = v.1.1.0.1 })

  pub infeasible_begins : (splits : Bool) → splits ≡ may_split c → Begins (refuted model Word.Infeasible splits) (infeasible_answer splits) Phrase.Infeasible
  infeasible_begins splits same = record {
    ends = refuted_ends model names Word.Infeasible splits;
    is = λ v. ap (λ l. Phrase.Infeasible ∷ l) (append_assoc (map Phrase.Member v.1.0) (Phrase.Proof ∷ flat_map node_phrases v.1.1.0.1) (Phrase.End ∷ []));
    only = only;
  }
    where
      only : Only (refuted model Word.Infeasible splits) (infeasible_answer splits) Phrase.Infeasible
      only (Answer.Infeasible set proof) more rest h e =
          ((tt, (set.members, ((tt, proof.nodes), tt))), (refuted_some Word.Infeasible splits set proof h.0 (λ g. one_leaf (asks_of c).infeasible (may_split c) (is_one_leaf proof.nodes) h.1 (sym same ∙ g)), ap (λ s. Answer.Infeasible s proof) (set_is model set h.0.0.of_model)))
      only (Answer.Stopped stop) more rest h e = absurd (let s = stop_begins model stop more rest Phrase.Infeasible e in let t = s.1 in cc)
      only w more rest h e = absurd (cc)

  abbrev pub rigid_answer : (splits : Bool) → (refuted model Word.RigidInfeasible splits).Value → Answer
  rigid_answer splits v = Answer.RigidInfeasible (told_set v.1.0) (record { nodes = v.1.1.0.1 })

  pub rigid_begins : (splits : Bool) → splits ≡ may_split c → Begins (refuted model Word.RigidInfeasible splits) (rigid_answer splits) Phrase.RigidInfeasible
  rigid_begins splits same = record {
    ends = refuted_ends model names Word.RigidInfeasible splits;
    is = λ v. ap (λ l. Phrase.RigidInfeasible ∷ l) (append_assoc (map Phrase.Member v.1.0) (Phrase.Proof ∷ flat_map node_phrases v.1.1.0.1) (Phrase.End ∷ []));
    only = only;
  }
    where
      only : Only (refuted model Word.RigidInfeasible splits) (rigid_answer splits) Phrase.RigidInfeasible
      only (Answer.RigidInfeasible set proof) more rest h e =
          ((tt, (set.members, ((tt, proof.nodes), tt))), (refuted_some Word.RigidInfeasible splits set proof h.0 (λ g. one_leaf (asks_of c).least (may_split c) (is_one_leaf proof.nodes) h.1 (sym same ∙ g)), ap (λ s. Answer.RigidInfeasible s proof) (set_is model set h.0.0.of_model)))
      only (Answer.Stopped stop) more rest h e = absurd (let s = stop_begins model stop more rest Phrase.RigidInfeasible e in let t = s.1 in cc)
      only w more rest h e = absurd (cc)

  -- ---- objectives
  abbrev pub unbounded_answer : (unbounded model).Value → Answer
  unbounded_answer v = Answer.Unbounded v.1.0.1 (record { values = v.1.1.1.0.values })

  pub unbounded_begins : Begins (unbounded model) unbounded_answer Phrase.Unbounded
  unbounded_begins = record {
    ends = unbounded_ends model names;
    is = λ v. ap (λ l. Phrase.Unbounded ∷ l) (append_assoc (point_phrases v.1.0.1) (Phrase.Ray ∷ value_phrases 0 v.1.1.1.0.values) (Phrase.End ∷ []));
    only = only;
  }
    where
      only : Only (unbounded model) unbounded_answer Phrase.Unbounded
      only (Answer.Unbounded p ray) more rest h e =
          ((tt, ((tt, p), (tt, (record { values = ray.values }, tt)))), ((tt, ((tt, h.0.0), (tt, (record { len = h.0.1.len; fits = h.0.1.fits; named = h.0.1.named }, tt)))), refl))
      only (Answer.Stopped stop) more rest h e = absurd (let s = stop_begins model stop more rest Phrase.Unbounded e in let t = s.1 in cc)
      only w more rest h e = absurd (cc)

  abbrev told_bound : (bounded model).Value → Bounded
  told_bound v = record { point = v.1.0.1; objective = v.1.1.0; dual = record { combo = record { shares = v.1.1.1.1.1.0 }; bound = v.1.1.1.0 } }

  abbrev pub bounded_answer : (bounded model).Value → Answer
  bounded_answer v = Answer.Bounded (told_bound v)

  pub bounded_begins : Begins (bounded model) bounded_answer Phrase.Bounded
  bounded_begins = record {
    ends = bounded_ends model names;
    is = λ v. ap (λ l. Phrase.Bounded ∷ l) (append_assoc (point_phrases v.1.0.1) (objective_phrases v.1.1.0 ++ (Phrase.Bound v.1.1.1.0 ∷ Phrase.Dual ∷ map Phrase.Use v.1.1.1.1.1.0)) (Phrase.End ∷ [])
        ∙ ap (λ l. point_phrases v.1.0.1 ++ l) (append_assoc (objective_phrases v.1.1.0) (Phrase.Bound v.1.1.1.0 ∷ Phrase.Dual ∷ map Phrase.Use v.1.1.1.1.1.0) (Phrase.End ∷ [])));
    only = only;
  }
    where
      only : Only (bounded model) bounded_answer Phrase.Bounded
      only (Answer.Bounded b) more rest h e =
          ((tt, ((tt, b.point), (b.objective, (b.dual.bound, (tt, (b.dual.combo.shares, tt)))))), ((tt, ((tt, h.0.point), (h.0.objective, (h.0.bound, (tt, (h.0.uses, tt)))))), refl))
      only (Answer.Stopped stop) more rest h e = absurd (let s = stop_begins model stop more rest Phrase.Bounded e in let t = s.1 in cc)
      only w more rest h e = absurd (cc)

  abbrev pub least_answer : (least model).Value → Answer
  least_answer v = Answer.Least v.1.1.0.1 (record { combo = record { shares = v.1.1.1.1.0 }; bound = v.1.0 })

  pub least_begins : Begins (least model) least_answer Phrase.Least
  least_begins = record {
    ends = least_ends model names;
    is = λ v. ap (λ l. Phrase.Least ∷ Phrase.Total v.1.0 ∷ l) (append_assoc (point_phrases v.1.1.0.1) (Phrase.Dual ∷ map Phrase.Use v.1.1.1.1.0) (Phrase.End ∷ []));
    only = only;
  }
    where
      only : Only (least model) least_answer Phrase.Least
      only (Answer.Least p dual) more rest h e = ((tt, (dual.bound, ((tt, p), (tt, (dual.combo.shares, tt))))), ((tt, (h.0.total, ((tt, h.0.point), (tt, (h.0.uses, tt))))), refl))
      only (Answer.Stopped stop) more rest h e = absurd (let s = stop_begins model stop more rest Phrase.Least e in let t = s.1 in cc)
      only w more rest h e = absurd (cc)

  -- ---- reductions
  abbrev pub reduced_answer : (reduced model).Value → Answer
  reduced_answer v = Answer.Reduced (record { steps = v.1.0; rows = v.1.1.0.0; columns = v.1.1.0.1 })

  pub reduced_begins : Begins (reduced model) reduced_answer Phrase.Reduced
  reduced_begins = record {
    ends = reduced_ends model names;
    is = λ v. ap (λ l. Phrase.Reduced ∷ l) (append_assoc (map Phrase.Reduction v.1.0) (Phrase.Left v.1.1.0.0 v.1.1.0.1 ∷ []) (Phrase.End ∷ []));
    only = only;
  }
    where
      only : Only (reduced model) reduced_answer Phrase.Reduced
      only (Answer.Reduced r) more rest h e = ((tt, (r.steps, ((r.rows, r.columns), tt))), ((tt, (h.0.steps, ((h.0.rows, h.0.columns), tt))), refl))
      only (Answer.Stopped stop) more rest h e = absurd (let s = stop_begins model stop more rest Phrase.Reduced e in let t = s.1 in cc)
      only w more rest h e = absurd (cc)

  -- ---- stops
  site_form : (v : (site model).Value) → (site model).IsFor v → IsSiteFor model (site_of model v)
  site_form v form = record { left = form.1.0; enforced = form.1.1.0; path = form.1.1.1 }

  site_some : (s : ToldSite) → IsSiteFor model s → (site model).IsFor (site_read s)
  site_some s h = (tt, (h.left, (h.enforced, h.path)))

  abbrev pub wide_answer : (too_wide model).Value → Answer
  wide_answer v = Answer.Stopped (ToldStop.Wide (site_of model v.1.0) v.1.1.0 v.1.1.1.0)

  pub wide_begins : Begins (too_wide model) wide_answer (Phrase.Stop StopPhrase.Wide)
  wide_begins = record {
    ends = wide_ends model names;
    is = λ v. ap (λ l. Phrase.Stop StopPhrase.Wide ∷ l) (append_assoc (site_phrases (site_of model v.1.0)) (Phrase.Stop (StopPhrase.Step v.1.1.0) ∷ Phrase.Stop (StopPhrase.Operation v.1.1.1.0) ∷ []) (Phrase.End ∷ []));
    only = only;
  }
    where
      only : Only (too_wide model) wide_answer (Phrase.Stop StopPhrase.Wide)
      only (Answer.Stopped (ToldStop.Wide s k o)) more rest h e = ((tt, (site_read s, (k, (o, tt)))), ((tt, (site_some s h.0.0, (h.0.1.0, (h.0.1.1, tt)))), refl))
      only w more rest h e = absurd (cc)

  abbrev pub spent_answer : (spent model Word.Spent).Value → Answer
  spent_answer v = Answer.Stopped (ToldStop.Pivots (site_of model v.1.0))

  pub spent_begins : Begins (spent model Word.Spent) spent_answer (Phrase.Stop StopPhrase.Spent)
  spent_begins = record { ends = spent_ends model names Word.Spent; is = λ v. refl; only = only }
    where
      only : Only (spent model Word.Spent) spent_answer (Phrase.Stop StopPhrase.Spent)
      only (Answer.Stopped (ToldStop.Pivots s)) more rest h e = ((tt, (site_read s, tt)), ((tt, (site_some s h.0, tt)), refl))
      only w more rest h e = absurd (cc)

  abbrev pub nodes_answer : (spent model Word.Nodes).Value → Answer
  nodes_answer v = Answer.Stopped (ToldStop.Nodes (site_of model v.1.0))

  pub nodes_begins : Begins (spent model Word.Nodes) nodes_answer (Phrase.Stop StopPhrase.Nodes)
  nodes_begins = record { ends = spent_ends model names Word.Nodes; is = λ v. refl; only = only }
    where
      only : Only (spent model Word.Nodes) nodes_answer (Phrase.Stop StopPhrase.Nodes)
      only (Answer.Stopped (ToldStop.Nodes s)) more rest h e = ((tt, (site_read s, tt)), ((tt, (site_some s h.0, tt)), refl))
      only w more rest h e = absurd (cc)

  pub large_begins : (n : ℕ) → Begins (ended (Phrase.Stop (StopPhrase.Large n))) (λ v. Answer.Stopped (ToldStop.Large n)) (Phrase.Stop (StopPhrase.Large n))
  large_begins n = record { ends = ended_ends model names (Phrase.Stop (StopPhrase.Large n)); is = λ v. refl; only = only }
    where
      only : Only (ended (Phrase.Stop (StopPhrase.Large n))) (λ v. Answer.Stopped (ToldStop.Large n)) (Phrase.Stop (StopPhrase.Large n))
      only (Answer.Stopped (ToldStop.Large m)) more rest h e = let same : n ≡ m = cc in ((tt, tt), ((tt, tt), ap (λ k. Answer.Stopped (ToldStop.Large k)) same))
      only w more rest h e = absurd (cc)

  -- ---- answers of one line
  pub done_begins : Begins (word Phrase.Done) (λ v. Answer.Done) Phrase.Done
  done_begins = record { ends = word_ends model names Phrase.Done; is = λ v. refl; only = only }
    where
      only : Only (word Phrase.Done) (λ v. Answer.Done) Phrase.Done
      only Answer.Done more rest h e = (tt, (tt, refl))
      only (Answer.Stopped stop) more rest h e = absurd (let s = stop_begins model stop more rest Phrase.Done e in let t = s.1 in cc)
      only w more rest h e = absurd (cc)

  pub refused_begins : (r : Refusal) → Begins (word (Phrase.Refused r)) (λ v. Answer.Refused r) (Phrase.Refused r)
  refused_begins r = record { ends = word_ends model names (Phrase.Refused r); is = λ v. refl; only = only }
    where
      only : Only (word (Phrase.Refused r)) (λ v. Answer.Refused r) (Phrase.Refused r)
      only (Answer.Refused q) more rest h e = let same : r ≡ q = cc in (tt, (tt, ap Answer.Refused same))
      only (Answer.Stopped stop) more rest h e = absurd (let s = stop_begins model stop more rest (Phrase.Refused r) e in let t = s.1 in cc)
      only w more rest h e = absurd (cc)

  pub not_linear_begins : (j : ℕ) → Begins (word (Phrase.NotLinear j)) (λ v. Answer.NotLinear j) (Phrase.NotLinear j)
  not_linear_begins j = record { ends = word_ends model names (Phrase.NotLinear j); is = λ v. refl; only = only }
    where
      only : Only (word (Phrase.NotLinear j)) (λ v. Answer.NotLinear j) (Phrase.NotLinear j)
      only (Answer.NotLinear k) more rest h e = let same : j ≡ k = cc in (tt, (tt, ap Answer.NotLinear same))
      only (Answer.Stopped stop) more rest h e = absurd (let s = stop_begins model stop more rest (Phrase.NotLinear j) e in let t = s.1 in cc)
      only w more rest h e = absurd (cc)

  -- ---- irreducible sets
  core_with : SetValue → List Point → Core → Core
  core_with set ps core = record { members = set; witnesses = ps; proof = core.proof; rounds = core.rounds; price = core.price }

  pub told_core : (irreducible model (method_of c)).Value → Core
  told_core v = record { members = record (empty_set model) { members = map (λ w. w.0) v.1.0 }; witnesses = map (λ w. w.1) v.1.0; proof = record { nodes = v.1.1.0.1 }; rounds = v.1.1.1.0.0; price = v.1.1.1.0.1 }

  core_value : Core → (irreducible model (method_of c)).Value
  core_value core = (tt, (zip core.members.members core.witnesses, ((tt, core.proof.nodes), ((core.rounds, core.price), tt))))

  -- the members and witnesses of as many pairs
  core_again : (core : Core) → length core.witnesses ≡ length core.members.members → record (empty_set model) { members = core.members.members } ≡ core.members → told_core (core_value core) ≡ core
  unfolding core_with told_core core_value
  core_again core each is =
      ap (λ ms. core_with (record (empty_set model) { members = ms }) (map (λ w. w.1) (zip core.members.members core.witnesses)) core) (firsts-zip core.members.members core.witnesses each)
      ∙ ap (λ ps. core_with (record (empty_set model) { members = core.members.members }) ps core) (seconds-zip core.members.members core.witnesses each)
      ∙ ap (λ s. core_with s core.witnesses core) is

  core_form : (v : (irreducible model (method_of c)).Value) → may_begin c Opening.Irreducible ≡ true → (irreducible model (method_of c)).IsFor v → (answer model c).IsFor (Answer.Irreducible (told_core v))
  unfolding told_core
  core_form v may form = (
    record {
      members = record { of_model = record { rows = refl; columns = refl }; named = form.1.0.members.named; in_order = form.1.0.members.in_order };
      each = as_many v.1.0;
      points = form.1.0.points;
      proof = form.1.1.0.1.0;
      rounds = form.1.1.1.0.1.0;
      price = form.1.1.1.0.1.1;
    },
    kept_by (asks_of c).search (told_core v) may form.1.1.1.0.0,
  )
    where
      as_many : (ws : List (Member × Point)) → length (map (λ w. w.1) ws) ≡ length (map (λ w. w.0) ws)
      as_many [] = refl
      as_many (w ∷ ws) = ap suc (as_many ws)

  core_said : (v : (irreducible model (method_of c)).Value) → answer_phrases model (Answer.Irreducible (told_core v)) ≡ (irreducible model (method_of c)).said v
  unfolding told_core
  core_said v =
      let proof = Phrase.Proof ∷ flat_map node_phrases v.1.1.0.1 in
      let tail = rounds_phrases v.1.1.1.0.0 ++ price_phrases v.1.1.1.0.1 in
      let pairs = zip (map (λ w. w.0) v.1.0) (map (λ w. w.1) v.1.0) in
      ap (λ l. Phrase.Irreducible ∷ l) (append_assoc (flat_map witness_phrases pairs) (proof ++ tail) (Phrase.End ∷ []) ∙ ap (λ l. flat_map witness_phrases pairs ++ l) (append_assoc proof tail (Phrase.End ∷ []))
      ∙ ap (λ ws. flat_map witness_phrases ws ++ (proof ++ (tail ++ Phrase.End ∷ []))) (pairs_of v.1.0))

  core_only : Only (irreducible model (method_of c)) (λ v. Answer.Irreducible (told_core v)) Phrase.Irreducible
  unfolding core_value
  core_only (Answer.Irreducible core) more rest h e =
      let ms = core.members.members in
      let ps = core.witnesses in (
        core_value core,
        (
          (
            tt,
            (
              record {
                members = subst (AreMembers model) (sym (firsts-zip ms ps h.0.each)) (record { named = h.0.members.named; in_order = h.0.members.in_order });
                points = subst (All (IsPointFor model)) (sym (seconds-zip ms ps h.0.each)) h.0.points;
              },
              ((tt, (h.0.proof, λ g. absurd (true≢false g))), ((by_method (asks_of c).search core h.1, (h.0.rounds, h.0.price)), tt)),
            ),
          ),
          ap Answer.Irreducible (core_again core h.0.each (set_is model core.members h.0.members.of_model)),
        ),
      )
  core_only (Answer.Stopped stop) more rest h e = absurd (let s = stop_begins model stop more rest Phrase.Irreducible e in let t = s.1 in cc)
  core_only w more rest h e = absurd (cc)

  abbrev pub irreducible_answer : (irreducible model (method_of c)).Value → Answer
  irreducible_answer v = Answer.Irreducible (told_core v)

  pub irreducible_begins : Begins (irreducible model (method_of c)) irreducible_answer Phrase.Irreducible
  irreducible_begins = record { ends = irreducible_ends model names (method_of c); is = core_said; only = core_only }

  -- ---- what is read so is the answer
  begun : (K : Kind) (to : K.Value → Answer) (p : Phrase) → Begins K to p → ((v : K.Value) → K.IsFor v → (answer model c).IsFor (to v))
      → (old new : Cursor) (v : K.Value) → IsCursor model old → old.ahead ≡ Ok p → IsRead model K old new v → IsRead model (answer model c) old new (to v)
  begun K to p b form old new v stands f h =
      read_to model names K (answer model c) to form b.is (λ v q. sym (b.ends.off v q)) old new v stands
      (λ q e. subst (λ (r : Phrase). Only K to r) (one_ahead p q (sym f ∙ e)) b.only) h

  module _ (old new : Cursor) (stands : IsCursor model old) where
    pub feasible_read : (p : Point) → may_begin c Opening.Feasible ≡ true → old.ahead ≡ Ok Phrase.Feasible → IsRead model (feasible model) old new (tt, ((tt, p), tt)) → IsRead model (answer model c) old new (Answer.Feasible p)
    feasible_read p may f h = begun (feasible model) feasible_answer Phrase.Feasible feasible_begins (λ v form. (form.1.0.1, may)) old new (tt, ((tt, p), tt)) stands f h

    pub infeasible_read : (set : SetValue) (proof : Proof) (splits : Bool) → splits ≡ may_split c → set ≡ record (empty_set model) { members = set.members } → may_begin c Opening.Infeasible ≡ true → old.ahead ≡ Ok Phrase.Infeasible
        → IsRead model (refuted model Word.Infeasible splits) old new (tt, (set.members, ((tt, proof.nodes), tt))) → IsRead model (answer model c) old new (Answer.Infeasible set proof)
    infeasible_read set proof splits same is may f h =
        subst (λ (s : SetValue). IsRead model (answer model c) old new (Answer.Infeasible s proof)) (sym is)
        (begun (refuted model Word.Infeasible splits) (infeasible_answer splits) Phrase.Infeasible (infeasible_begins splits same)
        (λ v form. (refuted_form Word.Infeasible splits v form, and_leaf (asks_of c).infeasible (may_split c) (is_one_leaf v.1.1.0.1) may (λ e. form.1.1.0.1.1 (same ∙ e)))) old new (tt, (set.members, ((tt, proof.nodes), tt))) stands f h)

    pub rigid_read : (set : SetValue) (proof : Proof) (splits : Bool) → splits ≡ may_split c → set ≡ record (empty_set model) { members = set.members } → may_begin c Opening.RigidInfeasible ≡ true → old.ahead ≡ Ok Phrase.RigidInfeasible
        → IsRead model (refuted model Word.RigidInfeasible splits) old new (tt, (set.members, ((tt, proof.nodes), tt))) → IsRead model (answer model c) old new (Answer.RigidInfeasible set proof)
    rigid_read set proof splits same is may f h =
        subst (λ (s : SetValue). IsRead model (answer model c) old new (Answer.RigidInfeasible s proof)) (sym is)
        (begun (refuted model Word.RigidInfeasible splits) (rigid_answer splits) Phrase.RigidInfeasible (rigid_begins splits same)
        (λ v form. (refuted_form Word.RigidInfeasible splits v form, and_leaf (asks_of c).least (may_split c) (is_one_leaf v.1.1.0.1) may (λ e. form.1.1.0.1.1 (same ∙ e)))) old new (tt, (set.members, ((tt, proof.nodes), tt))) stands f h)

    pub unbounded_read : (p : Point) (ray : Ray) → may_begin c Opening.Unbounded ≡ true → old.ahead ≡ Ok Phrase.Unbounded
        → IsRead model (unbounded model) old new (tt, ((tt, p), (tt, (record { values = ray.values }, tt)))) → IsRead model (answer model c) old new (Answer.Unbounded p ray)
    unbounded_read p ray may f h =
        begun (unbounded model) unbounded_answer Phrase.Unbounded unbounded_begins
        (λ v form. ((form.1.0.1, record { len = form.1.1.1.0.len; fits = form.1.1.1.0.fits; named = form.1.1.1.0.named }), may))
        old new (tt, ((tt, p), (tt, (record { values = ray.values }, tt)))) stands f h

    pub bounded_read : (b : Bounded) → may_begin c Opening.Bounded ≡ true → old.ahead ≡ Ok Phrase.Bounded
        → IsRead model (bounded model) old new (tt, ((tt, b.point), (b.objective, (b.dual.bound, (tt, (b.dual.combo.shares, tt)))))) → IsRead model (answer model c) old new (Answer.Bounded b)
    bounded_read b may f h =
        begun (bounded model) bounded_answer Phrase.Bounded bounded_begins
        (λ v form. (record { point = form.1.0.1; objective = form.1.1.0; bound = form.1.1.1.0; uses = form.1.1.1.1.1.0 }, may))
        old new (tt, ((tt, b.point), (b.objective, (b.dual.bound, (tt, (b.dual.combo.shares, tt)))))) stands f h

    pub least_read : (p : Point) (dual : Dual) → may_begin c Opening.Least ≡ true → old.ahead ≡ Ok Phrase.Least
        → IsRead model (least model) old new (tt, (dual.bound, ((tt, p), (tt, (dual.combo.shares, tt))))) → IsRead model (answer model c) old new (Answer.Least p dual)
    least_read p dual may f h =
        begun (least model) least_answer Phrase.Least least_begins
        (λ v form. (record { point = form.1.1.0.1; total = form.1.0; uses = form.1.1.1.1.0 }, may))
        old new (tt, (dual.bound, ((tt, p), (tt, (dual.combo.shares, tt))))) stands f h

    pub reduced_read : (r : Reduced) → may_begin c Opening.Reduced ≡ true → old.ahead ≡ Ok Phrase.Reduced → IsRead model (reduced model) old new (tt, (r.steps, ((r.rows, r.columns), tt))) → IsRead model (answer model c) old new (Answer.Reduced r)
    reduced_read r may f h =
        begun (reduced model) reduced_answer Phrase.Reduced reduced_begins
        (λ v form. (record { steps = form.1.0; rows = form.1.1.0.0; columns = form.1.1.0.1 }, may))
        old new (tt, (r.steps, ((r.rows, r.columns), tt))) stands f h

    pub wide_read : (s : ToldSite) (k : ℕ) (o : Operation) → may_begin c Opening.Wide ≡ true → old.ahead ≡ Ok (Phrase.Stop StopPhrase.Wide) → IsRead model (too_wide model) old new (tt, (site_read s, (k, (o, tt)))) → IsRead model (answer model c) old new (Answer.Stopped (ToldStop.Wide s k o))
    wide_read s k o may f h =
        begun (too_wide model) wide_answer (Phrase.Stop StopPhrase.Wide) wide_begins
        (λ v form. ((site_form v.1.0 form.1.0, (form.1.1.0, form.1.1.1.0)), may)) old new (tt, (site_read s, (k, (o, tt)))) stands f h

    pub spent_read : (s : ToldSite) → may_begin c Opening.Spent ≡ true → old.ahead ≡ Ok (Phrase.Stop StopPhrase.Spent) → IsRead model (spent model Word.Spent) old new (tt, (site_read s, tt)) → IsRead model (answer model c) old new (Answer.Stopped (ToldStop.Pivots s))
    spent_read s may f h =
        begun (spent model Word.Spent) spent_answer (Phrase.Stop StopPhrase.Spent) spent_begins (λ v form. (site_form v.1.0 form.1.0, may)) old new (tt, (site_read s, tt)) stands f h

    pub nodes_read : (s : ToldSite) → may_begin c Opening.Nodes ≡ true → old.ahead ≡ Ok (Phrase.Stop StopPhrase.Nodes) → IsRead model (spent model Word.Nodes) old new (tt, (site_read s, tt)) → IsRead model (answer model c) old new (Answer.Stopped (ToldStop.Nodes s))
    nodes_read s may f h =
        begun (spent model Word.Nodes) nodes_answer (Phrase.Stop StopPhrase.Nodes) nodes_begins (λ v form. (site_form v.1.0 form.1.0, may)) old new (tt, (site_read s, tt)) stands f h

    -- the phrase that is next is one for the program
    next_form : (p : Phrase) → old.ahead ≡ Ok p → IsPhraseFor model p
    next_form p f = subst (IsLookedAt model) f (looked_at model old stands)

    pub large_read : (n : ℕ) → may_begin c (Opening.Large n) ≡ true → old.ahead ≡ Ok (Phrase.Stop (StopPhrase.Large n)) → IsRead model (ended (Phrase.Stop (StopPhrase.Large n))) old new (tt, tt) → IsRead model (answer model c) old new (Answer.Stopped (ToldStop.Large n))
    large_read n may f h =
        begun (ended (Phrase.Stop (StopPhrase.Large n))) (λ v. Answer.Stopped (ToldStop.Large n)) (Phrase.Stop (StopPhrase.Large n)) (large_begins n) (λ v form. (next_form (Phrase.Stop (StopPhrase.Large n)) f, may)) old new (tt, tt) stands f h

    one_line : (p : Phrase) → old.ahead ≡ Ok p → Passes model true old new → IsRead model (word p) old new tt
    one_line p f passes = word_read model names p true old new (λ e q g. one_ahead q p (sym g ∙ f)) (λ e g. true≢false e) stands passes

    pub done_read : may_begin c Opening.Done ≡ true → old.ahead ≡ Ok Phrase.Done → Passes model true old new → IsRead model (answer model c) old new Answer.Done
    done_read may f passes = begun (word Phrase.Done) (λ v. Answer.Done) Phrase.Done done_begins (λ v form. (tt, may)) old new tt stands f (one_line Phrase.Done f passes)

    pub refused_read : (r : Refusal) → may_begin c (Opening.Refused r) ≡ true → old.ahead ≡ Ok (Phrase.Refused r) → Passes model true old new → IsRead model (answer model c) old new (Answer.Refused r)
    refused_read r may f passes =
        begun (word (Phrase.Refused r)) (λ v. Answer.Refused r) (Phrase.Refused r) (refused_begins r) (λ v form. (tt, may)) old new tt stands f (one_line (Phrase.Refused r) f passes)

    pub not_linear_read : (j : ℕ) → may_begin c (Opening.NotLinear j) ≡ true → old.ahead ≡ Ok (Phrase.NotLinear j) → Passes model true old new → IsRead model (answer model c) old new (Answer.NotLinear j)
    not_linear_read j may f passes =
        begun (word (Phrase.NotLinear j)) (λ v. Answer.NotLinear j) (Phrase.NotLinear j) (not_linear_begins j) (λ v form. (next_form (Phrase.NotLinear j) f, may)) old new tt stands f (one_line (Phrase.NotLinear j) f passes)

    pub irreducible_read : (core : Core) → core.members ≡ record (empty_set model) { members = core.members.members } → ((q : Phrase) → new.ahead ≡ Ok q → length core.witnesses ≡ length core.members.members) → may_begin c Opening.Irreducible ≡ true → old.ahead ≡ Ok Phrase.Irreducible
        → IsRead model (irreducible model (method_of c)) old new (tt, (zip core.members.members core.witnesses, ((tt, core.proof.nodes), ((core.rounds, core.price), tt)))) → IsRead model (answer model c) old new (Answer.Irreducible core)
    unfolding core_value
    irreducible_read core is each may f h = by new.ahead refl
      where
        read : IsRead model (answer model c) old new (Answer.Irreducible (told_core (core_value core)))
        read = begun (irreducible model (method_of c)) irreducible_answer Phrase.Irreducible irreducible_begins (λ v form. core_form v may form) old new (core_value core) stands f h

        by : (s : Result Phrase ReportStop) → new.ahead ≡ s → IsRead model (answer model c) old new (Answer.Irreducible core)
        by (Ok q) e = subst (λ (k : Core). IsRead model (answer model c) old new (Answer.Irreducible k)) (core_again core (each q e) (sym is)) read
        by (Err stop) e = any_value model names (answer model c) old new (Answer.Irreducible (told_core (core_value core))) (Answer.Irreducible core) stop e read
