-- Right answers stand in the grammar of reports, where all names are words.
use Rattle.std.proofs.Common.{◌≡◌, ◌≢◌, ◌<◌, ◌≤◌, ◌+◌, refl, sym, ap, subst, ℕ, Bool, true, false, cond, not, Option, Some, None, List, [], ◌∷◌, ◌++◌, length, get_or, zip, inl, inr, arith}
use Rattle.std.specs.Prelude.{All, Contains, IfSome, IsTrue, ◌&&◌}
use Rattle.std.specs.List.{list_any}
use Rattle.std.proofs.lemmas.Bool.{cases_lt}
use Rattle.rational.specs.Rational.{ℚ}
use Rattle.std.proofs.lemmas.List.{get_or_past, get_or_default}
use Rattle.std.proofs.lemmas.List.Elements.{All-append, All-contains, All-cons, All-filter, All-head, All-nil, All-tail, All-weaker, filter_passes}
use Rattle.std.proofs.lemmas.List.Kept.{AllPairs-filter}
use Rattle.rational.specs.Rational.{zero_ℚ, ◌<ℚ◌}
use Rattle.lp_model.specs.declared.members.Member.{Member}
use Rattle.lp_model.specs.declared.members.Member.TheVariants.{RowLo, RowUp, Lower, Upper, Whole}
use Rattle.lp_model.specs.Program.{Program, NamedRow, NamedColumn, IsWellFormed, empty_column, empty_row, noted_column}
use Rattle.lp_model.specs.Members.{active_members, comes_before, has, is_active, possible_members}
use Rattle.lp_model.specs.MemberSets.{SetValue, IsMemberFor, IsPossibleIn, active_set}
use Rattle.lp_model.specs.Satisfaction.{IsPart, values_at}
use Rattle.lp_model.proofs.Sets.{members_law}
use Rattle.certs.specs.declared.evidence.Node.{Node}
use Rattle.certs.specs.declared.evidence.Node.TheVariants.{Split, Leaf}
use Rattle.certs.specs.declared.evidence.Point.{Point}
use Rattle.certs.specs.declared.evidence.Proof.{Proof}
use Rattle.certs.specs.declared.evidence.Ray.{Ray}
use Rattle.certs.specs.declared.evidence.Share.{Share}
use Rattle.certs.specs.Bound.{IsBoundDual, without_marks}
use Rattle.certs.specs.declared.evidence.Source.{Source}
use Rattle.certs.specs.declared.evidence.Source.TheVariants.{Member as Of, Below, Above}
use Rattle.certs.specs.declared.solving.Site.{Site}
use Rattle.certs.specs.declared.solving.Stop.{Stop}
use Rattle.certs.specs.Named.{node_uses, used_set}
use Rattle.certs.specs.Order.{AreLeavesInOrder, AreSharesInOrder, IsNodeInOrder}
use Rattle.certs.specs.Proof.{IsFittingNode, IsProof}
use Rattle.certs.specs.Sites.{Budgets}
use Rattle.certs.specs.Tales.{IsPointOf}
use Rattle.certs.specs.Violation.{rigid_members}
use Rattle.certs.specs.declared.evidence.Dual.{Dual}
use Rattle.least_checks.specs.Least.{IsLeastBy}
use Rattle.filter_steps.specs.Isolated.{without}
use Rattle.report_text.specs.declared.report.Method.{Method}
use Rattle.report_text.specs.declared.report.Method.TheVariants.{Deletion, Additive, Sensitivity, Elastic, Alternative}
use Rattle.report_text.specs.declared.report.Core.{Core}
use Rattle.report_text.specs.declared.report.Bounded.{Bounded}
use Rattle.report_text.specs.declared.report.Command.{Command}
use Rattle.report_text.specs.declared.report.Command.TheVariants.{Check, Iis, Unbounded, Relax, Reduce, Pivots, Nodes as MostNodes}
use Rattle.report_text.specs.declared.report.ToldSite.{ToldSite}
use Rattle.report_text.specs.declared.report.ToldStop.{ToldStop}
use Rattle.report_text.specs.declared.report.ToldStop.TheVariants.{Wide as TooWide, Pivots as Spent, Nodes, Large}
use Rattle.report_text.specs.Told.{told_site}
use Rattle.report_text.specs.declared.report.Answer.{Answer}
use Rattle.report_text.specs.declared.report.Answer.TheVariants.{Feasible, Infeasible, Irreducible, Unbounded as RunsAway, Bounded as BoundedBy, Least as LeastBy, RigidInfeasible as RigidRefuted, Reduced, Done, Refused, NotLinear, Stopped}
use Rattle.report_text.specs.declared.report.Entry.{Entry}
use Rattle.lp_model.specs.declared.edits.Edit.{Edit as OneEdit}
use Rattle.report_text.specs.declared.report.NamedEdit.{NamedEdit}
use Rattle.report_text.specs.declared.report.Refusal.{Refusal}
use Rattle.report_text.specs.Turns.{after, answer_after, AllEntries, entry_commands}
use Rattle.report_text.proofs.Standing.{after_well_formed}
use Rattle.report_text.proofs.Unchanged.{same_names, rows_same, columns_same, row_name_same, column_name_same}
use Rattle.report_text.specs.Grammar.{column_name}
use Rattle.report_text.specs.Form.{IsPricedFor, has_price, is_one_leaf, is_word, AreUses, IsBoundedFor, IsRayFor, IsWithinLimit, IsNamedColumn, IsNamedMember, IsNamedRow, IsListed, IsPointFor, IsNamedSource, IsNodeFor, IsProofFor, IsSiteFor, IsStopFor, IsStepFor, IsCoreFor, IsAnswerFor, IsCommand, IsEntryFor, IsReportFor, AreEntriesFor, AreNumbered, IsLeastFor, can_answer, has_rounds}
use Rattle.report_text.proofs.Replies.{IsReplyTo, reply_after}
use Rattle.report_printer.specs.EvidenceNumbers.{IsStepWithin}
use Rattle.reductions.specs.declared.steps.ReduceStep.{ReduceStep}
use Rattle.reductions.specs.declared.steps.ReduceStep.TheVariants.{Empty, Singleton, Fixed, Redundant, Forcing, Doubleton}
use Rattle.report_printer.specs.Printing.{IsKnownSource, IsKnownStep}
use Rattle.report_printer.specs.Numbers.{HasNumbersWithin, HasPriceWithin, HasValuesWithin, IsBoundedWithin, IsLeastWithin, IsRayWithin, HasWeightsWithin, HasWitnessesWithin, IsCoreWithin, IsProofWithin, IsStopWithin}
use Rattle.analysis.specs.NamesAreWords.{HasWords}
use Rattle.alt_polyhedron.specs.Pricing.{IsPricingStop}
use Rattle.relaxation.specs.Relaxed.{IsRelaxStop}
use Rattle.unbounded.specs.Diagnosed.{IsBoundedBy, IsOwnStop, IsUnboundedBy}
use Rattle.analysis.specs.Objectives.{IsSized, IsTold, most_entries, system_size}
use Rattle.analysis.specs.Least.{IsLeastTold}
use Rattle.analysis.specs.Linear.{IsLinearly, IsLinearlyBy, alternative_size, elastic_size, first_mark}
use Rattle.analysis.specs.Right.{AreRight, IsAtRun, IsBare, IsChainStop, IsCheapestCore, IsCoreFound, IsEarlyFound, IsEnforcedTold, IsIsolated, IsLateFound, IsLateOfRounds, IsPrintedSite, IsReduction, IsRefutation, IsRightAfter, IsRightCore, IsRoundsTest, IsRunAt, IsSettleStop, IsSolved, IsStoppedBy, IsSupportTest, IsWeighedTold, IsWhole, Right, RightAfter, RightBy, Settings, settings_in_force}
use Rattle.analysis.specs.Pieces.{Answers}
use Rattle.analysis.proofs.Leaving.{known_steps}
use Rattle.analysis.specs.Written.{report_of}
use Rattle.analysis.proofs.Found.{part_possible, possible_members_are}
use Rattle.analysis.proofs.Marks.{mark_known}
use Rattle.analysis.proofs.Objectives.{dual_sources, least_sources}
use Rattle.analysis.proofs.Refuting.{IsSoundNode, sound_nodes, used_part, used_within}
use Rattle.analysis.proofs.Stopping.{part_all}

-- ---- lists
front_of : {A : Type 0} (P : A → Type 0) (xs ys : List A) → All P (xs ++ ys) → All P xs
front_of P [] ys h = All-nil P
front_of P (x ∷ xs) ys h = All-cons P x xs (All-head P x (xs ++ ys) h) (front_of P xs ys (All-tail P x (xs ++ ys) h))

-- where there are as many witnesses as members, all of them are some member's
each_within : (members : List Member) (witnesses : List Point) → length witnesses ≡ length members → HasWitnessesWithin members witnesses → All HasValuesWithin witnesses
each_within [] [] e h = All-nil HasValuesWithin
each_within (m ∷ ms) [] e h = All-nil HasValuesWithin
each_within [] (w ∷ ws) e h = absurd (omega arith)
each_within (m ∷ ms) (w ∷ ws) e h =
    let rest : length ws ≡ length ms = omega arith in
    All-cons HasValuesWithin w ws (All-head (λ (p : Member × Point). HasValuesWithin p.1) (m, w) (zip ms ws) h) (each_within ms ws rest (All-tail (λ (p : Member × Point). HasValuesWithin p.1) (m, w) (zip ms ws) h))

module _ (model : Program) (words : HasWords model) where
  -- ---- names
  named_column : (j : ℕ) → j < length model.columns → IsNamedColumn model j
  named_column j l = record { known = l; word = words.columns j empty_column l }

  named_member : (m : Member) → IsMemberFor (length model.rows) (length model.columns) m → IsNamedMember model m
  named_member (RowLo i) l = record { known = l; word = words.rows i empty_row l }
  named_member (RowUp i) l = record { known = l; word = words.rows i empty_row l }
  named_member (Lower j) l = record { known = l; word = words.columns j empty_column l }
  named_member (Upper j) l = record { known = l; word = words.columns j empty_column l }
  named_member (Whole j) l = record { known = l; word = words.columns j empty_column l }

  -- each active member has one, and so has each member of a part
  active_named : All (IsNamedMember model) (active_members model)
  active_named = All-weaker (IsPossibleIn (active_set model)) (IsNamedMember model) named_member (active_members model) (possible_members_are model)

  part_named : (part : List Member) → IsPart part (active_members model) → All (IsNamedMember model) part
  part_named part h = All-weaker (Contains (active_members model)) (IsNamedMember model) (λ m c. All-contains (IsNamedMember model) (active_members model) m active_named c) part h

  -- ---- points
  value_named : (p : Point) → length p.values ≡ length model.columns → (j : ℕ) → values_at p.values j ≢ zero_ℚ → is_word (column_name model j) ≡ true
  value_named p e j nonzero =
      elim (cases_lt j (length model.columns)) [
        | inl l ↦ (named_column j l).word
        | inr l ↦ absurd (nonzero (get_or_past p.values j zero_ℚ (subst (λ (n : ℕ). n ≤ j) (sym e) l)))
      ]

  values_form : (p : Point) → length p.values ≡ length model.columns → HasValuesWithin p → IsPointFor model p
  values_form p each within = record { len = each; fits = within; named = value_named p each }

  point_form : (members : List Member) (p : Point) → IsPointOf model members p → HasValuesWithin p → IsPointFor model p
  point_form members p h within = values_form p h.each_column within

  -- ---- proofs
  source_named : (source : Source) → IsKnownSource model source → IsNamedSource model source
  source_named (Of m) known = named_member m known
  source_named (Below j) known = named_column j known
  source_named (Above j) known = named_column j known

  module _ (part : List Member) (h : IsPart part (active_members model)) where
    Sound : Node → Type 0
    Sound = IsSoundNode model part (part_possible model part h)

    node_form : (node : Node) → Sound node → IsFittingNode node → IsNodeInOrder node → HasWeightsWithin node → IsNodeFor model node
    unfolding Sound
    node_form (Split j k) sound fits ordered within = (named_column j sound, fits)
    node_form (Leaf combo) sound fits ordered within = record {
      each = λ k d l. record { named = source_named (get_or combo.shares k d).source (sound.0 k d l); positive = sound.1 k d l; fits = within k d l };
      in_order = ordered;
    }

    proof_form : (proof : Proof) → IsProof model part proof.nodes → AreLeavesInOrder proof.nodes → All IsFittingNode proof.nodes → IsProofWithin proof → IsProofFor model proof
    unfolding Sound
    proof_form proof p ordered fits within = record {
      one = record { tree = p.tree; listed = p.listed };
      each = λ k d l. node_form (get_or proof.nodes k d) (sound_nodes model part (part_possible model part h) proof.nodes p k d l) (fits k d l) (ordered k d l) (within k d l);
    }

  -- ---- the members that a proof uses
  used_listed : (nodes : List Node) → IsListed model (used_set (active_set model) nodes)
  used_listed nodes = record {
    of_model = record { rows = refl; columns = refl };
    named = part_named (used_set (active_set model) nodes).members (used_part model nodes);
    in_order = AllPairs-filter (λ m n. IsTrue (comes_before m n)) (λ (m : Member). list_any (node_uses m) nodes) (active_members model) (members_law model).0;
  }

  refutation_form : (printed : SetValue) (proof : Proof) → IsRefutation model printed proof → IsProofWithin proof → IsListed model printed × IsProofFor model proof
  refutation_form printed proof h within = (
    subst (IsListed model) (sym h.used) (used_listed proof.nodes),
    proof_form printed.members (used_within model printed proof.nodes h.used) proof h.proves h.ordered h.fits within,
  )

  -- ---- irreducible sets
  price_form : (price : Option (ℚ × Point)) → IfSome price (λ p. length p.1.values ≡ length model.columns) → HasPriceWithin price → IsPricedFor model price
  price_form None h within = tt
  price_form (Some p) h within = (within.0, values_form p.1 h within.1)

  core_form : (core : Core) → IsRightCore model core → IsCoreWithin core → IsCoreFor model core
  core_form core h within = record {
    members = record { of_model = h.of_model; named = part_named core.members.members h.active; in_order = h.in_order };
    each = h.witnesses.as_many;
    points = λ k d l.
        point_form (without core.members.members k) (get_or core.witnesses k d) (h.witnesses.each k d l)
        (each_within core.members.members core.witnesses h.witnesses.as_many within.witnesses k d l);
    proof = proof_form core.members.members h.active core.proof h.proves h.ordered h.fits within.proof;
    rounds = within.rounds;
    price = price_form core.price h.price within.price;
  }

  -- ---- stops
  site_form : (site : Site) → IsPrintedSite model site → IsSiteFor model (told_site model site)
  site_form site h =
      let out : Member → Bool = λ m. not (has site.set.members m) in record {
        left = record {
          members = record {
            named = All-filter out (IsNamedMember model) (active_members model) active_named;
            in_order = AllPairs-filter (λ m n. IsTrue (comes_before m n)) out (active_members model) (members_law model).0;
          };
          active = All-filter out (λ m. IsTrue (is_active model m)) (active_members model) (filter_passes (is_active model) (possible_members model));
        };
        enforced = record {
          members = record { named = part_all (IsNamedMember model) site.enforced.members site.set.members (active_members model) h.enforced_part h.active active_named; in_order = h.enforced_in_order };
          there = h.enforced_there;
        };
        path = λ k d l. record { named = named_column (get_or site.path k d).column (h.known k d l); fits = h.fits k d l };
      }

  run_form : (IsSo : Site → Type 0) (told : ToldSite) → IsRunAt model IsSo told → IsSiteFor model told
  run_form IsSo told h = subst (IsSiteFor model) (sym h.is) (site_form h.site h.printed)

  stop_form : (IsSo : Site → Stop → Type 0) (stop : ToldStop) → IsAtRun model IsSo stop → IsStopWithin stop → IsStopFor model stop
  stop_form IsSo (TooWide told k o) h within = (run_form _ told h, within)
  stop_form IsSo (Spent told) h within = run_form _ told h
  stop_form IsSo (Nodes told) h within = run_form _ told h
  stop_form IsSo (Large size) h within = absurd h

  -- ---- answers
  -- of a kind that the command may have, and in its form
  abbrev IsAnswerTo : Command → Answer → Type 0
  IsAnswerTo command answer = (can_answer command answer ≡ true) × IsAnswerFor model answer

  solved_form : (budgets : Budgets) (answer : Answer) → IsSolved model budgets answer → HasNumbersWithin answer → IsAnswerTo Check answer
  solved_form budgets (Feasible p) h within = (refl, point_form (active_members model) p h.0 within)
  solved_form budgets (Infeasible printed proof) h within = (refl, refutation_form printed proof h.0 within)
  solved_form budgets (Stopped stop) h within = (refl, stop_form (IsSettleStop (IsWhole model) model budgets) stop h within)
  solved_form budgets _ h within = absurd h

  -- a stop, to a command that may have one
  stopped_form : (command : Command) (IsSo : Site → Stop → Type 0) (answer : Answer) → ((stop : ToldStop) → can_answer command (Stopped stop) ≡ true) → IsStoppedBy (IsAtRun model IsSo) answer → HasNumbersWithin answer → IsAnswerTo command answer
  stopped_form command IsSo answer may h within = subst (IsAnswerTo command) (sym h.is) (may h.stop, stop_form IsSo h.stop h.so (subst HasNumbersWithin h.is within))

  -- rounds are told just where the method has them
  isolated_form : (IsKept : Core → Type 0) (IsTest : List Member → Type 0) (method : Method) (budgets : Budgets) (answer : Answer)
      → ((core : Core) → IsKept core → can_answer (Iis method) (Irreducible core) ≡ true) → IsIsolated IsKept IsTest model budgets answer → HasNumbersWithin answer → IsAnswerTo (Iis method) answer
  isolated_form IsKept IsTest method budgets (Feasible p) told h within = (refl, point_form (active_members model) p h within)
  isolated_form IsKept IsTest method budgets (Irreducible core) told h within = (told core h.1, core_form core h.0 within)
  isolated_form IsKept IsTest method budgets (Stopped stop) told h within = (refl, stop_form (IsSettleStop IsTest model budgets) stop h within)
  isolated_form IsKept IsTest method budgets _ told h within = absurd h

  -- neither rounds nor a price is told
  bare_form : (IsKept IsTest : List Member → Type 0) (method : Method) (budgets : Budgets) → ((core : Core) → core.rounds ≡ None → core.price ≡ None → can_answer (Iis method) (Irreducible core) ≡ true)
      → (answer : Answer) → IsIsolated (IsBare IsKept) IsTest model budgets answer → HasNumbersWithin answer → IsAnswerTo (Iis method) answer
  bare_form IsKept IsTest method budgets told answer h within = isolated_form (IsBare IsKept) IsTest method budgets answer (λ core k. told core k.0 k.1.0) h within

  -- ---- of programs without active marks
  -- the column of the first mark is one of the program
  mark_form : (j : ℕ) → first_mark (active_members model) ≡ Some j → IsNamedColumn model j
  mark_form j e = named_column j (mark_known model j e)

  sized_form : (command : Command) (size : ℕ) (IsTold : Answer → Type 0) (answer : Answer) → ((n : ℕ) → can_answer command (Stopped (Large n)) ≡ true)
      → ((a : Answer) → IsTold a → HasNumbersWithin a → IsAnswerTo command a) → IsSized size IsTold answer → HasNumbersWithin answer → IsAnswerTo command answer
  sized_form command size IsTold answer larges told h within = elim (cases_lt most_entries size) [
    | inl l ↦ subst (IsAnswerTo command) (sym (h.0 l)) (larges size, subst HasNumbersWithin (h.0 l) within)
    | inr l ↦ told answer (h.1 l) within
  ]

  linearly_form : (command : Command) (size : ℕ) (IsTold : Answer → Type 0) (answer : Answer)
      → ((j : ℕ) → can_answer command (NotLinear j) ≡ true) → ((n : ℕ) → can_answer command (Stopped (Large n)) ≡ true) → ((a : Answer) → IsTold a → HasNumbersWithin a → IsAnswerTo command a)
      → IsLinearly model size IsTold answer → HasNumbersWithin answer → IsAnswerTo command answer
  linearly_form command size IsTold answer marks larges told h within = by (first_mark (active_members model)) refl h
    where
      by : (mark : Option ℕ) → first_mark (active_members model) ≡ mark → IsLinearlyBy mark size IsTold answer → IsAnswerTo command answer
      by (Some j) e h = subst (IsAnswerTo command) (sym h) (marks j, mark_form j e)
      by None e h = sized_form command size IsTold answer larges told h within

  -- ---- the elastic filter
  enforced_form : (budgets : Budgets) (answer : Answer) → IsEnforcedTold model budgets answer → HasNumbersWithin answer → IsAnswerTo (Iis Elastic) answer
  enforced_form budgets answer (inl h) within =
      isolated_form (IsLateOfRounds model) (IsRoundsTest model) Elastic budgets answer (λ core k. subst (λ (rounds : Option ℕ). (has_rounds Elastic rounds && has_price Elastic core.price) ≡ true) (sym k.told) (subst (λ (price : Option (ℚ × Point)). has_price Elastic price ≡ true) (sym k.price) refl)) h within
  enforced_form budgets answer (inr h) within = stopped_form (Iis Elastic) (λ site s. IsChainStop model budgets s) answer (λ stop. refl) h within

  -- ---- the cheapest weighting
  weighed_form : (budgets : Budgets) (answer : Answer) → IsWeighedTold model budgets answer → HasNumbersWithin answer → IsAnswerTo (Iis Alternative) answer
  weighed_form budgets answer (inl h) within =
      isolated_form (IsCheapestCore model) (IsSupportTest model) Alternative budgets answer
      (λ core k. subst (λ (rounds : Option ℕ). (has_rounds Alternative rounds && has_price Alternative core.price) ≡ true) (sym k.rounds) (subst (λ (price : Option (ℚ × Point)). has_price Alternative price ≡ true) (sym k.told) refl)) h within
  weighed_form budgets answer (inr h) within = stopped_form (Iis Alternative) (λ site s. IsPricingStop model (active_members model) budgets.pivots s) answer (λ stop. refl) h within

  -- ---- the objective
  ray_form : (p : Point) (ray : Ray) → IsUnboundedBy model (active_members model) p ray → IsRayWithin ray → IsRayFor model ray
  ray_form p ray h within = record { len = h.each_column; fits = within; named = value_named (record { values = ray.values }) h.each_column }

  shares_form : (shares : List Share) → All (λ s. IsKnownSource model s.source) shares → All (λ s. zero_ℚ <ℚ s.weight) shares → AreSharesInOrder shares → All (λ s. IsWithinLimit s.weight) shares → AreUses model shares
  shares_form shares sources positive ordered within = record {
    each = λ k d l. record {
      named = source_named (get_or shares k d).source (sources k d l);
      positive = positive k d l;
      fits = within k d l;
    };
    in_order = ordered;
  }

  uses_form : (shares : List Share) (b : ℚ) → IsBoundDual model (without_marks (active_members model)) shares b → AreSharesInOrder shares → All (λ s. IsWithinLimit s.weight) shares → AreUses model shares
  uses_form shares b h ordered within = shares_form shares (dual_sources model shares b h) h.positive ordered within

  bounded_form : (b : Bounded) → IsBoundedBy model (active_members model) b.point b.objective b.dual → IsBoundedWithin b → IsBoundedFor model b
  bounded_form b h within = record {
    point = point_form (active_members model) b.point h.point_of within.point;
    objective = within.objective;
    bound = within.dual.bound;
    uses = uses_form b.dual.combo.shares b.dual.bound h.dual_of h.ordered within.dual.weights;
  }

  told_form : (budgets : Budgets) (answer : Answer) → IsTold model budgets answer → HasNumbersWithin answer → IsAnswerTo Unbounded answer
  told_form budgets (Infeasible printed proof) h within = (refl, refutation_form printed proof h within)
  told_form budgets (RunsAway p ray) h within = (refl, (point_form (active_members model) p h.point_of within.0, ray_form p ray h within.1))
  told_form budgets (BoundedBy b) h within = (refl, bounded_form b h within)
  told_form budgets (Stopped stop) (inl h) within = (refl, stop_form (IsSettleStop (IsWhole model) model budgets) stop h within)
  told_form budgets (Stopped stop) (inr h) within = (refl, stop_form (λ site s. IsOwnStop model (active_members model) budgets.pivots s) stop h within)
  told_form budgets _ h within = absurd h

  -- ---- how little must give way
  least_form : (p : Point) (dual : Dual) → IsLeastBy model (active_members model) p dual → IsLeastWithin p dual → IsLeastFor model p dual
  least_form p dual h within = record {
    point = values_form p h.each_column within.point;
    total = within.weights.bound;
    uses = shares_form dual.combo.shares (least_sources model dual.combo.shares dual.bound h.dual_of) h.dual_of.positive h.ordered within.weights.weights;
  }

  relaxed_form : (budgets : Budgets) (answer : Answer) → IsLeastTold model budgets answer → HasNumbersWithin answer → IsAnswerTo Relax answer
  relaxed_form budgets (LeastBy p dual) h within = (refl, least_form p dual h within)
  relaxed_form budgets (RigidRefuted printed proof) h within = (h.1.1, refutation_form printed proof h.0 within)
  relaxed_form budgets (Stopped stop) h within = (refl, stop_form (λ site s. IsRelaxStop model (active_members model) budgets.pivots s) stop h within)
  relaxed_form budgets _ h within = absurd h

  -- ---- reductions
  named_row : (i : ℕ) → i < length model.rows → IsNamedRow model i
  named_row i l = record { known = l; word = words.rows i empty_row l }

  step_form : (step : ReduceStep) → IsKnownStep model step → IsStepWithin step → IsStepFor model step
  step_form (Empty i) known within = named_row i known
  step_form (Singleton i) known within = named_row i known
  step_form (Fixed j v) known within = (named_column j known, within)
  step_form (Redundant i) known within = named_row i known
  step_form (Forcing i side) known within = named_row i known
  step_form (Doubleton i j) known within = (named_row i known.0, named_column j known.1)

  reduction_form : IsWellFormed model → (answer : Answer) → IsReduction model answer → HasNumbersWithin answer → IsAnswerTo Reduce answer
  reduction_form formed (Reduced r) h within =
      let known : All (IsKnownStep model) r.steps = subst (All (IsKnownStep model)) (sym h.steps_are) (known_steps model (active_members model) h.last h.made formed h.reduces) in
      (refl, record { steps = λ k d l. step_form (get_or r.steps k d) (known k d l) (within.steps k d l); rows = within.rows; columns = within.columns })
  reduction_form formed (Infeasible printed proof) h within = (ap is_one_leaf h.1.1.1.leaf, refutation_form printed proof h.0 within)
  reduction_form formed _ h within = absurd h

  answer_form : IsWellFormed model → (settings : Settings) (command : Command) (answer : Answer) → Right model settings command answer → HasNumbersWithin answer → IsAnswerTo command answer
  answer_form formed settings Unbounded answer h within = sized_form Unbounded (system_size model 1) (IsTold model settings.budgets) answer (λ n. refl) (told_form settings.budgets) h within
  answer_form formed settings Reduce answer h within = reduction_form formed answer h within
  answer_form formed settings Check answer h within = sized_form Check (system_size model 0) (IsSolved model settings.budgets) answer (λ n. refl) (solved_form settings.budgets) h within
  answer_form formed settings Relax answer h within =
      linearly_form Relax (elastic_size model (active_members model) (rigid_members model (active_members model))) (IsLeastTold model settings.budgets) answer (λ j. refl) (λ n. refl) (relaxed_form settings.budgets) h within
  answer_form formed settings (Iis Deletion) answer h within = sized_form (Iis Deletion) (system_size model 0) (IsLateFound model settings.budgets) answer (λ n. refl) (bare_form _ _ Deletion settings.budgets (λ core bare unpriced. subst (λ (rounds : Option ℕ). (has_rounds Deletion rounds && has_price Deletion core.price) ≡ true) (sym bare) (subst (λ (price : Option (ℚ × Point)). has_price Deletion price ≡ true) (sym unpriced) refl))) h within
  answer_form formed settings (Iis Additive) answer h within = sized_form (Iis Additive) (system_size model 0) (IsEarlyFound model settings.budgets) answer (λ n. refl) (bare_form _ _ Additive settings.budgets (λ core bare unpriced. subst (λ (rounds : Option ℕ). (has_rounds Additive rounds && has_price Additive core.price) ≡ true) (sym bare) (subst (λ (price : Option (ℚ × Point)). has_price Additive price ≡ true) (sym unpriced) refl))) h within
  answer_form formed settings (Iis Elastic) answer h within = linearly_form (Iis Elastic) (elastic_size model (active_members model) []) (IsEnforcedTold model settings.budgets) answer (λ j. refl) (λ n. refl) (enforced_form settings.budgets) h within
  answer_form formed settings (Iis Alternative) answer h within = linearly_form (Iis Alternative) (alternative_size model (active_members model)) (IsWeighedTold model settings.budgets) answer (λ j. refl) (λ n. refl) (weighed_form settings.budgets) h within
  answer_form formed settings (Iis Sensitivity) answer h within = sized_form (Iis Sensitivity) (system_size model 0) (IsCoreFound model settings.budgets) answer (λ n. refl) (bare_form _ _ Sensitivity settings.budgets (λ core bare unpriced. subst (λ (rounds : Option ℕ). (has_rounds Sensitivity rounds && has_price Sensitivity core.price) ≡ true) (sym bare) (subst (λ (price : Option (ℚ × Point)). has_price Sensitivity price ≡ true) (sym unpriced) refl))) h within
  answer_form formed settings (Pivots n) answer h within = subst (IsAnswerTo (Pivots n)) (sym h) (refl, tt)
  answer_form formed settings (MostNodes n) answer h within = subst (IsAnswerTo (MostNodes n)) (sym h) (refl, tt)
  answer_form formed settings _ answer h within = absurd h

  -- what comes by replay
  reply_form : (command : Command) (answer : Answer) → IsReplyTo command answer → IsAnswerTo command answer
  reply_form command Done h = (h.1, tt)
  reply_form command (Refused r) h = (h.1, tt)
  reply_form command _ h = absurd h.0

-- no edit changes a name
words_stand : (first : Program) (before : List Command) → HasWords first → HasWords (after first before)
words_stand first before words =
    let model = after first before in
    let same = same_names first before in
    record {
      rows = λ i d l. subst (λ (r : NamedRow). is_word r.name ≡ true) (get_or_default model.rows i empty_row d l)
          (subst (λ (name : List ℕ). is_word name ≡ true) (sym (row_name_same first model same i)) (words.rows i empty_row (subst (λ (n : ℕ). i < n) (rows_same first model same) l)));
      columns = λ j d l. subst (λ (c : NamedColumn). is_word c.name ≡ true) (get_or_default model.columns j empty_column d l)
          (subst (λ (name : List ℕ). is_word name ≡ true) (sym (column_name_same first model same j)) (words.columns j empty_column (subst (λ (n : ℕ). j < n) (columns_same first model same) l)));
    }

module _ (model : Program) (words : HasWords model) where
  -- ---- reports
  right_form : (before : List Command) → IsWellFormed (after model before) → (command : Command) (answer : Answer) → RightAfter model before command answer → HasNumbersWithin answer → IsAnswerTo (after model before) (words_stand model before words) command answer
  right_form before formed command answer h within = by (answer_after model before command) refl h
    where
      by : (reply : Option Answer) → answer_after model before command ≡ reply → RightBy reply (after model before) (settings_in_force before) command answer → IsAnswerTo (after model before) (words_stand model before words) command answer
      by (Some right) e is = subst (IsAnswerTo (after model before) (words_stand model before words) command) (sym is) (reply_form (after model before) (words_stand model before words) command right (reply_after model before command right e))
      by None e is = answer_form (after model before) (words_stand model before words) formed (settings_in_force before) command answer is within

  entry_form : (before : List Command) (e : Entry) → IsWellFormed (after model before) → IsCommand e.command → IsRightAfter model before e → IsEntryFor (after model before) e
  entry_form before e formed built h =
      let form = right_form before formed e.command e.answer h.right h.numbers in
      record { command = built; kind = form.0; answer = form.1 }

  entries_form : IsWellFormed model → (before : List Command) (entries : List Entry) → All IsCommand before → All IsCommand (entry_commands entries) → AllEntries (IsRightAfter model) before entries → AreEntriesFor model before entries
  entries_form formed before [] past built h = tt
  entries_form formed before (e ∷ entries) past built h =
      let own : IsCommand e.command = All-head IsCommand e.command (entry_commands entries) built in (
        entry_form before e (after_well_formed model before formed past) own h.0,
        entries_form formed (before ++ e.command ∷ []) entries (All-append IsCommand before (e.command ∷ []) past (All-cons IsCommand e.command [] own (All-nil IsCommand))) (All-tail IsCommand e.command (entry_commands entries) built) h.1,
      )

  -- right entries with the numbers of their lines are a report
  in_grammar : (commands : List Command) (entries : List Entry) → IsWellFormed model → All IsCommand commands → AreRight model commands entries → AreNumbered model [] (2 + length model.notes) entries → IsReportFor model (report_of model entries)
  in_grammar commands entries formed built h numbered = record {
    notes = All-weaker (λ note. noted_column note < length model.columns) (λ note. IsNamedColumn model (noted_column note)) (λ note l. named_column model words (noted_column note) l) model.notes formed.notes;
    entries = entries_form formed [] entries (All-nil IsCommand) (front_of IsCommand (entry_commands entries) h.rest (subst (All IsCommand) h.first built)) h.each;
    numbered = numbered;
  }

-- where all names are words, all answers are reports in the grammar
abbrev pub AllInGrammar : Program → List Command → Type 0
AllInGrammar model commands = (a : Answers model commands) → HasWords model → IsReportFor model (report_of model a.entries)

pub all_in_grammar : (model : Program) (commands : List Command) → IsWellFormed model → All IsCommand commands → AllInGrammar model commands
all_in_grammar model commands formed built a words = in_grammar model words commands a.entries formed built a.right a.numbered
