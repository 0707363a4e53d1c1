-- Each phrase of a report is one for the program, and only the last is the foot; the parts of its bytes are its lines.
use Rattle.std.proofs.Common.{◌≡◌, ◌≢◌, ◌<◌, refl, subst, ap, ◌∙◌, ℕ, zero, suc, ◌+◌, Bool, true, false, cond, List, [], ◌∷◌, ◌++◌, length, Option, None, Some, arith}
use Rattle.std.specs.Prelude.{map, flat_map, zip, All}
use Rattle.std.proofs.lemmas.Bool.Decides.{not_from_Decides}
use Rattle.std.proofs.lemmas.List.Elements.{All-head, All-tail, All-nil, All-cons, All-append, All-push, All-weaker}
use Rattle.rational.specs.Rational.{ℚ, zero_ℚ, eq_ℚ}
use Rattle.rational.proofs.Compare.{eq-Decides}
use Rattle.lp_model.specs.Program.{Program, noted_column}
use Rattle.lp_model.specs.declared.members.Member.{Member}
use Rattle.certs.specs.declared.evidence.Point.{Point}
use Rattle.certs.specs.declared.evidence.Node.{Node}
use Rattle.certs.specs.declared.evidence.Node.TheVariants.{Split, Leaf}
use Rattle.certs.specs.declared.evidence.Proof.{Proof}
use Rattle.certs.specs.declared.evidence.Ray.{Ray}
use Rattle.report_text.specs.declared.report.ToldSite.{ToldSite}
use Rattle.report_text.specs.declared.report.ToldStop.{ToldStop}
use Rattle.report_text.specs.declared.report.ToldStop.TheVariants.{Wide as TooWide, Pivots as Spent, Nodes as NodesSpent, Large}
use Rattle.report_text.specs.declared.report.Command.{Command}
use Rattle.report_text.specs.declared.report.Bounded.{Bounded}
use Rattle.report_text.specs.declared.report.Core.{Core}
use Rattle.certs.specs.declared.evidence.Dual.{Dual}
use Rattle.report_text.specs.declared.report.Answer.{Answer}
use Rattle.report_text.specs.declared.report.Answer.TheVariants.{Feasible, Infeasible, Irreducible, Unbounded as RunsAway, Bounded as BoundedBy, Least as LeastBy, RigidInfeasible as RigidRefuted, Reduced as ReducedTo, Done, Refused, NotLinear, Stopped}
use Rattle.report_text.specs.declared.report.Entry.{Entry}
use Rattle.report_text.specs.declared.report.Report.{Report}
use Rattle.report_text.specs.declared.phrases.Phrase.{Phrase}
use Rattle.report_text.specs.declared.phrases.StopPhrase.{StopPhrase}
use Rattle.lp_model.specs.Satisfaction.{values_at}
use Rattle.report_text.specs.Form.{is_word, IsNamedBranch, IsWithinLimit, IsNamedColumn, IsNamedMember, IsUse, IsNodeFor, IsProofFor, IsPointFor, IsRayFor, IsBoundedFor, IsLeastFor, IsCoreFor, IsCountWithin, IsPricedFor, IsValueWithin, IsSiteFor, IsStopFor, IsStepFor, IsAnswerFor, IsEntryFor, AreEntriesFor, IsReportFor}
use Rattle.report_text.specs.Grammar.{column_name, value_phrases, point_phrases, unbounded_phrases, objective_phrases, dual_phrases, bounded_phrases, least_phrases, node_phrases, proof_phrases, price_phrases, rounds_phrases, irreducible_phrases, witness_phrases, without_phrase, enforced_phrase, branch_phrase, site_phrases, stop_phrases, answer_front, answer_end, entry_phrases, entries_phrases, body_phrases, report_phrases, report_lines}
use Rattle.report_text.specs.Turns.{after}
use Rattle.phrase_reader.specs.Phrases.{IsPhraseFor}
use Rattle.phrase_reader.specs.Parts.{parts}
use Rattle.phrase_reader.proofs.Spelling.{lines_no_mark, parts_of_text}
use Rattle.report_reader.specs.Reading.{Reads}
use Rattle.report_reader.proofs.Alike.{phrase_before}

-- ---- each phrase of a report is one for the program
abbrev pub is_foot : Phrase → Bool
is_foot Phrase.Foot = true
is_foot p = false

-- a phrase for the program that is not the foot
pub record IsBefore (model : Program) (p : Phrase) : Type 0 where
  pub form : IsPhraseFor model p
  pub before : is_foot p ≡ false

module _ (model : Program) where
  For : Phrase → Type 0
  For p = IsBefore model p

  own : (p : Phrase) → IsPhraseFor model p → is_foot p ≡ false → For p
  unfolding For
  own p h e = record { form = h; before = e }

  -- values from column j on
  values_for : (j : ℕ) (vs : List ℚ) → All IsWithinLimit vs → ((i : ℕ) → values_at vs i ≢ zero_ℚ → IsNamedColumn model (i + j)) → All For (value_phrases j vs)
  unfolding For
  values_for j [] h named = All-nil For
  values_for j (v ∷ vs) h named = by (eq_ℚ v zero_ℚ) refl (values_for (suc j) vs (All-tail IsWithinLimit v vs h) (λ i n. subst (IsNamedColumn model) (omega arith) (named (suc i) n)))
    where
      by : (b : Bool) → eq_ℚ v zero_ℚ ≡ b → All For (value_phrases (suc j) vs) → All For (cond b (value_phrases (suc j) vs) (Phrase.Value j v ∷ value_phrases (suc j) vs))
      by true e rest = rest
      by false e rest =
          let apart : v ≢ zero_ℚ = not_from_Decides _ (eq-Decides v zero_ℚ) e in
          let value : IsPhraseFor model (Phrase.Value j v) = (subst (IsNamedColumn model) (let p : 0 + j ≡ j = omega arith in p) (named zero apart), (All-head IsWithinLimit v vs h, apart)) in
          All-cons For (Phrase.Value j v) (value_phrases (suc j) vs) (own (Phrase.Value j v) value refl) rest

  -- a value past the last is 0
  in_range : (vs : List ℚ) (i : ℕ) → values_at vs i ≢ zero_ℚ → i < length vs
  in_range [] i h = absurd (h refl)
  in_range (v ∷ vs) zero h = omega arith
  in_range (v ∷ vs) (suc i) h = let l = in_range vs i h in omega arith

  -- a value for each column
  each_column : (values : List ℚ) → length values ≡ length model.columns → All IsWithinLimit values → ((j : ℕ) → values_at values j ≢ zero_ℚ → is_word (column_name model j) ≡ true) → All For (value_phrases 0 values)
  each_column values len fits named = values_for 0 values fits (λ i n.
      let l = in_range values i n in
      record { known = omega arith; word = subst (λ k. is_word (column_name model k) ≡ true) (omega arith) (named i n) })

  point_for : (p : Point) → IsPointFor model p → All For (point_phrases p)
  unfolding For
  point_for p h = All-cons For Phrase.Point (value_phrases 0 p.values) (own Phrase.Point tt refl) (each_column p.values h.len h.fits h.named)

  unbounded_for : (p : Point) (ray : Ray) → IsPointFor model p → IsRayFor model ray → All For (unbounded_phrases p ray)
  unfolding For
  unbounded_for p ray h k =
      let changes = value_phrases 0 ray.values in
      All-cons For Phrase.Unbounded (point_phrases p ++ Phrase.Ray ∷ changes) (own Phrase.Unbounded tt refl)
      (All-append For (point_phrases p) (Phrase.Ray ∷ changes) (point_for p h)
      (All-cons For Phrase.Ray changes (own Phrase.Ray tt refl) (each_column ray.values k.len k.fits k.named)))

  objective_for : (v : Option ℚ) → IsValueWithin v → All For (objective_phrases v)
  unfolding For
  objective_for None h = All-nil For
  objective_for (Some v) h = All-cons For (Phrase.Objective v) [] (own (Phrase.Objective v) h refl) (All-nil For)

  each_for : {X : Type 0} (Q : X → Type 0) (say : X → Phrase) → ((x : X) → Q x → For (say x)) → (xs : List X) → All Q xs → All For (map say xs)
  each_for Q say f [] h = All-nil For
  each_for Q say f (x ∷ xs) h = All-cons For (say x) (map say xs) (f x (All-head Q x xs h)) (each_for Q say f xs (All-tail Q x xs h))

  flat_for : {X : Type 0} (Q : X → Type 0) (say : X → List Phrase) → ((x : X) → Q x → All For (say x)) → (xs : List X) → All Q xs → All For (flat_map say xs)
  flat_for Q say f [] h = All-nil For
  flat_for Q say f (x ∷ xs) h = All-append For (say x) (flat_map say xs) (f x (All-head Q x xs h)) (flat_for Q say f xs (All-tail Q x xs h))

  bounded_for : (b : Bounded) → IsBoundedFor model b → All For (bounded_phrases b)
  unfolding For
  bounded_for b h =
      let uses = map Phrase.Use b.dual.combo.shares in
      All-cons For Phrase.Bounded (point_phrases b.point ++ (objective_phrases b.objective ++ dual_phrases b.dual)) (own Phrase.Bounded tt refl)
      (All-append For (point_phrases b.point) (objective_phrases b.objective ++ dual_phrases b.dual) (point_for b.point h.point)
      (All-append For (objective_phrases b.objective) (dual_phrases b.dual) (objective_for b.objective h.objective)
      (All-cons For (Phrase.Bound b.dual.bound) (Phrase.Dual ∷ uses) (own (Phrase.Bound b.dual.bound) h.bound refl)
      (All-cons For Phrase.Dual uses (own Phrase.Dual tt refl) (each_for (IsUse model) Phrase.Use (λ s u. own (Phrase.Use s) u refl) b.dual.combo.shares h.uses.each)))))

  least_for : (p : Point) (dual : Dual) → IsLeastFor model p dual → All For (least_phrases p dual)
  unfolding For
  least_for p dual h =
      let uses = map Phrase.Use dual.combo.shares in
      All-cons For Phrase.Least (Phrase.Total dual.bound ∷ (point_phrases p ++ Phrase.Dual ∷ uses)) (own Phrase.Least tt refl)
      (All-cons For (Phrase.Total dual.bound) (point_phrases p ++ Phrase.Dual ∷ uses) (own (Phrase.Total dual.bound) h.total refl)
      (All-append For (point_phrases p) (Phrase.Dual ∷ uses) (point_for p h.point)
      (All-cons For Phrase.Dual uses (own Phrase.Dual tt refl) (each_for (IsUse model) Phrase.Use (λ s u. own (Phrase.Use s) u refl) dual.combo.shares h.uses.each))))

  node_for : (node : Node) → IsNodeFor model node → All For (node_phrases node)
  unfolding For
  node_for (Split j k) h = All-cons For (Phrase.Split j k) [] (own (Phrase.Split j k) h refl) (All-nil For)
  node_for (Leaf combo) h = All-cons For Phrase.Leaf (map Phrase.Use combo.shares) (own Phrase.Leaf tt refl) (each_for (IsUse model) Phrase.Use (λ s u. own (Phrase.Use s) u refl) combo.shares h.each)

  proof_for : (proof : Proof) → IsProofFor model proof → All For (proof_phrases proof)
  unfolding For
  proof_for proof h = All-cons For Phrase.Proof (flat_map node_phrases proof.nodes) (own Phrase.Proof tt refl) (flat_for (IsNodeFor model) node_phrases node_for proof.nodes h.each)

  witness_for : (w : Member × Point) → IsNamedMember model w.0 × IsPointFor model w.1 → All For (witness_phrases w)
  unfolding For
  witness_for w h = All-cons For (Phrase.Member w.0) (point_phrases w.1) (own (Phrase.Member w.0) h.0 refl) (point_for w.1 h.1)

  zipped : (members : List Member) (witnesses : List Point) → All (IsNamedMember model) members → All (IsPointFor model) witnesses → All (λ w. IsNamedMember model w.0 × IsPointFor model w.1) (zip members witnesses)
  zipped [] witnesses q r = All-nil (λ w. IsNamedMember model w.0 × IsPointFor model w.1)
  zipped (m ∷ members) [] q r = All-nil (λ w. IsNamedMember model w.0 × IsPointFor model w.1)
  zipped (m ∷ members) (p ∷ witnesses) q r =
      All-cons (λ w. IsNamedMember model w.0 × IsPointFor model w.1) (m, p) (zip members witnesses) (All-head (IsNamedMember model) m members q, All-head (IsPointFor model) p witnesses r)
      (zipped members witnesses (All-tail (IsNamedMember model) m members q) (All-tail (IsPointFor model) p witnesses r))

  -- how many rounds were made, where it is told
  rounds_for : (rounds : Option ℕ) → IsCountWithin rounds → All For (rounds_phrases rounds)
  unfolding For
  rounds_for None h = All-nil For
  rounds_for (Some n) h = All-cons For (Phrase.Rounds n) [] (own (Phrase.Rounds n) h refl) (All-nil For)

  -- a total and a price, where they are told
  price_for : (price : Option (ℚ × Point)) → IsPricedFor model price → All For (price_phrases price)
  unfolding For
  price_for None h = All-nil For
  price_for (Some p) h =
      let values = value_phrases 0 p.1.values in
      All-cons For (Phrase.Total p.0) (Phrase.Price ∷ values) (own (Phrase.Total p.0) h.0 refl)
      (All-cons For Phrase.Price values (own Phrase.Price tt refl) (each_column p.1.values h.1.len h.1.fits h.1.named))

  irreducible_for : (core : Core) → IsCoreFor model core → All For (irreducible_phrases core)
  unfolding For
  irreducible_for core h =
      let listed = flat_map witness_phrases (zip core.members.members core.witnesses) in
      let tail = rounds_phrases core.rounds ++ price_phrases core.price in
      let behind = proof_phrases core.proof ++ tail in
      All-cons For Phrase.Irreducible (listed ++ behind) (own Phrase.Irreducible tt refl)
      (All-append For listed behind
      (flat_for (λ w. IsNamedMember model w.0 × IsPointFor model w.1) witness_phrases witness_for (zip core.members.members core.witnesses) (zipped core.members.members core.witnesses h.members.named h.points))
      (All-append For (proof_phrases core.proof) tail (proof_for core.proof h.proof)
      (All-append For (rounds_phrases core.rounds) (price_phrases core.price) (rounds_for core.rounds h.rounds) (price_for core.price h.price))))

  site_for : (site : ToldSite) → IsSiteFor model site → All For (site_phrases site)
  unfolding For
  site_for site h =
      let left = map without_phrase site.left in
      let enforced = map enforced_phrase site.enforced in
      let path = map branch_phrase site.path in
      All-cons For (Phrase.Stop (StopPhrase.Site site.kind)) (left ++ (enforced ++ path)) (own (Phrase.Stop (StopPhrase.Site site.kind)) tt refl)
      (All-append For left (enforced ++ path) (each_for (IsNamedMember model) without_phrase (λ m k. own (without_phrase m) k refl) site.left h.left.members.named)
      (All-append For enforced path (each_for (IsNamedMember model) enforced_phrase (λ m k. own (enforced_phrase m) k refl) site.enforced h.enforced.members.named)
      (each_for (IsNamedBranch model) branch_phrase (λ b k. own (branch_phrase b) k refl) site.path h.path)))

  stop_for : (stop : ToldStop) → IsStopFor model stop → All For (stop_phrases stop)
  unfolding For
  stop_for (TooWide site k o) h =
      let step = Phrase.Stop (StopPhrase.Step k) in
      let operation = Phrase.Stop (StopPhrase.Operation o) in
      All-cons For (Phrase.Stop StopPhrase.Wide) (site_phrases site ++ step ∷ operation ∷ []) (own (Phrase.Stop StopPhrase.Wide) tt refl)
      (All-append For (site_phrases site) (step ∷ operation ∷ []) (site_for site h.0) (All-cons For step (operation ∷ []) (own step h.1.0 refl) (All-cons For operation [] (own operation h.1.1 refl) (All-nil For))))
  stop_for (Spent site) h = All-cons For (Phrase.Stop StopPhrase.Spent) (site_phrases site) (own (Phrase.Stop StopPhrase.Spent) tt refl) (site_for site h)
  stop_for (NodesSpent site) h = All-cons For (Phrase.Stop StopPhrase.Nodes) (site_phrases site) (own (Phrase.Stop StopPhrase.Nodes) tt refl) (site_for site h)
  stop_for (Large size) h = All-cons For (Phrase.Stop (StopPhrase.Large size)) [] (own (Phrase.Stop (StopPhrase.Large size)) h refl) (All-nil For)

  end_for : (a : Answer) → IsAnswerFor model a → For (answer_end a)
  unfolding For
  end_for Done h = own Phrase.Done tt refl
  end_for (Refused r) h = own (Phrase.Refused r) tt refl
  end_for (NotLinear j) h = own (Phrase.NotLinear j) h refl
  end_for a h = own (answer_end a) tt refl

  answer_for : (a : Answer) → IsAnswerFor model a → All For (answer_front model a)
  unfolding For
  answer_for Done h = All-nil For
  answer_for (Refused r) h = All-nil For
  answer_for (NotLinear j) h = All-nil For
  answer_for (Stopped stop) h = stop_for stop h
  answer_for (Feasible p) h = All-cons For Phrase.Feasible (point_phrases p) (own Phrase.Feasible tt refl) (point_for p h)
  answer_for (Infeasible set proof) h =
      All-cons For Phrase.Infeasible (map Phrase.Member set.members ++ proof_phrases proof) (own Phrase.Infeasible tt refl)
      (All-append For (map Phrase.Member set.members) (proof_phrases proof) (each_for (IsNamedMember model) Phrase.Member (λ m k. own (Phrase.Member m) k refl) set.members h.0.named) (proof_for proof h.1))
  answer_for (RigidRefuted set proof) h =
      All-cons For Phrase.RigidInfeasible (map Phrase.Member set.members ++ proof_phrases proof) (own Phrase.RigidInfeasible tt refl)
      (All-append For (map Phrase.Member set.members) (proof_phrases proof) (each_for (IsNamedMember model) Phrase.Member (λ m k. own (Phrase.Member m) k refl) set.members h.0.named) (proof_for proof h.1))
  answer_for (Irreducible core) h = irreducible_for core h
  answer_for (LeastBy p dual) h = least_for p dual h
  answer_for (RunsAway p ray) h = unbounded_for p ray h.0 h.1
  answer_for (BoundedBy b) h = bounded_for b h
  answer_for (ReducedTo r) h =
      let steps = map Phrase.Reduction r.steps in
      let left = Phrase.Left r.rows r.columns in
      All-cons For Phrase.Reduced (steps ++ left ∷ []) (own Phrase.Reduced tt refl)
      (All-push For steps left (each_for (IsStepFor model) Phrase.Reduction (λ s k. own (Phrase.Reduction s) k refl) r.steps h.steps) (own left (h.rows, h.columns) refl))

  entry_for : (e : Entry) → IsEntryFor model e → All For (entry_phrases model e)
  unfolding For
  entry_for e h = All-cons For (Phrase.Command e.command) (answer_front model e.answer ++ answer_end e.answer ∷ []) (own (Phrase.Command e.command) h.command refl) (All-push For (answer_front model e.answer) (answer_end e.answer) (answer_for e.answer h.answer) (end_for e.answer h.answer))

-- the phrases of entries, each for the program after the commands before it, are phrases for the first one
entries_for : (model : Program) (before : List Command) (entries : List Entry) → AreEntriesFor model before entries → All (IsBefore model) (entries_phrases model before entries)
unfolding For
entries_for model before [] h = All-nil (IsBefore model)
entries_for model before (e ∷ entries) h =
    let now = after model before in
    let next = before ++ e.command ∷ [] in
    All-append (IsBefore model) (entry_phrases now e) (entries_phrases model next entries)
    (All-weaker (IsBefore now) (IsBefore model) (λ p k. record { form = phrase_before model before p k.form; before = k.before }) (entry_phrases now e) (entry_for now e h.0))
    (entries_for model next entries h.1)

-- all that stands before the foot
pub body_for : (model : Program) (report : Report) → IsReportFor model report → All (IsBefore model) (body_phrases model report.notes report.entries)
unfolding For
body_for model report h =
    All-cons (IsBefore model) Phrase.Head (map Phrase.Note report.notes ++ entries_phrases model [] report.entries) (own model Phrase.Head tt refl)
    (All-append (IsBefore model) (map Phrase.Note report.notes) (entries_phrases model [] report.entries)
    (each_for model (λ note. IsNamedColumn model (noted_column note)) Phrase.Note (λ note k. own model (Phrase.Note note) k refl) report.notes h.notes)
    (entries_for model [] report.entries h.entries))

pub report_for : (model : Program) (report : Report) → IsReportFor model report → All (IsPhraseFor model) (report_phrases model report)
report_for model report h =
    All-push (IsPhraseFor model) (body_phrases model report.notes report.entries) Phrase.Foot
    (All-weaker (IsBefore model) (IsPhraseFor model) (λ p k. k.form) (body_phrases model report.notes report.entries) (body_for model report h)) tt

-- ---- its bytes
-- the parts of bytes that are read are the report's lines
pub parts_of_read : (model : Program) (bytes : List ℕ) (report : Report) → Reads model bytes report → parts 10 bytes ≡ report_lines model report ++ [] ∷ []
parts_of_read model bytes report h =
    ap (parts 10) h.text
    ∙ parts_of_text (report_lines model report) (lines_no_mark model (report_phrases model report) (report_for model report h.form))
