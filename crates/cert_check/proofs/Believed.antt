-- What is so where nothing stops the check.
use Rattle.std.proofs.Common.{◌≡◌, ◌+◌, refl, sym, ◌∙◌, ap, subst, ℕ, suc, Bool, true, false, true≢false, List, [], ◌∷◌, ◌++◌, length, zip, flat_map, Option, Some, None, arith, eqb→eq, T}
use Rattle.std.specs.Prelude.{All, Contains}
use Rattle.std.proofs.lemmas.Bool.{and_parts}
use Rattle.std.proofs.lemmas.List.Elements.{All-head, All-tail, All-nil, All-cons, All-append, All-weaker}
use Rattle.frac128.specs.Limit.{limit}
use Rattle.lp_model.specs.declared.parts.Note.{Note}
use Rattle.lp_model.specs.declared.parts.Note.TheVariants.{LowerRemoved, LowerKept}
use Rattle.lp_model.specs.declared.members.Member.{Member}
use Rattle.lp_model.specs.Program.{Program, IsWellFormed}
use Rattle.lp_model.specs.MemberSets.{SetValue}
use Rattle.lp_model.specs.Members.{is_same, is_active, has, active_members, IsInOrder}
use Rattle.lp_model.specs.Satisfaction.{values_at, Satisfies, IsSatisfiable, IsUnsatisfiable, IsPart}
use Rattle.lp_model.proofs.Sets.{contains_of_has, members_law}
use Rattle.lp_model.proofs.Walk.{list_without}
use Rattle.certs.specs.declared.evidence.Checked.{Checked}
use Rattle.certs.specs.declared.evidence.Checked.TheVariants.{Yes, No, Wide}
use Rattle.certs.specs.declared.evidence.Point.{Point}
use Rattle.certs.specs.Bound.{RayLaw, ValidBoundLaw}
use Rattle.certs.specs.Checks.{outcome, point_steps}
use Rattle.certs.proofs.Passed.{point_check_law}
use Rattle.certs.proofs.Sound.{satisfiable_law}
use Rattle.certs.specs.declared.evidence.Node.{Node}
use Rattle.certs.specs.declared.evidence.Proof.{Proof}
use Rattle.least_checks.specs.Least.{ReachedLaw}
use Rattle.least_checks.specs.Parts.{PartsLaw, ViolationLaw}
use Rattle.price_checks.specs.Costs.{CostLaw, PricedLaw}
use Rattle.branch_proof.specs.declared.checks.Judged.{Judged}
use Rattle.branch_proof.specs.Walk.{judgement}
use Rattle.branch_proof.proofs.Judgements.{told}
use Rattle.report_text.specs.declared.report.Answer.{Answer}
use Rattle.report_text.specs.declared.report.Answer.TheVariants.{Feasible, Infeasible, Irreducible, Unbounded as RunsAway, Bounded as BoundedBy, Least as LeastBy, RigidInfeasible as RigidRefuted, Reduced, Done, Refused, NotLinear, Stopped}
use Rattle.report_text.specs.declared.report.Command.{Command}
use Rattle.report_text.specs.declared.report.Entry.{Entry}
use Rattle.report_text.specs.contracts.report.RefusalPartialEq.TheImpl.{ghosts as refusal_test}
use Rattle.report_text.specs.declared.report.Refusal.{Refusal}
use Rattle.report_text.specs.Turns.{after, answer_after}
use Rattle.report_text.specs.Form.{IsAnswerFor, IsCommand, AreEntriesFor}
use Rattle.report_text.proofs.Standing.{after_well_formed}
use Rattle.report_text.specs.Grammar.{proof_phrases, rounds_phrases, witness_phrases}
use Rattle.cert_check.specs.Trials.{said, paired_trials, same_note, is_use_of, judged_trials, proof_members, proof_trials, refuted_trials, rigid_active, others, witness_trials, witnesses_of, rounds_trials, price_trials, answer_trials, linear_trials, claim_trials, same_reply, reply_trials, entry_trials, entries_trials, Trial, trials, unless_failed, outcome_of, IsAccepted}
use Rattle.cert_check.specs.Stops.{first_stop, stop_or}
use Rattle.cert_check.specs.Truth.{IsRefuted, IsTrueAnswer, AreTrue, AcceptedLaw}
use Rattle.cert_check.proofs.Bounding.{unbounded_at, bounded_at}
use Rattle.cert_check.proofs.Reaching.{least_by}
use Rattle.cert_check.proofs.Pricing.{priced_by}
use Rattle.cert_check.proofs.Firsts.{found_yes, parts_pass}

said_yes : (b : Bool) → said b ≡ Yes → b ≡ true
said_yes true e = refl
said_yes false e = absurd (cc)

-- ---- notes
one_note : (m n : Note) → same_note m n ≡ true → m ≡ n
one_note (LowerRemoved j) (LowerRemoved k) e = ap (λ (i : ℕ). LowerRemoved i) (eqb→eq j k (subst T (sym e) tt))
one_note (LowerRemoved j) (LowerKept k) e = absurd (true≢false (sym e))
one_note (LowerKept j) (LowerRemoved k) e = absurd (true≢false (sym e))
one_note (LowerKept j) (LowerKept k) e = ap (λ (i : ℕ). LowerKept i) (eqb→eq j k (subst T (sym e) tt))

same_notes : (n : ℕ) (printed known : List Note) → first_stop (paired_trials same_note n printed known) ≡ None → printed ≡ known
same_notes n [] [] e = refl
same_notes n [] (k ∷ known) e = absurd (cc)
same_notes n (p ∷ printed) [] e = absurd (cc)
same_notes n (p ∷ printed) (k ∷ known) e =
    let both = found_yes n (said (same_note p k)) (first_stop (paired_trials same_note (n + 1) printed known)) e in
    ap (λ (m : Note). m ∷ printed) (one_note p k (said_yes (same_note p k) both.0)) ∙ ap (λ (l : List Note). k ∷ l) (same_notes (n + 1) printed known both.1)

-- ---- members
module _ (among : List Member) where
  pairs_on : (n : ℕ) (printed used : List Member) → first_stop (paired_trials (is_use_of among) n printed used) ≡ None → IsPart printed among
  pairs_on n [] used e = All-nil (Contains among)
  pairs_on n (p ∷ printed) [] e = absurd (cc)
  pairs_on n (p ∷ printed) (u ∷ used) e =
      let both = found_yes n (said (is_use_of among p u)) (first_stop (paired_trials (is_use_of among) (n + 1) printed used)) e in
      All-cons (Contains among) p printed (contains_of_has among p (and_parts (has among p) (is_same p u) (said_yes (is_use_of among p u) both.0)).0) (pairs_on (n + 1) printed used both.1)

part_of_active : (model : Program) (set : List Member) → All (λ m. is_active model m ≡ true) set → IsPart set (active_members model)
part_of_active model set h = λ k d l. ((members_law model).1 _).1 (h k d l)

-- ---- members and witnesses
all_zip : (P : Member → Type 0) (xs : List Member) (ys : List Point) → length ys ≡ length xs → All (λ w. P w.0) (zip xs ys) → All P xs
all_zip P [] ys e h = All-nil P
all_zip P (x ∷ xs) [] e h = absurd (cc)
all_zip P (x ∷ xs) (y ∷ ys) e h =
    let less : length ys ≡ length xs = (let k : suc (length ys) ≡ suc (length xs) = e in omega (arith, k)) in
    All-cons P x xs (All-head (λ (w : Member × Point). P w.0) (x, y) (zip xs ys) h) (all_zip P xs ys less (All-tail (λ (w : Member × Point). P w.0) (x, y) (zip xs ys) h))

zip_at : (Q : Member × Point → Type 0) (front : List Member) (x : Member) (back : List Member) (ys : List Point) → length ys ≡ length (front ++ x ∷ back) → All Q (zip (front ++ x ∷ back) ys) → (y : Point) × Q (x, y)
zip_at Q [] x back [] e h = absurd (cc)
zip_at Q [] x back (y ∷ ys) e h = (y, All-head Q (x, y) (zip back ys) h)
zip_at Q (f ∷ front) x back [] e h = absurd (cc)
zip_at Q (f ∷ front) x back (y ∷ ys) e h =
    let less : length ys ≡ length (front ++ x ∷ back) = (let k : suc (length ys) ≡ suc (length (front ++ x ∷ back)) = e in omega (arith, k)) in
    zip_at Q front x back ys less (All-tail Q (f, y) (zip (front ++ x ∷ back) ys) h)

module _ (model : Program) (set : List Member) where
  abbrev pub Tried : Member × Point → Type 0
  Tried w = (is_active model w.0 ≡ true) × (outcome (point_steps model (others set w.0) (values_at w.1.values)) ≡ Yes)

  tried : (n : ℕ) (witnesses : List (Member × Point)) → first_stop (witness_trials model set n witnesses) ≡ None → All Tried witnesses
  tried n [] e = All-nil Tried
  tried n (w ∷ witnesses) e =
      let rest = first_stop (witness_trials model set (n + length (witness_phrases w)) witnesses) in
      let point = outcome (point_steps model (others set w.0) (values_at w.1.values)) in
      let one = found_yes n (said (is_active model w.0)) (stop_or (n + 1) point rest) e in
      let two = found_yes (n + 1) point rest one.1 in
      All-cons Tried w witnesses (said_yes (is_active model w.0) one.0, two.0) (tried (n + length (witness_phrases w)) witnesses two.1)

  irreducible_by : (witnesses : List Point) → IsInOrder set → length witnesses ≡ length set → All Tried (zip set witnesses) → (front : List Member) (x : Member) (back : List Member) → set ≡ front ++ x ∷ back → IsSatisfiable model (front ++ back)
  irreducible_by witnesses in_order each h front x back e =
      let found = zip_at Tried front x back witnesses (each ∙ ap length e) (subst (λ (l : List Member). All Tried (zip l witnesses)) e h) in
      let rest = ap (λ (l : List Member). others l x) e ∙ list_without front x back (subst IsInOrder e in_order) in
      subst (IsSatisfiable model) rest (satisfiable_law limit model (others set x) found.0.values found.1.1)

-- ---- proofs
judged_yes : (n : ℕ) (nodes : List Node) (judged : Judged) → first_stop (judged_trials n nodes judged) ≡ None → judged ≡ Judged.Yes
judged_yes n nodes Judged.Yes e = refl
judged_yes n nodes (Judged.No k) e = absurd (cc)
judged_yes n nodes (Judged.Wide k o) e = absurd (cc)

-- where every node passes, no point satisfies the members
believed_proof : (model : Program) (set : List Member) (n : ℕ) (proof : Proof) → IsWellFormed model → first_stop (proof_trials model set n proof) ≡ None → IsUnsatisfiable model set
believed_proof model set n proof f e =
    let judged = judgement model set proof.nodes in
    (told model set proof.nodes judged f refl).unsatisfiable (judged_yes n proof.nodes judged e)

-- where the members are those that the proof uses too, they are refuted
refuted_by : (model : Program) (among : List Member) (n : ℕ) (set : SetValue) (proof : Proof) → IsWellFormed model → first_stop (refuted_trials model among n set proof) ≡ None → IsRefuted model among set.members
refuted_by model among n set proof f e =
    let line = n + (3 + length set.members) in
    let both = parts_pass (paired_trials (is_use_of among) (n + 2) set.members (proof_members model proof)) (proof_trials model set.members line proof) e in
    record { part = pairs_on among (n + 2) set.members (proof_members model proof) both.0; unsatisfiable = believed_proof model set.members line proof f both.1 }

-- ---- answers, by the laws of rays, bounds, least violations and prices
pub record Laws : Type 0 where
  pub rays : RayLaw
  pub bounds : ValidBoundLaw
  pub parts : PartsLaw
  pub violations : ViolationLaw
  pub reached : ReachedLaw
  pub costs : CostLaw
  pub prices : PricedLaw

true_answer : (laws : Laws) (model : Program) (n : ℕ) (a : Answer) → IsWellFormed model → IsAnswerFor model a → first_stop (answer_trials model n a) ≡ None → IsTrueAnswer model a
true_answer laws model n (Feasible p) f h e =
    point_check_law limit model (active_members model) (values_at p.values) (found_yes (n + 2) (outcome (point_steps model (active_members model) (values_at p.values))) None e).0
true_answer laws model n (Infeasible set proof) f h e = refuted_by model (active_members model) n set proof f e
true_answer laws model n (Irreducible core) f h e =
    let set = core.members.members in
    let next = n + (2 + length (flat_map witness_phrases (witnesses_of core))) in
    let behind = next + length (proof_phrases core.proof) in
    let tree = proof_trials model set (next + 1) core.proof in
    let rounds = rounds_trials (length set) behind core.rounds in
    let price = price_trials model (behind + length (rounds_phrases core.rounds)) core.proof core.price in
    let both = parts_pass (witness_trials model set (n + 2) (witnesses_of core)) (tree ++ (rounds ++ price)) e in
    let each = tried model set (n + 2) (witnesses_of core) both.0 in
    let rest = parts_pass tree (rounds ++ price) both.1 in
    let judged = judged_yes (next + 1) core.proof.nodes (judgement model set core.proof.nodes) rest.0 in
    let cannot = believed_proof model set (next + 1) core.proof f rest.0 in
    let active =
    part_of_active model set (all_zip (λ m. is_active model m ≡ true) set core.witnesses h.each (All-weaker (Tried model set) (λ w. is_active model w.0 ≡ true) (λ w t. t.0) (witnesses_of core) each)) in
    record {
      set = record {
        active = active;
        unsatisfiable = cannot;
        witnessed = All-weaker (Tried model set) (λ w. Satisfies model (others set w.0) (values_at w.1.values)) (λ w t. point_check_law limit model (others set w.0) (values_at w.1.values) t.1) (witnesses_of core) each;
        irreducible = record { cannot = cannot; minimal = irreducible_by model set core.witnesses h.members.in_order h.each each };
      };
      price = priced_by model f set laws.costs laws.prices active (behind + length (rounds_phrases core.rounds)) core.proof core.price judged (parts_pass rounds price rest.1).1;
    }
true_answer laws model n (RunsAway p ray) f h e = unbounded_at model laws.rays laws.bounds n p ray e
true_answer laws model n (BoundedBy b) f h e = bounded_at model laws.rays laws.bounds n b f e
true_answer laws model n (LeastBy p dual) f h e = least_by laws.parts laws.violations laws.reached model n p dual f h e
true_answer laws model n (RigidRefuted set proof) f h e = refuted_by model (rigid_active model) n set proof f e
true_answer laws model n (Reduced r) f h e = tt
true_answer laws model n Done f h e = tt
true_answer laws model n (Refused r) f h e = tt
true_answer laws model n (NotLinear j) f h e = tt
true_answer laws model n (Stopped stop) f h e = tt

-- ---- edits and undos
same_refusal : (r s : Refusal) → refusal_test.eq r s ≡ true → s ≡ r
same_refusal Refusal.UnknownName Refusal.UnknownName e = refl
same_refusal Refusal.NoChange Refusal.NoChange e = refl
same_refusal Refusal.NothingToUndo Refusal.NothingToUndo e = refl
same_refusal r s e = absurd (true≢false (sym e))

same_reply_same : (right a : Answer) → same_reply right a ≡ true → a ≡ right
same_reply_same Done Done e = refl
same_reply_same (Refused r) (Refused s) e = ap Refused (same_refusal r s e)
same_reply_same right a e = absurd (true≢false (sym e))

right_reply : (o : Option Answer) (n : ℕ) (a : Answer) → first_stop (reply_trials o n a) ≡ None → (right : Answer) → o ≡ Some right → a ≡ right
right_reply None n a e right is = absurd (cc)
right_reply (Some given) n a e right is =
    let same : given ≡ right = cc in
    same_reply_same given a (said_yes (same_reply given a) (found_yes (n + 1) (said (same_reply given a)) None e).0) ∙ same

-- ---- entries
true_entries : (laws : Laws) (model : Program) (before : List Command) (entries : List Entry) → IsWellFormed model → All IsCommand before → AreEntriesFor model before entries → first_stop (entries_trials model before entries) ≡ None → AreTrue model before entries
true_entries laws model before [] f asked h e = tt
true_entries laws model before (t ∷ entries) f asked h e =
    let now = after model before in
    let next = before ++ t.command ∷ [] in
    let both = parts_pass (entry_trials model before t) (entries_trials model next entries) e in
    let own = parts_pass (claim_trials now t) (reply_trials (answer_after model before t.command) t.line t.answer) both.0 in
    let claim = parts_pass (linear_trials now t) (answer_trials now t.line t.answer) own.0 in
    let more : All IsCommand next = All-append IsCommand before (t.command ∷ []) asked (All-cons IsCommand t.command [] h.0.command (All-nil IsCommand)) in (
      record {
        answer = true_answer laws now t.line t.answer (after_well_formed model before f asked) h.0.answer claim.1;
        reply = right_reply (answer_after model before t.command) t.line t.answer own.1;
      },
      true_entries laws model next entries f more h.1 both.1,
    )

-- where a check accepts, nothing stops it
accepted_passes : (entries : List Entry) (list : List Trial) → IsAccepted (outcome_of entries list) → first_stop list ≡ None
accepted_passes entries [] a = refl
accepted_passes entries (t ∷ list) a = by t.found a (accepted_passes entries list)
  where
    by : (found : Checked) → IsAccepted (unless_failed t.line found (outcome_of entries list)) → (IsAccepted (outcome_of entries list) → first_stop list ≡ None) → stop_or t.line found (first_stop list) ≡ None
    by Yes b rest = rest b
    by No b rest = absurd b
    by (Wide o) b rest = absurd b

pub accepted_is_true : Laws → AcceptedLaw
accepted_is_true laws model report f form a =
    let both = parts_pass (paired_trials same_note 2 report.notes model.notes) (entries_trials model [] report.entries) (accepted_passes report.entries (trials model report) a) in
    (same_notes 2 report.notes model.notes both.0, true_entries laws model [] report.entries f (All-nil IsCommand) form.entries both.1)
