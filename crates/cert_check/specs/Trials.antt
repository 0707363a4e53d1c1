-- The trials of a report: which lines can fail against a program, in the order of the lines, and what is found there.
use Rattle.std.specs.Prelude.{ℕ, ◌+◌, ◌==◌, nat_lt, nat_le, Bool, true, false, ◌&&◌, ◌||◌, not, cond, is_some, List, [], ◌∷◌, ◌++◌, length, take, zip, filter, flat_map, Option, Some, None}
use Rattle.lp_model.specs.declared.parts.Note.{Note}
use Rattle.lp_model.specs.declared.parts.Note.TheVariants.{LowerRemoved, LowerKept}
use Rattle.lp_model.specs.declared.members.Member.{Member}
use Rattle.lp_model.specs.Program.{Program}
use Rattle.lp_model.specs.Members.{is_same, is_active, has, possible_members, active_members}
use Rattle.lp_model.specs.MemberSets.{SetValue}
use Rattle.lp_model.specs.Satisfaction.{values_at}
use Rattle.lp_model.specs.Evaluation.{value_operations}
use Rattle.rational.specs.Rational.{ℚ, eq_ℚ}
use Rattle.frac128.specs.Calculation.{first_wide}
use Rattle.frac128.specs.Limit.{limit}
use Rattle.certs.specs.declared.evidence.Point.{Point}
use Rattle.certs.specs.declared.evidence.Node.{Node}
use Rattle.certs.specs.declared.evidence.Node.TheVariants.{Leaf}
use Rattle.certs.specs.declared.evidence.Share.{Share}
use Rattle.certs.specs.declared.evidence.Proof.{Proof}
use Rattle.certs.specs.declared.evidence.Ray.{Ray}
use Rattle.certs.specs.declared.evidence.Checked.{Checked}
use Rattle.certs.specs.declared.evidence.Checked.TheVariants.{Yes, No, Wide}
use Rattle.certs.specs.Checks.{outcome, point_steps, price_steps, ray_steps}
use Rattle.certs.specs.Named.{used_members}
use Rattle.certs.specs.Trees.{has_mark}
use Rattle.certs.specs.Violation.{rigid_members}
use Rattle.certs.specs.declared.evidence.Dual.{Dual}
use Rattle.bound_checks.specs.Parts.{value_steps, right_steps, factor_steps}
use Rattle.least_checks.specs.Parts.{total_steps, violation_steps, weight_steps}
use Rattle.price_checks.specs.Costs.{cost_steps}
use Rattle.branch_proof.specs.declared.checks.Judged.{Judged}
use Rattle.branch_proof.specs.Walk.{judgement}
use Rattle.report_text.specs.declared.report.Core.{Core}
use Rattle.report_text.specs.declared.report.Bounded.{Bounded}
use Rattle.report_text.specs.declared.report.Answer.{Answer}
use Rattle.report_text.specs.declared.report.Answer.TheVariants.{Feasible, Infeasible, Irreducible, Unbounded as RunsAway, Bounded as BoundedBy, Least as LeastBy, RigidInfeasible as RigidRefuted, Reduced, Done, Refused, NotLinear, Stopped}
use Rattle.report_text.specs.contracts.report.RefusalPartialEq.TheImpl.{ghosts as refusal_test}
use Rattle.report_text.specs.declared.report.Entry.{Entry}
use Rattle.report_text.specs.declared.report.Report.{Report}
use Rattle.report_text.specs.declared.report.Command.{Command}
use Rattle.report_text.specs.Form.{asks_of}
use Rattle.report_text.specs.declared.layout.TheConstants.{HEAD_LINES, OPENING_LINES, MEMBER_LINES, PROOF_LINES, BOUND_LINES, LEAST_LINES, TOTAL_LINES}
use Rattle.report_text.specs.Turns.{after, answer_after, gathered}
use Rattle.report_text.specs.Grammar.{point_phrases, objective_phrases, node_phrases, proof_phrases, rounds_phrases, witness_phrases}
use Rattle.cert_check.specs.declared.outcome.Outcome.{Outcome}
use Rattle.cert_check.specs.declared.outcome.Outcome.TheVariants.{Accepted, Rejected, Wide as TooWide, Memory}

-- a line, by its number from 1, and what is found there
pub record Trial : Type 0 where
  pub line : ℕ
  pub found : Checked

-- what is found on line n
abbrev pub on_line : ℕ → Checked → Trial
on_line n found = record { line = n; found = found }

-- a yes or a no
abbrev pub said : Bool → Checked
said true = Yes
said false = No

-- ---- lists position by position
-- The first position stands on line n, each on a line of its own. A position fails where the two do not agree, and where one list has ended and the other has not.
abbrev pub paired_trials : {A : Type 0} → (A → A → Bool) → ℕ → List A → List A → List Trial
paired_trials agree n [] [] = []
paired_trials agree n (a ∷ left) [] = on_line n No ∷ []
paired_trials agree n [] (b ∷ right) = on_line n No ∷ []
paired_trials agree n (a ∷ left) (b ∷ right) = on_line n (said (agree a b)) ∷ paired_trials agree (n + 1) left right

-- whether two notes are one
abbrev pub same_note : Note → Note → Bool
same_note (LowerRemoved j) (LowerRemoved k) = j == k
same_note (LowerRemoved j) (LowerKept k) = false
same_note (LowerKept j) (LowerRemoved k) = false
same_note (LowerKept j) (LowerKept k) = j == k

-- ---- points
-- a point against members, on the line of its `point`
abbrev pub point_trial : Program → List Member → ℕ → Point → Trial
point_trial model set n p = on_line n (outcome (point_steps model set (values_at p.values)))

-- ---- proofs
-- the line of node number k, where the first stands on line n
abbrev pub node_line : ℕ → List Node → ℕ → ℕ
node_line n nodes k = n + length (flat_map node_phrases (take k nodes))

-- the node that does not pass, on its line
abbrev pub judged_trials : ℕ → List Node → Judged → List Trial
judged_trials n nodes Judged.Yes = []
judged_trials n nodes (Judged.No k) = on_line (node_line n nodes k) No ∷ []
judged_trials n nodes (Judged.Wide k o) = on_line (node_line n nodes k) (Wide o) ∷ []

-- A proof against members, the first node on line n: the first node that does not pass is found there, on its `split` or `leaf`.
abbrev pub proof_trials : Program → List Member → ℕ → Proof → List Trial
proof_trials model set n proof = judged_trials n proof.nodes (judgement model set proof.nodes)

-- the members that the proof uses, each once, in member order
abbrev pub proof_members : Program → Proof → List Member
proof_members model proof = used_members (possible_members model) proof.nodes

-- a printed member is of a set, and is the one that the proof uses
abbrev pub is_use_of : List Member → Member → Member → Bool
is_use_of among printed used = has among printed && is_same printed used

-- ---- answers, of which the command stands on line n
-- the point against the active members
abbrev pub feasible_trials : Program → ℕ → Point → List Trial
feasible_trials model n p = point_trial model (active_members model) (n + OPENING_LINES) p ∷ []

-- printed members, each of a set, against those that the proof uses, and the proof
abbrev pub refuted_trials : Program → List Member → ℕ → SetValue → Proof → List Trial
refuted_trials model among n set proof =
    paired_trials (is_use_of among) (n + OPENING_LINES) set.members (proof_members model proof)
    ++ proof_trials model set.members (n + ((OPENING_LINES + PROOF_LINES) + length set.members)) proof

-- the members of a set but one
abbrev pub others : List Member → Member → List Member
others set m = filter (λ n. not (is_same n m)) set

-- each member with its witness, the first on line n: the member is active, and the witness satisfies the others
abbrev pub witness_trials : Program → List Member → ℕ → List (Member × Point) → List Trial
witness_trials model set n [] = []
witness_trials model set n (w ∷ witnesses) =
    on_line n (said (is_active model w.0))
    ∷ point_trial model (others set w.0) (n + MEMBER_LINES) w.1
    ∷ witness_trials model set (n + length (witness_phrases w)) witnesses

-- each member of an irreducible set with its witness
abbrev pub witnesses_of : Core → List (Member × Point)
witnesses_of core = zip core.members.members core.witnesses

-- the rounds for so many members, where they are told: at least one, and at most one more than the members
abbrev pub rounds_trials : ℕ → ℕ → Option ℕ → List Trial
rounds_trials members n None = []
rounds_trials members n (Some rounds) = on_line n (said (nat_lt 0 rounds && nat_le rounds (members + 1))) ∷ []

-- the shares of a proof of one leaf
abbrev pub leaf_shares : List Node → List Share
leaf_shares (Leaf combo ∷ []) = combo.shares
leaf_shares _ = []

-- a total with its price, where they are told: on the line of the total that the proof's right side is -1, and that its shares cost the total; on that of the price, that the active members are priced
abbrev pub price_trials : Program → ℕ → Proof → Option (ℚ × Point) → List Trial
price_trials model n proof None = []
price_trials model n proof (Some p) =
    on_line n (outcome (cost_steps model (leaf_shares proof.nodes) p.0))
    ∷ on_line (n + TOTAL_LINES) (outcome (price_steps model (active_members model) p.0 (values_at p.1.values))) ∷ []

-- what stands behind the proof, the first on line n: the rounds, and the total with its price
abbrev pub tail_trials : Program → ℕ → Core → List Trial
tail_trials model n core =
    rounds_trials (length core.members.members) n core.rounds ++ price_trials model (n + length (rounds_phrases core.rounds)) core.proof core.price

-- the members with their witnesses, the proof, and what stands behind it
abbrev pub irreducible_trials : Program → ℕ → Core → List Trial
irreducible_trials model n core =
    let next = n + (OPENING_LINES + length (flat_map witness_phrases (witnesses_of core))) in
    witness_trials model core.members.members (n + OPENING_LINES) (witnesses_of core)
    ++ (proof_trials model core.members.members (next + PROOF_LINES) core.proof ++ tail_trials model (next + length (proof_phrases core.proof)) core)

-- ---- what the objective does
-- the ray against the active members, on the line of its `ray`; marks have no part in it
abbrev pub ray_trial : Program → ℕ → Ray → Trial
ray_trial model n ray = on_line n (outcome (ray_steps model (active_members model) (values_at ray.values)))

-- the point, and the ray on the line behind the point's
abbrev pub unbounded_trials : Program → ℕ → Point → Ray → List Trial
unbounded_trials model n p ray =
    point_trial model (active_members model) (n + OPENING_LINES) p ∷ ray_trial model (n + (OPENING_LINES + length (point_phrases p))) ray ∷ []

-- whether the objective's value may be left out: an active member is a mark, and the sum at the point is too wide
abbrev pub may_be_left_out : Program → Point → Bool
may_be_left_out model p = has_mark (active_members model) && is_some (first_wide limit (value_operations model.objective (values_at p.values)))

-- the line behind the point: the objective's value against its sum; or that of the bound, where the value is left out
abbrev pub value_trials : Program → ℕ → Point → Option ℚ → List Trial
value_trials model n p None = on_line n (said (may_be_left_out model p)) ∷ []
value_trials model n p (Some v) = on_line n (outcome (value_steps model (values_at p.values) v)) ∷ []

-- without an active mark the value that is told is the bound, on the line of the bound
abbrev pub reached_trials : Program → ℕ → Option ℚ → ℚ → List Trial
reached_trials model n None b = []
reached_trials model n (Some v) b = on_line n (said (has_mark (active_members model) || eq_ℚ v b)) ∷ []

-- a dual against the active members: the right side on the line of its `bound`, and then that the value reaches it; the columns on the line of its `dual`
abbrev pub dual_trials : Program → ℕ → Option ℚ → Dual → List Trial
dual_trials model n value dual =
    on_line n (outcome (right_steps model (active_members model) dual.combo.shares dual.bound))
    ∷ (reached_trials model n value dual.bound ++ on_line (n + BOUND_LINES) (outcome (factor_steps model dual.combo.shares)) ∷ [])

-- the point, the value behind it, and the dual
abbrev pub bounded_trials : Program → ℕ → Bounded → List Trial
bounded_trials model n b =
    let next = n + (OPENING_LINES + length (point_phrases b.point)) in
    point_trial model (active_members model) (n + OPENING_LINES) b.point
    ∷ (value_trials model next b.point b.objective ++ dual_trials model (next + length (objective_phrases b.objective)) b.objective b.dual)

-- ---- what must give way
-- the rigid ones of the active members
abbrev pub rigid_active : Program → List Member
rigid_active model = rigid_members model (active_members model)

-- the line of the total: the dual's right side, and then the weighted violation at the point
abbrev pub total_trials : Program → ℕ → Point → Dual → List Trial
total_trials model n p dual =
    on_line n (outcome (total_steps model (active_members model) dual.combo.shares dual.bound))
    ∷ on_line n (outcome (violation_steps model (active_members model) (values_at p.values) dual.bound)) ∷ []

-- the total, the point against the rigid active members, and the dual's columns and weights on the line of its `dual`
abbrev pub least_trials : Program → ℕ → Point → Dual → List Trial
least_trials model n p dual =
    total_trials model (n + OPENING_LINES) p dual
    ++ point_trial model (rigid_active model) (n + LEAST_LINES) p
    ∷ on_line (n + (LEAST_LINES + length (point_phrases p))) (outcome (weight_steps model (active_members model) dual.combo.shares)) ∷ []

-- ---- answers of every kind
-- nothing is tried of the program where a command is done or refused, nor of a stop, nor of a column that is to be whole where it may not be, nor of how far the program is reduced
abbrev pub answer_trials : Program → ℕ → Answer → List Trial
answer_trials model n (Feasible p) = feasible_trials model n p
answer_trials model n (Infeasible set proof) = refuted_trials model (active_members model) n set proof
answer_trials model n (Irreducible core) = irreducible_trials model n core
answer_trials model n (RunsAway p ray) = unbounded_trials model n p ray
answer_trials model n (BoundedBy b) = bounded_trials model n b
answer_trials model n (LeastBy p dual) = least_trials model n p dual
answer_trials model n (RigidRefuted set proof) = refuted_trials model (rigid_active model) n set proof
answer_trials model n (Reduced r) = []
answer_trials model n Done = []
answer_trials model n (Refused r) = []
answer_trials model n (NotLinear j) = []
answer_trials model n (Stopped stop) = []

-- ---- edits and undos
-- whether both answers say that a command is done, or that it is refused for one reason
abbrev pub same_reply : Answer → Answer → Bool
same_reply Done Done = true
same_reply (Refused r) (Refused s) = refusal_test.eq r s
same_reply _ _ = false

-- The answer to an edit or an undo, whose command stands on line n, against the one that is right. Other commands have answers of their own.
abbrev pub reply_trials : Option Answer → ℕ → Answer → List Trial
reply_trials None n a = []
reply_trials (Some right) n a = on_line (n + 1) (said (same_reply right a)) ∷ []

-- ---- marks
-- an answer settles its command, unless it is a stop, or tells how far the program is reduced, or that a column is to be whole where it may not be
abbrev pub settles : Answer → Bool
settles (Reduced r) = false
settles (NotLinear j) = false
settles (Stopped stop) = false
settles _ = true

-- on the first line of an answer that settles a command for linear constraints alone: that no active member is a mark
abbrev pub linear_trials : Program → Entry → List Trial
linear_trials model e = cond ((asks_of e.command).linear && settles e.answer) (on_line (e.line + 1) (said (not (has_mark (active_members model)))) ∷ []) []

-- ---- entries
-- what an entry claims of a program: that it is linear, where the command needs that, and then the answer
abbrev pub claim_trials : Program → Entry → List Trial
claim_trials model e = linear_trials model e ++ answer_trials model e.line e.answer

-- those of an entry, from the line of its command, by the program at first and the commands before the entry
abbrev pub entry_trials : Program → List Command → Entry → List Trial
entry_trials first before e = claim_trials (after first before) e ++ reply_trials (answer_after first before e.command) e.line e.answer

-- those of entries, each by the commands before it
abbrev pub entries_trials : Program → List Command → List Entry → List Trial
entries_trials first before entries = gathered (entry_trials first) before entries

-- ---- reports
-- The notes against the program's, the first on the line behind the head. Then the entries.
abbrev pub trials : Program → Report → List Trial
trials model report = paired_trials same_note (1 + HEAD_LINES) report.notes model.notes ++ entries_trials model [] report.entries

-- what a line makes of the check: a yes leaves it to what follows
abbrev pub unless_failed : ℕ → Checked → Outcome → Outcome
unless_failed n Yes rest = rest
unless_failed n No rest = Rejected n
unless_failed n (Wide o) rest = TooWide n o

-- how many entries are settled
abbrev pub settled_count : List Entry → ℕ
settled_count entries = length (filter (λ e. settles e.answer) entries)

-- how many are not
abbrev pub unsettled_count : List Entry → ℕ
unsettled_count entries = length (filter (λ e. not (settles e.answer)) entries)

-- The first line that does not pass decides. Where all pass, the entries that are settled are counted, and those that are not.
abbrev pub outcome_of : List Entry → List Trial → Outcome
outcome_of entries [] = Accepted (settled_count entries) (unsettled_count entries)
outcome_of entries (t ∷ rest) = unless_failed t.line t.found (outcome_of entries rest)

-- the report was accepted
abbrev pub IsAccepted : Outcome → Type 0
IsAccepted (Accepted settled unsettled) = Unit {0}
IsAccepted (Rejected n) = ⊥
IsAccepted (TooWide n o) = ⊥
IsAccepted Memory = ⊥
