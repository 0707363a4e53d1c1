-- Small reports, tried on the definitions by computation.
use Rattle.std.proofs.Common.{◌≡◌, refl, ℕ, Bool, true, false, List, [], ◌∷◌, Option, None, Some}
use lib.IntN.{ℤ, pos}
use Rattle.algebra.specs.Gcd.{gcd, gcd_within}
use Rattle.rational.specs.Rational.{ℚ, frac, whole, one_ℚ, ◌+ℚ◌, ◌*ℚ◌, neg_ℚ, lt_q, le_q, eq_ℚ}
use Rattle.frac128.specs.declared.Op.TheVariants.{Times}
use Rattle.frac128.specs.Limit.{limit}
use Rattle.frac128.specs.Width.{is_wide, operation}
use Rattle.frac128.specs.Calculation.{first_wide, product_steps, sum_steps}
use Rattle.lp_model.specs.declared.members.Member.{Member}
use Rattle.lp_model.specs.declared.members.Member.TheVariants.{RowLo, RowUp}
use Rattle.lp_model.specs.declared.parts.Note.{Note}
use Rattle.lp_model.specs.declared.parts.Note.TheVariants.{LowerRemoved, LowerKept}
use Rattle.lp_model.specs.declared.parts.Weight.{Weight}
use Rattle.lp_model.specs.declared.parts.Weight.TheVariants.{Soft, Rigid}
use Rattle.lp_model.specs.Program.{Program, NamedRow}
use Rattle.certs.specs.declared.evidence.Source.TheVariants.{Member as Of}
use Rattle.certs.specs.declared.evidence.Share.{Share}
use Rattle.certs.specs.declared.evidence.Point.{Point}
use Rattle.certs.specs.declared.evidence.Node.TheVariants.{Leaf}
use Rattle.certs.specs.declared.evidence.Proof.{Proof}
use Rattle.reductions.specs.declared.steps.ReduceStep.TheVariants.{Empty}
use Rattle.report_text.specs.declared.report.Method.TheVariants.{Deletion, Elastic, Alternative}
use Rattle.certs.specs.declared.solving.SiteKind.TheVariants.{Improve}
use Rattle.report_text.specs.declared.report.ToldStop.TheVariants.{Pivots as Spent}
use Rattle.report_text.specs.declared.report.Command.{Command}
use Rattle.report_text.specs.declared.report.Command.TheVariants.{Check, Iis, Relax, Reduce, Edit, Undo, Pivots}
use Rattle.report_text.specs.declared.report.EditKind.{EditKind}
use Rattle.report_text.specs.declared.report.TargetKind.{TargetKind}
use Rattle.report_text.specs.declared.report.Refusal.TheVariants.{UnknownName, NoChange, NothingToUndo}
use Rattle.report_text.specs.declared.report.Answer.{Answer}
use Rattle.report_text.specs.declared.report.Answer.TheVariants.{Feasible, Infeasible, Irreducible, Least, RigidInfeasible, Reduced, Done, Refused, NotLinear, Stopped}
use Rattle.report_text.specs.declared.report.Entry.{Entry}
use Rattle.cert_check.specs.declared.outcome.Outcome.{Outcome}
use Rattle.cert_check.specs.declared.outcome.Outcome.TheVariants.{Accepted, Rejected, Wide as TooWide}
use Rattle.cert_check.specs.Trials.{trials, outcome_of}

-- a row of x alone
abbrev row : Option ℚ → Option ℚ → Bool → NamedRow
row lo up active = record { name = []; terms = record { column = 0; factor = one_ℚ } ∷ []; lower = lo; upper = up; lower_active = active; upper_active = active; lower_weight = Soft one_ℚ; upper_weight = Soft one_ℚ }

-- x ≤ 1 and x ≥ 2, and x ≥ 2 once more, which is not active
abbrev program : Program
program = record {
  rows = row None (Some one_ℚ) true ∷ row (Some (whole (pos 2))) None true ∷ row (Some (whole (pos 2))) None false ∷ [];
  columns = record { name = []; lower = None; upper = None; whole = false; lower_active = true; upper_active = true; whole_active = true; lower_weight = Soft one_ℚ; upper_weight = Soft one_ℚ } ∷ [];
  objective = [];
  maximise = false;
  notes = LowerKept 0 ∷ [];
}

abbrev use_of : Member → ℤ → Share
use_of m w = record { source = Of m; weight = whole w }

-- the first row so many times, and another
abbrev leaf : ℤ → Member → ℤ → Proof
leaf v m w = record { nodes = Leaf (record { shares = use_of (RowUp 0) v ∷ use_of m w ∷ [] }) ∷ [] }

abbrev at : ℤ → Point
at x = record { values = whole x ∷ [] }

-- the answer to a command on line 3
abbrev infeasible : List Member → Proof → Entry
infeasible members proof = record { command = Check; answer = Infeasible (record { rows = 3; columns = 1; members = members }) proof; line = 3 }

abbrev irreducible : ℤ → ℤ → Proof → Entry
irreducible x y proof = record { command = Iis Deletion; answer = Irreducible (record { members = record { rows = 3; columns = 1; members = RowUp 0 ∷ RowLo 1 ∷ [] }; witnesses = at x ∷ at y ∷ []; proof = proof; rounds = None; price = None }); line = 3 }

abbrev feasible : ℤ → Entry
feasible x = record { command = Check; answer = Feasible (at x); line = 12 }

abbrev check : List Note → List Entry → Outcome
check notes entries = outcome_of entries (trials program (record { notes = notes; entries = entries }))

abbrev noted : List Note
noted = LowerKept 0 ∷ []

abbrev pair : List Member
pair = RowUp 0 ∷ RowLo 1 ∷ []

-- x ≤ 1 and x ≥ 2 once each contradict one another
refuted : check noted (infeasible pair (leaf (pos 1) (RowLo 1) (pos 1)) ∷ []) ≡ Accepted 1 0
unfolding frac ◌+ℚ◌ ◌*ℚ◌ neg_ℚ gcd gcd_within le_q lt_q eq_ℚ first_wide is_wide product_steps
refuted = refl

-- a stop is not settled, whatever it says, and a command that is done is
abbrev stopped : Entry
stopped = record { command = Check; answer = Stopped (Spent (record { kind = Improve; left = []; enforced = []; path = [] })); line = 12 }

abbrev finished : Entry
finished = record { command = Pivots 7; answer = Done; line = 16 }

counted : check noted (infeasible pair (leaf (pos 1) (RowLo 1) (pos 1)) ∷ stopped ∷ finished ∷ []) ≡ Accepted 2 1
unfolding frac ◌+ℚ◌ ◌*ℚ◌ neg_ℚ gcd gcd_within le_q lt_q eq_ℚ first_wide is_wide product_steps
counted = refl

-- nor is it settled how far a program is reduced, whatever is said of it
abbrev lessened : Entry
lessened = record { command = Reduce; answer = Reduced (record { steps = Empty 7 ∷ []; rows = 0; columns = 9 }); line = 12 }

also_counted : check noted (infeasible pair (leaf (pos 1) (RowLo 1) (pos 1)) ∷ lessened ∷ finished ∷ []) ≡ Accepted 2 1
unfolding frac ◌+ℚ◌ ◌*ℚ◌ neg_ℚ gcd gcd_within le_q lt_q eq_ℚ first_wide is_wide product_steps
also_counted = refl

-- but where a reduction finds that no point is left, the members and the proof are checked as those of a check are
abbrev reduced_to_none : Proof → Entry
reduced_to_none proof = record (infeasible pair proof) { command = Reduce }

none_left : check noted (reduced_to_none (leaf (pos 1) (RowLo 1) (pos 1)) ∷ []) ≡ Accepted 1 0
unfolding frac ◌+ℚ◌ ◌*ℚ◌ neg_ℚ gcd gcd_within le_q lt_q eq_ℚ first_wide is_wide product_steps
none_left = refl

some_left : check noted (reduced_to_none (leaf (pos 2) (RowLo 1) (pos 1)) ∷ []) ≡ Rejected 8
unfolding frac ◌+ℚ◌ ◌*ℚ◌ neg_ℚ gcd gcd_within le_q lt_q eq_ℚ first_wide is_wide product_steps
some_left = refl

-- ---- notes: one missing, one too many, another
note_missing : check [] (infeasible pair (leaf (pos 1) (RowLo 1) (pos 1)) ∷ []) ≡ Rejected 2
unfolding frac ◌+ℚ◌ ◌*ℚ◌ neg_ℚ gcd gcd_within le_q lt_q eq_ℚ first_wide is_wide product_steps
note_missing = refl

note_too_many : check (LowerKept 0 ∷ LowerKept 0 ∷ []) (infeasible pair (leaf (pos 1) (RowLo 1) (pos 1)) ∷ []) ≡ Rejected 3
unfolding frac ◌+ℚ◌ ◌*ℚ◌ neg_ℚ gcd gcd_within le_q lt_q eq_ℚ first_wide is_wide product_steps
note_too_many = refl

other_note : check (LowerRemoved 0 ∷ []) (infeasible pair (leaf (pos 1) (RowLo 1) (pos 1)) ∷ []) ≡ Rejected 2
unfolding frac ◌+ℚ◌ ◌*ℚ◌ neg_ℚ gcd gcd_within le_q lt_q eq_ℚ first_wide is_wide product_steps
other_note = refl

-- ---- members: the first missing, the last missing, which fails on the line of `proof`, one too many, one not active
first_missing : check noted (infeasible (RowLo 1 ∷ []) (leaf (pos 1) (RowLo 1) (pos 1)) ∷ []) ≡ Rejected 5
unfolding frac ◌+ℚ◌ ◌*ℚ◌ neg_ℚ gcd gcd_within le_q lt_q eq_ℚ first_wide is_wide product_steps
first_missing = refl

last_missing : check noted (infeasible (RowUp 0 ∷ []) (leaf (pos 1) (RowLo 1) (pos 1)) ∷ []) ≡ Rejected 6
unfolding frac ◌+ℚ◌ ◌*ℚ◌ neg_ℚ gcd gcd_within le_q lt_q eq_ℚ first_wide is_wide product_steps
last_missing = refl

member_too_many : check noted (infeasible (RowUp 0 ∷ RowLo 1 ∷ RowLo 2 ∷ []) (leaf (pos 1) (RowLo 1) (pos 1)) ∷ []) ≡ Rejected 7
unfolding frac ◌+ℚ◌ ◌*ℚ◌ neg_ℚ gcd gcd_within le_q lt_q eq_ℚ first_wide is_wide product_steps
member_too_many = refl

not_active : check noted (infeasible (RowUp 0 ∷ RowLo 2 ∷ []) (leaf (pos 1) (RowLo 2) (pos 1)) ∷ []) ≡ Rejected 6
unfolding frac ◌+ℚ◌ ◌*ℚ◌ neg_ℚ gcd gcd_within le_q lt_q eq_ℚ first_wide is_wide product_steps
not_active = refl

-- the other side of a row is another member
other_side : check noted (infeasible pair (leaf (pos 1) (RowUp 1) (pos 1)) ∷ []) ≡ Rejected 6
unfolding frac ◌+ℚ◌ ◌*ℚ◌ neg_ℚ gcd gcd_within le_q lt_q eq_ℚ first_wide is_wide product_steps
other_side = refl

-- ---- with weight 2 the columns do not cancel
other_weight : check noted (infeasible pair (leaf (pos 1) (RowLo 1) (pos 2)) ∷ []) ≡ Rejected 8
unfolding frac ◌+ℚ◌ ◌*ℚ◌ neg_ℚ gcd gcd_within le_q lt_q eq_ℚ first_wide is_wide product_steps
other_weight = refl

-- ---- an irreducible set: the first witness has a line of its value, and the second none
irreducible_pair : check noted (irreducible (pos 2) (pos 0) (leaf (pos 1) (RowLo 1) (pos 1)) ∷ []) ≡ Accepted 1 0
unfolding frac ◌+ℚ◌ ◌*ℚ◌ neg_ℚ gcd gcd_within le_q lt_q eq_ℚ first_wide is_wide product_steps
irreducible_pair = refl

-- a witness misses the other member
first_witness : check noted (irreducible (pos 1) (pos 0) (leaf (pos 1) (RowLo 1) (pos 1)) ∷ []) ≡ Rejected 6
unfolding frac ◌+ℚ◌ ◌*ℚ◌ neg_ℚ gcd gcd_within le_q lt_q eq_ℚ first_wide is_wide product_steps
first_witness = refl

second_witness : check noted (irreducible (pos 2) (pos 2) (leaf (pos 1) (RowLo 1) (pos 1)) ∷ []) ≡ Rejected 9
unfolding frac ◌+ℚ◌ ◌*ℚ◌ neg_ℚ gcd gcd_within le_q lt_q eq_ℚ first_wide is_wide product_steps
second_witness = refl

-- the leaf uses a member outside the list
outside : check noted (irreducible (pos 2) (pos 0) (leaf (pos 1) (RowLo 2) (pos 1)) ∷ []) ≡ Rejected 11
unfolding frac ◌+ℚ◌ ◌*ℚ◌ neg_ℚ gcd gcd_within le_q lt_q eq_ℚ first_wide is_wide product_steps
outside = refl

-- ---- the second of two entries fails
second_entry : check noted (infeasible pair (leaf (pos 1) (RowLo 1) (pos 1)) ∷ feasible (pos 0) ∷ []) ≡ Rejected 14
unfolding frac ◌+ℚ◌ ◌*ℚ◌ neg_ℚ gcd gcd_within le_q lt_q eq_ℚ first_wide is_wide product_steps
second_entry = refl

-- ---- edits: the row x ≤ 1 is dropped, under its name, which has no byte; then 2 satisfies all
abbrev command : Command → Answer → ℕ → Entry
command c answer n = record { command = c; answer = answer; line = n }

abbrev dropped : Command
dropped = Edit (record { name = []; kind = EditKind.Drop TargetKind.Row })

abbrev point_two : ℕ → Entry
point_two n = command Check (Feasible (at (pos 2))) n

after_edit : check noted (command dropped Done 3 ∷ point_two 5 ∷ []) ≡ Accepted 2 0
unfolding frac ◌+ℚ◌ ◌*ℚ◌ neg_ℚ gcd gcd_within le_q lt_q eq_ℚ first_wide is_wide product_steps
after_edit = refl

-- the same edit once more makes no other program
no_change : check noted (command dropped Done 3 ∷ command dropped (Refused NoChange) 5 ∷ point_two 7 ∷ []) ≡ Accepted 3 0
unfolding frac ◌+ℚ◌ ◌*ℚ◌ neg_ℚ gcd gcd_within le_q lt_q eq_ℚ first_wide is_wide product_steps
no_change = refl

done_twice : check noted (command dropped Done 3 ∷ command dropped Done 5 ∷ point_two 7 ∷ []) ≡ Rejected 6
unfolding frac ◌+ℚ◌ ◌*ℚ◌ neg_ℚ gcd gcd_within le_q lt_q eq_ℚ first_wide is_wide product_steps
done_twice = refl

-- once it is taken back, the row is asked for again
undone : check noted (command dropped Done 3 ∷ command Undo Done 5 ∷ point_two 7 ∷ []) ≡ Rejected 9
unfolding frac ◌+ℚ◌ ◌*ℚ◌ neg_ℚ gcd gcd_within le_q lt_q eq_ℚ first_wide is_wide product_steps
undone = refl

-- there is nothing more to take back, and no row of another name
nothing_more : check noted (command dropped Done 3 ∷ command Undo Done 5 ∷ command Undo (Refused NothingToUndo) 7 ∷ []) ≡ Accepted 3 0
unfolding frac ◌+ℚ◌ ◌*ℚ◌ neg_ℚ gcd gcd_within le_q lt_q eq_ℚ first_wide is_wide product_steps
nothing_more = refl

other_name : check noted (command (Edit (record { name = 120 ∷ []; kind = EditKind.Drop TargetKind.Row })) (Refused UnknownName) 3 ∷ command Undo Done 5 ∷ []) ≡ Rejected 6
unfolding frac ◌+ℚ◌ ◌*ℚ◌ neg_ℚ gcd gcd_within le_q lt_q eq_ℚ first_wide is_wide product_steps
other_name = refl

-- ---- least violations: x ≤ 1 and x ≥ 2 are both soft, of weight 1, and each point between misses them by 1 in all
abbrev least : ℤ → ℤ → List Share → Entry
least t x shares = record { command = Relax; answer = Least (at x) (record { combo = record { shares = shares }; bound = whole t }); line = 3 }

abbrev both : ℤ → List Share
both w = use_of (RowUp 0) w ∷ use_of (RowLo 1) w ∷ []

least_total : check noted (least (pos 1) (pos 1) (both (pos 1)) ∷ []) ≡ Accepted 1 0
unfolding frac ◌+ℚ◌ ◌*ℚ◌ neg_ℚ gcd gcd_within le_q lt_q eq_ℚ first_wide is_wide product_steps sum_steps
least_total = refl

-- the dual has another right side, or the point another violation
other_right_side : check noted (least (pos 2) (pos 0) (both (pos 1)) ∷ []) ≡ Rejected 5
unfolding frac ◌+ℚ◌ ◌*ℚ◌ neg_ℚ gcd gcd_within le_q lt_q eq_ℚ first_wide is_wide product_steps
other_right_side = refl

other_violation : check noted (least (pos 1) (pos 3) (both (pos 1)) ∷ []) ≡ Rejected 5
unfolding frac ◌+ℚ◌ ◌*ℚ◌ neg_ℚ gcd gcd_within le_q lt_q eq_ℚ first_wide is_wide product_steps
other_violation = refl

-- each row is given twice its weight: the line of `dual` is the one behind the point, which has a line of its value only where this is not 0
too_much : check noted (least (pos 2) (pos 0) (both (pos 2)) ∷ []) ≡ Rejected 7
unfolding frac ◌+ℚ◌ ◌*ℚ◌ neg_ℚ gcd gcd_within le_q lt_q eq_ℚ first_wide is_wide product_steps sum_steps
too_much = refl

-- a use that is not active
not_usable : check noted (least (pos 1) (pos 1) (use_of (RowUp 0) (pos 1) ∷ use_of (RowLo 2) (pos 1) ∷ []) ∷ []) ≡ Rejected 5
unfolding frac ◌+ℚ◌ ◌*ℚ◌ neg_ℚ gcd gcd_within le_q lt_q eq_ℚ first_wide is_wide product_steps
not_usable = refl

-- where x ≤ 1 is rigid, 2 is no point, though it misses nothing that is soft; where only x ≥ 2 is, it is one
abbrev weighed : Weight → Weight → Program
weighed up lo = record program { rows = record (row None (Some one_ℚ) true) { upper_weight = up } ∷ record (row (Some (whole (pos 2))) None true) { lower_weight = lo } ∷ [] }

abbrev check_of : Program → Entry → Outcome
check_of p e = outcome_of (e ∷ []) (trials p (record { notes = noted; entries = e ∷ [] }))

rigid_missed : check_of (weighed Rigid (Soft one_ℚ)) (least (pos 0) (pos 2) []) ≡ Rejected 6
unfolding frac ◌+ℚ◌ ◌*ℚ◌ neg_ℚ gcd gcd_within le_q lt_q eq_ℚ first_wide is_wide product_steps
rigid_missed = refl

soft_missed : check_of (weighed (Soft one_ℚ) Rigid) (least (pos 1) (pos 2) (both (pos 1))) ≡ Accepted 1 0
unfolding frac ◌+ℚ◌ ◌*ℚ◌ neg_ℚ gcd gcd_within le_q lt_q eq_ℚ first_wide is_wide product_steps sum_steps
soft_missed = refl

-- a rigid row may be given any weight
any_weight : check_of (weighed (Soft (whole (pos 2))) Rigid) (least (pos 2) (pos 2) (both (pos 2))) ≡ Accepted 1 0
unfolding frac ◌+ℚ◌ ◌*ℚ◌ neg_ℚ gcd gcd_within le_q lt_q eq_ℚ first_wide is_wide product_steps sum_steps
any_weight = refl

-- ---- rigid members that no point satisfies: each one that is printed is rigid
abbrev rigid_pair : Entry
rigid_pair = record (infeasible pair (leaf (pos 1) (RowLo 1) (pos 1))) { command = Relax; answer = RigidInfeasible (record { rows = 2; columns = 1; members = pair }) (leaf (pos 1) (RowLo 1) (pos 1)) }

all_rigid : check_of (weighed Rigid Rigid) rigid_pair ≡ Accepted 1 0
unfolding frac ◌+ℚ◌ ◌*ℚ◌ neg_ℚ gcd gcd_within le_q lt_q eq_ℚ first_wide is_wide product_steps
all_rigid = refl

first_soft : check_of (weighed (Soft one_ℚ) Rigid) rigid_pair ≡ Rejected 5
unfolding frac ◌+ℚ◌ ◌*ℚ◌ neg_ℚ gcd gcd_within le_q lt_q eq_ℚ first_wide is_wide product_steps
first_soft = refl

second_soft : check_of (weighed Rigid (Soft one_ℚ)) rigid_pair ≡ Rejected 6
unfolding frac ◌+ℚ◌ ◌*ℚ◌ neg_ℚ gcd gcd_within le_q lt_q eq_ℚ first_wide is_wide product_steps
second_soft = refl

-- ---- rounds: from 1 up to one more than the two members, on the line behind the proof
abbrev rounds : ℕ → Entry
rounds n = record { command = Iis Elastic; answer = Irreducible (record { members = record { rows = 3; columns = 1; members = pair }; witnesses = at (pos 2) ∷ at (pos 0) ∷ []; proof = leaf (pos 1) (RowLo 1) (pos 1); rounds = Some n; price = None }); line = 3 }

no_round : check noted (rounds 0 ∷ []) ≡ Rejected 14
unfolding frac ◌+ℚ◌ ◌*ℚ◌ neg_ℚ gcd gcd_within le_q lt_q eq_ℚ first_wide is_wide product_steps
no_round = refl

most_rounds : check noted (rounds 3 ∷ []) ≡ Accepted 1 0
unfolding frac ◌+ℚ◌ ◌*ℚ◌ neg_ℚ gcd gcd_within le_q lt_q eq_ℚ first_wide is_wide product_steps
most_rounds = refl

one_round_too_many : check noted (rounds 4 ∷ []) ≡ Rejected 14
unfolding frac ◌+ℚ◌ ◌*ℚ◌ neg_ℚ gcd gcd_within le_q lt_q eq_ℚ first_wide is_wide product_steps
one_round_too_many = refl

-- ---- a total with its price: the total on the line behind the proof, and the price on the next. At 3 the least cost of both rows once is 2
abbrev priced_by : Proof → ℤ → ℤ → Entry
priced_by proof t z = record { command = Iis Alternative; answer = Irreducible (record { members = record { rows = 3; columns = 1; members = pair }; witnesses = at (pos 2) ∷ at (pos 0) ∷ []; proof = proof; rounds = None; price = Some (whole t, at z) }); line = 3 }

abbrev priced : ℤ → ℤ → Entry
priced t z = priced_by (leaf (pos 1) (RowLo 1) (pos 1)) t z

cheapest_pair : check noted (priced (pos 2) (pos 3) ∷ []) ≡ Accepted 1 0
unfolding frac ◌+ℚ◌ ◌*ℚ◌ neg_ℚ gcd gcd_within le_q lt_q eq_ℚ first_wide is_wide product_steps
cheapest_pair = refl

-- another total
other_total : check noted (priced (pos 3) (pos 3) ∷ []) ≡ Rejected 14
unfolding frac ◌+ℚ◌ ◌*ℚ◌ neg_ℚ gcd gcd_within le_q lt_q eq_ℚ first_wide is_wide product_steps
other_total = refl

-- another price
other_price : check noted (priced (pos 2) (pos 4) ∷ []) ≡ Rejected 15
unfolding frac ◌+ℚ◌ ◌*ℚ◌ neg_ℚ gcd gcd_within le_q lt_q eq_ℚ first_wide is_wide product_steps
other_price = refl

-- both rows twice show the contradiction as well, but leave -2
other_right_side_of_leaf : check noted (priced_by (leaf (pos 2) (RowLo 1) (pos 2)) (pos 4) (pos 3) ∷ []) ≡ Rejected 14
unfolding frac ◌+ℚ◌ ◌*ℚ◌ neg_ℚ gcd gcd_within le_q lt_q eq_ℚ first_wide is_wide product_steps
other_right_side_of_leaf = refl

-- where x ≥ 4 is active too, it has less cost, and the price of the printed members alone is none
abbrev cheaper : Program
cheaper = record program { rows = row None (Some one_ℚ) true ∷ row (Some (whole (pos 2))) None true ∷ row (Some (whole (pos 4))) None true ∷ [] }

not_cheapest : check_of cheaper (priced (pos 2) (pos 3)) ≡ Rejected 15
unfolding frac ◌+ℚ◌ ◌*ℚ◌ neg_ℚ gcd gcd_within le_q lt_q eq_ℚ first_wide is_wide product_steps
not_cheapest = refl

-- ---- where x is to be whole, the elastic method, that of the alternative and `relax` have no answer but that, and stops
abbrev marked : Program
marked = record program { columns = record { name = []; lower = None; upper = None; whole = true; lower_active = true; upper_active = true; whole_active = true; lower_weight = Soft one_ℚ; upper_weight = Soft one_ℚ } ∷ [] }

marked_least : check_of marked (least (pos 1) (pos 1) (both (pos 1))) ≡ Rejected 4
unfolding frac ◌+ℚ◌ ◌*ℚ◌ neg_ℚ gcd gcd_within le_q lt_q eq_ℚ first_wide is_wide product_steps
marked_least = refl

marked_rounds : check_of marked (rounds 3) ≡ Rejected 4
unfolding frac ◌+ℚ◌ ◌*ℚ◌ neg_ℚ gcd gcd_within le_q lt_q eq_ℚ first_wide is_wide product_steps
marked_rounds = refl

marked_price : check_of marked (priced (pos 2) (pos 3)) ≡ Rejected 4
unfolding frac ◌+ℚ◌ ◌*ℚ◌ neg_ℚ gcd gcd_within le_q lt_q eq_ℚ first_wide is_wide product_steps
marked_price = refl

marked_pair : check_of marked (irreducible (pos 2) (pos 0) (leaf (pos 1) (RowLo 1) (pos 1))) ≡ Accepted 1 0
unfolding frac ◌+ℚ◌ ◌*ℚ◌ neg_ℚ gcd gcd_within le_q lt_q eq_ℚ first_wide is_wide product_steps
marked_pair = refl

not_linear : check_of marked (record { command = Relax; answer = NotLinear 0; line = 3 }) ≡ Accepted 0 1
unfolding frac ◌+ℚ◌ ◌*ℚ◌ neg_ℚ gcd gcd_within le_q lt_q eq_ℚ first_wide is_wide product_steps
not_linear = refl

stopped_relax : check_of marked (record stopped { command = Relax }) ≡ Accepted 0 1
unfolding frac ◌+ℚ◌ ◌*ℚ◌ neg_ℚ gcd gcd_within le_q lt_q eq_ℚ first_wide is_wide product_steps
stopped_relax = refl

-- ---- two times the greatest number is too wide
too_wide : check noted (infeasible pair (leaf (pos limit) (RowLo 1) (pos limit)) ∷ []) ≡ TooWide 8 (operation Times (whole (pos 2)) (whole (pos limit)))
unfolding frac ◌+ℚ◌ ◌*ℚ◌ neg_ℚ gcd gcd_within le_q lt_q eq_ℚ first_wide is_wide product_steps
too_wide = refl
