-- Small reports, whose lines are found by computation.
use Rattle.std.proofs.Common.{◌≡◌, refl, ℕ, true, false, List, [], ◌∷◌, Option, None, Some}
use Rattle.std.specs.Prelude.{codes, All}
use Rattle.std.proofs.Common.{arith, sym, ap, subst, ◌++◌, inl, inr, true≢false}
use Rattle.std.specs.Str.{bytes_eq}
use Rattle.std.specs.Prelude.{IsTrue}
use Rattle.std.proofs.lemmas.List.Elements.{All-nil, All-cons}
use Rattle.std.specs.Fmt.{digits}
use lib.IntN.{ℤ, pos, negsuc}
use Rattle.algebra.specs.Gcd.{gcd, gcd_within}
use Rattle.rational.specs.Rational.{ℚ, frac, whole, zero_ℚ, one_ℚ, eq_ℚ, lt_q}
use Rattle.rational.proofs.Order.{lt_q-true}
use Rattle.rational.specs.Linear.{Term}
use Rattle.lp_model.specs.declared.parts.Note.TheVariants.{LowerRemoved, LowerKept}
use Rattle.lp_model.specs.declared.members.Member.{Member}
use Rattle.lp_model.specs.declared.members.Member.TheVariants.{RowLo, RowUp, Lower, Whole}
use Rattle.lp_model.specs.Shown.{new_row, named_row, new_column, named_column}
use Rattle.lp_model.specs.Program.{Program, NamedRow, NamedColumn, noted_column}
use Rattle.lp_model.specs.Members.{comes_before}
use Rattle.lp_model.specs.MemberSets.{SetValue}
use Rattle.certs.specs.declared.evidence.Source.TheVariants.{Member as Of, Below, Above}
use Rattle.certs.specs.declared.evidence.Share.{Share}
use Rattle.certs.specs.declared.evidence.Point.{Point}
use Rattle.certs.specs.declared.evidence.Node.TheVariants.{Split, Leaf}
use Rattle.certs.specs.declared.evidence.Proof.{Proof}
use Rattle.report_text.specs.declared.report.Method.TheVariants.{Deletion, Elastic, Alternative as ByAlternative}
use Rattle.lp_model.specs.declared.members.Side.TheVariants.{Lo, Up}
use Rattle.lp_model.specs.declared.parts.Weight.TheVariants.{Soft}
use Rattle.report_text.specs.declared.report.TargetKind.{TargetKind}
use Rattle.report_text.specs.declared.report.EditKind.{EditKind}
use Rattle.report_text.specs.declared.report.EditKind.TheVariants.{Drop, Weigh, SetSide, SetBound, SetMark}
use Rattle.report_text.specs.declared.report.Refusal.TheVariants.{UnknownName, NoChange, NothingToUndo}
use Rattle.reductions.specs.declared.steps.ReduceStep.TheVariants.{Empty, Singleton, Fixed, Redundant, Forcing, Doubleton}
use Rattle.report_text.specs.declared.report.Command.{Command}
use Rattle.report_text.specs.declared.report.Command.TheVariants.{Check, Iis, Unbounded, Relax as RelaxIt, Reduce, Edit, Undo, Nodes}
use Rattle.report_text.specs.declared.report.Answer.{Answer}
use Rattle.report_text.specs.declared.report.Answer.TheVariants.{Feasible, Infeasible, Irreducible, Unbounded as RunsAway, Bounded as BoundedBy, Least as LeastBy, RigidInfeasible as RigidRefuted, Reduced as ReducedTo, Done, Refused, NotLinear, Stopped}
use Rattle.report_text.specs.declared.report.Report.{Report}
use Rattle.report_text.specs.Grammar.{Line, report_lines, text_of}
use Rattle.report_reader.proofs.Endings.{pair_in_order, nothing_is_front, foot, NotFoot, body, body_is, needs_foot, needs_head, whole_ends}
use Rattle.certs.specs.Order.{source_before}
use Rattle.certs.specs.Proof.{Tip, at_most, at_least}
use Rattle.certs.specs.declared.solving.SiteKind.TheVariants.{Settle, Stretch, Alternative}
use Rattle.report_text.specs.declared.report.ToldSite.{ToldSite}
use Rattle.report_text.specs.declared.report.ToldStop.TheVariants.{Pivots as Spent, Nodes as NodesSpent, Large}
use Rattle.report_text.specs.Form.{IsNamedColumn, IsNamedMember, IsListed, IsUse, AreUses, IsNodeFor, IsReportFor, can_answer}
use Rattle.report_reader.specs.Reading.{Reads, IsFront, IsWhole, IsBadLine, IsTruncated}

abbrev term : ℕ → ℤ → Term
term j n = record { column = j; factor = whole n }

abbrev row : List ℕ → ℤ → Option ℚ → Option ℚ → NamedRow
row name n lo up = named_row name (new_row (term 0 n ∷ term 1 n ∷ []) lo up)

abbrev column : List ℕ → NamedColumn
column name = named_column name (new_column (Some zero_ℚ) None false)

-- c1: 3 x + 3 y ≤ 1, and c2: 2 x + 2 y ≥ 1
abbrev two_rows : Program
two_rows = record { rows = row (codes "c1") (pos 3) None (Some one_ℚ) ∷ row (codes "c2") (pos 2) (Some one_ℚ) None ∷ []; columns = column (codes "x") ∷ column (codes "y") ∷ []; objective = []; maximise = false; notes = [] }

abbrev rows_set : SetValue
rows_set = record { rows = 2; columns = 2; members = RowUp 0 ∷ RowLo 1 ∷ [] }

abbrev use_of : Member → ℚ → Share
use_of m w = record { source = Of m; weight = w }

abbrev leaf : List Share → Proof
leaf shares = record { nodes = Leaf (record { shares = shares }) ∷ [] }

abbrev both : List Share
both = use_of (RowUp 0) one_ℚ ∷ use_of (RowLo 1) (frac (pos 3) 2) ∷ []

abbrev proof : Proof
proof = leaf both

abbrev point : List ℚ → Point
point values = record { values = values }

-- ---- no point satisfies both rows
abbrev contradiction : Report
contradiction = record { notes = []; entries = record { command = Check; answer = Infeasible rows_set proof; line = 2 } ∷ [] }

abbrev contradiction_lines : List Line
contradiction_lines = codes "iisan report 2" ∷ codes "command check" ∷ codes "infeasible" ∷ codes "member rowup c1" ∷ codes "member rowlo c2"
    ∷ codes "proof" ∷ codes "leaf" ∷ codes "use rowup c1 1" ∷ codes "use rowlo c2 3/2" ∷ codes "end" ∷ codes "report end" ∷ []

contradiction_has_lines : report_lines two_rows contradiction ≡ contradiction_lines
unfolding frac gcd gcd_within digits
contradiction_has_lines = refl

-- ---- each row alone can be satisfied; a value of 0 has no line
abbrev irreducible : Answer
irreducible = Irreducible (record { members = rows_set; witnesses = point (zero_ℚ ∷ frac (pos 1) 2 ∷ []) ∷ point (zero_ℚ ∷ zero_ℚ ∷ []) ∷ []; proof = proof; rounds = None; price = None })

abbrev two_entries : Report
two_entries = record {
  notes = LowerRemoved 0 ∷ LowerKept 1 ∷ [];
  entries = record { command = Iis Deletion; answer = irreducible; line = 4 } ∷ record { command = Check; answer = Feasible (point (frac (negsuc 0) 3 ∷ whole (pos 12) ∷ [])); line = 16 } ∷ [];
}

two_entries_have_lines : report_lines two_rows two_entries
    ≡ codes "iisan report 2" ∷ codes "note x lower removed" ∷ codes "note y lower kept"
    ∷ codes "command iis deletion" ∷ codes "irreducible"
    ∷ codes "member rowup c1" ∷ codes "point" ∷ codes "value y 1/2"
    ∷ codes "member rowlo c2" ∷ codes "point"
    ∷ codes "proof" ∷ codes "leaf" ∷ codes "use rowup c1 1" ∷ codes "use rowlo c2 3/2" ∷ codes "end"
    ∷ codes "command check" ∷ codes "feasible" ∷ codes "point" ∷ codes "value x -1/3" ∷ codes "value y 12" ∷ codes "end"
    ∷ codes "report end" ∷ []
unfolding frac gcd gcd_within digits eq_ℚ
two_entries_have_lines = refl

-- ---- a report without entries
no_entries_have_lines : report_lines two_rows (record { notes = []; entries = [] }) ≡ codes "iisan report 2" ∷ codes "report end" ∷ []
no_entries_have_lines = refl

-- ---- a tree, and the stop of its set's run at a node
abbrev tree : Proof
tree = record { nodes = Split 0 (negsuc 1) ∷ Leaf (record { shares = both }) ∷ Split 1 (pos 4) ∷ Leaf (record { shares = both }) ∷ Leaf (record { shares = [] }) ∷ [] }

abbrev node_site : ToldSite
node_site = record { kind = Settle; left = Lower 0 ∷ Lower 1 ∷ []; enforced = []; path = at_most 0 (pos 3) ∷ at_least 1 (negsuc 1) ∷ [] }

abbrev tree_report : Report
tree_report = record {
  notes = [];
  entries = record { command = Nodes 7; answer = Done; line = 2 } ∷ record { command = Check; answer = Infeasible rows_set tree; line = 4 } ∷ record { command = Check; answer = Stopped (NodesSpent node_site); line = 18 } ∷ [];
}

tree_has_lines : report_lines two_rows tree_report
    ≡ codes "iisan report 2" ∷ codes "command budget nodes 7" ∷ codes "done" ∷ codes "command check" ∷ codes "infeasible"
    ∷ codes "member rowup c1" ∷ codes "member rowlo c2" ∷ codes "proof"
    ∷ codes "split x -2" ∷ codes "leaf" ∷ codes "use rowup c1 1" ∷ codes "use rowlo c2 3/2"
    ∷ codes "split y 4" ∷ codes "leaf" ∷ codes "use rowup c1 1" ∷ codes "use rowlo c2 3/2" ∷ codes "leaf" ∷ codes "end"
    ∷ codes "command check" ∷ codes "nodes spent" ∷ codes "site settle" ∷ codes "without lower x" ∷ codes "without lower y"
    ∷ codes "below x 3" ∷ codes "above y -2" ∷ codes "end"
    ∷ codes "report end" ∷ []
unfolding frac gcd gcd_within digits
tree_has_lines = refl

-- ---- a reduction, and one in which a rule decides
abbrev reduced : Answer
reduced = ReducedTo (record { steps = Empty 0 ∷ Singleton 0 ∷ Fixed 0 zero_ℚ ∷ Redundant 1 ∷ Forcing 1 Up ∷ Doubleton 0 1 ∷ []; rows = 1; columns = 0 })

abbrev reduced_report : Report
reduced_report = record {
  notes = [];
  entries = record { command = Reduce; answer = reduced; line = 2 } ∷ record { command = Reduce; answer = Infeasible rows_set proof; line = 12 } ∷ [];
}

reduced_has_lines : report_lines two_rows reduced_report
    ≡ codes "iisan report 2" ∷ codes "command reduce" ∷ codes "reduced"
    ∷ codes "empty c1" ∷ codes "singleton c1" ∷ codes "fixed x 0" ∷ codes "redundant c2" ∷ codes "forcing c2 up" ∷ codes "doubleton c1 y"
    ∷ codes "left rows 1 columns 0" ∷ codes "end"
    ∷ codes "command reduce" ∷ codes "infeasible" ∷ codes "member rowup c1" ∷ codes "member rowlo c2"
    ∷ codes "proof" ∷ codes "leaf" ∷ codes "use rowup c1 1" ∷ codes "use rowlo c2 3/2" ∷ codes "end"
    ∷ codes "report end" ∷ []
unfolding frac gcd gcd_within digits
reduced_has_lines = refl

-- a tree that is no leaf is no answer to it
no_tree_reduced : can_answer Reduce (Infeasible rows_set tree) ≡ false
no_tree_reduced = refl

-- ---- a ray, a bound, and a size that is too large
abbrev bounded : Answer
bounded = BoundedBy (record { point = point (whole (pos 3) ∷ zero_ℚ ∷ []); objective = Some (whole (pos 6)); dual = record { combo = record { shares = use_of (RowUp 0) (frac (pos 1) 2) ∷ [] }; bound = whole (pos 6) } })

abbrev bounded_report : Report
bounded_report = record {
  notes = [];
  entries = record { command = Unbounded; answer = RunsAway (point (zero_ℚ ∷ one_ℚ ∷ [])) (record { values = zero_ℚ ∷ whole (pos 2) ∷ [] }); line = 2 } ∷ record { command = Unbounded; answer = bounded; line = 9 }
      ∷ record { command = Unbounded; answer = Stopped (Large 8004000); line = 18 } ∷ [];
}

bounded_has_lines : report_lines two_rows bounded_report
    ≡ codes "iisan report 2" ∷ codes "command unbounded" ∷ codes "unbounded" ∷ codes "point" ∷ codes "value y 1" ∷ codes "ray" ∷ codes "value y 2" ∷ codes "end"
    ∷ codes "command unbounded" ∷ codes "bounded" ∷ codes "point" ∷ codes "value x 3" ∷ codes "objective 6" ∷ codes "bound 6" ∷ codes "dual" ∷ codes "use rowup c1 1/2" ∷ codes "end"
    ∷ codes "command unbounded" ∷ codes "too large 8004000" ∷ codes "end"
    ∷ codes "report end" ∷ []
unfolding frac gcd gcd_within digits eq_ℚ
bounded_has_lines = refl

-- a point alone is no answer to it
no_point_alone : can_answer Unbounded (Feasible (point (zero_ℚ ∷ one_ℚ ∷ []))) ≡ false
no_point_alone = refl

-- ---- how little must give way, rigid members that no point satisfies, and a column that is to be whole
abbrev least_report : Report
least_report = record {
  notes = [];
  entries = record { command = RelaxIt; answer = LeastBy (point (zero_ℚ ∷ frac (pos 1) 3 ∷ [])) (record { combo = record { shares = both }; bound = frac (pos 1) 2 }); line = 2 }
      ∷ record { command = RelaxIt; answer = RigidRefuted rows_set proof; line = 11 } ∷ record { command = RelaxIt; answer = NotLinear 1; line = 20 } ∷ [];
}

least_has_lines : report_lines two_rows least_report
    ≡ codes "iisan report 2" ∷ codes "command relax" ∷ codes "least" ∷ codes "total 1/2" ∷ codes "point" ∷ codes "value y 1/3" ∷ codes "dual"
    ∷ codes "use rowup c1 1" ∷ codes "use rowlo c2 3/2" ∷ codes "end"
    ∷ codes "command relax" ∷ codes "rigid infeasible" ∷ codes "member rowup c1" ∷ codes "member rowlo c2"
    ∷ codes "proof" ∷ codes "leaf" ∷ codes "use rowup c1 1" ∷ codes "use rowlo c2 3/2" ∷ codes "end"
    ∷ codes "command relax" ∷ codes "not linear y"
    ∷ codes "report end" ∷ []
unfolding frac gcd gcd_within digits eq_ℚ
least_has_lines = refl

-- a tree that is no leaf is no answer to it
no_tree_of_rigid : can_answer RelaxIt (RigidRefuted rows_set tree) ≡ false
no_tree_of_rigid = refl

-- ---- the elastic method tells its rounds, and stops at a run in which members are enforced
abbrev elastic : Answer
elastic = Irreducible (record { members = rows_set; witnesses = point (zero_ℚ ∷ frac (pos 1) 2 ∷ []) ∷ point (zero_ℚ ∷ zero_ℚ ∷ []) ∷ []; proof = proof; rounds = Some 2; price = None })

abbrev stretch_site : ToldSite
stretch_site = record { kind = Stretch; left = Lower 0 ∷ Lower 1 ∷ []; enforced = RowLo 1 ∷ []; path = [] }

abbrev elastic_report : Report
elastic_report = record {
  notes = [];
  entries = record { command = Iis Elastic; answer = elastic; line = 2 } ∷ record { command = Iis Elastic; answer = NotLinear 0; line = 15 }
      ∷ record { command = Iis Elastic; answer = Stopped (Spent stretch_site); line = 17 } ∷ [];
}

elastic_has_lines : report_lines two_rows elastic_report
    ≡ codes "iisan report 2" ∷ codes "command iis elastic" ∷ codes "irreducible"
    ∷ codes "member rowup c1" ∷ codes "point" ∷ codes "value y 1/2" ∷ codes "member rowlo c2" ∷ codes "point"
    ∷ codes "proof" ∷ codes "leaf" ∷ codes "use rowup c1 1" ∷ codes "use rowlo c2 3/2" ∷ codes "rounds 2" ∷ codes "end"
    ∷ codes "command iis elastic" ∷ codes "not linear x"
    ∷ codes "command iis elastic" ∷ codes "pivots spent" ∷ codes "site stretch" ∷ codes "without lower x" ∷ codes "without lower y" ∷ codes "enforced rowlo c2" ∷ codes "end"
    ∷ codes "report end" ∷ []
unfolding frac gcd gcd_within digits eq_ℚ
elastic_has_lines = refl

-- the other methods tell none, and take a column that is to be whole
rounds_of_elastic : can_answer (Iis Elastic) irreducible ≡ false
rounds_of_elastic = refl

no_rounds_of_deletion : can_answer (Iis Deletion) elastic ≡ false
no_rounds_of_deletion = refl

deletion_of_whole : can_answer (Iis Deletion) (NotLinear 0) ≡ false
deletion_of_whole = refl

-- ---- the method of the alternative tells a total and a price, and stops at a run of its own kind
abbrev priced : Option ℕ → Option (ℚ × Point) → Answer
priced rounds price = Irreducible (record { members = rows_set; witnesses = point (zero_ℚ ∷ frac (pos 1) 2 ∷ []) ∷ point (zero_ℚ ∷ zero_ℚ ∷ []) ∷ []; proof = proof; rounds = rounds; price = price })

abbrev alternative : Answer
alternative = priced None (Some (frac (pos 5) 2, point (zero_ℚ ∷ frac (pos 1) 2 ∷ [])))

abbrev alternative_site : ToldSite
alternative_site = record { kind = Alternative; left = Lower 0 ∷ Lower 1 ∷ []; enforced = []; path = [] }

abbrev alternative_report : Report
alternative_report = record {
  notes = [];
  entries = record { command = Iis ByAlternative; answer = alternative; line = 2 } ∷ record { command = Iis ByAlternative; answer = NotLinear 0; line = 17 }
      ∷ record { command = Iis ByAlternative; answer = Stopped (Spent alternative_site); line = 19 } ∷ [];
}

alternative_has_lines : report_lines two_rows alternative_report
    ≡ codes "iisan report 2" ∷ codes "command iis alternative" ∷ codes "irreducible"
    ∷ codes "member rowup c1" ∷ codes "point" ∷ codes "value y 1/2" ∷ codes "member rowlo c2" ∷ codes "point"
    ∷ codes "proof" ∷ codes "leaf" ∷ codes "use rowup c1 1" ∷ codes "use rowlo c2 3/2" ∷ codes "total 5/2" ∷ codes "price" ∷ codes "value y 1/2" ∷ codes "end"
    ∷ codes "command iis alternative" ∷ codes "not linear x"
    ∷ codes "command iis alternative" ∷ codes "pivots spent" ∷ codes "site alternative" ∷ codes "without lower x" ∷ codes "without lower y" ∷ codes "end"
    ∷ codes "report end" ∷ []
unfolding frac gcd gcd_within digits eq_ℚ
alternative_has_lines = refl

-- a price is told under this method alone, and it tells no rounds
no_price_of_alternative : can_answer (Iis ByAlternative) irreducible ≡ false
no_price_of_alternative = refl

rounds_of_alternative : can_answer (Iis ByAlternative) elastic ≡ false
rounds_of_alternative = refl

price_of_deletion : can_answer (Iis Deletion) alternative ≡ false
price_of_deletion = refl

price_of_elastic : can_answer (Iis Elastic) (priced (Some 2) (Some (frac (pos 5) 2, point (zero_ℚ ∷ frac (pos 1) 2 ∷ [])))) ≡ false
price_of_elastic = refl

-- ---- edits, some of which are refused
abbrev asked : List ℕ → EditKind → Command
asked name kind = Edit (record { name = name; kind = kind })

abbrev edited_report : Report
edited_report = record {
  notes = [];
  entries = record { command = asked (codes "c1") (Drop TargetKind.RowUp); answer = Done; line = 2 }
      ∷ record { command = asked (codes "x") (Weigh TargetKind.Lower (Soft (frac (pos 1) 2))); answer = Done; line = 4 }
      ∷ record { command = asked (codes "c2") (SetSide Up None); answer = Refused NoChange; line = 6 }
      ∷ record { command = asked (codes "z") (SetBound Lo (Some (frac (negsuc 2) 2))); answer = Refused UnknownName; line = 8 }
      ∷ record { command = asked (codes "y") (SetMark true); answer = Done; line = 10 }
      ∷ record { command = Undo; answer = Done; line = 12 } ∷ record { command = Undo; answer = Refused NothingToUndo; line = 14 } ∷ [];
}

edited_has_lines : report_lines two_rows edited_report
    ≡ codes "iisan report 2" ∷ codes "command drop rowup c1" ∷ codes "done" ∷ codes "command weight lower x 1/2" ∷ codes "done"
    ∷ codes "command set row c2 upper none" ∷ codes "no change" ∷ codes "command set column z lower -3/2" ∷ codes "unknown name"
    ∷ codes "command mark y whole" ∷ codes "done" ∷ codes "command undo" ∷ codes "done" ∷ codes "command undo" ∷ codes "nothing to undo"
    ∷ codes "report end" ∷ []
unfolding frac gcd gcd_within digits
edited_has_lines = refl

-- ---- the first report stands in the grammar, and its bytes are read as it
rows_named : All (IsNamedMember two_rows) (RowUp 0 ∷ RowLo 1 ∷ [])
rows_named = All-cons (IsNamedMember two_rows) (RowUp 0) (RowLo 1 ∷ []) (record { known = omega arith; word = refl })
    (All-cons (IsNamedMember two_rows) (RowLo 1) [] (record { known = omega arith; word = refl }) (All-nil (IsNamedMember two_rows)))

rows_listed : IsListed two_rows rows_set
rows_listed = record { of_model = record { rows = refl; columns = refl }; named = rows_named; in_order = pair_in_order (λ m n. IsTrue (comes_before m n)) (RowUp 0) (RowLo 1) refl }

first_use : IsUse two_rows (use_of (RowUp 0) one_ℚ)
unfolding frac gcd gcd_within lt_q
first_use = record { named = record { known = omega arith; word = refl }; positive = lt_q-true zero_ℚ one_ℚ refl; fits = refl }

second_use : IsUse two_rows (use_of (RowLo 1) (frac (pos 3) 2))
unfolding frac gcd gcd_within lt_q
second_use = record { named = record { known = omega arith; word = refl }; positive = lt_q-true zero_ℚ (frac (pos 3) 2) refl; fits = refl }

both_uses : AreUses two_rows both
both_uses = record {
  each = All-cons (IsUse two_rows) (use_of (RowUp 0) one_ℚ) (use_of (RowLo 1) (frac (pos 3) 2) ∷ []) first_use
      (All-cons (IsUse two_rows) (use_of (RowLo 1) (frac (pos 3) 2)) [] second_use (All-nil (IsUse two_rows)));
  in_order = pair_in_order (λ s t. IsTrue (source_before s.source t.source)) (use_of (RowUp 0) one_ℚ) (use_of (RowLo 1) (frac (pos 3) 2)) refl;
}

contradiction_in_form : IsReportFor two_rows contradiction
contradiction_in_form = record {
  notes = All-nil (λ note. IsNamedColumn two_rows (noted_column note));
  entries = (record { command = tt; kind = refl; answer = (rows_listed, record { one = record { tree = Tip both; listed = refl }; each = All-cons (IsNodeFor two_rows) (Leaf (record { shares = both })) [] both_uses (All-nil (IsNodeFor two_rows)) }) }, tt);
  numbered = (refl, tt);
}

contradiction_is_read : Reads two_rows (text_of contradiction_lines) contradiction
contradiction_is_read = record { form = contradiction_in_form; text = ap text_of (sym contradiction_has_lines) }

-- ---- the order of uses
lo_before_up : source_before (Of (RowLo 1)) (Of (RowUp 1)) ≡ true
lo_before_up = refl

up_before_next : source_before (Of (RowUp 1)) (Of (RowLo 2)) ≡ true
up_before_next = refl

not_twice : source_before (Of (RowLo 1)) (Of (RowLo 1)) ≡ false
not_twice = refl

members_before_branches : source_before (Of (Whole 5)) (Below 0) ≡ true
members_before_branches = refl

below_before_above : source_before (Below 2) (Above 2) ≡ true
below_before_above = refl

by_column : source_before (Above 2) (Below 2) ≡ false
by_column = refl

-- ---- the last line is missing, or its end is: truncated
abbrev unended_lines : List Line
unended_lines = codes "iisan report 2" ∷ codes "command check" ∷ codes "infeasible" ∷ codes "member rowup c1" ∷ codes "member rowlo c2"
    ∷ codes "proof" ∷ codes "leaf" ∷ codes "use rowup c1 1" ∷ codes "use rowlo c2 3/2" ∷ codes "end" ∷ []

unended_is_body : body two_rows contradiction ≡ unended_lines
unfolding frac gcd gcd_within digits
unended_is_body = refl

unended_is_front : IsFront two_rows unended_lines
unended_is_front = (foot ∷ [], record { report = contradiction; form = contradiction_in_form; lines = contradiction_has_lines })

unended_is_unfinished : ¬ (IsWhole two_rows unended_lines)
unended_is_unfinished = needs_foot two_rows unended_lines (subst (All NotFoot) unended_is_body (body_is two_rows contradiction contradiction_in_form))

without_last_line : IsTruncated two_rows (text_of unended_lines)
without_last_line = record { lines = unended_lines; last = []; cut = refl; right = unended_is_front; unfinished = unended_is_unfinished }

without_last_mark : IsTruncated two_rows (text_of unended_lines ++ foot)
without_last_mark = record { lines = unended_lines; last = foot; cut = refl; right = unended_is_front; unfinished = unended_is_unfinished }

-- ---- no bytes: truncated
no_bytes : IsTruncated two_rows []
no_bytes = record { lines = []; last = []; cut = refl; right = nothing_is_front two_rows; unfinished = needs_foot two_rows [] (All-nil NotFoot) }

-- ---- another head: line 1 is bad
other_head : IsBadLine two_rows (text_of (codes "iisan report 1" ∷ [])) 1
other_head = record {
  front = [];
  line = codes "iisan report 1";
  back = [] ∷ [];
  cut = refl;
  number = refl;
  judged = inl (λ e. cc);
  right = nothing_is_front two_rows;
  wrong = needs_head two_rows (codes "iisan report 1") [] (λ e. absurd (true≢false (ap (λ l. bytes_eq (codes "iisan report 1") l) e)));
}

-- ---- a byte after the end: its line is bad
contradiction_is_whole : IsWhole two_rows contradiction_lines
contradiction_is_whole = record { report = contradiction; form = contradiction_in_form; lines = contradiction_has_lines }

byte_after : IsBadLine two_rows (text_of contradiction_lines ++ 65 ∷ []) 12
byte_after = record {
  front = contradiction_lines;
  line = 65 ∷ [];
  back = [];
  cut = refl;
  number = refl;
  judged = inr (contradiction_is_whole, λ e. cc);
  right = ([], contradiction_is_whole);
  wrong = λ h. let e : (65 ∷ []) ∷ [] ≡ [] = whole_ends two_rows contradiction_lines ((65 ∷ []) ∷ []) contradiction_is_whole h in cc;
}
