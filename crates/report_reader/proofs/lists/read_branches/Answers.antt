use Rattle.std.proofs.Common.{sym, ap, ◌∙◌, subst}
use Rattle.std.specs.Prelude.{map, All}
use Rattle.certs.specs.declared.evidence.Branch.{Branch}
use Rattle.report_text.specs.Grammar.{branch_phrase}
use Rattle.report_text.specs.Form.{IsNamedBranch}
use Rattle.std.proofs.lemmas.List.Elements.{All-nil, All-push}
use Rattle.report_reader.specs.Things.{found, branches, branch_of, may_any}
use Rattle.report_reader.proofs.Found.{branch_finds}
use Rattle.report_reader.specs.Kinds.{IsRead}
use Rattle.report_reader.proofs.Passing.{loop_start, loop_more, loop_smaller, loop_end, any_next}
use Rattle.report_reader.proofs.lists.read_branches.Goals as goal

pub loop-branch-init : goal.loop-branch-init
loop-branch-init c = loop_start c.args.model.now c.requires.names (branches c.args.model.now) c.args.cursor.now _ c.requires (subst (All (IsNamedBranch c.args.model.now)) (sym c.new-branches.ensures.items) (All-nil (IsNamedBranch c.args.model.now))) (ap (map (branch_phrase)) c.new-branches.ensures.items)

pub pass-requires : goal.pass-requires
pass-requires c = c.loop-branch.invariant.stands

pub loop-branch-smaller : goal.loop-branch-smaller
loop-branch-smaller c = loop_smaller c.args.model.now c.requires.names Branch (branch_phrase) (branch_of) (may_any) (All (IsNamedBranch c.args.model.now)) (branch_finds) c.loop-branch.cursor c.pass.new.self c.push.new.self _ _ c.in-Some.branch (any_next c.loop-branch.branches.items (found (branch_of) c.loop-branch.cursor.ahead) ∙ sym c.branch_in.ensures ∙ c.in-Some.is) c.loop-branch.invariant.stands c.pass.ensures.passes c.push.ensures

pub loop-branch-preserved : goal.loop-branch-preserved
loop-branch-preserved c = loop_more c.args.model.now c.requires.names Branch (branch_phrase) (branch_of) (may_any) (All (IsNamedBranch c.args.model.now)) (branch_finds) c.args.cursor.now c.loop-branch.cursor c.pass.new.self c.push.new.self _ _ c.in-Some.branch c.loop-branch.invariant (any_next c.loop-branch.branches.items (found (branch_of) c.loop-branch.cursor.ahead) ∙ sym c.branch_in.ensures ∙ c.in-Some.is) c.pass.ensures.passes c.pass.ensures.stands c.push.ensures (λ m h. All-push (IsNamedBranch c.args.model.now) _ c.in-Some.branch c.loop-branch.invariant.form h)

pub returns-clause-read : goal.returns-clause-read
returns-clause-read c = subst (IsRead c.args.model.now (branches c.args.model.now) c.args.cursor.now c.loop-branch.cursor) (sym c.new.ensures) (loop_end c.args.model.now c.requires.names Branch (branch_phrase) (branch_of) (may_any) (All (IsNamedBranch c.args.model.now)) (branch_finds) c.args.cursor.now c.loop-branch.cursor _ c.loop-branch.invariant (any_next c.loop-branch.branches.items (found (branch_of) c.loop-branch.cursor.ahead) ∙ sym c.branch_in.ensures ∙ c.in_default.is))

pub returns-clause-stands : goal.returns-clause-stands
returns-clause-stands c = c.loop-branch.invariant.stands
