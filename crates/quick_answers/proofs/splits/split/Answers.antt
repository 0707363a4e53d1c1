use Rattle.std.proofs.Common.{sym, ◌∙◌}
use Rattle.branch_proof.proofs.Nodes.{mark_known, marked_by}
use Rattle.quick_answers.proofs.splits.split.Goals as goal

pub returns : goal.returns
returns c =
    let model = c.args.model.now in
    let set = c.args.set.now.members in
    let marked = marked_by model set c.args.column (sym c.is_marked.ensures ∙ c.if-not-is_marked.false) in
    record {
      marked = marked;
      known = mark_known model set c.args.column marked;
      fitting = c.is_fitting.ensures c.if-not-is_fitting.false c.args.column;
    }
