use Rattle.quick_answers.proofs.kept.refuted.Goals as goal

pub returns : goal.returns
returns c =
    let confirmed = c.is_combo.ensures c.if-not-is_combo.false in
    c.leaf_verdict.ensures c.args.model.now c.args.set.now.members confirmed.0 confirmed.1
