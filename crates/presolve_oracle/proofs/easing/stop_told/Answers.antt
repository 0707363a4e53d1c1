use Rattle.presolve_oracle.proofs.easing.stop_told.Goals as goal

pub returns : goal.returns
returns c = λ model pivots same excluded own. c.stopped.ensures model pivots same (excluded (c.is_refused.ensures c.if-is_refused.false)) own
