use Rattle.bench.proofs.settling.run_network.Goals as goal

pub repeat-requires-clause-formed : goal.repeat-requires-clause-formed
repeat-requires-clause-formed c = c.is_formed.ensures.formed c.if-not-is_formed.false

pub repeat-requires-clause-fits : goal.repeat-requires-clause-fits
repeat-requires-clause-fits c = c.is_formed.ensures.fits c.if-not-is_formed.false
