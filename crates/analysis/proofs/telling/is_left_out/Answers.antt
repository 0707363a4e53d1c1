use Rattle.analysis.proofs.telling.is_left_out.Goals as goal

pub is_active-requires : goal.is_active-requires
is_active-requires c = c.requires.member

pub contains-requires : goal.contains-requires
contains-requires c = rw (c.requires.set.rows, c.requires.set.columns) c.requires.member
