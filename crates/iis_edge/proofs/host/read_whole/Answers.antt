use Rattle.std.proofs.Common.{length, ap, arith}
use Rattle.iis_edge.proofs.Fronts.{part_is_front, part_is_all}
use Rattle.iis_edge.proofs.host.read_whole.Goals as goal

pub returns-in-Ok-2-clause-bytes : goal.returns-in-Ok-2-clause-bytes
returns-in-Ok-2-clause-bytes g c =
    rw (← c.take.ensures.inner) (part_is_all c.take.result.limit _ _ _ c.requires (omega (arith, c.args.into.now.ok.0, ap length c.requires, c.read_to_end.new.buf.ok.0, c.in-Ok.ensures.ok)) c.in-Ok-2.ensures.bytes)

pub returns-clause-front : goal.returns-clause-front
returns-clause-front g c =
    rw (← c.take.ensures.inner) (part_is_front _ _ _ _ _ _ c.requires c.in-Err.ensures.none_lost)
