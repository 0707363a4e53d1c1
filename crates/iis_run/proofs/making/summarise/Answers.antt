use Rattle.std.proofs.Common.{subst}
use Rattle.analysis.specs.Puts.{PutWhole}
use Rattle.iis_run.proofs.Summaries.{told_whole}
use Rattle.iis_run.proofs.making.summarise.Goals as goal

pub returns-in-Ok-put_line : goal.returns-in-Ok-put_line
returns-in-Ok-put_line g c =
    told_whole g.W.Sink.faults g.W.Sink.taken c.args.out.now c.put_line.new.out c.args.periods c.in-Ok.text.items c.in-Ok.status c.in-Ok.ensures
    (subst (PutWhole g.W.Sink.faults g.W.Sink.taken c.args.out.now c.put_line.new.out) c.as_slice.ensures.value c.in-Ok-put_line.ensures)
