use Rattle.text_fields.proofs.LineLists.{line_at}
use Rattle.text_fields.proofs.spans.next_line.Goals as goal

pub returns : goal.returns
returns c = line_at c.args.bytes.now c.args.at c.args.number c.next_end.result c.requires c.if-at-bytes.false c.next_end.ensures.place
