use Rattle.std.proofs.Common.{subst}
use Rattle.text_fields.specs.Fields.{fields_of}
use Rattle.mps_lines.specs.Said.{HasShape}
use Rattle.mps_lines.proofs.Shaped.{leads-header, leads-data}
use Rattle.mps_lines.proofs.lines.fields_said.Goals as goal

pub returns-in-Header : goal.returns-in-Header
returns-in-Header c = λ r a shape s.
    let h = subst (HasShape r.text) c.in-Header.is shape in
    leads-header r c.args.context c.header.result h.0 h.1 s (c.header.ensures (fields_of r.text) a)

pub returns-in-Data : goal.returns-in-Data
returns-in-Data c = λ r a shape s.
    let h = subst (HasShape r.text) c.in-Data.is shape in
    leads-data r c.args.context c.data.result h.0 h.1 s (c.data.ensures (fields_of r.text) a)
