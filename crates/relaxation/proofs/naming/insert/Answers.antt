use Rattle.std.proofs.Common.{sym, ◌∙◌, ap}
use Rattle.std.specs.List.{position}
use Rattle.certs.specs.declared.evidence.Share.{Share}
use Rattle.certs.specs.Order.{source_before}
use Rattle.relaxation.proofs.Inserted.{at_end, at_place}
use Rattle.relaxation.proofs.naming.insert.Goals as goal

pub returns-in_default : goal.returns-in_default
returns-in_default c =
    c.in_ok-push.ensures.items
    ∙ at_end c.args.share c.args.list.now.items
    (ap (position (λ (t : Share). source_before c.args.share.source t.source)) (sym c.as_slice.ensures.value) ∙ sym c.in_default.ensures)

pub returns : goal.returns
returns c =
    c.in_ok-insert.ensures.items
    ∙ at_place c.args.share c.args.list.now.items c.in-Some.place
    (ap (position (λ (t : Share). source_before c.args.share.source t.source)) (sym c.as_slice.ensures.value) ∙ sym c.in-Some.ensures)
