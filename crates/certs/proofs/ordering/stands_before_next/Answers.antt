use Rattle.std.proofs.Common.{sym, ◌∙◌, ap, ◌&&◌}
use Rattle.certs.specs.Order.{are_in_order}
use Rattle.certs.proofs.Sequence.{next_decides}
use Rattle.certs.proofs.ordering.stands_before_next.Goals as goal

pub returns-in-len1-up : goal.returns-in-len1-up
returns-in-len1-up c =
    next_decides c.args.source c.args.rest.now c.next-item.result c.in-len1-up.len_at_least c.next-item.is
    ∙ ap (λ b. b && are_in_order c.args.rest.now) (sym c.stands_before.ensures)
