use Rattle.std.proofs.Common.{◌≡◌, ◌<◌, sym, ◌∙◌, ap, List, length, get_or, arith}
use Rattle.certs.specs.declared.evidence.Node.{Node}
use Rattle.cert_check.proofs.Pricing.{none_alone, split_first}
use Rattle.cert_check.proofs.prices.check_total.Goals as goal

pub returns-then-nodes-ne1 : goal.returns-then-nodes-ne1
returns-then-nodes-ne1 c = none_alone c.args.model.now c.args.line c.args.proof.now.nodes c.args.total (λ e. c.if-nodes-ne1.true (ap length c.as_slice-nodes.ensures ∙ e))

pub returns-in_default : goal.returns-in_default
returns-in_default c =
    let nodes = c.args.proof.now.nodes in
    let x : Node = c.index-nodes-0.result in
    let is : x ≡ get_or nodes 0 x = c.index-nodes-0.is ∙ ap (λ (l : List Node). get_or l 0 x) c.as_slice-nodes.ensures in
    let one : length nodes ≡ 1 = sym (ap length c.as_slice-nodes.ensures) ∙ c.if-nodes-ne1.false in
    let within : 0 < length nodes = omega (arith, one) in
    split_first c.args.model.now c.args.line nodes c.args.total x c.in_default.field-0 c.in_default.field-1 within is c.in_default.is
