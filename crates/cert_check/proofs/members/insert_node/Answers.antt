use Rattle.std.proofs.Common.{sym, ◌∙◌, ap, List}
use Rattle.std.specs.List.{list_any}
use Rattle.lp_model.specs.declared.members.Member.TheVariants.{Whole}
use Rattle.certs.specs.declared.evidence.Node.{Node}
use Rattle.certs.specs.declared.evidence.Share.{Share}
use Rattle.certs.specs.Named.{node_uses}
use Rattle.certs.specs.Violation.{is_of}
use Rattle.cert_check.specs.Uses.{with_tested}
use Rattle.cert_check.proofs.Named.{with_one}
use Rattle.cert_check.proofs.members.insert_node.Goals as goal

pub returns-in-Split : goal.returns-in-Split
returns-in-Split c =
    c.insert.ensures
    ∙ (with_one c.args.set.now (Whole c.in-Split.column)
    ∙ ap (λ (n : Node). with_tested c.args.set.now (λ m. node_uses m n)) (sym c.in-Split.is))

pub returns-in-Leaf : goal.returns-in-Leaf
returns-in-Leaf c =
    c.insert_shares.ensures
    ∙ (ap (λ (l : List Share). with_tested c.args.set.now (λ m. list_any (λ s. is_of m s.source) l)) c.as_slice.ensures
    ∙ ap (λ (n : Node). with_tested c.args.set.now (λ m. node_uses m n)) (sym c.in-Leaf.is))
