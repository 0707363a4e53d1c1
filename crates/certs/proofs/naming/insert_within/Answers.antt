use Rattle.std.proofs.Common.{◌||◌, sym, ◌∙◌, subst}
use Rattle.lp_model.specs.MemberSets.{SetValue}
use Rattle.lp_model.specs.Members.{is_same}
use Rattle.certs.specs.Named.{IsPartBy}
use Rattle.certs.proofs.Parted.{part_with, part_same}
use Rattle.certs.proofs.naming.insert_within.Goals as goal

pub returns-then-contains-clause-part : goal.returns-then-contains-clause-part
returns-then-contains-clause-part c test is =
    subst (λ (u : SetValue). IsPartBy c.args.set.now (λ m. test m || is_same m c.args.member) u) (sym c.insert.ensures) (part_with c.args.set.now c.args.used.now test c.args.member (sym c.contains.ensures ∙ c.if-contains.true) is)

pub returns-else-contains-clause-part : goal.returns-else-contains-clause-part
returns-else-contains-clause-part c test is = part_same c.args.set.now c.args.used.now test c.args.member (sym c.contains.ensures ∙ c.if-contains.false) is
