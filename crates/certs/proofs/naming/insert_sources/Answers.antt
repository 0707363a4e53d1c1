use Rattle.std.proofs.Common.{◌||◌, sym, subst, Bool, List, take}
use Rattle.std.specs.List.{list_any}
use Rattle.std.proofs.lemmas.List.{take_all}
use Rattle.lp_model.specs.declared.members.Member.{Member}
use Rattle.lp_model.specs.Members.{is_same}
use Rattle.certs.specs.declared.evidence.Source.{Source}
use Rattle.certs.specs.declared.evidence.Share.{Share}
use Rattle.certs.specs.Violation.{is_of}
use Rattle.certs.specs.Named.{IsPartBy, IsOfSize}
use Rattle.certs.proofs.Parted.{part_more, part_plain, names_none}
use Rattle.certs.proofs.naming.insert_sources.Goals.{in-Member, in_default}
use Rattle.certs.proofs.naming.insert_sources.Goals as goal

pub loop-share-preserved : goal.loop-share-preserved
loop-share-preserved c =
    let set = c.args.set.now in
    let shares = c.args.shares.now in
    let i = c.loop-share.share-index in
    let share = c.share-item.result in
    let passed : Member → Bool = λ m. list_any (λ (s : Share). is_of m s.source) (take i shares) in
    elim c.match-share.branch [
      | in-Member w ↦ record {
        sized = subst (IsOfSize set) (sym w.used-is) w.insert_within.ensures.sized;
        part = λ test is. part_more (λ m (s : Share). is_of m s.source) shares i share set c.match-share.used test c.loop-share-test.true c.share-item.is
            (subst (λ (source : Source). IsPartBy set (λ m. (test m || passed m) || is_of m source) c.match-share.used) (sym w.in-Member.is)
            (subst (IsPartBy set (λ m. (test m || passed m) || is_same m w.in-Member.member)) (sym w.used-is) (w.insert_within.ensures.part (λ m. test m || passed m) (c.loop-share.invariant.part test is))));
      }
      | in_default w ↦ record {
        sized = subst (IsOfSize set) (sym w.used-is) c.loop-share.invariant.sized;
        part = λ test is. part_more (λ m (s : Share). is_of m s.source) shares i share set c.match-share.used test c.loop-share-test.true c.share-item.is
            (subst (IsPartBy set (λ m. (test m || passed m) || is_of m share.source)) (sym w.used-is)
            (part_plain set c.loop-share.used (λ m. test m || passed m) (λ m. is_of m share.source) (names_none share.source w.in_default.not-Member) (c.loop-share.invariant.part test is)));
      }
    ]

pub returns-clause-part : goal.returns-clause-part
returns-clause-part c test is =
    subst (λ (l : List Share). IsPartBy c.args.set.now (λ m. test m || list_any (λ s. is_of m s.source) l) c.loop-share.used) (take_all c.loop-share.share-index c.args.shares.now c.loop-share-test.false) (c.loop-share.invariant.part test is)
