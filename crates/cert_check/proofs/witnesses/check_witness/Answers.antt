use Rattle.std.proofs.Common.{◌≡◌, ◌∙◌, sym, ap, subst, true, filter}
use Rattle.lp_model.specs.declared.members.Member.{Member}
use Rattle.lp_model.specs.Members.{has}
use Rattle.lp_model.specs.MemberSets.{SetValue, possible_in, set_with, set_without}
use Rattle.certs.proofs.HasLists.{put_back}
use Rattle.cert_check.specs.Sparse.{IsSparseFor}
use Rattle.cert_check.proofs.Reached.{sparse_without, without_it}
use Rattle.cert_check.proofs.witnesses.check_witness.Goals as goal

-- a member that is taken out of a set and put back
back : (set removed now : SetValue) (m : Member) → removed ≡ set_without set m → now ≡ set_with removed m → set.members ≡ filter (has set.members) (possible_in set) → has set.members m ≡ true → now ≡ set
back set removed now m gone again possible there = again ∙ ap (λ (s : SetValue). set_with s m) gone ∙ put_back set m possible there

pub check_packed-found-requires-clause-sparse : goal.check_packed-found-requires-clause-sparse
check_packed-found-requires-clause-sparse c =
    subst (λ (s : SetValue). IsSparseFor c.args.model.now s.members c.args.sparse.now) (sym c.remove.ensures) (sparse_without c.args.model.now c.args.members.now c.args.member c.args.sparse.now c.requires.sparse)

pub check_packed-found-requires-clause-lacks : goal.check_packed-found-requires-clause-lacks
check_packed-found-requires-clause-lacks c = ap (λ (s : SetValue). has s.members c.args.member) c.remove.ensures ∙ without_it c.args.members.now c.args.member

pub returns-in_default-clause-stays : goal.returns-in_default-clause-stays
returns-in_default-clause-stays c = back c.args.members.now c.remove.new.self c.insert.new.self c.args.member c.remove.ensures c.insert.ensures c.stands_in_order.ensures.possible c.requires.there

pub returns-in_err-settle-clause-stays : goal.returns-in_err-settle-clause-stays
returns-in_err-settle-clause-stays c = back c.args.members.now c.remove.new.self c.insert.new.self c.args.member c.remove.ensures c.insert.ensures c.stands_in_order.ensures.possible c.requires.there

pub returns-clause-stays : goal.returns-clause-stays
returns-clause-stays c = back c.args.members.now c.remove.new.self c.insert.new.self c.args.member c.remove.ensures c.insert.ensures c.stands_in_order.ensures.possible c.requires.there
