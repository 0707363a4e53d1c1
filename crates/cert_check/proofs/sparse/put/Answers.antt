use Rattle.std.proofs.Common.{◌≡◌, sym, subst, true}
use Rattle.std.proofs.lemmas.List.Elements.{All-contains}
use Rattle.lp_model.specs.Members.{has}
use Rattle.lp_model.specs.MemberSets.{SetValue, IsMemberFor, IsPossibleIn}
use Rattle.lp_model.proofs.Sets.{contains_of_has}
use Rattle.certs.proofs.Possible.{all_possible}
use Rattle.cert_check.proofs.Reached.{with_keeps, with_has}
use Rattle.cert_check.proofs.sparse.put.Goals as goal

pub returns-then-contains-clause-keeps : goal.returns-then-contains-clause-keeps
returns-then-contains-clause-keeps c m h =
    let part = c.args.part.now in
    let possible = All-contains (IsPossibleIn part) part.members m (all_possible part c.stands_in_order.ensures.possible) (contains_of_has part.members m h) in
    subst (λ (s : SetValue). has s.members m ≡ true) (sym c.insert.ensures) (with_keeps part c.args.member m possible h)

pub returns-then-contains-clause-puts : goal.returns-then-contains-clause-puts
returns-then-contains-clause-puts c h =
    let part = c.args.part.now in
    let possible : IsPossibleIn part c.args.member =
    subst (λ n. IsMemberFor n part.columns c.args.member) (sym c.requires.rows)
    (subst (λ n. IsMemberFor c.args.set.now.rows n c.args.member) (sym c.requires.columns) c.requires.possible) in
    subst (λ (s : SetValue). has s.members c.args.member ≡ true) (sym c.insert.ensures) (with_has part c.args.member possible)
