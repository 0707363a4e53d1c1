use Rattle.std.proofs.Common.{◌≡◌, ◌<◌, ◌≤◌, ◌∷◌, ◌||◌, refl, sym, ◌∙◌, subst, ℕ, Bool, false, List, [], take, length, get_or}
use Rattle.std.specs.Prelude.{All, Contains}
use Rattle.std.specs.List.{list_any}
use Rattle.std.proofs.lemmas.List.{take_all}
use Rattle.std.proofs.lemmas.List.Elements.{All-contains, All-get_or}
use Rattle.lp_model.specs.declared.members.Member.{Member}
use Rattle.lp_model.specs.MemberSets.{SetValue, IsPossibleIn}
use Rattle.lp_model.specs.Members.{is_same}
use Rattle.lp_model.proofs.Sets.{has_of_contains}
use Rattle.certs.specs.declared.evidence.Node.TheVariants.{Leaf}
use Rattle.certs.specs.declared.evidence.Source.{Source}
use Rattle.certs.specs.declared.evidence.Source.TheVariants.{Member as Of}
use Rattle.certs.specs.declared.evidence.Share.{Share}
use Rattle.certs.specs.Combination.{IsFrom}
use Rattle.certs.specs.Named.{IsOfSize, IsPartBy}
use Rattle.certs.specs.Violation.{is_of}
use Rattle.certs.proofs.Parted.{part_all, part_more, part_none, part_plain, part_with, names_none}
use Rattle.relaxation.proofs.Found.{possible_too}
use Rattle.certs.proofs.Possible.{all_possible}
use Rattle.alt_polyhedron.proofs.supports.used_members.Goals.{in-Member, in_default}
use Rattle.alt_polyhedron.proofs.supports.used_members.Goals as goal

pub loop-share-init : goal.loop-share-init
loop-share-init c =
    let set = c.args.set.now in
    let start : c.in_ok-used.used ≡ record set { members = [] } = c.in_ok-used.ensures in
    record {
      sized = subst (IsOfSize set) (sym start) (record { rows = refl; columns = refl });
      part = subst (IsPartBy set (λ m. false)) (sym start) (part_none set);
    }

-- the source of a share of the set's is one of its members
source_there : (set : SetValue) (shares : List Share) (i : ℕ) (share : Share) (m : Member) → All (λ s. IsFrom set.members s.source) shares → i < length shares → share ≡ get_or shares i share → share.source ≡ Of m → Contains set.members m
source_there set shares i share m from l is source =
    subst (IsFrom set.members) source (subst (λ (s : Share). IsFrom set.members s.source) (sym is) (All-get_or (λ (s : Share). IsFrom set.members s.source) shares i share l from))

pub insert-requires : goal.insert-requires
insert-requires c =
    let set = c.args.set.now in
    let shares = c.args.combo.now.shares in
    let used = c.loop-share.used in
    let i = c.loop-share.share-index in
    let share = c.share-item.result in
    let same : c.as_slice-share-items.result.now ≡ shares = c.as_slice-share-items.ensures in
    All-contains (IsPossibleIn used) set.members c.in-Member.member (possible_too set used c.loop-share.invariant.sized (all_possible set c.stands_in_order.ensures.possible))
    (source_there set shares i share c.in-Member.member c.requires (subst (λ (l : List Share). i < length l) same c.loop-share-test.true) (subst (λ (l : List Share). share ≡ get_or l i share) same c.share-item.is) c.in-Member.is)

pub loop-share-preserved : goal.loop-share-preserved
loop-share-preserved c =
    let set = c.args.set.now in
    let shares = c.args.combo.now.shares in
    let i = c.loop-share.share-index in
    let share = c.share-item.result in
    let same : c.as_slice-share-items.result.now ≡ shares = c.as_slice-share-items.ensures in
    let below : i < length shares = subst (λ (l : List Share). i < length l) same c.loop-share-test.true in
    let is : share ≡ get_or shares i share = subst (λ (l : List Share). share ≡ get_or l i share) same c.share-item.is in
    let passed : Member → Bool = λ m. list_any (λ (s : Share). is_of m s.source) (take i shares) in
    elim c.match-share.branch [
      | in-Member w ↦ record {
        sized = subst (IsOfSize set) (sym (w.used-is ∙ w.insert.ensures)) (record { rows = c.loop-share.invariant.sized.rows; columns = c.loop-share.invariant.sized.columns });
        part = part_more (λ m (s : Share). is_of m s.source) shares i share set c.match-share.used (λ m. false) below is
            (subst (λ (source : Source). IsPartBy set (λ m. passed m || is_of m source) c.match-share.used) (sym w.in-Member.is)
            (subst (IsPartBy set (λ m. passed m || is_same m w.in-Member.member)) (sym (w.used-is ∙ w.insert.ensures))
            (part_with set c.loop-share.used passed w.in-Member.member (has_of_contains set.members w.in-Member.member (source_there set shares i share w.in-Member.member c.requires below is w.in-Member.is)) c.loop-share.invariant.part)));
      }
      | in_default w ↦ record {
        sized = subst (IsOfSize set) (sym w.used-is) c.loop-share.invariant.sized;
        part = part_more (λ m (s : Share). is_of m s.source) shares i share set c.match-share.used (λ m. false) below is
            (subst (IsPartBy set (λ m. passed m || is_of m share.source)) (sym w.used-is)
            (part_plain set c.loop-share.used passed (λ m. is_of m share.source) (names_none share.source w.in_default.not-Member) c.loop-share.invariant.part));
      }
    ]

pub returns : goal.returns
returns c =
    let set = c.args.set.now in
    let shares = c.args.combo.now.shares in
    let all : length shares ≤ c.loop-share.share-index = subst (λ (l : List Share). length l ≤ c.loop-share.share-index) c.as_slice-share-items.ensures c.loop-share-test.false in
    part_all set c.loop-share.used (Leaf c.args.combo.now ∷ []) c.stands_in_order.ensures.possible
    (part_plain set c.loop-share.used (λ m. list_any (λ (s : Share). is_of m s.source) shares) (λ m. false) (λ m. refl)
    (subst (λ (l : List Share). IsPartBy set (λ m. list_any (λ s. is_of m s.source) l) c.loop-share.used) (take_all c.loop-share.share-index shares all) c.loop-share.invariant.part))
