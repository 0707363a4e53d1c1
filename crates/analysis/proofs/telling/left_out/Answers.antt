use Rattle.std.proofs.Common.{◌≡◌, ◌++◌, ◌&&◌, Bool, true, false, List, ◌∷◌, [], append_assoc, append-nil, ap, cond, filter, length, not, subst, sym, ◌∙◌}
use Rattle.std.specs.Prelude.{All, Contains}
use Rattle.std.proofs.lemmas.List.Elements.{All-contains_itself, All-head, All-tail, All-weaker}
use Rattle.lp_model.specs.declared.members.Member.{Member}
use Rattle.lp_model.specs.Members.{has, is_active, possible_members}
use Rattle.lp_model.specs.MemberSets.{IsMemberFor}
use Rattle.lp_model.specs.Program.{Program}
use Rattle.lp_model.proofs.Marked.{possible_is}
use Rattle.certs.proofs.Parted.{filter_both}
use Rattle.analysis.proofs.telling.left_out.Goals as goal

-- a member that the program may have
abbrev IsOf : Program → Member → Type 0
IsOf model m = IsMemberFor (length model.rows) (length model.columns) m

-- one that is active and not in the set
abbrev is_out : Program → List Member → Member → Bool
is_out model set m = is_active model m && not (has set m)

-- the next member, and those behind it
next_put : (test : Member → Bool) (b : Bool) (m : Member) (rest left kept all : List Member) → test m ≡ b → left ≡ m ∷ rest → kept ++ filter test left ≡ all → kept ++ cond b (m ∷ filter test rest) (filter test rest) ≡ all
next_put test b m rest left kept all is steps h = ap (λ c. kept ++ cond c (m ∷ filter test rest) (filter test rest)) (sym is) ∙ ap (λ l. kept ++ filter test l) (sym steps) ∙ h

pub loop-member-init : goal.loop-member-init
loop-member-init c =
    let model = c.args.model.now in
    let test = is_out model c.args.set.now.members in
    let all = possible_members model in
    let given = c.into_iter-member-iterator.ensures.into_iter_gives ∙ c.possible_members-member-items.ensures in
    record {
      known = subst (All (IsOf model)) (sym given) (All-weaker (Contains all) (IsOf model) (λ m k. possible_is (length model.rows) (length model.columns) m k) all (All-contains_itself all));
      put = ap (λ (l : List Member). c.new-left.result.items ++ filter test l) given ∙ ap (λ (l : List Member). l ++ filter test all) c.new-left.ensures.items;
    }

pub is_left_out-requires-clause-member : goal.is_left_out-requires-clause-member
is_left_out-requires-clause-member c = All-head (IsOf c.args.model.now) c.in-Some.member c.next.new.self (subst (All (IsOf c.args.model.now)) c.in-Some.ensures.steps c.loop-member.invariant.known)

pub loop-member-preserved-then-not-is_left_out : goal.loop-member-preserved-then-not-is_left_out
loop-member-preserved-then-not-is_left_out c =
    let model = c.args.model.now in
    let test = is_out model c.args.set.now.members in
    let m = c.in-Some.member in
    let rest = c.next.new.self in
    record {
      known = All-tail (IsOf model) m rest (subst (All (IsOf model)) c.in-Some.ensures.steps c.loop-member.invariant.known);
      put =
          next_put test false m rest c.loop-member.member-iterator c.loop-member.left.items (filter test (possible_members model)) (sym c.is_left_out.ensures ∙ c.if-not-is_left_out.true) c.in-Some.ensures.steps
          c.loop-member.invariant.put;
    }

pub loop-member-preserved : goal.loop-member-preserved
loop-member-preserved c =
    let model = c.args.model.now in
    let test = is_out model c.args.set.now.members in
    let m = c.in-Some.member in
    let rest = c.next.new.self in
    let kept = c.loop-member.left.items in
    record {
      known = All-tail (IsOf model) m rest (subst (All (IsOf model)) c.in-Some.ensures.steps c.loop-member.invariant.known);
      put =
          ap (λ (l : List Member). l ++ filter test rest) c.in_ok-push.ensures.items ∙ append_assoc kept (m ∷ []) (filter test rest)
          ∙ next_put test true m rest c.loop-member.member-iterator kept (filter test (possible_members model)) (sym c.is_left_out.ensures ∙ c.if-not-is_left_out.false) c.in-Some.ensures.steps c.loop-member.invariant.put;
    }

pub returns : goal.returns
returns c =
    let model = c.args.model.now in
    let set = c.args.set.now.members in
    let kept = c.loop-member.left.items in
    c.new.ensures ∙ sym (append-nil kept) ∙ ap (λ (l : List Member). kept ++ filter (is_out model set) l) (sym c.in-None.ensures.steps.0) ∙ c.loop-member.invariant.put
    ∙ sym (filter_both (is_active model) (λ m. not (has set m)) (possible_members model))
