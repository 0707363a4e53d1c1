use Rattle.std.proofs.Common.{◌≡◌, ◌+◌, sym, ◌∙◌, ap, subst, true≢false, Option, List, length, suc, arith}
use Rattle.std.specs.Iterator.{YieldsFirst}
use Rattle.std.specs.Prelude.{All}
use Rattle.std.proofs.lemmas.List.Elements.{All-head, All-tail}
use Rattle.lp_model.specs.declared.members.Member.{Member}
use Rattle.lp_model.specs.MemberSets.{IsMemberFor, IsPossibleIn}
use Rattle.certs.proofs.Possible.{members_for_model}
use Rattle.cert_check.specs.Trials.{paired_trials, is_use_of}
use Rattle.cert_check.specs.Stops.{first_stop}
use Rattle.cert_check.proofs.Pairs.{outside, not_used, used_next}
use Rattle.cert_check.proofs.members.check_members.Goals as goal

pub loop-member-init : goal.loop-member-init
loop-member-init c =
    let model = c.args.model.now in
    let set = c.args.printed.now in
    let given = c.into_iter-member-iterator.ensures.into_iter_gives ∙ c.iter-member-items.ensures in
    let known = members_for_model model set c.requires.printed c.stands_in_order.ensures.possible in
    let among = c.args.among.now in
    let possible =
    subst (λ n. All (IsMemberFor among.rows n) set.members) (sym c.requires.among.columns)
    (subst (λ n. All (IsMemberFor n (length model.columns)) set.members) (sym c.requires.among.rows) known) in
    record {
      possible = subst (All (IsPossibleIn among)) (sym given) possible;
      line = ap (λ (l : List Member). c.args.start + length l) given;
      left =
          ap (λ l. first_stop (paired_trials (is_use_of among.members) c.args.start l c.iter-uses.result)) given
          ∙ ap (λ l. first_stop (paired_trials (is_use_of among.members) c.args.start set.members l)) c.iter-uses.ensures;
    }

pub contains-requires : goal.contains-requires
contains-requires c = All-head (IsPossibleIn c.args.among.now) c.in-Some.member c.next.new.self (subst (All (IsPossibleIn c.args.among.now)) c.in-Some.ensures.steps c.loop-member.invariant.possible)

pub returns-then-not-contains : goal.returns-then-not-contains
returns-then-not-contains c =
    sym c.loop-member.invariant.left
    ∙ (ap (λ l. first_stop (paired_trials (is_use_of c.args.among.now.members) c.loop-member.line l c.loop-member.uses)) c.in-Some.ensures.steps
    ∙ outside c.args.among.now.members c.loop-member.line c.in-Some.member c.next.new.self c.loop-member.uses (sym c.contains.ensures ∙ c.if-not-contains.true))

pub returns-then-not-is_next : goal.returns-then-not-is_next
returns-then-not-is_next c =
    sym c.loop-member.invariant.left
    ∙ (ap (λ l. first_stop (paired_trials (is_use_of c.args.among.now.members) c.loop-member.line l c.loop-member.uses)) c.in-Some.ensures.steps
    ∙ not_used c.args.among.now.members c.loop-member.line c.in-Some.member c.next.new.self c.loop-member.uses c.next-in-loop-member.new.self c.next-in-loop-member.result c.next-in-loop-member.ensures.steps
    (λ e. true≢false (sym (c.is_next.ensures.1 e) ∙ c.if-not-is_next.true)))

pub overflow_add-line : goal.overflow_add-line
overflow_add-line c =
    let steps : length c.loop-member.member-iterator ≡ suc (length c.next.new.self) = ap length c.in-Some.ensures.steps in
    omega (arith, steps, c.loop-member.invariant.line, c.requires.short)

pub loop-member-preserved : goal.loop-member-preserved
loop-member-preserved c =
    let among = c.args.among.now in
    let line = c.loop-member.line in
    let m = c.in-Some.member in
    let rest = c.next.new.self in
    let uses = c.loop-member.uses in
    let steps = c.in-Some.ensures.steps in
    let fewer : length c.loop-member.member-iterator ≡ suc (length rest) = ap length steps in
    record {
      possible = All-tail (IsPossibleIn among) m rest (subst (All (IsPossibleIn among)) steps c.loop-member.invariant.possible);
      line = omega (arith, fewer, c.loop-member.invariant.line);
      left =
          used_next among.members line m rest uses c.next-in-loop-member.new.self (sym c.contains.ensures ∙ c.if-not-contains.false)
          (subst (λ (next : Option Member). YieldsFirst (λ (l : List Member). l) uses next c.next-in-loop-member.new.self) (c.is_next.ensures.0 c.if-not-is_next.false) c.next-in-loop-member.ensures.steps)
          ∙ (sym (ap (λ l. first_stop (paired_trials (is_use_of among.members) line l uses)) steps) ∙ c.loop-member.invariant.left);
    }
