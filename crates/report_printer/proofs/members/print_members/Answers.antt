use Rattle.std.proofs.Common.{◌++◌, sym, subst, ◌∙◌, ap, map, List}
use Rattle.std.specs.Prelude.{All}
use Rattle.std.proofs.lemmas.List.Elements.{All-head, All-tail}
use Rattle.lp_model.specs.declared.members.Member.{Member}
use Rattle.certs.proofs.Possible.{members_for_model}
use Rattle.report_text.specs.declared.phrases.Phrase.{Phrase}
use Rattle.report_text.specs.Grammar.{phrases_text}
use Rattle.report_printer.specs.Evidence.{IsKnownMember}
use Rattle.report_printer.proofs.EvidencePrinted.{goes_on, nothing_left}
use Rattle.report_printer.proofs.members.print_members.Goals as goal

pub loop-member-init : goal.loop-member-init
loop-member-init c =
    let given = c.into_iter-member-iterator.ensures.into_iter_gives ∙ c.iter-member-items.ensures in
    record {
      known = subst (All (IsKnownMember c.args.model.now)) (sym given) (members_for_model c.args.model.now c.args.set.now c.requires c.stands_in_order.ensures.possible);
      left = ap (λ (l : List Member). c.args.into.now.items ++ phrases_text c.args.model.now (map Phrase.Member l)) given;
    }

pub print_phrase-requires : goal.print_phrase-requires
print_phrase-requires c = (All-head (IsKnownMember c.args.model.now) c.in-Some.member c.next.new.self (subst (All (IsKnownMember c.args.model.now)) c.in-Some.ensures.steps c.loop-member.invariant.known), tt)

pub loop-member-preserved : goal.loop-member-preserved
loop-member-preserved c =
    let steps = c.in-Some.ensures.steps in
    record {
      known = All-tail (IsKnownMember c.args.model.now) c.in-Some.member c.next.new.self (subst (All (IsKnownMember c.args.model.now)) steps c.loop-member.invariant.known);
      left = goes_on _ _ _ _ _ _ c.in_ok-print_phrase.ensures.text (ap (λ (l : List Member). phrases_text c.args.model.now (map Phrase.Member l)) steps) c.loop-member.invariant.left;
    }

pub returns : goal.returns
returns c = nothing_left _ _ _ (ap (λ (l : List Member). phrases_text c.args.model.now (map Phrase.Member l)) c.in-None.ensures.steps.0) c.loop-member.invariant.left
