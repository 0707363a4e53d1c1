use Rattle.std.proofs.Common.{◌≡◌, ◌+◌, sym, ◌∙◌, ap, subst, true, length, zip, flat_map, arith, None, List, [], ◌∷◌}
use Rattle.std.specs.Prelude.{All}
use Rattle.std.proofs.lemmas.List.Elements.{All-head, All-tail}
use Rattle.std.proofs.lemmas.Result.{err_from_is_err_and}
use Rattle.lp_model.specs.declared.members.Member.{Member}
use Rattle.lp_model.specs.MemberSets.{SetValue, IsPossibleIn}
use Rattle.lp_model.specs.Members.{has}
use Rattle.certs.proofs.Possible.{all_possible}
use Rattle.report_text.specs.Grammar.{witness_phrases}
use Rattle.cert_check.specs.Trials.{witness_trials}
use Rattle.cert_check.specs.Stops.{first_stop}
use Rattle.cert_check.proofs.Firsts.{stop_of}
use Rattle.cert_check.proofs.Named.{all_there}
use Rattle.cert_check.proofs.Witnessed.{member_left, lines_step, witness_stops, witness_passes, each_step}
use Rattle.cert_check.proofs.witnesses.check_witnesses.Goals as goal

pub loop-witness-init : goal.loop-witness-init
loop-witness-init c =
    let model = c.args.model.now in
    let set = c.args.members.now in
    let witnesses = c.args.witnesses.now in
    let given = c.iter-left.ensures in
    record {
      possible = subst (All (IsPossibleIn set)) (sym given) (all_possible set c.stands_in_order.ensures.possible);
      there = subst (All (λ m. has set.members m ≡ true)) (sym given) (all_there set c.stands_in_order.ensures.possible);
      others = c.requires.copy;
      room = c.requires.room;
      each = c.requires.each ∙ ap length (sym given);
      line = ap (λ (l : List Member). c.args.start + length (flat_map witness_phrases (zip l witnesses))) given;
      left = ap (λ (l : List Member). first_stop (witness_trials model set.members c.args.start (zip l witnesses))) given;
    }

pub unreachable-requires : goal.unreachable-requires
unreachable-requires c =
    member_left c.loop-witness.left c.args.witnesses.now c.loop-witness.witness-index c.witness-item.result c.loop-witness-test.true c.loop-witness.invariant.each c.in_default-next.ensures.steps.0

pub check_witness-requires-clause-there : goal.check_witness-requires-clause-there
check_witness-requires-clause-there c =
    subst (λ (s : SetValue). has s.members c.in-Some.member ≡ true) (sym c.loop-witness.invariant.others)
    (All-head (λ m. has c.args.members.now.members m ≡ true) c.in-Some.member c.next.new.self (subst (All (λ m. has c.args.members.now.members m ≡ true)) c.in-Some.ensures.steps c.loop-witness.invariant.there))

pub check_witness-requires-clause-possible : goal.check_witness-requires-clause-possible
check_witness-requires-clause-possible c =
    subst (λ (s : SetValue). IsPossibleIn s c.in-Some.member) (sym c.loop-witness.invariant.others)
    (All-head (IsPossibleIn c.args.members.now) c.in-Some.member c.next.new.self (subst (All (IsPossibleIn c.args.members.now)) c.in-Some.ensures.steps c.loop-witness.invariant.possible))

pub returns-in_err-line-clause-says : goal.returns-in_err-line-clause-says
returns-in_err-line-clause-says c =
    let model = c.args.model.now in
    let set = c.args.members.now.members in
    let i = c.loop-witness in
    let m = c.in-Some.member in
    let w = c.witness-item.result in
    let s = c.in_err-line.field-0.0 in
    let p = err_from_is_err_and c.from_residual.result c.from_residual.ensures.1 in
    rw (p.1, p.2)
    (stop_of _ _ s i.invariant.left
    (witness_stops model c.args.witnesses.now i.witness-index i.left c.next.new.self m w c.in-Some.ensures.steps c.loop-witness-test.true c.witness-item.is set i.line s
    (stop_of _ _ s (ap (λ (v : SetValue). first_stop (witness_trials model v.members i.line ((m, w) ∷ []))) i.invariant.others) c.in_err-line.ensures.says)))

pub check_witness-requires-clause-short : goal.check_witness-requires-clause-short
check_witness-requires-clause-short c =
    let i = c.loop-witness in
    let step = lines_step c.args.model.now c.args.witnesses.now i.witness-index i.left c.next.new.self c.in-Some.member c.witness-item.result c.in-Some.ensures.steps c.loop-witness-test.true c.witness-item.is in
    omega (arith, step, i.invariant.line, c.requires.short)

pub overflow_add-line : goal.overflow_add-line
overflow_add-line c =
    let i = c.loop-witness in
    let step = lines_step c.args.model.now c.args.witnesses.now i.witness-index i.left c.next.new.self c.in-Some.member c.witness-item.result c.in-Some.ensures.steps c.loop-witness-test.true c.witness-item.is in
    let count = c.in_ok-line.ensures.says.1 in
    omega (arith, step, count, i.invariant.line, c.requires.short)

pub loop-witness-preserved : goal.loop-witness-preserved
loop-witness-preserved c =
    let model = c.args.model.now in
    let set = c.args.members.now.members in
    let witnesses = c.args.witnesses.now in
    let i = c.loop-witness in
    let m = c.in-Some.member in
    let w = c.witness-item.result in
    let others = c.next.new.self in
    let first = c.in-Some.ensures.steps in
    let step = lines_step model witnesses i.witness-index i.left others m w first c.loop-witness-test.true c.witness-item.is in
    let count = c.in_ok-line.ensures.says.1 in
    let says : first_stop (witness_trials model set i.line ((m, w) ∷ [])) ≡ None = sym (ap (λ (v : SetValue). first_stop (witness_trials model v.members i.line ((m, w) ∷ []))) i.invariant.others) ∙ c.in_ok-line.ensures.says.0 in
    record {
      possible = All-tail (IsPossibleIn c.args.members.now) m others (subst (All (IsPossibleIn c.args.members.now)) first i.invariant.possible);
      there = All-tail (λ n. has set n ≡ true) m others (subst (All (λ n. has set n ≡ true)) first i.invariant.there);
      others = c.in_ok-line.ensures.stays ∙ i.invariant.others;
      room = c.in_ok-line.ensures.room;
      each = each_step model witnesses i.witness-index i.left others m w first c.loop-witness-test.true c.witness-item.is i.invariant.each;
      line = omega (arith, step, count, i.invariant.line);
      left = witness_passes model witnesses i.witness-index i.left others m w first c.loop-witness-test.true c.witness-item.is set i.line c.in_ok-line.field-0 says count ∙ i.invariant.left;
    }
