use Rattle.std.proofs.Common.{◌≡◌, ◌+◌, sym, ◌∙◌, ap, suc, List, ◌++◌, zip, flat_map, length, arith}
use Rattle.std.proofs.lemmas.Result.{err_from_is_err_and}
use Rattle.lp_model.specs.MemberSets.{SetValue}
use Rattle.certs.specs.declared.evidence.Point.{Point}
use Rattle.report_text.specs.Grammar.{node_phrases, proof_phrases, witness_phrases}
use Rattle.cert_check.specs.Trials.{proof_trials, tail_trials, witness_trials, witnesses_of}
use Rattle.cert_check.specs.Stops.{first_stop}
use Rattle.cert_check.proofs.Firsts.{stop_first, stop_second, stop_of, says_second, says_of}
use Rattle.cert_check.proofs.entries.check_core.Goals as goal

pub returns-in_err-end-clause-says : goal.returns-in_err-end-clause-says
returns-in_err-end-clause-says c =
    let model = c.args.model.now in
    let set = c.args.core.now.members.members in
    let s = c.in_err-end.field-0.0 in
    let p = err_from_is_err_and c.from_residual.result c.from_residual.ensures.1 in
    let points =
    ap (λ (z : SetValue). first_stop (witness_trials model z.members (c.args.line + 2) (zip z.members c.as_slice-witnesses.result.now))) c.in-Ok.ensures
    ∙ ap (λ (l : List Point). first_stop (witness_trials model set (c.args.line + 2) (zip set l))) c.as_slice-witnesses.ensures in
    rw (p.1, p.2)
    (stop_first (witness_trials model set (c.args.line + 2) (witnesses_of c.args.core.now)) _ s (stop_of _ _ s points c.in_err-end.ensures.says))

pub returns-in_err-check_tree-clause-says : goal.returns-in_err-check_tree-clause-says
returns-in_err-check_tree-clause-says c =
    let model = c.args.model.now in
    let core = c.args.core.now in
    let set = core.members.members in
    let s = c.in_err-check_tree.field-0.0 in
    let p = err_from_is_err_and c.from_residual-in_err-check_tree.result c.from_residual-in_err-check_tree.ensures.1 in
    let both = c.in_ok-end.ensures.says in
    let points =
    ap (λ (z : SetValue). first_stop (witness_trials model z.members (c.args.line + 2) (zip z.members c.as_slice-witnesses.result.now))) c.in-Ok.ensures
    ∙ ap (λ (l : List Point). first_stop (witness_trials model set (c.args.line + 2) (zip set l))) c.as_slice-witnesses.ensures in
    let end =
    both.1
    ∙ ap (λ (z : SetValue). c.args.line + 2 + length (flat_map witness_phrases (zip z.members c.as_slice-witnesses.result.now))) c.in-Ok.ensures
    ∙ ap (λ (l : List Point). c.args.line + 2 + length (flat_map witness_phrases (zip set l))) c.as_slice-witnesses.ensures in
    let place : c.in_ok-end.end + 1 ≡ c.args.line + (2 + length (flat_map witness_phrases (witnesses_of core))) + 1 = omega (arith, end) in
    let tree =
    ap (λ (z : SetValue). first_stop (proof_trials model z.members (c.in_ok-end.end + 1) core.proof)) c.in-Ok.ensures
    ∙ ap (λ k. first_stop (proof_trials model set k core.proof)) place in
    rw (p.1, p.2)
    (stop_second (witness_trials model set (c.args.line + 2) (witnesses_of core)) _ s (sym points ∙ both.0)
    (stop_first (proof_trials model set (c.args.line + (2 + length (flat_map witness_phrases (witnesses_of core))) + 1) core.proof) _ s
    (stop_of _ _ s tree c.in_err-check_tree.ensures.says)))

pub returns-clause-says : goal.returns-clause-says
returns-clause-says c =
    let model = c.args.model.now in
    let core = c.args.core.now in
    let set = core.members.members in
    let next = c.args.line + (2 + length (flat_map witness_phrases (witnesses_of core))) in
    let tail = tail_trials model (next + length (proof_phrases core.proof)) core in
    let both = c.in_ok-end.ensures.says in
    let points =
    ap (λ (z : SetValue). first_stop (witness_trials model z.members (c.args.line + 2) (zip z.members c.as_slice-witnesses.result.now))) c.in-Ok.ensures
    ∙ ap (λ (l : List Point). first_stop (witness_trials model set (c.args.line + 2) (zip set l))) c.as_slice-witnesses.ensures in
    let end =
    both.1
    ∙ ap (λ (z : SetValue). c.args.line + 2 + length (flat_map witness_phrases (zip z.members c.as_slice-witnesses.result.now))) c.in-Ok.ensures
    ∙ ap (λ (l : List Point). c.args.line + 2 + length (flat_map witness_phrases (zip set l))) c.as_slice-witnesses.ensures in
    let place : c.in_ok-end.end + 1 ≡ next + 1 = omega (arith, end) in
    let tree =
    ap (λ (z : SetValue). first_stop (proof_trials model z.members (c.in_ok-end.end + 1) core.proof)) c.in-Ok.ensures
    ∙ ap (λ k. first_stop (proof_trials model set k core.proof)) place in
    let last = c.line_behind-behind.ensures in
    let behind : c.line_behind-behind.result ≡ next + suc (length (flat_map node_phrases core.proof.nodes)) = omega (arith, end, last) in
    says_second (witness_trials model set (c.args.line + 2) (witnesses_of core)) (proof_trials model set (next + 1) core.proof ++ tail) c.check_tail.result (sym points ∙ both.0)
    (says_second (proof_trials model set (next + 1) core.proof) tail c.check_tail.result (sym tree ∙ c.in_ok-check_tree.ensures.says)
    (says_of _ _ c.check_tail.result (ap (λ k. first_stop (tail_trials model k core)) behind) c.check_tail.ensures))
