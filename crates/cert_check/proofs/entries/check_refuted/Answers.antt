use Rattle.std.proofs.Common.{◌≡◌, ◌+◌, sym, ◌∙◌, ap, length, arith}
use Rattle.std.proofs.lemmas.Result.{err_from_is_err_and}
use Rattle.lp_model.specs.MemberSets.{SetValue}
use Rattle.cert_check.specs.Trials.{paired_trials, is_use_of, proof_members, proof_trials}
use Rattle.cert_check.specs.Stops.{first_stop}
use Rattle.cert_check.proofs.Firsts.{stop_first, stop_of, says_second, says_of}
use Rattle.cert_check.proofs.entries.check_refuted.Goals as goal

pub returns-in_err-end-clause-says : goal.returns-in_err-end-clause-says
returns-in_err-end-clause-says c =
    let model = c.args.model.now in
    let set = c.args.members.now.members in
    let agree = is_use_of c.args.among.now.members in
    let s = c.in_err-end.field-0.0 in
    let p = err_from_is_err_and c.from_residual.result c.from_residual.ensures.1 in
    let pairs =
    ap (λ (z : SetValue). first_stop (paired_trials agree (c.args.line + 2) z.members c.in-Ok.used.members)) c.in-Ok-unpacked.ensures
    ∙ ap (λ l. first_stop (paired_trials agree (c.args.line + 2) set l)) c.in-Ok.ensures.used in
    rw (p.1, p.2)
    (stop_first (paired_trials agree (c.args.line + 2) set (proof_members model c.args.proof.now)) _ s (stop_of _ _ s pairs c.in_err-end.ensures))

pub returns-clause-says : goal.returns-clause-says
returns-clause-says c =
    let model = c.args.model.now in
    let set = c.args.members.now.members in
    let proof = c.args.proof.now in
    let agree = is_use_of c.args.among.now.members in
    let both = c.in_ok-end.ensures in
    let pairs =
    ap (λ (z : SetValue). first_stop (paired_trials agree (c.args.line + 2) z.members c.in-Ok.used.members)) c.in-Ok-unpacked.ensures
    ∙ ap (λ l. first_stop (paired_trials agree (c.args.line + 2) set l)) c.in-Ok.ensures.used in
    let many = ap (λ (z : SetValue). length z.members) c.in-Ok-unpacked.ensures in
    let place : c.in_ok-end.end + 1 ≡ c.args.line + (3 + length set) = omega (arith, both.1, many) in
    let tree =
    ap (λ (z : SetValue). first_stop (proof_trials model z.members (c.in_ok-end.end + 1) proof)) c.in-Ok-unpacked.ensures
    ∙ ap (λ k. first_stop (proof_trials model set k proof)) place in
    says_second (paired_trials agree (c.args.line + 2) set (proof_members model proof)) _ c.check_tree.result (sym pairs ∙ both.0)
    (says_of _ _ c.check_tree.result tree c.check_tree.ensures.says)
