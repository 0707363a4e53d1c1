use Rattle.std.proofs.Common.{Option, None, sym, ◌∙◌, ap, subst}
use Rattle.std.proofs.lemmas.Result.{err_from_is_err_and}
use Rattle.lp_model.specs.Program.{Program}
use Rattle.report_text.specs.Session.{Takes}
use Rattle.report_text.specs.declared.report.Answer.{Answer}
use Rattle.cert_check.specs.Trials.{claim_trials}
use Rattle.cert_check.specs.Sparse.{IsKept, IsRoom}
use Rattle.cert_check.specs.Stops.{first_stop}
use Rattle.cert_check.proofs.Firsts.{stop_of}
use Rattle.cert_check.proofs.Entered.{claim_stops, columns_stay, memory_stops, model_stays, none_of, on_ok, reply_says}
use Rattle.cert_check.proofs.entries.check_entry.Goals as goal
use Rattle.cert_check.proofs.entries.check_entry.Goals.{then-is_some+in-Some+in-Some-kept-2, then-is_some+in-Some+in-None-1, then-is_some+in-None-1, else-is_some}

pub returns-in_err-check_claim-clause-replays : goal.returns-in_err-check_claim-clause-replays
returns-in_err-check_claim-clause-replays c =
    let e = c.args.entry.now in
    let s = c.in_err-check_claim.field-0.0 in
    let p = err_from_is_err_and c.from_residual.result c.from_residual.ensures.1 in
    rw (p.1, p.2)
    (claim_stops c.args.session.now e s c.args.session.now
    (stop_of _ _ s (ap (λ (m : Program). first_stop (claim_trials m e)) c.model.ensures) c.in_err-check_claim.ensures.says))

pub returns-in_default-clause-replays : goal.returns-in_default-clause-replays
returns-in_default-clause-replays c = memory_stops c.args.session.now c.args.entry.now c.take.new.self

pub returns-clause-replays : goal.returns-clause-replays
returns-clause-replays c =
    let e = c.args.entry.now in
    reply_says c.args.session.now e c.in-Ok.right c.take.new.self c.check_reply.result
    (sym (ap (λ (m : Program). first_stop (claim_trials m e)) c.model.ensures) ∙ c.in_ok-check_claim.ensures.says)
    c.in-Ok.ensures.taken c.check_reply.ensures

pub returns-clause-kept : goal.returns-clause-kept
returns-clause-kept c =
    let new = c.take.new.self in
    let old = c.args.session.now in
    let e = c.args.entry.now in
    let kept : IsKept old.model c.check_claim.new.kept = subst (λ (m : Program). IsKept m c.check_claim.new.kept) c.model.ensures c.in_ok-check_claim.ensures.kept in
    on_ok c.check_reply.result (λ first before is.
    let none : IsKept new.model (record { active = None; room = c.check_claim.new.kept.room }) =
    record { active = tt; room = subst (λ n. IsRoom n c.check_claim.new.kept.room.items) (columns_stay old new e.command first before is (c.in-Ok.ensures.taken.goes_on first before is)) kept.room } in
    elim c.if-is_some.branch [
      | then-is_some+in-Some+in-Some-kept-2 w ↦ subst (IsKept new.model) (sym w.kept-is) none
      | then-is_some+in-Some+in-None-1 w ↦ subst (IsKept new.model) (sym w.kept-is) none
      | then-is_some+in-None-1 w ↦ subst (IsKept new.model) (sym w.kept-is) none
      | else-is_some w ↦
          let nothing = none_of c.in-Ok.right (sym c.is_some.ensures ∙ w.if-is_some.false) in
          let takes = subst (λ (o : Option Answer). Takes old e.command o new) nothing c.in-Ok.ensures.taken in
          subst (IsKept new.model) (sym w.kept-is) (subst (λ (m : Program). IsKept m c.check_claim.new.kept) (sym (model_stays old new e.command first before takes is)) kept)
    ])
