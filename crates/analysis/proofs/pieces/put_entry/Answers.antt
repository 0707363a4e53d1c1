use Rattle.std.proofs.Common.{ℕ, ap, ◌∙◌, subst, List, ◌++◌}
use Rattle.std.proofs.lemmas.Result.{err_from_is_err_and}
use Rattle.report_text.specs.History.{HistoryValue}
use Rattle.report_text.specs.Grammar.{entry_phrases, phrases_text}
use Rattle.analysis.specs.Puts.{PutWhole}
use Rattle.analysis.proofs.Nexts.{printed_entry}
use Rattle.analysis.proofs.Report.{entry_err}
use Rattle.analysis.proofs.pieces.put_entry.Goals as goal

pub returns-in_err-put-clause-put : goal.returns-in_err-put-clause-put
returns-in_err-put-clause-put g c =
    λ first before e b.
    let p = err_from_is_err_and c.from_residual-in_err-put.result c.from_residual-in_err-put.ensures.1 in
    let a = c.in_ok-answer.answer in
    let next = c.in_ok-answer.ensures.next in
    let model = c.model.result.now in
    let text = c.as_slice.ensures.value ∙ (c.in_ok-print_entry.ensures.text 0 ∙ ap (λ (x : List ℕ). x ++ phrases_text model (entry_phrases model (record { command = c.args.command.now; answer = a; line = 0 }))) c.new-text.ensures.items) in
    let printed = printed_entry first before model c.args.command.now a (c.model.ensures ∙ ap (λ (v : HistoryValue). v.model) (next.goes_on first before e)) (next.right first before e b) in
    rw (p.1, p.2)
    (entry_err g.W.Sink.faults g.W.Sink.taken c.args.out.now c.put.new.out first before c.args.command.now a c.as_slice.result.now _ (record { right = next.right first before e b; numbers = c.in_ok-print_entry.ensures.within }) (text ∙ printed) c.in_err-put.ensures)

pub returns : goal.returns
returns g c = record {
  put = λ first before e b.
      let a = c.in_ok-answer.answer in
      let next = c.in_ok-answer.ensures.next in
      let model = c.model.result.now in
      let text = c.as_slice.ensures.value ∙ (c.in_ok-print_entry.ensures.text 0 ∙ ap (λ (x : List ℕ). x ++ phrases_text model (entry_phrases model (record { command = c.args.command.now; answer = a; line = 0 }))) c.new-text.ensures.items) in
      let printed = printed_entry first before model c.args.command.now a (c.model.ensures ∙ ap (λ (v : HistoryValue). v.model) (next.goes_on first before e)) (next.right first before e b) in
      (a, (record { right = next.right first before e b; numbers = c.in_ok-print_entry.ensures.within }, (c.is_unmet.ensures, subst (PutWhole g.W.Sink.faults g.W.Sink.taken c.args.out.now c.put.new.out) (text ∙ printed) c.in_ok-put.ensures)));
  goes_on = λ first before e. c.in_ok-answer.ensures.next.goes_on first before e;
}
