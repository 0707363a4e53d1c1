use Rattle.std.proofs.Common.{ℕ, ap, ◌∙◌, subst, List, ◌++◌, false}
use Rattle.lp_model.specs.Shown.{empty_program}
use Rattle.analysis.specs.Pieces.{TextPut}
use Rattle.analysis.specs.Written.{foot_text}
use Rattle.analysis.proofs.pieces.put_foot.Goals as goal

pub returns : goal.returns
returns g c =
    let text = c.as_slice.ensures.value ∙ (c.in_ok-print_foot.ensures.text (empty_program false) ∙ ap (λ (x : List ℕ). x ++ foot_text) c.new-text.ensures.items) in
    subst (λ (t : List ℕ). TextPut g.W.Sink.faults g.W.Sink.taken c.args.out.now c.put.new.out t c.put.result) text c.put.ensures
