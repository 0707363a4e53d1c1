use Rattle.std.proofs.Common.{ℕ, ap, ◌∙◌, subst, List, ◌++◌}
use Rattle.analysis.specs.Pieces.{TextPut}
use Rattle.analysis.specs.Written.{head_text}
use Rattle.analysis.proofs.pieces.put_head.Goals as goal

pub returns : goal.returns
returns g c =
    let text = c.as_slice.ensures.value ∙ (c.in_ok-print_head.ensures.text ∙ ap (λ (x : List ℕ). x ++ head_text c.args.model.now) c.new-text.ensures.items) in
    subst (λ (t : List ℕ). TextPut g.W.Sink.faults g.W.Sink.taken c.args.out.now c.put.new.out t c.put.result) text c.put.ensures
