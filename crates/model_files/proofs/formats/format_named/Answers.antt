use Rattle.std.proofs.Common.{drop, sym, ap, ◌∙◌}
use Rattle.std.specs.Prelude.{cond, codes}
use Rattle.std.specs.Str.{str_eq_ignore_ascii_case}
use Rattle.std.proofs.lemmas.List.{take_rest}
use Rattle.model_files.specs.declared.formats.Format.TheVariants.{Mps, Lp}
use Rattle.model_files.specs.Formats.{format_of}
use Rattle.model_files.proofs.formats.format_named.Goals as goal

pub returns-then-is_lp_end : goal.returns-then-is_lp_end
unfolding format_of
returns-then-is_lp_end c =
    let n = c.args.name.now in
    sym (ap (λ b. cond b Lp Mps) (ap (λ k. str_eq_ignore_ascii_case (drop k n) (codes ".lp")) (sym c.saturating_sub.ensures)
    ∙ ap (λ t. str_eq_ignore_ascii_case t (codes ".lp")) (sym (take_rest n c.saturating_sub.result))
    ∙ sym c.is_lp_end.ensures ∙ c.if-is_lp_end.true))

pub returns : goal.returns
unfolding format_of
returns c =
    let n = c.args.name.now in
    sym (ap (λ b. cond b Lp Mps) (ap (λ k. str_eq_ignore_ascii_case (drop k n) (codes ".lp")) (sym c.saturating_sub.ensures)
    ∙ ap (λ t. str_eq_ignore_ascii_case t (codes ".lp")) (sym (take_rest n c.saturating_sub.result))
    ∙ sym c.is_lp_end.ensures ∙ c.if-is_lp_end.false))
