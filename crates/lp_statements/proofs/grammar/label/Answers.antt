use Rattle.std.proofs.Common.{None, Some, ◌∙◌, sym, ap}
use Rattle.lp_statements.specs.Statements.{shown_text}
use Rattle.lp_statements.proofs.Steps.{no_name, no_colon, a_label}
use Rattle.lp_statements.proofs.grammar.label.Goals as goal

pub returns-then-not-is_colon_second : goal.returns-then-not-is_colon_second
returns-then-not-is_colon_second c = no_colon c.args.cursor.now (sym c.if-not-is_colon_second.ensures)

pub returns-in_default : goal.returns-in_default
returns-in_default c = no_name c.args.cursor.now c.in_default.ensures.0 ∙ ap (λ ps. (None, ps)) (sym c.in_default.ensures.1)

pub returns : goal.returns
returns c = a_label c.args.cursor.now c.take_name.new.cursor _ (sym c.if-not-is_colon_second.ensures) c.in-Some.ensures ∙ ap (λ ps. (Some (shown_text c.in-Some.name), ps)) (sym c.advance.ensures)
