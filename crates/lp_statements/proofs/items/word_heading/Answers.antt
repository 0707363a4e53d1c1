use Rattle.std.proofs.Common.{sym, refl, ◌∙◌}
use Rattle.lp_statements.specs.Items.{word_heading}
use Rattle.lp_statements.proofs.Pieces.{colon_found}
use Rattle.lp_statements.proofs.items.word_heading.Goals as goal

pub returns-then-is_colon : goal.returns-then-is_colon
unfolding word_heading
returns-then-is_colon c = rw (sym (c.if-is_colon.ensures ∙ colon_found c.args.bytes.now c.args.after c.requires.after)) refl

pub returns : goal.returns
unfolding word_heading
returns c = rw (sym (c.if-is_colon.ensures ∙ colon_found c.args.bytes.now c.args.after c.requires.after)) cc
