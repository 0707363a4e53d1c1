use Rattle.std.proofs.Common.{sym}
use Rattle.text_fields.specs.Tokens.{lexeme_of}
use Rattle.lp_statements.proofs.Pieces.{item_plain, item_name, item_word, item_pair}
use Rattle.lp_statements.proofs.items.item_in.Goals as goal

pub returns-then-not-may_head-clause-item : goal.returns-then-not-may_head-clause-item
returns-then-not-may_head-clause-item c = item_plain c.args.bytes.now (lexeme_of c.args.bytes.now c.args.token) c.args.after.place _ (sym c.if-not-may_head.ensures) cc

pub returns-in-Some-clause-item : goal.returns-in-Some-clause-item
returns-in-Some-clause-item c = item_pair c.args.bytes.now (lexeme_of c.args.bytes.now c.args.token) c.args.after.place c.in-Some.last.place _ c.in-Some.heading (sym c.if-not-may_head.ensures) c.in-Some.ensures.0 c.in-Some.ensures.1 c.heading_item.ensures

pub returns-in-Some-word_heading-clause-item : goal.returns-in-Some-word_heading-clause-item
returns-in-Some-word_heading-clause-item c = item_word c.args.bytes.now (lexeme_of c.args.bytes.now c.args.token) c.args.after.place _ c.in-Some-word_heading.heading (sym c.if-not-may_head.ensures) c.in_default.ensures (sym c.in-Some-word_heading.ensures) c.heading_item-in-Some-word_heading.ensures

pub returns-clause-item : goal.returns-clause-item
returns-clause-item c = item_name c.args.bytes.now (lexeme_of c.args.bytes.now c.args.token) c.args.after.place _ (sym c.if-not-may_head.ensures) c.in_default.ensures (sym c.in_default-word_heading.ensures) cc
