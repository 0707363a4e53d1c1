use Rattle.text_fields.specs.Tokens.{lexeme_of}
use Rattle.lp_statements.proofs.Pieces.{refused_from}
use Rattle.lp_statements.proofs.items.seen_in.Goals as goal

pub returns-in-Refused : goal.returns-in-Refused
returns-in-Refused c = refused_from c.args.bytes.now (lexeme_of c.args.bytes.now c.args.token) c.args.after.place c.item_in-item.result.1.place c.item_in-item.result.0 c.in-Refused.kind c.item_in-item.ensures.item c.in-Refused.is
