use Rattle.std.proofs.Common.{sym, ap, unwrap_or, ◌∙◌}
use Rattle.mps_reader.proofs.Taken.{row_taken, free_taken}
use Rattle.mps_reader.proofs.rows.put_row.Goals as goal

pub returns-then-not-is_free_kind : goal.returns-then-not-is_free_kind
returns-then-not-is_free_kind c = λ steps h.
    row_taken c.args.reader.now steps c.args.kind c.args.name.now h c.push.new.self c.in_ok-push.ensures.ok c.requires.short (sym c.is_free_kind.ensures ∙ c.if-not-is_free_kind.true) c.requires.room

pub returns : goal.returns
returns c = λ steps h.
    free_taken c.args.reader.now steps c.args.kind c.args.name.now h c.push.new.self c.unwrap_or.result c.in_ok-push.ensures.ok (c.unwrap_or.ensures ∙ ap (unwrap_or c.args.reader.now.objective) c.len-place.ensures.len) c.requires.short (sym c.is_free_kind.ensures ∙ c.if-not-is_free_kind.false)
