use Rattle.std.proofs.lemmas.Result.{err_from_is_err_and}
use Rattle.lp_statements.specs.Grammar.{parts}
use Rattle.lp_statements.proofs.Repeats.{then_refused, parts_done}
use Rattle.lp_statements.proofs.grammar.parts.Goals as goal

pub returns-in_err-first : goal.returns-in_err-first
unfolding parts
returns-in_err-first c =
    let p = err_from_is_err_and c.from_residual.result c.from_residual.ensures.1 in
    rw (p.1, p.2) (then_refused _ _ c.in_err-first.field-0.0 c.in_err-first.ensures)

pub returns : goal.returns
unfolding parts
returns c = parts_done c.args.most _ _ c.part.new.cursor c.more_parts.new.cursor c.args.terms.now.items c.put_part.new.terms.items c.more_parts.new.terms.items c.more_parts.result c.in_ok-first.ensures c.in_ok-put_part.ensures.ok c.more_parts.ensures
