use Rattle.std.proofs.Common.{sym}
use Rattle.std.proofs.lemmas.Result.{err_from_is_err_and}
use Rattle.lp_statements.specs.Grammar.{term, only}
use Rattle.lp_statements.specs.Spelling.{SpellsTerm}
use Rattle.lp_statements.proofs.Spelled.{read_fewer, term_read}
use Rattle.lp_statements.proofs.Repeats.{repeating-init, repeating-all, repeating-more, repeating-fails, kept_few}
use Rattle.lp_statements.proofs.grammar.more_terms.Goals as goal

pub loop-cursor-init : goal.loop-cursor-init
loop-cursor-init c = repeating-init term only c.args.cursor.now c.args.most c.args.terms.now.items c.requires

pub returns-in_err-term : goal.returns-in_err-term
returns-in_err-term c =
    let p = err_from_is_err_and c.from_residual.result c.from_residual.ensures.1 in
    rw (p.1, p.2) (repeating-fails term only c.args.cursor.now c.args.most c.loop-cursor.cursor c.args.terms.now.items c.loop-cursor.terms.items c.loop-cursor.invariant (sym c.loop-cursor-test.ensures) c.in_err-term.field-0.0 c.in_err-term.ensures)

pub put_term-requires : goal.put_term-requires
put_term-requires c = kept_few c.args.most c.loop-cursor.terms.items _ c.loop-cursor.invariant.items

pub loop-cursor-preserved : goal.loop-cursor-preserved
loop-cursor-preserved c =
    repeating-more term only c.args.cursor.now c.args.most c.loop-cursor.cursor c.args.terms.now.items c.loop-cursor.terms.items c.loop-cursor.invariant (sym c.loop-cursor-test.ensures) _ c.term.new.cursor c.put_term.new.terms.items c.in_ok-term.ensures
    (read_fewer SpellsTerm c.loop-cursor.cursor _ c.term.new.cursor (term_read c.loop-cursor.cursor _ c.term.new.cursor c.in_ok-term.ensures)) c.in_ok-put_term.ensures.ok

pub loop-cursor-smaller : goal.loop-cursor-smaller
loop-cursor-smaller c = read_fewer SpellsTerm c.loop-cursor.cursor _ c.term.new.cursor (term_read c.loop-cursor.cursor _ c.term.new.cursor c.in_ok-term.ensures)

pub returns : goal.returns
returns c = repeating-all term only c.args.cursor.now c.args.most c.loop-cursor.cursor c.args.terms.now.items c.loop-cursor.terms.items c.loop-cursor.invariant (sym c.loop-cursor-test.ensures)
