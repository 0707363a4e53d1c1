use Rattle.std.proofs.Common.{sym}
use Rattle.std.proofs.lemmas.Result.{err_from_is_err_and}
use Rattle.lp_statements.specs.Grammar.{part, terms_in}
use Rattle.lp_statements.specs.Spelling.{SpellsPart}
use Rattle.lp_statements.proofs.Spelled.{read_fewer, part_read}
use Rattle.lp_statements.proofs.Repeats.{repeating-init, repeating-all, repeating-more, repeating-fails, kept_few}
use Rattle.lp_statements.proofs.grammar.more_parts.Goals as goal

pub loop-cursor-init : goal.loop-cursor-init
loop-cursor-init c = repeating-init part terms_in c.args.cursor.now c.args.most c.args.terms.now.items c.requires

pub returns-in_err-part : goal.returns-in_err-part
returns-in_err-part c =
    let p = err_from_is_err_and c.from_residual.result c.from_residual.ensures.1 in
    rw (p.1, p.2) (repeating-fails part terms_in c.args.cursor.now c.args.most c.loop-cursor.cursor c.args.terms.now.items c.loop-cursor.terms.items c.loop-cursor.invariant (sym c.loop-cursor-test.ensures) c.in_err-part.field-0.0 c.in_err-part.ensures)

pub put_part-requires : goal.put_part-requires
put_part-requires c = kept_few c.args.most c.loop-cursor.terms.items _ c.loop-cursor.invariant.items

pub loop-cursor-preserved : goal.loop-cursor-preserved
loop-cursor-preserved c =
    repeating-more part terms_in c.args.cursor.now c.args.most c.loop-cursor.cursor c.args.terms.now.items c.loop-cursor.terms.items c.loop-cursor.invariant (sym c.loop-cursor-test.ensures) _ c.part.new.cursor c.put_part.new.terms.items c.in_ok-part.ensures
    (read_fewer SpellsPart c.loop-cursor.cursor _ c.part.new.cursor (part_read c.loop-cursor.cursor _ c.part.new.cursor c.in_ok-part.ensures)) c.in_ok-put_part.ensures.ok

pub loop-cursor-smaller : goal.loop-cursor-smaller
loop-cursor-smaller c = read_fewer SpellsPart c.loop-cursor.cursor _ c.part.new.cursor (part_read c.loop-cursor.cursor _ c.part.new.cursor c.in_ok-part.ensures)

pub returns : goal.returns
returns c = repeating-all part terms_in c.args.cursor.now c.args.most c.loop-cursor.cursor c.args.terms.now.items c.loop-cursor.terms.items c.loop-cursor.invariant (sym c.loop-cursor-test.ensures)
