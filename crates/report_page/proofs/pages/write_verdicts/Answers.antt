use Rattle.std.proofs.Common.{◌∙◌, [], ◌∷◌, ◌++◌}
use Rattle.report_page.proofs.Marked.{more, then_more}
use Rattle.report_page.proofs.Turned.{fresh_at}
use Rattle.report_page.proofs.pages.write_verdicts.Goals as goal

pub loop-entry-init : goal.loop-entry-init
loop-entry-init c = record {
  at = record { before = []; at = fresh_at c.args.session.now c.requires.fresh };
  marked = c.in_ok-write_fixed.ensures;
}

pub returns-in_err-take-clause-of_program : goal.returns-in_err-take-clause-of_program
returns-in_err-take-clause-of_program c = let on = c.loop-entry.invariant.at in record { before = on.before; at = c.in_err-take.ensures.unchanged ∙ on.at }

pub loop-entry-preserved : goal.loop-entry-preserved
loop-entry-preserved c =
    let on = c.loop-entry.invariant.at in
    record {
      at = record {
        before = on.before ++ c.entry-item.result.command ∷ [];
        at = c.in_ok-take.ensures.taken.goes_on c.args.session.now.model on.before on.at;
      };
      marked = more _ _ _ c.loop-entry.invariant.marked c.in_ok-write_verdict.ensures;
    }

pub returns-clause-written : goal.returns-clause-written
returns-clause-written c = then_more _ _ _ c.write_fixed-2.result c.loop-entry.invariant.marked c.write_fixed-2.ensures
