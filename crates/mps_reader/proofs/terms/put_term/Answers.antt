use Rattle.std.proofs.Common.{sym, ap, ◌∙◌, ◌++◌, List, slice_index_or, []}
use Rattle.rational.specs.Rational.{eq_ℚ}
use Rattle.rational.specs.Linear.{Term}
use Rattle.mps_reader.specs.Gathered.{terms_shown}
use Rattle.mps_reader.proofs.Spread.{put_one, cell_gives}
use Rattle.mps_reader.proofs.terms.put_term.Goals as goal

pub returns-clause-each : goal.returns-clause-each
returns-clause-each c = λ i h.
    put_one (λ v. v.items) c.args.rows.now.items c.args.cell.now.row (record { column = c.args.column; factor = c.args.cell.now.value }) c.index_mut.result.now c.push.new.self c.requires c.index_mut.ensures.value c.in_ok-push.ensures.items i h
    ∙ ap (λ (xs : List Term). slice_index_or (terms_shown c.args.rows.now.items) i [] ++ xs) (sym (cell_gives c.args.column i (c.args.cell.now.row, c.args.cell.now.value) (ap (eq_ℚ c.args.cell.now.value) (sym c.whole.ensures) ∙ sym c.eq.ensures ∙ c.if-eq.false)))
