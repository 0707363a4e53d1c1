use Rattle.std.proofs.Common.{sym, subst, Ok}
use Rattle.mps_lines.specs.declared.lines.Said.{Said}
use Rattle.mps_lines.specs.Steps.{ToSense, ToRow, ToBound}
use Rattle.mps_lines.specs.Said.{bound_shown, steps_said}
use Rattle.mps_reader.specs.Lines.{TakesAll}
use Rattle.mps_reader.proofs.Firsts.{all_none}
use Rattle.mps_reader.proofs.Said.{takes_one}
use Rattle.mps_reader.proofs.reading.take_said.Goals as goal

pub returns-in-Nothing : goal.returns-in-Nothing
returns-in-Nothing c = subst (λ (said : Said). TakesAll c.args.reader.now c.args.reader.now c.args.line (steps_said said) (Ok tt)) (sym c.in-Nothing.is) (λ steps h. all_none c.args.line c.args.reader.now steps h)

pub returns-in-Sense : goal.returns-in-Sense
returns-in-Sense c = subst (λ (said : Said). TakesAll c.args.reader.now c.take_sense.new.reader c.args.line (steps_said said) c.take_sense.result) (sym c.in-Sense.is)
    (takes_one c.args.reader.now c.take_sense.new.reader c.args.line (ToSense c.in-Sense.greatest) c.take_sense.result c.take_sense.ensures)

pub returns-in-Row : goal.returns-in-Row
returns-in-Row c = subst (λ (said : Said). TakesAll c.args.reader.now c.take_row.new.reader c.args.line (steps_said said) c.take_row.result) (sym c.in-Row.is)
    (takes_one c.args.reader.now c.take_row.new.reader c.args.line (ToRow c.in-Row.kind c.in-Row.name.now) c.take_row.result c.take_row.ensures)

pub returns-in-Bound : goal.returns-in-Bound
returns-in-Bound c = subst (λ (said : Said). TakesAll c.args.reader.now c.take_bound.new.reader c.args.line (steps_said said) c.take_bound.result) (sym c.in-Bound.is)
    (takes_one c.args.reader.now c.take_bound.new.reader c.args.line (ToBound (bound_shown c.in-Bound.bound)) c.take_bound.result c.take_bound.ensures)

pub returns-in-Entries : goal.returns-in-Entries
returns-in-Entries c = subst (λ (said : Said). TakesAll c.args.reader.now c.take_entries.new.reader c.args.line (steps_said said) c.take_entries.result) (sym c.in-Entries.is) c.take_entries.ensures

pub returns-in-Sides : goal.returns-in-Sides
returns-in-Sides c = subst (λ (said : Said). TakesAll c.args.reader.now c.take_sides.new.reader c.args.line (steps_said said) c.take_sides.result) (sym c.in-Sides.is) c.take_sides.ensures

pub returns-in-Ranges : goal.returns-in-Ranges
returns-in-Ranges c = subst (λ (said : Said). TakesAll c.args.reader.now c.take_ranges.new.reader c.args.line (steps_said said) c.take_ranges.result) (sym c.in-Ranges.is) c.take_ranges.ensures
