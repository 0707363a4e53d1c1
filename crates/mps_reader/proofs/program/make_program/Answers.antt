use Rattle.std.proofs.Common.{ap, ◌∙◌}
use Rattle.lp_model.specs.Shown.{empty_program}
use Rattle.mps_reader.proofs.Meant.{program_is, places_within, few_are}
use Rattle.mps_reader.proofs.Summed.{sides_fit}
use Rattle.mps_reader.proofs.program.make_program.Goals as goal

pub put_all-requires-clause-before : goal.put_all-requires-clause-before
put_all-requires-clause-before c = c.new-model.ensures ∙ ap empty_program c.unwrap_or.ensures

pub put_all-requires-clause-sound : goal.put_all-requires-clause-sound
put_all-requires-clause-sound c =
    let reader = c.args.reader.now in
    let h = c.requires.holds in
    record {
      few = h.columns.few;
      few_rows = few_are reader c.requires.steps h c.names_differ.ensures c.names_differ-2.ensures;
      rows = record { apart = c.names_differ.ensures; short = h.rows.short };
      columns = record { apart = c.names_differ-2.ensures; short = h.columns.short };
      entries = places_within reader.rows reader.columns reader.entries.entries h.entries.within;
      objective = h.rows.objective_within;
      sides = sides_fit reader c.requires.steps h c.names_differ.ensures c.requires.sides;
    }

pub returns : goal.returns
returns c = λ steps h. c.in_ok-put_all.ensures ∙ program_is c.args.reader.now steps h c.names_differ.ensures c.names_differ-2.ensures
