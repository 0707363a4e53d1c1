use Rattle.std.proofs.Common.{refl, Some, []}
use Rattle.mps_reader.specs.Tables.{bound_in, sets_lower, sets_upper, makes_whole, rows_of}
use Rattle.mps_reader.specs.Sides.{lower_set, upper_set}
use Rattle.name_map.specs.Names.{names_of}
use Rattle.text_fields.specs.Numbers.{literal_in}
use Rattle.mps_reader.proofs.Started.{rows_started, columns_started, entries_started, sides_started, ranges_started, settings_started}
use Rattle.mps_reader.proofs.tables.start.Goals as goal

pub returns : goal.returns
returns c =
    let rows = names_of c.new.result in
    let columns = names_of c.new-2.result in
    record {
      sense = refl;
      rows = rows_started c.new.result c.new.ensures;
      columns = columns_started c.new-2.result c.new-2.ensures;
      entries = entries_started (rows_of []) rows columns c.new-3.result.entries c.new-3.ensures.len;
      rights = sides_started bound_in (λ v. v) (rows_of []) rows c.new-4.result.entries c.new-4.ensures.len;
      ranges = ranges_started literal_in Some (rows_of []) rows c.new-5.result.entries c.new-5.ensures.len;
      lowers = settings_started sets_lower lower_set columns c.new-6.result.entries c.new-6.ensures.len;
      uppers = settings_started sets_upper upper_set columns c.new-7.result.entries c.new-7.ensures.len;
      wholes = settings_started makes_whole (λ b. tt) columns c.new-8.result.entries c.new-8.ensures.len;
    }
