use Rattle.std.proofs.Common.{refl, ap, ◌∙◌}
use Rattle.name_map.specs.Names.{names_of}
use Rattle.lp_reader.proofs.Scripted.{holds_nothing}
use Rattle.lp_reader.proofs.reader.new_reader.Goals as goal

pub returns : goal.returns
returns c = holds_nothing _ (ap names_of c.new.ensures) c.new-2.ensures.items (ap names_of c.new-3.ensures) c.new-4.ensures.items refl (c.new-6.ensures ∙ c.new-5.ensures.items) refl
