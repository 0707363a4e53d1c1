use Rattle.report_text.specs.declared.phrases.Phrase.{Phrase}
use Rattle.report_reader.specs.declared.numbers.Number.{Number}
use Rattle.report_reader.specs.Kinds.{word, both}
use Rattle.report_reader.specs.Things.{point, number, dual, objective}
use Rattle.report_reader.proofs.Both.{both_read}
use Rattle.report_reader.proofs.Parts as parts
use Rattle.report_reader.proofs.answers.read_bounded.Goals as goal

pub returns-clause-read : goal.returns-clause-read
returns-clause-read c = (both_read c.args.model.now c.requires.names (word Phrase.Bounded) (both (point c.args.model.now) (both (objective) (both (number Number.Bound) (dual c.args.model.now)))) (parts.bounded_behind c.args.model.now c.requires.names) c.args.cursor.now c.pass_word.new.self c.read_combo-combo.new.cursor tt ((tt, c.read_point-point.result), (c.read_objective-objective.result, (c.read_number-bound.result, (tt, (c.read_combo-combo.result.shares, tt))))) c.pass_word.ensures.read c.pass_word.ensures.stands (both_read c.args.model.now c.requires.names (point c.args.model.now) (both (objective) (both (number Number.Bound) (dual c.args.model.now))) (parts.objective_behind c.args.model.now c.requires.names) c.pass_word.new.self c.read_point-point.new.cursor c.read_combo-combo.new.cursor (tt, c.read_point-point.result) (c.read_objective-objective.result, (c.read_number-bound.result, (tt, (c.read_combo-combo.result.shares, tt)))) c.read_point-point.ensures.read c.read_point-point.ensures.stands (both_read c.args.model.now c.requires.names (objective) (both (number Number.Bound) (dual c.args.model.now)) (parts.bound_behind c.args.model.now c.requires.names) c.read_point-point.new.cursor c.read_objective-objective.new.cursor c.read_combo-combo.new.cursor c.read_objective-objective.result (c.read_number-bound.result, (tt, (c.read_combo-combo.result.shares, tt))) c.read_objective-objective.ensures.read c.read_objective-objective.ensures.stands (both_read c.args.model.now c.requires.names (number Number.Bound) (dual c.args.model.now) (parts.dual_behind_bound c.args.model.now c.requires.names) c.read_objective-objective.new.cursor c.read_number-bound.new.cursor c.read_combo-combo.new.cursor c.read_number-bound.result (tt, (c.read_combo-combo.result.shares, tt)) c.read_number-bound.ensures.read c.read_number-bound.ensures.stands c.read_combo-combo.ensures.read c.read_combo-combo.ensures.stands) c.read_combo-combo.ensures.stands) c.read_combo-combo.ensures.stands) c.read_combo-combo.ensures.stands)
