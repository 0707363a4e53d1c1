use Rattle.std.proofs.Common.{ℕ, List, [], sym, subst, length, arith, ◌∙◌}
use Rattle.std.specs.Option.{option_map_or}
use Rattle.lp_model.specs.Program.{Program, IsForm}
use Rattle.rational.specs.Linear.{Term}
use Rattle.mps_reader.specs.Gathered.{terms_shown}
use Rattle.mps_reader.specs.Built.{column_held, terms_held}
use Rattle.mps_reader.proofs.Made.{objective_is, objective_form, length_listed}
use Rattle.mps_reader.proofs.program.put_objective.Goals as goal

pub set_objective-requires : goal.set_objective-requires
set_objective-requires c =
    let reader = c.args.reader.now in
    let same = c.in_ok-form.ensures ∙ objective_is reader (terms_shown c.args.terms.now) reader.objective c.requires.sound.objective (λ i h. c.requires.terms i (omega arith) h) in
    subst (λ (p : Program × List Term). IsForm (length p.0.columns) p.1) (λ k. (sym c.requires.before k, sym same k))
    (subst (λ (n : ℕ). IsForm n (option_map_or (terms_held reader) reader.objective [])) (sym (length_listed (column_held reader) (length reader.columns))) (objective_form reader reader.objective))

pub returns : goal.returns
returns c =
    let reader = c.args.reader.now in
    let same = c.in_ok-form.ensures ∙ objective_is reader (terms_shown c.args.terms.now) reader.objective c.requires.sound.objective (λ i h. c.requires.terms i (omega arith) h) in
    c.set_objective.ensures ∙ (λ k. let p : Program = record (c.requires.before k) { objective = same k; maximise = c.unwrap_or.ensures k } in p)
