use Rattle.std.proofs.Common.{refl, ◌∙◌}
use Rattle.dictionary.specs.Value.{tableau_of}
use Rattle.unbounded.proofs.Ending.{count, system, within}
use Rattle.unbounded.proofs.Rays.{program_ray}
use Rattle.unbounded.proofs.ends.unbounded_at.Goals as goal

pub ray_of-requires-clause-columns : goal.ray_of-requires-clause-columns
ray_of-requires-clause-columns c = within c.args.model.now c.args.set.now.members c.args.dictionary.now c.requires.stands

pub returns-clause-found : goal.returns-clause-found
returns-clause-found c =
    let model = c.args.model.now in
    let set = c.args.set.now.members in
    let now = c.args.dictionary.now in
    let stands = c.requires.stands in
    record {
      point_of = c.in_ok-point.ensures.point;
      each_column = c.in_ok-ray.ensures.values.0 ∙ stands.columns;
      improving = program_ray model set c.in_ok-ray.ray.values stands.formed (c.in_ok-ray.ensures.ray (system model set now stands) refl (count model set now stands) stands.is_of);
    }

pub returns-clause-last : goal.returns-clause-last
returns-clause-last c = λ pivots run none.
    (let now = c.args.dictionary.now in (
      c.args.entering,
      record {
        basis = now.basis;
        run = run;
        here = record { tableau = tableau_of now; is_of = c.requires.stands.is_of; at = refl };
        values_are = c.in_ok-point.ensures.unmarked none;
      },
    ))
