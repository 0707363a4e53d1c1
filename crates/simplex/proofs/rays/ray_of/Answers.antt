use Rattle.std.proofs.Common.{◌≡◌, ◌<◌, List, sym, ◌∙◌, ap, subst, arith}
use Rattle.rational.specs.Rational.{ℚ}
use Rattle.lp_model.specs.Satisfaction.{values_at}
use Rattle.dictionary.specs.Value.{tableau_of}
use Rattle.simplex.specs.Rays.{change_along}
use Rattle.simplex.proofs.Ends.{free_raises}
use Rattle.simplex.proofs.Free.{free_ray_law}
use Rattle.simplex.proofs.rays.ray_of.Goals as goal

pub rises-upwards-requires-clause-known : goal.rises-upwards-requires-clause-known
rises-upwards-requires-clause-known c = (free_raises (tableau_of c.args.dictionary.now) c.args.entering c.requires.ended.1.0).known

pub rises-upwards-requires-clause-nonbasic : goal.rises-upwards-requires-clause-nonbasic
rises-upwards-requires-clause-nonbasic c = (free_raises (tableau_of c.args.dictionary.now) c.args.entering c.requires.ended.1.0).nonbasic

pub change-requires-clause-entering : goal.change-requires-clause-entering
change-requires-clause-entering c = (free_raises (tableau_of c.args.dictionary.now) c.args.entering c.requires.ended.1.0).known

pub change-requires-clause-nonbasic : goal.change-requires-clause-nonbasic
change-requires-clause-nonbasic c = (free_raises (tableau_of c.args.dictionary.now) c.args.entering c.requires.ended.1.0).nonbasic

pub returns-clause-ray : goal.returns-clause-ray
returns-clause-ray c = λ system some n of.
    (let t = tableau_of c.args.dictionary.now in
    let e : c.loop-column.column ≡ c.args.dictionary.now.columns = (let a = c.loop-column-test.false in let b = c.loop-column.auto in omega arith) ∙ c.columns-column-end.ensures in
    record {
      ray = change_along t c.args.entering;
      keeps = free_ray_law system t c.args.entering some of c.requires.ended.1.0;
      same = λ v l. ap (λ (z : List ℚ). values_at z v) c.new.ensures ∙ c.loop-column.invariant.values v (subst (λ z. v < z) (n ∙ sym e) l);
    })
