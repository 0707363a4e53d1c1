use Rattle.std.proofs.Common.{◌∙◌, sym, subst, refl, ◌<◌}
use Rattle.dictionary.specs.Value.{tableau_of}
use Rattle.linear_oracle.proofs.ends.point_end.Goals as goal

pub returns-in-Ok : goal.returns-in-Ok
returns-in-Ok c = λ model set path pivots h. record {
  last = c.args.dictionary.now.basis;
  run = h.run;
  here = record { tableau = tableau_of c.args.dictionary.now; is_of = h.is_of; at = refl };
  count = c.in-Ok.ensures.values.0 ∙ h.columns;
  values_are = λ j l. c.in-Ok.ensures.values.1 j (subst (λ n. j < n) (sym h.columns) l);
}
