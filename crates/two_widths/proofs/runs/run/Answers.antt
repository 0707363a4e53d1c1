use Rattle.std.proofs.Common.{◌∙◌, sym, ap, subst, IsSome}
use Rattle.certs.specs.Runs.End.{Feasible as IsFeasible, Infeasible as IsInfeasible}
use Rattle.certs.specs.System.{LinearSystem}
use Rattle.certs.specs.Turns.{settle_choice}
use Rattle.dictionary.specs.Value.{tableau_of}
use Rattle.simplex.specs.Ends.{HasRun, IsEnd, end_of}
use Rattle.simplex.specs.declared.settling.Settled.{Settled}
use Rattle.two_widths.specs.Ends.{IsChosen}
use Rattle.two_widths.specs.Runs.{EndsBy}
use Rattle.two_widths.specs.declared.runs.End.{End}
use Rattle.two_widths.proofs.Running.{chosen_as, improve_ends, improve_stops, none_of, settled_start, settles_here, some_of}
use Rattle.two_widths.proofs.runs.run.Goals as goal

pub returns-in-Infeasible-clause-ended : goal.returns-in-Infeasible-clause-ended
returns-in-Infeasible-clause-ended g c =
    let m = g.N.Exact.most in
    let system = c.args.system.now in
    let start = c.in-Ok.dictionary in
    let new = c.settle.new in
    let h = subst (λ (z : Settled). HasRun m system start.basis c.args.pivots 0 (end_of z) new.dictionary new.pivots new.turn) c.in-Infeasible.is (c.in-Ok-settle.ensures.run system c.in-Ok.ensures.0) in
    settles_here m system start c.args.pivots c.in-Ok.ensures.1.0 (IsInfeasible c.in-Infeasible.variable) new.dictionary new.pivots new.turn c.in-Ok-settle.ensures.ended.0 h

pub returns-in-Infeasible-clause-stands : goal.returns-in-Infeasible-clause-stands
returns-in-Infeasible-clause-stands g c =
    let ended = c.in-Ok-settle.ensures.ended in
    let choice = settle_choice (tableau_of c.settle.new.dictionary) in
    record {
      usable = ended.0;
      is_of = ((c.in-Ok-settle.ensures.run c.args.system.now c.in-Ok.ensures.0).stands ended.0).1;
      columns = c.settle.ensures.columns ∙ c.in-Ok.ensures.1.1.0;
      chosen = (subst (λ (z : Settled). IsEnd z choice) c.in-Infeasible.is ended.1.0, ended.1.1);
    }

pub returns-then-is_none-clause-ended : goal.returns-then-is_none-clause-ended
returns-then-is_none-clause-ended g c =
    let m = g.N.Exact.most in
    let system = c.args.system.now in
    let start = c.in-Ok.dictionary in
    let new = c.settle.new in
    let h = subst (λ (z : Settled). HasRun m system start.basis c.args.pivots 0 (end_of z) new.dictionary new.pivots new.turn) c.in_default-settled.is (c.in-Ok-settle.ensures.run system c.in-Ok.ensures.0) in (
      sym (ap (λ (s : LinearSystem). s.objective) c.system.view_is) ∙ none_of c.system.inside.objective c.is_none.result c.is_none.ensures c.if-is_none.true,
      settles_here m system start c.args.pivots c.in-Ok.ensures.1.0 IsFeasible new.dictionary new.pivots new.turn c.in-Ok-settle.ensures.ended.0 h,
    )

pub returns-then-is_none-clause-stands : goal.returns-then-is_none-clause-stands
returns-then-is_none-clause-stands g c =
    let ended = c.in-Ok-settle.ensures.ended in
    let choice = settle_choice (tableau_of c.settle.new.dictionary) in
    record {
      usable = ended.0;
      is_of = ((c.in-Ok-settle.ensures.run c.args.system.now c.in-Ok.ensures.0).stands ended.0).1;
      columns = c.settle.ensures.columns ∙ c.in-Ok.ensures.1.1.0;
      chosen = (subst (λ (z : Settled). IsEnd z choice) c.in_default-settled.is ended.1.0, ended.1.1);
    }

pub improve-requires-clause-objective : goal.improve-requires-clause-objective
improve-requires-clause-objective g c = record {
  system = c.args.system.now;
  of = ((c.in-Ok-settle.ensures.run c.args.system.now c.in-Ok.ensures.0).stands c.in-Ok-settle.ensures.ended.0).1;
  objective = subst (λ (s : LinearSystem). IsSome s.objective) c.system.view_is (some_of c.system.inside.objective c.is_none.result c.is_none.ensures c.if-is_none.false);
}

pub returns-in-Err-improve-clause-stop : goal.returns-in-Err-improve-clause-stop
returns-in-Err-improve-clause-stop g c =
    let m = g.N.Exact.most in
    let system = c.args.system.now in
    let start = c.in-Ok.dictionary in
    let new = c.settle.new in
    let now = c.improve.new in
    let usable = c.in-Ok-settle.ensures.ended.0 in
    let h = subst (λ (z : Settled). HasRun m system start.basis c.args.pivots 0 (end_of z) new.dictionary new.pivots new.turn) c.in_default-settled.is (c.in-Ok-settle.ensures.run system c.in-Ok.ensures.0) in
    let some = subst (λ (s : LinearSystem). IsSome s.objective) c.system.view_is (some_of c.system.inside.objective c.is_none.result c.is_none.ensures c.if-is_none.false) in
    improve_stops m system start c.args.pivots c.in-Ok.ensures.1.0 some new.dictionary new.pivots new.turn usable h now.dictionary now.pivots now.turn c.in-Err-improve.stop
    (c.in-Err-improve.ensures.run system (h.stands usable).1)

pub returns-clause-ended : goal.returns-clause-ended
returns-clause-ended g c =
    let m = g.N.Exact.most in
    let system = c.args.system.now in
    let start = c.in-Ok.dictionary in
    let new = c.settle.new in
    let now = c.improve.new in
    let usable = c.in-Ok-settle.ensures.ended.0 in
    let h = subst (λ (z : Settled). HasRun m system start.basis c.args.pivots 0 (end_of z) new.dictionary new.pivots new.turn) c.in_default-settled.is (c.in-Ok-settle.ensures.run system c.in-Ok.ensures.0) in
    let some = subst (λ (s : LinearSystem). IsSome s.objective) c.system.view_is (some_of c.system.inside.objective c.is_none.result c.is_none.ensures c.if-is_none.false) in
    subst (λ (e : End). EndsBy m system c.args.pivots e now.dictionary.basis) (sym c.last_end-end.ensures)
    (improve_ends m system start c.args.pivots c.in-Ok.ensures.1.0 some new.dictionary new.pivots new.turn usable h now.dictionary now.pivots now.turn c.in-Ok-improve.improved c.in-Ok-improve.ensures.ended.0
    (c.in-Ok-improve.ensures.run system (h.stands usable).1))

pub returns-clause-stands : goal.returns-clause-stands
returns-clause-stands g c =
    let m = g.N.Exact.most in
    let system = c.args.system.now in
    let start = c.in-Ok.dictionary in
    let new = c.settle.new in
    let now = c.improve.new in
    let usable = c.in-Ok-settle.ensures.ended.0 in
    let there = c.in-Ok-improve.ensures.ended.0 in
    let h = subst (λ (z : Settled). HasRun m system start.basis c.args.pivots 0 (end_of z) new.dictionary new.pivots new.turn) c.in_default-settled.is (c.in-Ok-settle.ensures.run system c.in-Ok.ensures.0) in
    let some = subst (λ (s : LinearSystem). IsSome s.objective) c.system.view_is (some_of c.system.inside.objective c.is_none.result c.is_none.ensures c.if-is_none.false) in
    let of = (h.stands usable).1 in
    let within = c.in-Ok-improve.ensures.keeps system of (settled_start m system start c.args.pivots c.in-Ok.ensures.1.0 some new.dictionary new.pivots new.turn usable h now.dictionary now.pivots now.turn c.requires.formed) there in
    record {
      usable = there;
      is_of = ((c.in-Ok-improve.ensures.run system of).stands there).1;
      columns = c.improve.ensures.columns ∙ c.settle.ensures.columns ∙ c.in-Ok.ensures.1.1.0;
      chosen = subst (IsChosen m system now.dictionary) (sym c.last_end-end.ensures) (chosen_as m system now.dictionary c.in-Ok-improve.improved c.in-Ok-improve.ensures.ended within);
    }
