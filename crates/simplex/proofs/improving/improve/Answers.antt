use Rattle.std.proofs.Common.{◌≡◌, ◌≢◌, ◌+◌, ◌-◌, ◌^◌, ◌<◌, ◌≤◌, ℕ, suc, true≢false, Some, Err, refl, sym, ◌∙◌, ap, subst, arith}
use Rattle.std.proofs.Common.{List, None}
use Rattle.frac128.proofs.Calculations.{first_wide-nil}
use Rattle.certs.specs.System.{Place}
use Rattle.certs.specs.Tableau.{Tableau, limits_at, value_of}
use Rattle.certs.specs.Improves.{Improvement, improve_choice, improved}
use Rattle.certs.specs.Improves.Improvement.{Optimal, Free, Flip, Leaves}
use Rattle.dictionary.specs.Layouts.{side_of}
use Rattle.dictionary.specs.Value.{DictionaryValue, tableau_of}
use Rattle.bland_law.specs.Ends.{limited_count}
use Rattle.bland_law.proofs.Bases.{few_turns}
use Rattle.bland_law.proofs.Climbs.{stays_within}
use Rattle.certs.specs.Ended.{IsWithin}
use Rattle.simplex.specs.ImproveChosen.{choice_named}
use Rattle.simplex.specs.declared.settling.RunStop.{RunStop}
use Rattle.simplex.specs.ImproveEnds.{HasObjective, ImprovedBy, IsInterrupted, IsSpent}
use Rattle.simplex.proofs.Stops.{by_stop, improve_not_spent}
use Rattle.simplex.proofs.Turned.{HasLimits, work_values, work_leave, can_leave, has_limits}
use Rattle.simplex.proofs.Reached.{still_reached}
use Rattle.simplex.proofs.improving.improve.Goals as goal

none : (n : ℕ) → n ≡ 0 → n ≡ 1 → ⊥
none n e f = omega arith

next_turn : (turn begun made : ℕ) → turn ≡ begun + made → turn + 1 ≡ suc (begun + made)
next_turn turn begun made e = omega arith

-- the turn that is begun and the pivots left, where so many turns are made
sum_kept : (turn left begun budget made : ℕ) → made + left ≡ budget → turn ≡ begun + made → turn + 1 + left ≤ begun + budget + 1
sum_kept turn left begun budget made e f = omega arith

more : (made left budget : ℕ) → left ≢ 0 → made + left ≡ budget → suc made + (left - 1) ≡ budget
more made left budget n e = omega arith

later : (turn begun made : ℕ) → turn ≡ begun + made → turn + 1 ≡ begun + suc made
later turn begun made e = omega arith

one_some : ◌≢◌ {A = ℕ} 1 0
one_some e = none 1 e refl

pub returns-in-Err-clause-run : goal.returns-in-Err-clause-run
returns-in-Err-clause-run g c = λ system of.
    (let i = still_reached c.choose.ensures.same c.loop-choice.invariant in
    let d = c.choose.new.dictionary in
    let t = tableau_of d in
    let r = i.made.1.1.1 system of in
    record {
      last = d.basis;
      run = record {
        made = i.made.0;
        budget_is = i.made.1.0;
        reaches = r.1;
        turns_are = next_turn c.loop-choice.turn c.args.turn.now i.made.0 i.made.1.1.0;
        ends = (refl, record { here = record { tableau = t; is_of = r.0; at = refl }; first = work_values g.N.Exact.most t c.loop-choice.pivots c.in-Err.wide c.in-Err.ensures.choice });
      };
      stands = λ u. (refl, r.0);
      lost = λ u. absurd (true≢false (sym i.usable ∙ u));
    })

pub returns-in-Err-clause-keeps : goal.returns-in-Err-clause-keeps
returns-in-Err-clause-keeps g c = λ system of start usable v l.
    (let i = still_reached c.choose.ensures.same c.loop-choice.invariant in
    let d = c.choose.new.dictionary in
    let r = i.made.1.1.1 system of in
    stays_within g.N.Exact.most system c.args.dictionary.now.basis d.basis i.made.0 start.formed start.objective start.settled r.1 (tableau_of d) r.0 refl v l)

pub returns-in-Optimal-clause-run : goal.returns-in-Optimal-clause-run
returns-in-Optimal-clause-run g c = λ system of.
    (let i = still_reached c.choose.ensures.same c.loop-choice.invariant in
    let d = c.choose.new.dictionary in
    let t = tableau_of d in
    let r = i.made.1.1.1 system of in
    let chosen : improve_choice t ≡ Optimal = sym (ap choice_named (sym c.in-Optimal.is) ∙ c.in-Ok.ensures.choice.1) in
    record {
      last = d.basis;
      run = record {
        made = i.made.0;
        budget_is = i.made.1.0;
        reaches = r.1;
        turns_are = next_turn c.loop-choice.turn c.args.turn.now i.made.0 i.made.1.1.0;
        ends = record { here = record { tableau = t; is_of = r.0; at = refl }; chosen = chosen; narrow = c.in-Ok.ensures.choice.0 };
      };
      stands = λ u. (refl, r.0);
      lost = λ u. absurd (true≢false (sym i.usable ∙ u));
    })

pub returns-in-Optimal-clause-keeps : goal.returns-in-Optimal-clause-keeps
returns-in-Optimal-clause-keeps g c = λ system of start usable v l.
    (let i = still_reached c.choose.ensures.same c.loop-choice.invariant in
    let d = c.choose.new.dictionary in
    let r = i.made.1.1.1 system of in
    stays_within g.N.Exact.most system c.args.dictionary.now.basis d.basis i.made.0 start.formed start.objective start.settled r.1 (tableau_of d) r.0 refl v l)

pub returns-in-Free-clause-run : goal.returns-in-Free-clause-run
returns-in-Free-clause-run g c = λ system of.
    (let i = still_reached c.choose.ensures.same c.loop-choice.invariant in
    let d = c.choose.new.dictionary in
    let t = tableau_of d in
    let r = i.made.1.1.1 system of in
    let chosen : improve_choice t ≡ Free c.in-Free.variable = sym (ap choice_named (sym c.in-Free.is) ∙ c.in-Ok.ensures.choice.1) in
    record {
      last = d.basis;
      run = record {
        made = i.made.0;
        budget_is = i.made.1.0;
        reaches = r.1;
        turns_are = next_turn c.loop-choice.turn c.args.turn.now i.made.0 i.made.1.1.0;
        ends = record { here = record { tableau = t; is_of = r.0; at = refl }; chosen = chosen; narrow = c.in-Ok.ensures.choice.0 };
      };
      stands = λ u. (refl, r.0);
      lost = λ u. absurd (true≢false (sym i.usable ∙ u));
    })

pub returns-in-Free-clause-keeps : goal.returns-in-Free-clause-keeps
returns-in-Free-clause-keeps g c = λ system of start usable v l.
    (let i = still_reached c.choose.ensures.same c.loop-choice.invariant in
    let d = c.choose.new.dictionary in
    let r = i.made.1.1.1 system of in
    stays_within g.N.Exact.most system c.args.dictionary.now.basis d.basis i.made.0 start.formed start.objective start.settled r.1 (tableau_of d) r.0 refl v l)

pub returns-then-pivots-eq0-clause-run : goal.returns-then-pivots-eq0-clause-run
returns-then-pivots-eq0-clause-run g c = λ system of.
    (let i = still_reached c.choose.ensures.same c.loop-choice.invariant in
    let d = c.choose.new.dictionary in
    let t = tableau_of d in
    let r = i.made.1.1.1 system of in
    let chosen : improve_choice t ≡ Flip c.in-Flip.variable = sym (ap choice_named (sym c.in-Flip.is) ∙ c.in-Ok.ensures.choice.1) in
    record {
      last = d.basis;
      run = record {
        made = i.made.0;
        budget_is = i.made.1.0;
        reaches = r.1;
        turns_are = next_turn c.loop-choice.turn c.args.turn.now i.made.0 i.made.1.1.0;
        ends = (c.if-pivots-eq0.true, record { here = record { tableau = t; is_of = r.0; at = refl }; next = _; due = ap (improved t) chosen; narrow = c.in-Ok.ensures.choice.0 });
      };
      stands = λ u. (refl, r.0);
      lost = λ u. absurd (true≢false (sym i.usable ∙ u));
    })

pub returns-then-pivots-eq0-clause-keeps : goal.returns-then-pivots-eq0-clause-keeps
returns-then-pivots-eq0-clause-keeps g c = λ system of start usable v l.
    (let i = still_reached c.choose.ensures.same c.loop-choice.invariant in
    let d = c.choose.new.dictionary in
    let r = i.made.1.1.1 system of in
    stays_within g.N.Exact.most system c.args.dictionary.now.basis d.basis i.made.0 start.formed start.objective start.settled r.1 (tableau_of d) r.0 refl v l)

pub returns-then-pivots-eq0-clause-never_spent : goal.returns-then-pivots-eq0-clause-never_spent
returns-then-pivots-eq0-clause-never_spent g c = λ system of start enough spent.
    (let i = still_reached c.choose.ensures.same c.loop-choice.invariant in
    let d = c.choose.new.dictionary in
    let r = i.made.1.1.1 system of in
    let few : i.made.0 < 3 ^ limited_count system = few_turns system start.objective g.N.Exact.most start.formed c.args.dictionary.now.basis start.settled i.made.0 d.basis r.1 (record { tableau = tableau_of d; is_of = r.0; at = refl }) in
    let whole : i.made.0 + c.loop-choice.pivots ≡ c.args.pivots.now = i.made.1.0 in
    let none : c.loop-choice.pivots ≡ 0 = c.if-pivots-eq0.true in
    absurd (omega arith))

-- what a change of place may do
flips : (t : Tableau) (j : ℕ) (c : Improvement) → c ≡ improve_choice t → c ≡ Flip j → HasLimits t j
flips t j c e f = has_limits t j (sym e ∙ f)

pub flip-requires-clause-known : goal.flip-requires-clause-known
flip-requires-clause-known g c = (flips (tableau_of c.choose.new.dictionary) c.in-Flip.variable _ c.in-Ok.ensures.choice.1 (ap choice_named c.in-Flip.is)).at.known

pub flip-requires-clause-nonbasic : goal.flip-requires-clause-nonbasic
flip-requires-clause-nonbasic g c = (flips (tableau_of c.choose.new.dictionary) c.in-Flip.variable _ c.in-Ok.ensures.choice.1 (ap choice_named c.in-Flip.is)).at.nonbasic

pub flip-requires-clause-lower : goal.flip-requires-clause-lower
flip-requires-clause-lower g c = (flips (tableau_of c.choose.new.dictionary) c.in-Flip.variable _ c.in-Ok.ensures.choice.1 (ap choice_named c.in-Flip.is)).lower

pub flip-requires-clause-upper : goal.flip-requires-clause-upper
flip-requires-clause-upper g c = (flips (tableau_of c.choose.new.dictionary) c.in-Flip.variable _ c.in-Ok.ensures.choice.1 (ap choice_named c.in-Flip.is)).upper

pub loop-choice-preserved-in-Flip : goal.loop-choice-preserved-in-Flip
loop-choice-preserved-in-Flip g c =
    let i = still_reached c.choose.ensures.same c.loop-choice.invariant in
    let d = c.choose.new.dictionary in
    let t = tableau_of d in
    let chosen : improve_choice t ≡ Flip c.in-Flip.variable = sym (ap choice_named (sym c.in-Flip.is) ∙ c.in-Ok.ensures.choice.1) in
    record {
      usable = c.flip.ensures.usable;
      columns = c.flip.ensures.columns ∙ i.columns;
      made = (
        suc i.made.0,
        (
          more i.made.0 c.loop-choice.pivots c.args.pivots.now c.if-pivots-eq0.false i.made.1.0,
          (
            later c.loop-choice.turn c.args.turn.now i.made.0 i.made.1.1.0,
            λ system of.
                (let r = i.made.1.1.1 system of in (
                  c.flip.ensures.system system r.0,
                  (
                    d.basis,
                    (
                      r.1,
                      record {
                        here = record { tableau = t; is_of = r.0; at = refl };
                        moves = ap (improved t) chosen ∙ ap (λ (b : List Place). Some b) (sym (ap (λ (u : Tableau). u.basis) c.flip.ensures.turned));
                        narrow = work_leave g.N.Exact.most t 1 (Flip c.in-Flip.variable) None one_some chosen c.in-Ok.ensures.choice.0 (first_wide-nil g.N.Exact.most);
                      },
                    ),
                  ),
                )),
          ),
        ),
      );
    }

pub returns-then-pivots-eq0-2-clause-run : goal.returns-then-pivots-eq0-2-clause-run
returns-then-pivots-eq0-2-clause-run g c = λ system of.
    (let i = still_reached c.choose.ensures.same c.loop-choice.invariant in
    let d = c.choose.new.dictionary in
    let t = tableau_of d in
    let r = i.made.1.1.1 system of in
    let chosen : improve_choice t ≡ Leaves c.in-Leaves.leaving (side_of c.in-Leaves.upper) c.in-Leaves.entering = sym (ap choice_named (sym c.in-Leaves.is) ∙ c.in-Ok.ensures.choice.1) in
    record {
      last = d.basis;
      run = record {
        made = i.made.0;
        budget_is = i.made.1.0;
        reaches = r.1;
        turns_are = next_turn c.loop-choice.turn c.args.turn.now i.made.0 i.made.1.1.0;
        ends = (c.if-pivots-eq0-2.true, record { here = record { tableau = t; is_of = r.0; at = refl }; next = _; due = ap (improved t) chosen; narrow = c.in-Ok.ensures.choice.0 });
      };
      stands = λ u. (refl, r.0);
      lost = λ u. absurd (true≢false (sym i.usable ∙ u));
    })

pub returns-then-pivots-eq0-2-clause-keeps : goal.returns-then-pivots-eq0-2-clause-keeps
returns-then-pivots-eq0-2-clause-keeps g c = λ system of start usable v l.
    (let i = still_reached c.choose.ensures.same c.loop-choice.invariant in
    let d = c.choose.new.dictionary in
    let r = i.made.1.1.1 system of in
    stays_within g.N.Exact.most system c.args.dictionary.now.basis d.basis i.made.0 start.formed start.objective start.settled r.1 (tableau_of d) r.0 refl v l)

pub returns-then-pivots-eq0-2-clause-never_spent : goal.returns-then-pivots-eq0-2-clause-never_spent
returns-then-pivots-eq0-2-clause-never_spent g c = λ system of start enough spent.
    (let i = still_reached c.choose.ensures.same c.loop-choice.invariant in
    let d = c.choose.new.dictionary in
    let r = i.made.1.1.1 system of in
    let few : i.made.0 < 3 ^ limited_count system = few_turns system start.objective g.N.Exact.most start.formed c.args.dictionary.now.basis start.settled i.made.0 d.basis r.1 (record { tableau = tableau_of d; is_of = r.0; at = refl }) in
    let whole : i.made.0 + c.loop-choice.pivots ≡ c.args.pivots.now = i.made.1.0 in
    let none : c.loop-choice.pivots ≡ 0 = c.if-pivots-eq0-2.true in
    absurd (omega arith))

pub pivot-requires-clause-can : goal.pivot-requires-clause-can
pivot-requires-clause-can g c =
    can_leave (tableau_of c.choose.new.dictionary) c.in-Leaves.leaving (side_of c.in-Leaves.upper) c.in-Leaves.entering (sym (ap choice_named (sym c.in-Leaves.is) ∙ c.in-Ok.ensures.choice.1))

pub returns-in-Err-pivot-clause-run : goal.returns-in-Err-pivot-clause-run
returns-in-Err-pivot-clause-run g c = λ system of.
    (let i = still_reached c.choose.ensures.same c.loop-choice.invariant in
    let d = c.choose.new.dictionary in
    let new = c.pivot.new.self in
    let m = g.N.Exact.most in
    let t = tableau_of d in
    let r = i.made.1.1.1 system of in
    let n = next_turn c.loop-choice.turn c.args.turn.now i.made.0 i.made.1.1.0 in
    let chosen : improve_choice t ≡ Leaves c.in-Leaves.leaving (side_of c.in-Leaves.upper) c.in-Leaves.entering = sym (ap choice_named (sym c.in-Leaves.is) ∙ c.in-Ok.ensures.choice.1) in
    let P : RunStop → Type 0 = λ z. ImprovedBy m system c.args.dictionary.now.basis c.args.pivots.now c.args.turn.now (Err z) new c.loop-choice.pivots (c.loop-choice.turn + 1) in
    subst P (sym c.told.ensures)
    (by_stop m d new c.in-Leaves.leaving c.in-Leaves.entering (c.loop-choice.turn + 1) P c.in-Err-pivot.stop c.in-Err-pivot.ensures.done
    (λ o h lost.
    record {
      last = d.basis;
      run = record {
        made = i.made.0;
        budget_is = i.made.1.0;
        reaches = r.1;
        turns_are = n;
        ends = (refl, record { here = record { tableau = t; is_of = r.0; at = refl }; first = work_leave m t c.loop-choice.pivots (Leaves c.in-Leaves.leaving (side_of c.in-Leaves.upper) c.in-Leaves.entering) (Some o) c.if-pivots-eq0-2.false chosen c.in-Ok.ensures.choice.0 h });
      };
      stands = λ u. absurd (true≢false (sym u ∙ lost));
      lost = λ u. (record { tableau = t; is_of = r.0; at = refl }, c.in-Ok.ensures.choice.0);
    })
    (λ same.
    subst (λ w. IsInterrupted m system c.args.dictionary.now.basis c.args.pivots.now c.args.turn.now w c.loop-choice.pivots (c.loop-choice.turn + 1)) (sym same)
    (record { made = i.made.0; budget_is = i.made.1.0; reaches = r.1; turns_are = n; usable = i.usable; is_of = r.0 }))))

pub returns-in-Err-pivot-clause-spent : goal.returns-in-Err-pivot-clause-spent
returns-in-Err-pivot-clause-spent g c = λ s. absurd (improve_not_spent (c.loop-choice.turn + 1) c.in-Err-pivot.stop (subst (λ z. IsSpent (Err z)) c.told.ensures s))

pub returns-in-Err-pivot-clause-keeps : goal.returns-in-Err-pivot-clause-keeps
returns-in-Err-pivot-clause-keeps g c = λ system of start usable v l.
    (let i = still_reached c.choose.ensures.same c.loop-choice.invariant in
    let d = c.choose.new.dictionary in
    let new = c.pivot.new.self in
    let m = g.N.Exact.most in
    let t = tableau_of d in
    let r = i.made.1.1.1 system of in
    by_stop m d new c.in-Leaves.leaving c.in-Leaves.entering 0 (λ z. IsWithin (limits_at (tableau_of new) v) (value_of (tableau_of new) v)) c.in-Err-pivot.stop c.in-Err-pivot.ensures.done (λ o h lost. absurd (true≢false (sym usable ∙ lost)))
    (λ same.
    subst (λ (w : DictionaryValue). IsWithin (limits_at (tableau_of w) v) (value_of (tableau_of w) v)) (sym same)
    (stays_within m system c.args.dictionary.now.basis d.basis i.made.0 start.formed start.objective start.settled r.1 t r.0 refl v l)))

pub returns-in-Err-pivot-clause-never_spent : goal.returns-in-Err-pivot-clause-never_spent
returns-in-Err-pivot-clause-never_spent g c = λ system of start enough s. improve_not_spent (c.loop-choice.turn + 1) c.in-Err-pivot.stop (subst (λ z. IsSpent (Err z)) c.told.ensures s)

pub returns-in-Err-pivot-clause-objective : goal.returns-in-Err-pivot-clause-objective
returns-in-Err-pivot-clause-objective g c = λ usable.
    (let i = still_reached c.choose.ensures.same c.loop-choice.invariant in
    let d = c.choose.new.dictionary in
    let new = c.pivot.new.self in
    let m = g.N.Exact.most in
    let t = tableau_of d in
    let o = c.requires.objective in
    by_stop m d new c.in-Leaves.leaving c.in-Leaves.entering 0 (λ z. HasObjective new) c.in-Err-pivot.stop c.in-Err-pivot.ensures.done (λ w h lost. absurd (true≢false (sym usable ∙ lost)))
    (λ same. subst HasObjective (sym same) (record { system = o.system; of = (i.made.1.1.1 o.system o.of).0; objective = o.objective })))

pub loop-choice-preserved : goal.loop-choice-preserved
loop-choice-preserved g c =
    let i = still_reached c.choose.ensures.same c.loop-choice.invariant in
    let d = c.choose.new.dictionary in
    let t = tableau_of d in
    let chosen : improve_choice t ≡ Leaves c.in-Leaves.leaving (side_of c.in-Leaves.upper) c.in-Leaves.entering = sym (ap choice_named (sym c.in-Leaves.is) ∙ c.in-Ok.ensures.choice.1) in
    record {
      usable = c.in_default.ensures.done.1.1;
      columns = c.in_default.ensures.columns ∙ i.columns;
      made = (
        suc i.made.0,
        (
          more i.made.0 c.loop-choice.pivots c.args.pivots.now c.if-pivots-eq0-2.false i.made.1.0,
          (
            later c.loop-choice.turn c.args.turn.now i.made.0 i.made.1.1.0,
            λ system of.
                (let r = i.made.1.1.1 system of in (
                  c.in_default.ensures.system system r.0,
                  (
                    d.basis,
                    (
                      r.1,
                      record {
                        here = record { tableau = t; is_of = r.0; at = refl };
                        moves = ap (improved t) chosen ∙ ap (λ (b : List Place). Some b) (sym c.in_default.ensures.done.1.0.basis);
                        narrow = work_leave g.N.Exact.most t 1 (Leaves c.in-Leaves.leaving (side_of c.in-Leaves.upper) c.in-Leaves.entering) None one_some chosen c.in-Ok.ensures.choice.0 c.in_default.ensures.done.0;
                      },
                    ),
                  ),
                )),
          ),
        ),
      );
    }
