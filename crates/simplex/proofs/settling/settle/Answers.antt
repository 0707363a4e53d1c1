use Rattle.std.proofs.Common.{◌≡◌, ◌≢◌, ◌+◌, ◌-◌, ◌^◌, ◌<◌, ◌≤◌, ℕ, suc, true≢false, Err, refl, sym, ◌∙◌, subst, arith}
use Rattle.certs.specs.Turns.{settle_choice}
use Rattle.dictionary.specs.Layouts.{side_of}
use Rattle.dictionary.specs.Value.{tableau_of}
use Rattle.simplex.specs.Chosen.{IsChosen}
use Rattle.simplex.specs.declared.settling.RunStop.{RunStop}
use Rattle.simplex.specs.Ends.{IsInterrupted, IsSpent, RanBy}
use Rattle.simplex.proofs.Stops.{by_stop, not_spent}
use Rattle.bland_law.specs.Ends.{limited_count}
use Rattle.bland_law.proofs.Endings.{few_pivots_law}
use Rattle.certs.proofs.Choices.{can_of, work-values, work-pivot}
use Rattle.simplex.proofs.Reached.{still_reached}
use Rattle.simplex.proofs.settling.settle.Goals as goal

none : (n : ℕ) → n ≡ 0 → n ≡ 1 → ⊥
none n e f = omega arith

next_turn : (turn begun made : ℕ) → turn ≡ begun + made → turn + 1 ≡ suc (begun + made)
next_turn turn begun made e = omega arith

-- the turn that is begun and the pivots left, where so many pivots are made
sum_kept : (turn left begun budget made : ℕ) → made + left ≡ budget → turn ≡ begun + made → turn + 1 + left ≤ begun + budget + 1
sum_kept turn left begun budget made e f = omega arith

pub loop-choice-init : goal.loop-choice-init
loop-choice-init g c = record {
  usable = c.requires.usable;
  columns = refl;
  made = (0, (omega arith, (omega arith, λ system of. (of, refl))));
}

pub returns-in-Err-clause-run : goal.returns-in-Err-clause-run
returns-in-Err-clause-run g c = λ system of.
    (let i = still_reached c.choose.ensures.same c.loop-choice.invariant in
    let d = c.choose.new.dictionary in
    let r = i.made.1.1.1 system of in
    let n = next_turn c.loop-choice.turn c.args.turn.now i.made.0 i.made.1.1.0 in
    record {
      last = d.basis;
      run = record {
        made = i.made.0;
        budget_is = i.made.1.0;
        reaches = r.1;
        turns_are = n;
        ends = (refl, record { here = record { tableau = tableau_of d; is_of = r.0; at = refl }; first = work-values g.N.Exact.most (tableau_of d) c.loop-choice.pivots c.in-Err.wide c.in-Err.ensures.choice });
      };
      stands = λ u. (refl, r.0);
      lost = λ u. absurd (true≢false (sym i.usable ∙ u));
    })

pub returns-in-Settled-clause-run : goal.returns-in-Settled-clause-run
returns-in-Settled-clause-run g c = λ system of.
    (let i = still_reached c.choose.ensures.same c.loop-choice.invariant in
    let d = c.choose.new.dictionary in
    let r = i.made.1.1.1 system of in
    let n = next_turn c.loop-choice.turn c.args.turn.now i.made.0 i.made.1.1.0 in
    let chosen = subst (λ z. IsChosen z (settle_choice (tableau_of d))) c.in-Settled.is c.in-Ok.ensures.choice.1 in
    record {
      last = d.basis;
      run = record {
        made = i.made.0;
        budget_is = i.made.1.0;
        reaches = r.1;
        turns_are = n;
        ends = record { here = record { tableau = tableau_of d; is_of = r.0; at = refl }; chosen = chosen; narrow = c.in-Ok.ensures.choice.0 };
      };
      stands = λ u. (refl, r.0);
      lost = λ u. absurd (true≢false (sym i.usable ∙ u));
    })

pub returns-in-Settled-clause-ended : goal.returns-in-Settled-clause-ended
returns-in-Settled-clause-ended g c = ((still_reached c.choose.ensures.same c.loop-choice.invariant).usable, (subst (λ z. IsChosen z (settle_choice (tableau_of c.choose.new.dictionary))) c.in-Settled.is c.in-Ok.ensures.choice.1, c.in-Ok.ensures.choice.0))

pub returns-in-Blocked-clause-run : goal.returns-in-Blocked-clause-run
returns-in-Blocked-clause-run g c = λ system of.
    (let i = still_reached c.choose.ensures.same c.loop-choice.invariant in
    let d = c.choose.new.dictionary in
    let r = i.made.1.1.1 system of in
    let n = next_turn c.loop-choice.turn c.args.turn.now i.made.0 i.made.1.1.0 in
    let chosen = subst (λ z. IsChosen z (settle_choice (tableau_of d))) c.in-Blocked.is c.in-Ok.ensures.choice.1 in
    record {
      last = d.basis;
      run = record {
        made = i.made.0;
        budget_is = i.made.1.0;
        reaches = r.1;
        turns_are = n;
        ends = record { here = record { tableau = tableau_of d; is_of = r.0; at = refl }; side = chosen.0; chosen = chosen.1; narrow = c.in-Ok.ensures.choice.0 };
      };
      stands = λ u. (refl, r.0);
      lost = λ u. absurd (true≢false (sym i.usable ∙ u));
    })

pub returns-in-Blocked-clause-ended : goal.returns-in-Blocked-clause-ended
returns-in-Blocked-clause-ended g c = ((still_reached c.choose.ensures.same c.loop-choice.invariant).usable, (subst (λ z. IsChosen z (settle_choice (tableau_of c.choose.new.dictionary))) c.in-Blocked.is c.in-Ok.ensures.choice.1, c.in-Ok.ensures.choice.0))

pub returns-then-pivots-eq0-clause-run : goal.returns-then-pivots-eq0-clause-run
returns-then-pivots-eq0-clause-run g c = λ system of.
    (let i = still_reached c.choose.ensures.same c.loop-choice.invariant in
    let d = c.choose.new.dictionary in
    let r = i.made.1.1.1 system of in
    let n = next_turn c.loop-choice.turn c.args.turn.now i.made.0 i.made.1.1.0 in
    let chosen = subst (λ z. IsChosen z (settle_choice (tableau_of d))) c.in-Exchange.is c.in-Ok.ensures.choice.1 in
    record {
      last = d.basis;
      run = record {
        made = i.made.0;
        budget_is = i.made.1.0;
        reaches = r.1;
        turns_are = n;
        ends = (c.if-pivots-eq0.true, record { here = record { tableau = tableau_of d; is_of = r.0; at = refl }; leaving = _; side = _; entering = _; due = chosen; narrow = c.in-Ok.ensures.choice.0 });
      };
      stands = λ u. (refl, r.0);
      lost = λ u. absurd (true≢false (sym i.usable ∙ u));
    })

pub returns-then-pivots-eq0-clause-never_spent : goal.returns-then-pivots-eq0-clause-never_spent
returns-then-pivots-eq0-clause-never_spent g c = λ system of formed enough spent.
    (let i = still_reached c.choose.ensures.same c.loop-choice.invariant in
    let d = c.choose.new.dictionary in
    let r = i.made.1.1.1 system of in
    let few : i.made.0 < 3 ^ limited_count system = few_pivots_law g.N.Exact.most system i.made.0 c.args.dictionary.now.basis d.basis formed r.1 in
    let whole : i.made.0 + c.loop-choice.pivots ≡ c.args.pivots.now = i.made.1.0 in
    let none : c.loop-choice.pivots ≡ 0 = c.if-pivots-eq0.true in
    absurd (omega arith))

pub pivot-requires-clause-can : goal.pivot-requires-clause-can
pivot-requires-clause-can g c =
    let t = tableau_of c.choose.new.dictionary in
    can_of t c.in-Exchange.leaving (side_of c.in-Exchange.upper) c.in-Exchange.entering (subst (λ z. IsChosen z (settle_choice t)) c.in-Exchange.is c.in-Ok.ensures.choice.1)

pub returns-in-Err-pivot-clause-run : goal.returns-in-Err-pivot-clause-run
returns-in-Err-pivot-clause-run g c = λ system of.
    (let i = still_reached c.choose.ensures.same c.loop-choice.invariant in
    let d = c.choose.new.dictionary in
    let new = c.pivot.new.self in
    let r = i.made.1.1.1 system of in
    let m = g.N.Exact.most in
    let n = next_turn c.loop-choice.turn c.args.turn.now i.made.0 i.made.1.1.0 in
    let chosen = subst (λ z. IsChosen z (settle_choice (tableau_of d))) c.in-Exchange.is c.in-Ok.ensures.choice.1 in
    let P : RunStop → Type 0 = λ z. RanBy m system c.args.dictionary.now.basis c.args.pivots.now c.args.turn.now (Err z) new c.loop-choice.pivots (c.loop-choice.turn + 1) in
    subst P (sym c.told.ensures)
    (by_stop m d new c.in-Exchange.leaving c.in-Exchange.entering (c.loop-choice.turn + 1) P c.in-Err-pivot.stop c.in-Err-pivot.ensures.done
    (λ o h lost.
    record {
      last = d.basis;
      run = record {
        made = i.made.0;
        budget_is = i.made.1.0;
        reaches = r.1;
        turns_are = n;
        ends = (
          refl,
          record {
            here = record { tableau = tableau_of d; is_of = r.0; at = refl };
            first = work-pivot m (tableau_of d) c.loop-choice.pivots _ _ _ _ c.if-pivots-eq0.false chosen c.in-Ok.ensures.choice.0 h;
          },
        );
      };
      stands = λ u. absurd (true≢false (sym u ∙ lost));
      lost = λ u. (record { tableau = tableau_of d; is_of = r.0; at = refl }, c.in-Ok.ensures.choice.0);
    })
    (λ same.
    subst (λ w. IsInterrupted m system c.args.dictionary.now.basis c.args.pivots.now c.args.turn.now w c.loop-choice.pivots (c.loop-choice.turn + 1)) (sym same)
    (record { made = i.made.0; budget_is = i.made.1.0; reaches = r.1; turns_are = n; usable = i.usable; is_of = r.0 }))))

pub returns-in-Err-pivot-clause-spent : goal.returns-in-Err-pivot-clause-spent
returns-in-Err-pivot-clause-spent g c = λ s. absurd (not_spent (c.loop-choice.turn + 1) c.in-Err-pivot.stop (subst (λ z. IsSpent (Err z)) c.told.ensures s))

pub returns-in-Err-pivot-clause-never_spent : goal.returns-in-Err-pivot-clause-never_spent
returns-in-Err-pivot-clause-never_spent g c = λ system of formed enough s. not_spent (c.loop-choice.turn + 1) c.in-Err-pivot.stop (subst (λ z. IsSpent (Err z)) c.told.ensures s)

pub returns-in-Err-clause-sum : goal.returns-in-Err-clause-sum
returns-in-Err-clause-sum g c =
    let i = still_reached c.choose.ensures.same c.loop-choice.invariant in
    sum_kept c.loop-choice.turn c.loop-choice.pivots c.args.turn.now c.args.pivots.now i.made.0 i.made.1.0 i.made.1.1.0

pub returns-in-Settled-clause-sum : goal.returns-in-Settled-clause-sum
returns-in-Settled-clause-sum g c =
    let i = still_reached c.choose.ensures.same c.loop-choice.invariant in
    sum_kept c.loop-choice.turn c.loop-choice.pivots c.args.turn.now c.args.pivots.now i.made.0 i.made.1.0 i.made.1.1.0

pub returns-in-Blocked-clause-sum : goal.returns-in-Blocked-clause-sum
returns-in-Blocked-clause-sum g c =
    let i = still_reached c.choose.ensures.same c.loop-choice.invariant in
    sum_kept c.loop-choice.turn c.loop-choice.pivots c.args.turn.now c.args.pivots.now i.made.0 i.made.1.0 i.made.1.1.0

pub returns-then-pivots-eq0-clause-sum : goal.returns-then-pivots-eq0-clause-sum
returns-then-pivots-eq0-clause-sum g c =
    let i = still_reached c.choose.ensures.same c.loop-choice.invariant in
    sum_kept c.loop-choice.turn c.loop-choice.pivots c.args.turn.now c.args.pivots.now i.made.0 i.made.1.0 i.made.1.1.0

pub returns-in-Err-pivot-clause-sum : goal.returns-in-Err-pivot-clause-sum
returns-in-Err-pivot-clause-sum g c =
    let i = still_reached c.choose.ensures.same c.loop-choice.invariant in
    sum_kept c.loop-choice.turn c.loop-choice.pivots c.args.turn.now c.args.pivots.now i.made.0 i.made.1.0 i.made.1.1.0

pub loop-choice-preserved : goal.loop-choice-preserved
loop-choice-preserved g c =
    let i = still_reached c.choose.ensures.same c.loop-choice.invariant in
    let d = c.choose.new.dictionary in
    let t = tableau_of d in
    let done = c.in_default.ensures.done in
    let chosen = subst (λ z. IsChosen z (settle_choice t)) c.in-Exchange.is c.in-Ok.ensures.choice.1 in
    record {
      usable = done.1.1;
      columns = c.in_default.ensures.columns ∙ i.columns;
      made = (
        suc i.made.0,
        (
          more i.made.0 c.loop-choice.pivots c.args.pivots.now c.if-pivots-eq0.false i.made.1.0,
          (
            later c.loop-choice.turn c.args.turn.now i.made.0 i.made.1.1.0,
            λ system of.
                (let r = i.made.1.1.1 system of in (
                  c.in_default.ensures.system system r.0,
                  (
                    d.basis,
                    (
                      r.1,
                      record {
                        here = record { tableau = t; is_of = r.0; at = refl };
                        leaving = _;
                        side = _;
                        entering = _;
                        due = chosen;
                        narrow = work-pivot g.N.Exact.most t 1 _ _ _ _ one_some chosen c.in-Ok.ensures.choice.0 done.0;
                        next_is = done.1.0.basis;
                      },
                    ),
                  ),
                )),
          ),
        ),
      );
    }
  where
    more : (made left budget : ℕ) → left ≢ 0 → made + left ≡ budget → suc made + (left - 1) ≡ budget
    more made left budget n e = omega arith

    later : (turn begun made : ℕ) → turn ≡ begun + made → turn + 1 ≡ begun + suc made
    later turn begun made e = omega arith

    one_some : ◌≢◌ {A = ℕ} 1 0
    one_some e = none 1 e refl
