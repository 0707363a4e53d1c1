use Rattle.std.proofs.Common.{◌≢◌, ◌+◌, ◌<◌, ◌≤◌, length, vec_capacity, refl, sym, ◌∙◌, ap, subst, arith}
use Rattle.std.specs.Prelude.{All}
use Rattle.std.proofs.lemmas.List.{take_all}
use Rattle.std.proofs.lemmas.List.Elements.{All-set}
use Rattle.rational.specs.Rational.{zero_ℚ}
use Rattle.rational.specs.Linear.{factor_of}
use Rattle.dictionary.specs.Rows.{terms_of, IsRow}
use Rattle.dictionary.proofs.Steps.{map_same, passed-more}
use Rattle.dictionary.proofs.table.make_room.Goals as goal

pub loop-place-init : goal.loop-place-init
loop-place-init g c = record { same = refl; empty = c.clear.ensures.items; rows = c.requires; room = λ k d l. absurd (omega (arith, l)); spare = λ k d l. absurd (omega (arith, l)) }

pub make_row_room-requires-clause-row : goal.make_row_room-requires-clause-row
make_row_room-requires-clause-row g c = c.loop-place.invariant.rows c.loop-place.place c.index-rows-place.result (subst (λ n. c.loop-place.place < n) (sym c.loop-place.auto.rows) c.loop-place-test.true)

pub make_row_room-requires-clause-empty : goal.make_row_room-requires-clause-empty
make_row_room-requires-clause-empty g c = c.loop-place.invariant.empty

pub returns-in_err-make_row_room-clause-same : goal.returns-in_err-make_row_room-clause-same
returns-in_err-make_row_room-clause-same g c =
    map_same (λ r. r.items) c.loop-place.rows c.loop-place.place c.make_row_room.new.row c.index-rows-place.result c.make_row_room.ensures.row ∙ c.loop-place.invariant.same

pub loop-place-preserved : goal.loop-place-preserved
loop-place-preserved g c =
    let v = g.N.Exact.value in
    let i = c.loop-place.place in
    let x = c.index-rows-place.result in
    let new = c.make_row_room.new.row in
    let J = c.args.entering in
    let l : i < length c.loop-place.rows = subst (λ n. i < n) (sym c.loop-place.auto.rows) c.loop-place-test.true in
    let same = c.make_row_room.ensures.row in
    let spare = c.make_row_room.ensures.capacity in
    record {
      same = map_same (λ r. r.items) c.loop-place.rows i new x same ∙ c.loop-place.invariant.same;
      empty = c.make_row_room.ensures.empty;
      rows = All-set (λ r. IsRow (terms_of v r.items)) c.loop-place.rows i new (subst (λ z. IsRow (terms_of v z)) (sym same) (c.loop-place.invariant.rows i x l)) c.loop-place.invariant.rows;
      room = passed-more (λ r. factor_of (terms_of v r.items) J ≢ zero_ℚ → length r.items + c.args.more ≤ vec_capacity r) c.loop-place.rows i new l c.loop-place.invariant.room
          (λ n. c.in_ok-make_row_room.ensures.room (λ z. n (ap (λ s. factor_of (terms_of v s) J) same ∙ z)));
      spare = passed-more (λ r. factor_of (terms_of v r.items) J ≢ zero_ℚ → length r.items ≤ vec_capacity c.make_row_room.new.spare) c.loop-place.rows i new l
          (λ k d m n. (let a = c.loop-place.invariant.spare k d m n in omega (arith, a, spare)))
          (λ n. c.in_ok-make_row_room.ensures.spare (λ z. n (ap (λ s. factor_of (terms_of v s) J) same ∙ z)));
    }

pub returns-clause-same : goal.returns-clause-same
returns-clause-same g c = c.loop-place.invariant.same

pub returns-clause-room : goal.returns-clause-room
returns-clause-room g c =
    let v = g.N.Exact.value in
    let e = take_all c.loop-place.place c.loop-place.rows (subst (λ n. n ≤ c.loop-place.place) (sym c.loop-place.auto.rows) c.loop-place-test.false) in
    subst (All (λ r. factor_of (terms_of v r.items) c.args.entering ≢ zero_ℚ → length r.items + c.args.more ≤ vec_capacity r)) e c.loop-place.invariant.room

pub returns-clause-spare : goal.returns-clause-spare
returns-clause-spare g c =
    let v = g.N.Exact.value in
    let e = take_all c.loop-place.place c.loop-place.rows (subst (λ n. n ≤ c.loop-place.place) (sym c.loop-place.auto.rows) c.loop-place-test.false) in
    subst (All (λ r. factor_of (terms_of v r.items) c.args.entering ≢ zero_ℚ → length r.items ≤ vec_capacity c.loop-place.spare)) e c.loop-place.invariant.spare
