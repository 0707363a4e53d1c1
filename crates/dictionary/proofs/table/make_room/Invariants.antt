use Rattle.std.proofs.Common.{◌≡◌, ◌≢◌, ◌+◌, ◌≤◌, [], length, take, map, vec_capacity}
use Rattle.std.specs.Prelude.{All}
use Rattle.rational.specs.Rational.{zero_ℚ}
use Rattle.rational.specs.Linear.{factor_of}
use Rattle.dictionary.specs.Rows.{terms_of, IsRow}
use Rattle.dictionary.proofs.table.make_room.Given as goal

-- the entries stay, and in the rows passed there is room
abbrev pub invariant-loop-place : goal.invariant-loop-place
invariant-loop-place g l =
    let v = g.N.Exact.value in
    record {
      same : map (λ r. r.items) l.rows ≡ map (λ r. r.items) l.fn.rows;
      empty : l.spare.items ≡ [];
      rows : All (λ r. IsRow (terms_of v r.items)) l.rows;
      room : All (λ r. factor_of (terms_of v r.items) l.entering ≢ zero_ℚ → length r.items + l.more ≤ vec_capacity r) (take l.place l.rows);
      spare : All (λ r. factor_of (terms_of v r.items) l.entering ≢ zero_ℚ → length r.items ≤ vec_capacity l.spare) (take l.place l.rows);
    }
