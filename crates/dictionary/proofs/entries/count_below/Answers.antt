use Rattle.std.proofs.Common.{◌<◌, ◌≤◌, ℕ, List, [], ◌∷◌, length, get_or, nat_lt, sym, ap, subst, arith, rules, inl, inr}
use Rattle.std.specs.List.Sorted.{IsNonDecreasingBy}
use Rattle.std.proofs.lemmas.Bool.{cases_eq, ltb-true, ltb-false}
use Rattle.std.proofs.lemmas.List.Sorted.{IsPartitionPoint-from_clause, IsPartitionedBy-ltb}
use Rattle.rational.specs.Rational.{ℚ}
use Rattle.rational.specs.Linear.{Term}
use Rattle.dictionary.specs.declared.entries.Entry.{Entry}
use Rattle.dictionary.specs.Rows.{terms_of, IsRow}
use Rattle.dictionary.proofs.Terms.{terms_get, terms_held, terms_within, some_term}
use Rattle.dictionary.proofs.Lists.{split_front}
use Rattle.dictionary.proofs.entries.count_below.Goals as goal

ascends : {N : Type 0} (v : N → ℚ) (xs : List (Entry N)) → IsRow (terms_of v xs) → IsNonDecreasingBy (λ (e : Entry N). e.variable) xs
ascends v xs row i j d l m =
    elim (cases_eq i j) [
      | inl e ↦ (let a = ap (λ k. (get_or xs k d).variable) e in omega arith)
      | inr e ↦
          (let h : i < length xs = omega arith in
          let a = row.ascending i j some_term (omega arith) (terms_within v xs j m) in
          let b = ap (λ (t : Term). t.column) (terms_get v xs i d some_term h) in
          let c = ap (λ (t : Term). t.column) (terms_get v xs j d some_term m) in
          omega (arith, a, b, c))
    ]

some_item : {X : Type 0} (xs : List X) (k : ℕ) → k < length xs → X
some_item [] k l = absurd (omega arith)
some_item (x ∷ xs) k l = x

pub returns : goal.returns
returns g c =
    let v = g.N.Exact.value in
    let xs = c.args.row.now in
    let n = c.args.variable in
    let parted = IsPartitionedBy-ltb (λ e. e.variable) xs n (ascends v xs c.requires) in
    let point = IsPartitionPoint-from_clause (λ e. nat_lt e.variable n) xs _ c.partition_point.ensures.partitioned parted (λ a r q k. search rules) in
    let split = split_front n c.partition_point.result (terms_of v xs)
    (λ k d l m. (let h = terms_held v xs k m in let x = some_item xs k h in subst (λ z. z < n) (sym (ap (λ (t : Term). t.column) (terms_get v xs k x d h))) (ltb-true _ _ (point.0 k x (omega arith) l))))
    (λ k d l m. (let h = terms_held v xs k m in let x = some_item xs k h in subst (λ z. n ≤ z) (sym (ap (λ (t : Term). t.column) (terms_get v xs k x d h))) (ltb-false _ _ (point.1 k x l h)))) in
    record { within = c.partition_point.ensures.bound; front = split.0; back = split.1 }
