-- Shares of a set's plain system that stand in order do so as shares of the program.
use Rattle.std.proofs.Common.{◌≡◌, ◌+◌, ◌*◌, ◌<◌, ◌≤◌, refl, sym, ◌∙◌, ap, subst, ℕ, Bool, cond, true, false, true≢false, List, [], ◌∷◌, ◌++◌, map, length, get_or, filter, arith, inl, inr, lt-ltb}
use Rattle.std.specs.Prelude.{All, AllPairs, IsTrue, flat_map, slice_index}
use Rattle.std.proofs.lemmas.Bool.{cases_lt, ltb-true}
use Rattle.std.proofs.lemmas.List.{append-nil, get_or-map, length-map}
use Rattle.std.proofs.lemmas.List.Elements.{All-get_or, All-head, All-map, All-tail, All-weaker}
use Rattle.std.proofs.lemmas.List.Kept.{AllPairs-filter}
use Rattle.lp_model.specs.declared.members.Member.{Member}
use Rattle.lp_model.specs.declared.members.Member.TheVariants.{RowLo, RowUp, Lower, Upper, Whole}
use Rattle.lp_model.specs.Program.{Program}
use Rattle.certs.specs.declared.evidence.Share.{Share}
use Rattle.certs.specs.declared.evidence.Source.{Source}
use Rattle.certs.specs.declared.evidence.Source.TheVariants.{Member as Of, Below, Above}
use Rattle.certs.specs.Ended.{numbers_from}
use Rattle.certs.specs.Named.{IsOfSystem, arranged, is_above, is_below, is_member, on_column, program_shares, stands_for, translated}
use Rattle.certs.specs.Order.{AreSharesInOrder, source_before}
use Rattle.certs.specs.Plain.{has_row, rows_in}
use Rattle.certs.proofs.Translated.{length_numbers, number_at}

-- ---- the rows of a set
numbers_ascend : (n : ℕ) → AllPairs (λ v w. v < w) (numbers_from 0 n)
numbers_ascend n i j d lt l =
    let within : j < n = subst (λ k. j < k) (length_numbers 0 n) l in
    let first : get_or (numbers_from 0 n) i d ≡ 0 + i = number_at 0 n i d (omega (arith, lt, within)) in
    let second : get_or (numbers_from 0 n) j d ≡ 0 + j = number_at 0 n j d within in
    omega (arith, first, second, lt)

module _ (model : Program) (set : List Member) where
  abbrev row : ℕ → ℕ
  row k = slice_index (rows_in model set) k

  abbrev many : ℕ
  many = length (rows_in model set)

  rows_ascend : (k l : ℕ) → k < l → l < many → row k < row l
  rows_ascend k l h b = AllPairs-filter (λ v w. v < w) (has_row set) (numbers_from 0 (length model.rows)) (numbers_ascend (length model.rows)) k l 0 h b

  rows_reach : (k l : ℕ) → k ≤ l → l < many → row k ≤ row l
  rows_reach k l h b =
      elim (cases_lt k l) [
        | inl less ↦ (let e = rows_ascend k l less b in omega (arith, e))
        | inr past ↦ (let e : k ≡ l = omega (arith, h, past) in let f : row k ≡ row l = ap row e in omega (arith, f))
      ]

  -- ---- what they stand for
  abbrev own : Source → Source
  own source = stands_for model set [] source

  -- in order in the system, in order in the program
  own_before : (columns : ℕ) (a b : Source) → IsOfSystem columns many a → IsOfSystem columns many b → IsTrue (source_before a b) → IsTrue (source_before (own a) (own b))
  own_before columns (Of (RowLo k)) (Of (RowLo l)) p q h = lt-ltb (2 * row k) (2 * row l) (let less = ltb-true (2 * k) (2 * l) h in let e = rows_ascend k l (omega (arith, less)) q in omega (arith, e))
  own_before columns (Of (RowLo k)) (Of (RowUp l)) p q h = lt-ltb (2 * row k) (2 * row l + 1) (let less = ltb-true (2 * k) (2 * l + 1) h in let e = rows_reach k l (omega (arith, less)) q in omega (arith, e))
  own_before columns (Of (RowUp k)) (Of (RowLo l)) p q h = lt-ltb (2 * row k + 1) (2 * row l) (let less = ltb-true (2 * k + 1) (2 * l) h in let e = rows_ascend k l (omega (arith, less)) q in omega (arith, e))
  own_before columns (Of (RowUp k)) (Of (RowUp l)) p q h = lt-ltb (2 * row k + 1) (2 * row l + 1) (let less = ltb-true (2 * k + 1) (2 * l + 1) h in let e = rows_ascend k l (omega (arith, less)) q in omega (arith, e))
  own_before columns (Of (RowLo k)) (Of (Lower j)) p q h = refl
  own_before columns (Of (RowLo k)) (Of (Upper j)) p q h = refl
  own_before columns (Of (RowUp k)) (Of (Lower j)) p q h = refl
  own_before columns (Of (RowUp k)) (Of (Upper j)) p q h = refl
  own_before columns (Of (Lower i)) (Of (RowLo l)) p q h = absurd (true≢false (sym h))
  own_before columns (Of (Lower i)) (Of (RowUp l)) p q h = absurd (true≢false (sym h))
  own_before columns (Of (Lower i)) (Of (Lower j)) p q h = h
  own_before columns (Of (Lower i)) (Of (Upper j)) p q h = refl
  own_before columns (Of (Upper i)) (Of (RowLo l)) p q h = absurd (true≢false (sym h))
  own_before columns (Of (Upper i)) (Of (RowUp l)) p q h = absurd (true≢false (sym h))
  own_before columns (Of (Upper i)) (Of (Lower j)) p q h = absurd (true≢false (sym h))
  own_before columns (Of (Upper i)) (Of (Upper j)) p q h = h
  own_before columns (Of (Whole i)) b p q h = absurd p
  own_before columns (Below i) b p q h = absurd p
  own_before columns (Above i) b p q h = absurd p
  own_before columns (Of (RowLo k)) (Of (Whole j)) p q h = absurd q
  own_before columns (Of (RowUp k)) (Of (Whole j)) p q h = absurd q
  own_before columns (Of (Lower i)) (Of (Whole j)) p q h = absurd q
  own_before columns (Of (Upper i)) (Of (Whole j)) p q h = absurd q
  own_before columns (Of (RowLo k)) (Below j) p q h = absurd q
  own_before columns (Of (RowUp k)) (Below j) p q h = absurd q
  own_before columns (Of (Lower i)) (Below j) p q h = absurd q
  own_before columns (Of (Upper i)) (Below j) p q h = absurd q
  own_before columns (Of (RowLo k)) (Above j) p q h = absurd q
  own_before columns (Of (RowUp k)) (Above j) p q h = absurd q
  own_before columns (Of (Lower i)) (Above j) p q h = absurd q
  own_before columns (Of (Upper i)) (Above j) p q h = absurd q

  own_member : (columns : ℕ) (a : Source) → IsOfSystem columns many a → is_member (own a) ≡ true
  own_member columns (Of (RowLo k)) p = refl
  own_member columns (Of (RowUp k)) p = refl
  own_member columns (Of (Lower j)) p = refl
  own_member columns (Of (Upper j)) p = refl
  own_member columns (Of (Whole j)) p = absurd p
  own_member columns (Below j) p = absurd p
  own_member columns (Above j) p = absurd p

-- ---- shares of members alone
no_branch : (a : Source) (j : ℕ) → is_member a ≡ true → (is_below j a ≡ false) × (is_above j a ≡ false)
no_branch (Of m) j h = (refl, refl)
no_branch (Below k) j h = absurd (true≢false (sym h))
no_branch (Above k) j h = absurd (true≢false (sym h))

none_kept : {A : Type 0} (p : A → Bool) (xs : List A) → All (λ x. p x ≡ false) xs → filter p xs ≡ []
none_kept p [] h = refl
none_kept p (x ∷ xs) h = ap (λ b. cond b (x ∷ filter p xs) (filter p xs)) (All-head (λ x. p x ≡ false) x xs h) ∙ none_kept p xs (All-tail (λ x. p x ≡ false) x xs h)

abbrev AreOfMembers : List Share → Type 0
AreOfMembers shares = All (λ (s : Share). is_member s.source ≡ true) shares

none_on : (shares : List Share) → AreOfMembers shares → (j : ℕ) → on_column shares j ≡ []
none_on shares h j =
    ap (λ (l : List Share). l ++ filter (λ s. is_above j s.source) shares)
    (none_kept (λ (s : Share). is_below j s.source) shares (All-weaker (λ (s : Share). is_member s.source ≡ true) (λ (s : Share). is_below j s.source ≡ false) (λ s e. (no_branch s.source j e).0) shares h))
    ∙ none_kept (λ (s : Share). is_above j s.source) shares (All-weaker (λ (s : Share). is_member s.source ≡ true) (λ (s : Share). is_above j s.source ≡ false) (λ s e. (no_branch s.source j e).1) shares h)

none_of : (shares : List Share) → AreOfMembers shares → (js : List ℕ) → flat_map (on_column shares) js ≡ []
none_of shares h [] = refl
none_of shares h (j ∷ js) = ap (λ (l : List Share). l ++ flat_map (on_column shares) js) (none_on shares h j) ∙ none_of shares h js

-- they stay in order when arranged
arranged_members : (columns : ℕ) (shares : List Share) → AreOfMembers shares → AreSharesInOrder shares → AreSharesInOrder (arranged columns shares)
arranged_members columns shares h order =
    let kept : List Share = filter (λ s. is_member s.source) shares in
    subst AreSharesInOrder (sym (ap (λ (l : List Share). kept ++ l) (none_of shares h (numbers_from 0 columns)) ∙ append-nil kept))
    (AllPairs-filter (λ (s t : Share). IsTrue (source_before s.source t.source)) (λ (s : Share). is_member s.source) shares order)

-- shares of the set's plain system, in order there
pub placed_in_order : (model : Program) (set : List Member) (shares : List Share) → All (λ (s : Share). IsOfSystem (length model.columns) (length (rows_in model set)) s.source) shares
    → AreSharesInOrder shares → AreSharesInOrder (program_shares model set [] shares)
placed_in_order model set shares known order =
    let put : Share → Share = translated model set [] in
    let columns : ℕ = length model.columns in
    let rows : ℕ = length (rows_in model set) in
    arranged_members columns (map put shares)
    (All-map (λ (s : Share). is_member s.source ≡ true) put shares
    (All-weaker (λ (s : Share). IsOfSystem columns rows s.source) (λ (s : Share). is_member (put s).source ≡ true) (λ s e. own_member model set columns s.source e) shares known))
    (λ i j d lt l.
    let within : j < length shares = subst (λ k. j < k) (length-map shares put) l in
    let first : get_or (map put shares) i d ≡ put (get_or shares i d) = get_or-map put shares i d d (omega (arith, lt, within)) in
    let second : get_or (map put shares) j d ≡ put (get_or shares j d) = get_or-map put shares j d d within in
    subst (λ (s : Share). IsTrue (source_before s.source (get_or (map put shares) j d).source)) (sym first)
    (subst (λ (t : Share). IsTrue (source_before (put (get_or shares i d)).source t.source)) (sym second)
    (own_before model set columns (get_or shares i d).source (get_or shares j d).source
    (All-get_or (λ (s : Share). IsOfSystem columns rows s.source) shares i d (omega (arith, lt, within)) known)
    (All-get_or (λ (s : Share). IsOfSystem columns rows s.source) shares j d within known)
    (order i j d lt within))))
