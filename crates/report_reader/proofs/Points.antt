-- Values of a point: each line one that is not 0, in the order of columns.
use Rattle.std.proofs.Common.{◌≡◌, ◌≢◌, ◌<◌, ◌≤◌, refl, sym, ap, subst, ◌∙◌, ℕ, zero, suc, ◌+◌, ◌-◌, Bool, true, false, true≢false, cond, ◌&&◌, List, [], ◌∷◌, ◌++◌, length, append-nil, arith, ◌⊎◌, inl, inr, Option, Some, None}
use Rattle.std.specs.Result.{is_err}
use Rattle.std.specs.Prelude.{OnOk, OnErr, map, Result, Ok, Err, replicate, All, nat_lt, nat_le}
use Rattle.std.specs.List.{list_all}
use Rattle.std.proofs.lemmas.List.{map-append, length-append, length-replicate}
use Rattle.std.proofs.lemmas.List.Elements.{All-nil, All-append, All-push, All-replicate}
use Rattle.std.proofs.lemmas.Bool.{and_parts, and_from, lt-ltb, le-leb, leb-true, ltb-true}
use Rattle.algebra.specs.Gcd.{gcd, gcd_within}
use Rattle.rational.specs.Rational.{ℚ, frac, zero_ℚ, eq_ℚ}
use Rattle.rational.proofs.Compare.{eq-Decides}
use Rattle.lp_model.specs.Program.{Program, IsWellFormed}
use Rattle.lp_model.specs.Satisfaction.{values_at}
use Rattle.certs.specs.declared.evidence.Point.{Point}
use Rattle.report_text.specs.declared.phrases.Phrase.{Phrase}
use Rattle.report_text.specs.Grammar.{column_name, value_phrases}
use Rattle.report_text.specs.Form.{is_word, IsWithinLimit, IsPointFor}
use Rattle.phrase_reader.specs.Phrases.{IsPhraseFor}
use Rattle.std.proofs.lemmas.Bool.Decides.{nat_tests}
use Rattle.report_reader.specs.declared.reader.ReportStop.{ReportStop}
use Rattle.report_reader.specs.declared.cursor.Cursor.{Cursor}
use Rattle.report_reader.specs.Kinds.{next_in, is_there, IsEnded, IsRead, IsCursor, IsCursorAt, Passes}
use Rattle.report_reader.specs.Things.{found, value_of, next_value, nonzeros, may_value, values as values_kind}
use Rattle.report_reader.proofs.Both.{Alone}
use Rattle.report_reader.proofs.Passing.{says, Looping, loop_start, more_reading, list_alone, room, room_less}
use Rattle.report_reader.proofs.Found.{value_finds}

-- values with zeros behind them, up to so many
abbrev pub filled : ℕ → List ℚ → List ℚ
filled n values = values ++ replicate (n - length values) zero_ℚ

-- the point of these values, with 0 for each further column
abbrev pub point_of : Program → List ℚ → Point
point_of model values = record { values = filled (length model.columns) values }

-- values of the first columns
pub record AreValues (model : Program) (values : List ℚ) : Type 0 where
  pub few : length values ≤ length model.columns
  pub fits : All IsWithinLimit values
  pub named : (j : ℕ) → values_at values j ≢ zero_ℚ → is_word (column_name model j) ≡ true

-- ---- values
pub value_phrases_append : (j : ℕ) (xs ys : List ℚ) → value_phrases j (xs ++ ys) ≡ value_phrases j xs ++ value_phrases (j + length xs) ys
value_phrases_append j [] ys = ap (λ k. value_phrases k ys) (omega arith)
value_phrases_append j (x ∷ xs) ys = by (eq_ℚ x zero_ℚ) (value_phrases_append (suc j) xs ys ∙ ap (λ k. value_phrases (suc j) xs ++ value_phrases k ys) (omega arith))
  where
    by : (b : Bool) → value_phrases (suc j) (xs ++ ys) ≡ value_phrases (suc j) xs ++ value_phrases (j + length (x ∷ xs)) ys
        → cond b (value_phrases (suc j) (xs ++ ys)) (Phrase.Value j x ∷ value_phrases (suc j) (xs ++ ys)) ≡ cond b (value_phrases (suc j) xs) (Phrase.Value j x ∷ value_phrases (suc j) xs) ++ value_phrases (j + length (x ∷ xs)) ys
    by true rest = rest
    by false rest = ap (λ l. Phrase.Value j x ∷ l) rest

pub zeros_say_nothing : (j n : ℕ) → value_phrases j (replicate n zero_ℚ) ≡ []
zeros_say_nothing j zero = refl
zeros_say_nothing j (suc n) =
    ap (λ b. cond b (value_phrases (suc j) (replicate n zero_ℚ)) (Phrase.Value j zero_ℚ ∷ value_phrases (suc j) (replicate n zero_ℚ))) ((eq-Decides zero_ℚ zero_ℚ).1 refl) ∙ zeros_say_nothing (suc j) n

-- zeros behind values say nothing
pub filled_says : (n : ℕ) (values : List ℚ) → value_phrases 0 (filled n values) ≡ value_phrases 0 values
filled_says n values = value_phrases_append 0 values (replicate (n - length values) zero_ℚ) ∙ ap (λ l. value_phrases 0 values ++ l) (zeros_say_nothing (0 + length values) (n - length values)) ∙ append-nil (value_phrases 0 values)

pub filled_length : (n : ℕ) (values : List ℚ) → length values ≤ n → length (filled n values) ≡ n
filled_length n values h = length-append values (replicate (n - length values) zero_ℚ) ∙ ap (λ k. length values + k) (length-replicate (n - length values) zero_ℚ) ∙ (omega arith)

pub not_zero : (v : ℚ) → v ≢ zero_ℚ → eq_ℚ v zero_ℚ ≡ false
not_zero v h = by (eq_ℚ v zero_ℚ) refl
  where
    by : (b : Bool) → eq_ℚ v zero_ℚ ≡ b → b ≡ false
    by true e = absurd (h ((eq-Decides v zero_ℚ).0 e))
    by false e = refl

-- a value behind others
pub value_said : (values : List ℚ) (j : ℕ) (v : ℚ) → length values ≤ j → v ≢ zero_ℚ → value_phrases 0 (filled j values ++ v ∷ []) ≡ value_phrases 0 values ++ Phrase.Value j v ∷ []
value_said values j v h n =
    value_phrases_append 0 (filled j values) (v ∷ [])
    ∙ ap (λ l. l ++ value_phrases (0 + length (filled j values)) (v ∷ [])) (filled_says j values)
    ∙ ap (λ k. value_phrases 0 values ++ value_phrases k (v ∷ [])) (let e = filled_length j values h in let f : 0 + length (filled j values) ≡ j = omega arith in f)
    ∙ ap (λ b. value_phrases 0 values ++ cond b [] (Phrase.Value j v ∷ [])) (not_zero v n)

-- a value of two lists that is not 0 is one of the first, or of the second
in_one : (xs ys : List ℚ) (j : ℕ) → values_at (xs ++ ys) j ≢ zero_ℚ → (values_at xs j ≢ zero_ℚ) ⊎ ((i : ℕ) × (j ≡ length xs + i) × (values_at ys i ≢ zero_ℚ))
in_one [] ys j h = inr (j, omega arith, h)
in_one (x ∷ xs) ys zero h = inl h
in_one (x ∷ xs) ys (suc j) h = elim (in_one xs ys j h) [
  | inl k ↦ inl k
  | inr k ↦ inr (k.0, (let e : j ≡ length xs + k.0 = k.1 in omega arith), k.2)
]

zeros_at : (n i : ℕ) → values_at (replicate n zero_ℚ) i ≡ zero_ℚ
zeros_at zero i = refl
zeros_at (suc n) zero = refl
zeros_at (suc n) (suc i) = zeros_at n i

pub zero_fits : IsWithinLimit zero_ℚ
unfolding frac gcd gcd_within
zero_fits = refl

module _ (model : Program) where
  Named : List ℚ → Type 0
  Named values = (j : ℕ) → values_at values j ≢ zero_ℚ → is_word (column_name model j) ≡ true

  filled_named : (n : ℕ) (values : List ℚ) → Named values → Named (filled n values)
  unfolding Named
  filled_named n values h j k = elim (in_one values (replicate (n - length values) zero_ℚ) j k) [
    | inl e ↦ h j e
    | inr e ↦ absurd (e.2 (zeros_at (n - length values) e.0))
  ]

  filled_fits : (n : ℕ) (values : List ℚ) → All IsWithinLimit values → All IsWithinLimit (filled n values)
  filled_fits n values h = All-append IsWithinLimit values (replicate (n - length values) zero_ℚ) h (All-replicate IsWithinLimit (n - length values) zero_ℚ zero_fits)

  pub no_values : AreValues model []
  no_values = record { few = omega arith; fits = All-nil IsWithinLimit; named = λ j k. absurd (k refl) }

  -- one value more
  pub value_taken : (values : List ℚ) (j : ℕ) (v : ℚ) → AreValues model values → IsPhraseFor model (Phrase.Value j v) → length values ≤ j → AreValues model (filled j values ++ v ∷ [])
  unfolding Named
  value_taken values j v h p le = record {
    few = (let f = filled_length j values le in let a : length (filled j values ++ v ∷ []) ≡ length (filled j values) + 1 = length-append (filled j values) (v ∷ []) in let k : j < length model.columns = p.0.known in omega arith);
    fits = All-push IsWithinLimit (filled j values) v (filled_fits j values h.fits) p.1.0;
    named = λ i k. elim (in_one (filled j values) (v ∷ []) i k) [
      | inl e ↦ filled_named j values h.named i e
      | inr e ↦ here i e.0 e.1 e.2
    ];
  }
    where
      here : (i n : ℕ) → i ≡ length (filled j values) + n → values_at (v ∷ []) n ≢ zero_ℚ → is_word (column_name model i) ≡ true
      here i zero e k = subst (λ m. is_word (column_name model m) ≡ true) (let f = filled_length j values le in let g : j ≡ i = omega arith in g) p.0.word
      here i (suc n) e k = absurd (k refl)

  -- the point of values
  pub point_taken : (values : List ℚ) → AreValues model values → IsPointFor model (point_of model values)
  unfolding Named
  point_taken values h = record { len = filled_length (length model.columns) values h.few; fits = filled_fits (length model.columns) values h.fits; named = filled_named (length model.columns) values h.named }

-- ---- the values that are not 0
abbrev pub value_phrase : ℕ × ℚ → Phrase
value_phrase e = Phrase.Value e.0 e.1

pub said_nonzeros : (j : ℕ) (vs : List ℚ) → value_phrases j vs ≡ map value_phrase (nonzeros j vs)
said_nonzeros j [] = refl
said_nonzeros j (v ∷ vs) = by (eq_ℚ v zero_ℚ) (said_nonzeros (suc j) vs)
  where
    by : (b : Bool) → value_phrases (suc j) vs ≡ map value_phrase (nonzeros (suc j) vs) → cond b (value_phrases (suc j) vs) (Phrase.Value j v ∷ value_phrases (suc j) vs) ≡ map value_phrase (cond b (nonzeros (suc j) vs) ((j, v) ∷ nonzeros (suc j) vs))
    by true rest = rest
    by false rest = ap (λ l. Phrase.Value j v ∷ l) rest

-- what phrases say is one list
pub phrases_apart : (es fs : List (ℕ × ℚ)) → map value_phrase es ≡ map value_phrase fs → es ≡ fs
phrases_apart [] [] h = refl
phrases_apart [] (f ∷ fs) h = absurd (cc)
phrases_apart (e ∷ es) [] h = absurd (cc)
phrases_apart (e ∷ es) (f ∷ fs) h =
    let j : e.0 ≡ f.0 = cc in
    let v : e.1 ≡ f.1 = cc in
    let rest : map value_phrase es ≡ map value_phrase fs = cc in
    ap (λ n. (n, e.1) ∷ es) j ∙ ap (λ w. (f.0, w) ∷ es) v ∙ ap (λ l. f ∷ l) (phrases_apart es fs rest)

-- one value more, behind others
pub nonzeros_push : (values : List ℚ) (j : ℕ) (v : ℚ) → length values ≤ j → v ≢ zero_ℚ → nonzeros 0 (filled j values ++ v ∷ []) ≡ nonzeros 0 values ++ (j, v) ∷ []
nonzeros_push values j v h n =
    phrases_apart (nonzeros 0 (filled j values ++ v ∷ [])) (nonzeros 0 values ++ (j, v) ∷ [])
    (sym (said_nonzeros 0 (filled j values ++ v ∷ [])) ∙ value_said values j v h n ∙ ap (λ l. l ++ Phrase.Value j v ∷ []) (said_nonzeros 0 values) ∙ sym (map-append value_phrase (nonzeros 0 values) ((j, v) ∷ [])))

pub nonzeros_filled : (n : ℕ) (values : List ℚ) → nonzeros 0 (filled n values) ≡ nonzeros 0 values
nonzeros_filled n values = phrases_apart (nonzeros 0 (filled n values)) (nonzeros 0 values) (sym (said_nonzeros 0 (filled n values)) ∙ filled_says n values ∙ said_nonzeros 0 values)

-- columns from one on
all_from : ℕ → List (ℕ × ℚ) → Type 0
all_from j es = list_all (λ e. nat_le j e.0) es ≡ true

from_weaker : (j : ℕ) (es : List (ℕ × ℚ)) → list_all (λ e. nat_le (suc j) e.0) es ≡ true → list_all (λ e. nat_le j e.0) es ≡ true
from_weaker j [] h = refl
from_weaker j (e ∷ es) h =
    let p = and_parts (nat_le (suc j) e.0) (list_all (λ e. nat_le (suc j) e.0) es) h in
    and_from (nat_le j e.0) (list_all (λ e. nat_le j e.0) es) (le-leb j e.0 (let l = leb-true (suc j) e.0 p.0 in omega arith)) (from_weaker j es p.1)

nonzeros_from : (j : ℕ) (vs : List ℚ) → list_all (λ e. nat_le j e.0) (nonzeros j vs) ≡ true
nonzeros_from j [] = refl
nonzeros_from j (v ∷ vs) = by (eq_ℚ v zero_ℚ) (from_weaker j (nonzeros (suc j) vs) (nonzeros_from (suc j) vs))
  where
    by : (b : Bool) → list_all (λ e. nat_le j e.0) (nonzeros (suc j) vs) ≡ true → list_all (λ e. nat_le j e.0) (cond b (nonzeros (suc j) vs) ((j, v) ∷ nonzeros (suc j) vs)) ≡ true
    by true h = h
    by false h = and_from (nat_le j j) (list_all (λ e. nat_le j e.0) (nonzeros (suc j) vs)) (le-leb j j (omega arith)) h

-- an element among those from a column on has such a column
one_from : (j : ℕ) (xs : List (ℕ × ℚ)) (x : ℕ × ℚ) (rest : List (ℕ × ℚ)) → list_all (λ e. nat_le j e.0) (xs ++ x ∷ rest) ≡ true → j ≤ x.0
one_from j [] x rest h = leb-true j x.0 (and_parts (nat_le j x.0) (list_all (λ e. nat_le j e.0) rest) h).0
one_from j (y ∷ xs) x rest h = one_from j xs x rest (and_parts (nat_le j y.0) (list_all (λ e. nat_le j e.0) (xs ++ x ∷ rest)) h).1

-- each comes after those before it
pub in_turn : (j : ℕ) (vs : List ℚ) (xs : List (ℕ × ℚ)) (x : ℕ × ℚ) (rest : List (ℕ × ℚ)) → nonzeros j vs ≡ xs ++ x ∷ rest → list_all (λ f. nat_lt f.0 x.0) xs ≡ true
in_turn j vs [] x rest e = refl
in_turn j [] (y ∷ xs) x rest e = absurd (cc)
in_turn j (v ∷ vs) (y ∷ xs) x rest e = by (eq_ℚ v zero_ℚ) (in_turn (suc j) vs (y ∷ xs) x rest) (in_turn (suc j) vs xs x rest) e
  where
    by : (b : Bool) → (nonzeros (suc j) vs ≡ (y ∷ xs) ++ x ∷ rest → list_all (λ f. nat_lt f.0 x.0) (y ∷ xs) ≡ true) → (nonzeros (suc j) vs ≡ xs ++ x ∷ rest → list_all (λ f. nat_lt f.0 x.0) xs ≡ true) → cond b (nonzeros (suc j) vs) ((j, v) ∷ nonzeros (suc j) vs) ≡ y ∷ (xs ++ x ∷ rest) → list_all (λ f. nat_lt f.0 x.0) (y ∷ xs) ≡ true
    by true skip take h = skip h
    by false skip take h =
        let first : (j, v) ≡ y = cc in
        let column : j ≡ y.0 = ap (λ (z : ℕ × ℚ). z.0) first in
        let others : nonzeros (suc j) vs ≡ xs ++ x ∷ rest = cc in
        let far = one_from (suc j) xs x rest (subst (λ l. list_all (λ e. nat_le (suc j) e.0) l ≡ true) others (nonzeros_from (suc j) vs)) in
        and_from (nat_lt y.0 x.0) (list_all (λ f. nat_lt f.0 x.0) xs) (lt-ltb y.0 x.0 (omega arith)) (take others)

-- values are known by those that are not 0
pub nonzeros_one : (j : ℕ) (vs ws : List ℚ) → length vs ≡ length ws → nonzeros j vs ≡ nonzeros j ws → vs ≡ ws
nonzeros_one j [] [] l e = refl
nonzeros_one j [] (w ∷ ws) l e = absurd (omega arith)
nonzeros_one j (v ∷ vs) [] l e = absurd (omega arith)
nonzeros_one j (v ∷ vs) (w ∷ ws) l e = by (eq_ℚ v zero_ℚ) (eq_ℚ w zero_ℚ) refl refl (nonzeros_one (suc j) vs ws (omega arith)) e
  where
    never : (us : List ℚ) (u : ℚ) (rest : List (ℕ × ℚ)) → nonzeros (suc j) us ≡ (j, u) ∷ rest → ⊥
    never us u rest h = let far = one_from (suc j) [] (j, u) rest (subst (λ l. list_all (λ e. nat_le (suc j) e.0) l ≡ true) h (nonzeros_from (suc j) us)) in omega arith

    by : (b c : Bool) → eq_ℚ v zero_ℚ ≡ b → eq_ℚ w zero_ℚ ≡ c → (nonzeros (suc j) vs ≡ nonzeros (suc j) ws → vs ≡ ws) → cond b (nonzeros (suc j) vs) ((j, v) ∷ nonzeros (suc j) vs) ≡ cond c (nonzeros (suc j) ws) ((j, w) ∷ nonzeros (suc j) ws) → v ∷ vs ≡ w ∷ ws
    by true true p q go h =
        let same : v ≡ w = (eq-Decides v zero_ℚ).0 p ∙ sym ((eq-Decides w zero_ℚ).0 q) in
        ap (λ u. u ∷ vs) same ∙ ap (λ us. w ∷ us) (go h)
    by true false p q go h = absurd (never vs w (nonzeros (suc j) ws) h)
    by false true p q go h = absurd (never ws v (nonzeros (suc j) vs) (sym h))
    by false false p q go h =
        let first : (j, v) ≡ (j, w) = cc in
        let same : v ≡ w = ap (λ (z : ℕ × ℚ). z.1) first in
        let rest : nonzeros (suc j) vs ≡ nonzeros (suc j) ws = cc in
        ap (λ u. u ∷ vs) same ∙ ap (λ us. w ∷ us) (go rest)

-- the phrases of values are those of values
Are : List (ℕ × ℚ) → Type 0
Are es = (vs : List ℚ) × (nonzeros 0 vs ≡ es)

pub values_alone : (model : Program) (names : IsWellFormed model) → Alone (values_kind model)
unfolding Are
values_alone model names a b m n ha hb e na nb =
    let said : map value_phrase (nonzeros 0 a.values) ++ m ≡ map value_phrase (nonzeros 0 b.values) ++ n = subst (λ l. l ++ m ≡ map value_phrase (nonzeros 0 b.values) ++ n) (said_nonzeros 0 a.values) (subst (λ l. value_phrases 0 a.values ++ m ≡ l ++ n) (said_nonzeros 0 b.values) e) in
    let same : nonzeros 0 a.values ≡ nonzeros 0 b.values = list_alone model names (ℕ × ℚ) value_phrase value_of may_value Are value_finds (λ x y h. pair_one x y h) (λ x. refl)
    (λ xs x rest h. in_turn 0 h.0 xs x rest h.1)
    (nonzeros 0 a.values) (nonzeros 0 b.values) m n (a.values, refl) (b.values, refl) said na nb in
    ap (λ vs. record { values = vs }) (nonzeros_one 0 a.values b.values (ha.len ∙ sym hb.len) same)
  where
    pair_one : (x y : ℕ × ℚ) → value_phrase x ≡ value_phrase y → x ≡ y
    pair_one x y h =
        let j : x.0 ≡ y.0 = cc in
        let v : x.1 ≡ y.1 = cc in
        ap (λ n. (n, x.1)) j ∙ ap (λ w. (y.0, w)) v

-- ---- the reader's loop
-- a value may come next where its column is not below so many
pub record Tight (values : List ℚ) : Type 0 where
  pub each : (j : ℕ) → list_all (λ f. nat_lt f.0 j) (nonzeros 0 values) ≡ nat_le (length values) j

-- what the loop keeps
pub record ReadsValues (model : Program) (old mid : Cursor) (vs : List ℚ) : Type 0 where
  pub read : Looping model (values_kind model) old mid (point_of model vs)
  pub form : AreValues model vs
  pub tight : Tight vs

module _ (model : Program) (names : IsWellFormed model) where
  pub values_start : (old : Cursor) → IsCursor model old → ReadsValues model old old []
  values_start old c = record {
    read = loop_start model names (values_kind model) old (point_of model []) c (point_taken model [] (no_values model)) (filled_says (length model.columns) []);
    form = no_values model;
    tight = record { each = λ j. sym (le-leb 0 j (omega arith)) };
  }

  -- the value that comes next
  next_is : (n : ℕ) (s : Result Phrase ReportStop) (e : ℕ × ℚ) → next_value n (found value_of s) ≡ Some e → (s ≡ says (value_phrase e)) × (n ≤ e.0)
  next_is n (Err stop) e h = absurd (cc)
  next_is n (Ok q) e h = by (value_of q) refl h
    where
      here : (f : ℕ × ℚ) (b : Bool) → nat_le n f.0 ≡ b → value_of q ≡ Some f → cond b (Some f) None ≡ Some e → (says q ≡ says (value_phrase e)) × (n ≤ e.0)
      here f true m g h = let same : f ≡ e = cc in (ap says (value_finds q f g ∙ ap value_phrase same), subst (λ (x : ℕ × ℚ). n ≤ x.0) same (leb-true n f.0 m))
      here f false m g h = absurd (let t : None ≡ Some e = h in cc)

      by : (o : Option (ℕ × ℚ)) → value_of q ≡ o → next_value n o ≡ Some e → (says q ≡ says (value_phrase e)) × (n ≤ e.0)
      by None g h = absurd (let t : None ≡ Some e = h in cc)
      by (Some f) g h = here f (nat_le n f.0) refl g h

  tight_more : (vs : List ℚ) (j : ℕ) (v : ℚ) → Tight vs → length vs ≤ j → v ≢ zero_ℚ → Tight (filled j vs ++ v ∷ [])
  tight_more vs j v h le some = record { each = each }
    where
      length_is : length (filled j vs ++ v ∷ []) ≡ j + 1
      length_is = length-append (filled j vs) (v ∷ []) ∙ ap (λ n. n + 1) (filled_length j vs le)

      each : (k : ℕ) → list_all (λ f. nat_lt f.0 k) (nonzeros 0 (filled j vs ++ v ∷ [])) ≡ nat_le (length (filled j vs ++ v ∷ [])) k
      each k = ap (list_all (λ f. nat_lt f.0 k)) (nonzeros_push vs j v le some) ∙ all_push (nonzeros 0 vs) ∙ ap (λ b. b && nat_lt j k) (h.each k) ∙ both (nat_le (length vs) k) (nat_lt j k) refl refl ∙ ap (λ n. nat_le n k) (sym length_is)
        where
          all_push : (es : List (ℕ × ℚ)) → list_all (λ f. nat_lt f.0 k) (es ++ (j, v) ∷ []) ≡ (list_all (λ f. nat_lt f.0 k) es && nat_lt j k)
          all_push [] = and_one (nat_lt j k)
            where
              and_one : (b : Bool) → (b && true) ≡ (true && b)
              and_one true = refl
              and_one false = refl
          all_push (e ∷ es) = ap (λ b. nat_lt e.0 k && b) (all_push es) ∙ and_over (nat_lt e.0 k) (list_all (λ f. nat_lt f.0 k) es) (nat_lt j k)
            where
              and_over : (a b c : Bool) → (a && (b && c)) ≡ ((a && b) && c)
              and_over true b c = refl
              and_over false b c = refl

          both : (a b : Bool) → nat_le (length vs) k ≡ a → nat_lt j k ≡ b → (a && b) ≡ nat_le (j + 1) k
          both true true e f = sym (le-leb (j + 1) k (let l = ltb-true j k f in omega arith))
          both true false e f = grind (arith, nat_tests)
          both false true e f = grind (arith, nat_tests)
          both false false e f = grind (arith, nat_tests)

  pub values_more : (old mid next : Cursor) (vs ws : List ℚ) (j : ℕ) (v : ℚ) → ReadsValues model old mid vs → next_value (length vs) (found value_of mid.ahead) ≡ Some (j, v) → Passes model true mid next → IsCursor model next → ws ≡ filled j vs ++ v ∷ [] → ReadsValues model old next ws
  values_more old mid next vs ws j v h e passes c is =
      let n = next_is (length vs) mid.ahead (j, v) e in
      let phrase = subst (λ s. IsCursorAt model s mid) n.0 h.read.stands.at in
      let form = value_taken model vs j v h.form phrase.0 n.1 in
      subst (λ l. ReadsValues model old next l) (sym is) (record {
        read = record {
          stands = c;
          reading = more_reading model names (values_kind model) old mid next (point_of model vs) (point_of model (filled j vs ++ v ∷ [])) (value_phrase (j, v)) n.0 h.read.stands h.read.reading passes (point_taken model (filled j vs ++ v ∷ []) form)
              (filled_says (length model.columns) (filled j vs ++ v ∷ []) ∙ value_said vs j v n.1 phrase.0.1.1 ∙ ap (λ l. l ++ Phrase.Value j v ∷ []) (sym (filled_says (length model.columns) vs)));
          form = point_taken model (filled j vs ++ v ∷ []) form;
        };
        form = form;
        tight = tight_more vs j v h.tight n.1 phrase.0.1.1;
      })

  pub values_smaller : (mid next : Cursor) (n j : ℕ) (v : ℚ) → IsCursor model mid → next_value n (found value_of mid.ahead) ≡ Some (j, v) → Passes model true mid next → room next.ahead next.number < room mid.ahead mid.number
  values_smaller mid next n j v c e passes = room_less model names mid next (value_phrase (j, v)) (next_is n mid.ahead (j, v) e).0 c passes

  pub values_end : (old mid : Cursor) (vs : List ℚ) (p : Point) → ReadsValues model old mid vs → next_value (length vs) (found value_of mid.ahead) ≡ None → p ≡ point_of model vs → IsRead model (values_kind model) old mid p
  values_end old mid vs p h e is = subst (λ (z : Point). IsRead model (values_kind model) old mid z) (sym is) (record { reading = h.read.reading; ended = by mid.ahead e })
    where
      off : (o : Option (ℕ × ℚ)) → next_value (length vs) o ≡ None → is_there (next_in may_value (nonzeros 0 (filled (length model.columns) vs)) o) ≡ false
      off None e = refl
      off (Some f) e = ap (λ b. is_there (cond b (Some f) None)) (ap (list_all (λ g. nat_lt g.0 f.0)) (nonzeros_filled (length model.columns) vs) ∙ h.tight.each f.0) ∙ none (nat_le (length vs) f.0) e
        where
          none : (b : Bool) → cond b (Some f) None ≡ None → is_there (cond b (Some f) None) ≡ false
          none true e = absurd (let t : Some f ≡ None = e in cc)
          none false e = refl

      by : (s : Result Phrase ReportStop) → next_value (length vs) (found value_of s) ≡ None → IsEnded (values_kind model) (point_of model vs) s
      by (Ok q) e = off (value_of q) e
      by (Err stop) e = tt

  pub values_few : (n : ℕ) (s : Result Phrase ReportStop) (e : ℕ × ℚ) → next_value n (found value_of s) ≡ Some e → n ≤ e.0
  values_few n s e h = (next_is n s e h).1

-- what holds where a call succeeds
pub done_ok : {A E P : Type 0} (r : Result A E) → is_err r ≡ false → OnOk r P → P
done_ok (Ok a) e h = h
done_ok (Err x) e h = absurd (true≢false e)

pub done_err : {A E P : Type 0} (r : Result A E) → is_err r ≡ true → OnErr r P → P
done_err (Ok x) e h = absurd (true≢false (sym e))
done_err (Err y) e h = h
