-- The tightest branches of a path that goes one branch further, or back.
use Rattle.std.proofs.Common.{◌≡◌, ◌<◌, ◌≤◌, ap, ap₂, refl, sym, subst, ◌∙◌, arith, ℕ, Bool, true, false, cond, not, ◌&&◌, ◌==◌, List, [], ◌∷◌, ◌++◌, length, get_or, set, Option, Some, None, Result, Ok, Err, is_ok, is_err, if◌then◌else◌, append_assoc, eq-eqb, eqb-true, true≢false}
use Rattle.std.specs.Prelude.{All}
use Rattle.std.proofs.lemmas.List.{append-nil, length_push, same_from_push, get_or-set_same, get_or-set_other, length-set}
use Rattle.std.proofs.lemmas.List.Elements.{All-nil, All-pop, All-push, All-weaker}
use Rattle.std.proofs.lemmas.Int.{ints, clamps}
use Rattle.std.specs.Int.{int_max, int_min}
use lib.IntN.{ℤ}
use Rattle.certs.specs.declared.evidence.Branch.{Branch}
use Rattle.certs.specs.declared.paths.Tightest.{Tightest}
use Rattle.certs.specs.Combination.{lesser, greater, least_upper, greatest_lower, IsFitting}
use Rattle.certs.specs.Paths.{unbranched, tightest_on, tightest_before, HasTightest}

-- ---- the lesser and the greater of three, in either order
lesser_turned : (a b : ℤ) (o : Option ℤ) → lesser a (Some (lesser b o)) ≡ lesser b (Some (lesser a o))
lesser_turned a b None = let e : int_min a b ≡ int_min b a = omega (arith, ints, clamps) in e
lesser_turned a b (Some c) = let e : int_min a (int_min b c) ≡ int_min b (int_min a c) = omega (arith, ints, clamps) in e

greater_turned : (a b : ℤ) (o : Option ℤ) → greater a (Some (greater b o)) ≡ greater b (Some (greater a o))
greater_turned a b None = let e : int_max b a ≡ int_max a b = omega (arith, ints, clamps) in e
greater_turned a b (Some c) = let e : int_max (int_max c b) a ≡ int_max (int_max c a) b = omega (arith, ints, clamps) in e

-- ---- one branch further
-- a number that is picked, where it counts, by a choice that may be turned
module _ (pick : ℤ → Option ℤ → ℤ) (turned : (a b : ℤ) (o : Option ℤ) → pick a (Some (pick b o)) ≡ pick b (Some (pick a o))) where
  picked : Bool → ℤ → Option ℤ → Option ℤ
  picked t a o = cond t (Some (pick a o)) o

  picked_turned : (s t : Bool) (a b : ℤ) (o : Option ℤ) → cond s (Some (pick a (cond t (Some (pick b o)) o))) (cond t (Some (pick b o)) o) ≡ cond t (Some (pick b (cond s (Some (pick a o)) o))) (cond s (Some (pick a o)) o)
  picked_turned true true a b o = ap (λ (n : ℤ). Some n) (turned a b o)
  picked_turned true false a b o = refl
  picked_turned false true a b o = refl
  picked_turned false false a b o = refl

least_push : (path : List Branch) (b : Branch) (j : ℕ) → least_upper (path ++ b ∷ []) j ≡ cond ((b.column == j) && b.upper) (Some (lesser b.at (least_upper path j))) (least_upper path j)
least_push [] b j = refl
least_push (a ∷ path) b j =
    ap (λ (o : Option ℤ). cond ((a.column == j) && a.upper) (Some (lesser a.at o)) o) (least_push path b j)
    ∙ picked_turned lesser lesser_turned ((a.column == j) && a.upper) ((b.column == j) && b.upper) a.at b.at (least_upper path j)

greatest_push : (path : List Branch) (b : Branch) (j : ℕ) → greatest_lower (path ++ b ∷ []) j ≡ cond ((b.column == j) && not b.upper) (Some (greater b.at (greatest_lower path j))) (greatest_lower path j)
greatest_push [] b j = refl
greatest_push (a ∷ path) b j =
    ap (λ (o : Option ℤ). cond ((a.column == j) && not a.upper) (Some (greater a.at o)) o) (greatest_push path b j)
    ∙ picked_turned greater greater_turned ((a.column == j) && not a.upper) ((b.column == j) && not b.upper) a.at b.at (greatest_lower path j)

both_as : (t u : Tightest) → t.upper ≡ u.upper → t.lower ≡ u.lower → t ≡ u
both_as t u e f = ap₂ (λ (a b : Option ℤ). record { upper = a; lower = b }) e f

module _ (path : List Branch) (b : Branch) where
  -- on its own column, where t is what the path says of that
  pub tightest_more : (u : Bool) → b.upper ≡ u → (t new : Tightest) → t ≡ tightest_on path b.column
      → new.upper ≡ cond u (Some (lesser b.at t.upper)) t.upper → new.lower ≡ cond (not u) (Some (greater b.at t.lower)) t.lower
      → new ≡ tightest_on (path ++ b ∷ []) b.column
  tightest_more u is t new told e f =
      let here = eq-eqb b.column b.column refl in
      both_as new (tightest_on (path ++ b ∷ []) b.column)
      (e
      ∙ (ap (λ (z : Tightest). cond u (Some (lesser b.at z.upper)) z.upper) told
      ∙ sym (least_push path b b.column ∙ ap₂ (λ (s v : Bool). cond (s && v) (Some (lesser b.at (least_upper path b.column))) (least_upper path b.column)) here is)))
      (f
      ∙ (ap (λ (z : Tightest). cond (not u) (Some (greater b.at z.lower)) z.lower) told
      ∙ sym (greatest_push path b b.column ∙ ap₂ (λ (s v : Bool). cond (s && not v) (Some (greater b.at (greatest_lower path b.column))) (greatest_lower path b.column)) here is)))

  -- and on another one
  tightest_there : (j : ℕ) → (b.column == j) ≡ false → tightest_on (path ++ b ∷ []) j ≡ tightest_on path j
  tightest_there j e =
      both_as (tightest_on (path ++ b ∷ []) j) (tightest_on path j)
      (least_push path b j ∙ ap (λ t. cond (t && b.upper) (Some (lesser b.at (least_upper path j))) (least_upper path j)) e)
      (greatest_push path b j ∙ ap (λ t. cond (t && not b.upper) (Some (greater b.at (greatest_lower path j))) (greatest_lower path j)) e)

-- what is kept of one branch more
before_push : (front path : List Branch) (b : Branch) → tightest_before front (path ++ b ∷ []) ≡ tightest_before front path ++ tightest_on (front ++ path) b.column ∷ []
before_push front [] b = ap (λ (p : List Branch). tightest_on p b.column ∷ []) (sym (append-nil front))
before_push front (a ∷ path) b =
    ap (λ (l : List Tightest). tightest_on front a.column ∷ l)
    (before_push (front ++ a ∷ []) path b ∙ ap (λ (p : List Branch). tightest_before (front ++ a ∷ []) path ++ tightest_on p b.column ∷ []) (append_assoc front (a ∷ []) path))

-- ---- what is held
pub kept_ok : {A B X : Type 0} (r : Result A B) (x y z : X) → is_err r ≡ false → x ≡ (if is_ok r then y else z) → x ≡ y
kept_ok (Ok a) x y z e h = h
kept_ok (Err b) x y z e h = absurd (true≢false e)

pub never_empty : (path : List Branch) (b : Branch) (columns before : List Tightest) → HasTightest (path ++ b ∷ []) columns before → length before ≡ 0 → ⊥
never_empty path b columns before h e = omega (arith, length_push (tightest_before [] path) (tightest_on path b.column), ap length (h.before ∙ before_push [] path b))

pub no_tightest : HasTightest [] [] []
no_tightest = record { fitting = All-nil IsFitting; known = All-nil (λ b. b.column < 0); on = λ j. refl; before = refl }

-- with room for more columns
pub tightest_in_room : (path : List Branch) (columns more before : List Tightest) → HasTightest path columns before → length columns ≤ length more → ((j : ℕ) → get_or more j unbranched ≡ get_or columns j unbranched) → HasTightest path more before
tightest_in_room path columns more before h l same = record {
  fitting = h.fitting;
  known = All-weaker (λ b. b.column < length columns) (λ b. b.column < length more) (λ b k. omega (arith, k)) path h.known;
  on = λ j. same j ∙ h.on j;
  before = h.before;
}

-- a column's value set
on_set : (path : List Branch) (columns : List Tightest) (c : ℕ) (t : Tightest) (new : ℕ → Tightest) → c < length columns → t ≡ new c → ((j : ℕ) → (c == j) ≡ false → get_or columns j unbranched ≡ new j) → (j : ℕ) → get_or (set columns c t) j unbranched ≡ new j
on_set path columns c t new l e other j = by (c == j) refl
  where
    by : (s : Bool) → (c == j) ≡ s → get_or (set columns c t) j unbranched ≡ new j
    by true f = (let same : c ≡ j = eqb-true c j f in subst (λ k. get_or (set columns c t) k unbranched ≡ new k) same (get_or-set_same columns c t unbranched l ∙ e))
    by false f = (let apart : j ≡ c → ⊥ = λ s. true≢false (sym (eq-eqb c j (sym s)) ∙ f) in get_or-set_other columns c j t unbranched apart ∙ other j f)

pub tightest_pushed : (path : List Branch) (b : Branch) (columns before : List Tightest) (t new : Tightest) → HasTightest path columns before → IsFitting b → b.column < length columns → t ≡ get_or columns b.column unbranched
    → ((path : List Branch) → t ≡ tightest_on path b.column → new ≡ tightest_on (path ++ b ∷ []) b.column) → HasTightest (path ++ b ∷ []) (set columns b.column new) (before ++ t ∷ [])
tightest_pushed path b columns before t new h f l is more =
    let kept : t ≡ tightest_on path b.column = is ∙ h.on b.column in
    record {
      fitting = All-push IsFitting path b h.fitting f;
      known = subst (λ n. All (λ b. b.column < n) (path ++ b ∷ [])) (sym (length-set columns b.column new)) (All-push (λ b. b.column < length columns) path b h.known l);
      on = on_set path columns b.column new (tightest_on (path ++ b ∷ [])) l (more path kept) (λ j e. h.on j ∙ sym (tightest_there path b j e));
      before = ap₂ (λ (xs : List Tightest) (z : Tightest). xs ++ z ∷ []) h.before kept ∙ sym (before_push [] path b);
    }

pub tightest_popped : (path : List Branch) (b : Branch) (columns before rest : List Tightest) (t : Tightest) → HasTightest (path ++ b ∷ []) columns before → before ≡ rest ++ t ∷ []
    → HasTightest path (set columns b.column t) rest
tightest_popped path b columns before rest t h e =
    let parts : (rest ≡ tightest_before [] path) × (t ≡ tightest_on path b.column) = same_from_push rest (tightest_before [] path) t (tightest_on path b.column) (sym e ∙ (h.before ∙ before_push [] path b)) in
    let fitting = All-pop IsFitting (path ++ b ∷ []) path (Some b) refl h.fitting in
    let known = All-pop (λ b. b.column < length columns) (path ++ b ∷ []) path (Some b) refl h.known in
    record {
      fitting = fitting.0;
      known = subst (λ n. All (λ b. b.column < n) path) (sym (length-set columns b.column t)) known.0;
      on = on_set path columns b.column t (tightest_on path) known.1 parts.1 (λ j f. h.on j ∙ tightest_there path b j f);
      before = parts.0;
    }
