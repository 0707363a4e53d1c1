-- The soft members with the numbers of their elastic variables.
use Rattle.std.proofs.Common.{◌≡◌, ◌+◌, ◌<◌, ◌≤◌, refl, sym, ◌∙◌, ap, subst, ℕ, zero, suc, Bool, true, false, List, [], ◌∷◌, ◌++◌, append_assoc, append-nil, map, filter, length, length-append, get_or, arith}
use Rattle.std.specs.Prelude.{All, zip}
use Rattle.std.proofs.lemmas.Bool.{cond-true, cond-false}
use Rattle.std.proofs.lemmas.List.{length-map, map-append}
use Rattle.std.proofs.lemmas.List.Elements.{All-cons, All-head, All-nil, All-tail, All-weaker}
use Rattle.rational.specs.Rational.{ℚ}
use Rattle.lp_model.specs.declared.members.Member.{Member}
use Rattle.certs.specs.Elastic.{cost_terms, numbered_soft, soft_members}
use Rattle.certs.specs.Ended.{numbers_from}
use Rattle.certs.proofs.Translated.{length_numbers}
use Rattle.relaxation.specs.Origins.{cost_term}

abbrev pub second : {X Y : Type 0} → X × Y → Y
second e = e.1

-- ---- lists side by side
length_zip : {X Y : Type 0} (xs : List X) (ys : List Y) → length xs ≡ length ys → length (zip xs ys) ≡ length ys
length_zip [] [] e = refl
length_zip [] (y ∷ ys) e = absurd (omega arith)
length_zip (x ∷ xs) [] e = absurd (omega arith)
length_zip (x ∷ xs) (y ∷ ys) e = let h = length_zip xs ys (let g : length xs ≡ length ys = omega arith in g) in omega (arith, h)

seconds : {X Y : Type 0} (xs : List X) (ys : List Y) → length xs ≡ length ys → map second (zip xs ys) ≡ ys
seconds [] [] e = refl
seconds [] (y ∷ ys) e = absurd (omega arith)
seconds (x ∷ xs) [] e = absurd (omega arith)
seconds (x ∷ xs) (y ∷ ys) e = ap (λ z. y ∷ z) (seconds xs ys (let g : length xs ≡ length ys = omega arith in g))

zip_push : {X Y : Type 0} (xs : List X) (ys : List Y) (x : X) (y : Y) → length xs ≡ length ys → zip (xs ++ x ∷ []) (ys ++ y ∷ []) ≡ zip xs ys ++ (x, y) ∷ []
zip_push [] [] x y e = refl
zip_push [] (b ∷ ys) x y e = absurd (omega arith)
zip_push (a ∷ xs) [] x y e = absurd (omega arith)
zip_push (a ∷ xs) (b ∷ ys) x y e = ap (λ z. (a, b) ∷ z) (zip_push xs ys x y (let g : length xs ≡ length ys = omega arith in g))

-- ---- numbers beside members
unfoldable pub numbered : ℕ → List Member → List (ℕ × Member)
numbered k list = zip (numbers_from k (length list)) list

pub length_numbered : (k : ℕ) (list : List Member) → length (numbered k list) ≡ length list
unfolding numbered
length_numbered k list = length_zip (numbers_from k (length list)) list (length_numbers k (length list))

pub members_numbered : (k : ℕ) (list : List Member) → map second (numbered k list) ≡ list
unfolding numbered
members_numbered k list = seconds (numbers_from k (length list)) list (length_numbers k (length list))

numbered_push : (k : ℕ) (list : List Member) (m : Member) → numbered k (list ++ m ∷ []) ≡ numbered k list ++ (k + length list, m) ∷ []
unfolding numbered
numbered_push k list m =
    let e : length (list ++ m ∷ []) ≡ suc (length list) = (let h = length-append list (m ∷ []) in omega (arith, h)) in
    ap (λ n. zip (numbers_from k n) (list ++ m ∷ [])) e
    ∙ zip_push (numbers_from k (length list)) list (k + length list) m (length_numbers k (length list))

-- the first number comes first
numbers_first : (k n : ℕ) → numbers_from k (suc n) ≡ k ∷ numbers_from (suc k) n
numbers_first k zero = ap (λ z. z ∷ []) (let e : k + 0 ≡ k = omega arith in e)
numbers_first k (suc n) =
    ap (λ z. z ++ (k + suc n) ∷ []) (numbers_first k n)
    ∙ ap (λ z. k ∷ (numbers_from (suc k) n ++ z ∷ [])) (let e : k + suc n ≡ suc k + n = omega arith in e)

pub numbered_first : (k : ℕ) (m : Member) (list : List Member) → numbered k (m ∷ list) ≡ (k, m) ∷ numbered (suc k) list
unfolding numbered
numbered_first k m list = ap (λ z. zip z (m ∷ list)) (numbers_first k (length list))

pub costs_are : (cost : Member → ℚ) (k : ℕ) (list : List Member) → map (cost_term cost) (numbered k list) ≡ cost_terms cost k list
unfolding numbered
costs_are cost k [] = refl
costs_are cost k (m ∷ list) = ap (map (cost_term cost)) (numbered_first k m list) ∙ ap (λ z. cost_term cost (k, m) ∷ z) (costs_are cost (suc k) list)

pub length_soft : (k : ℕ) (set enforced : List Member) → length (numbered_soft k set enforced) ≡ length (soft_members set enforced)
length_soft k set enforced = length_zip (numbers_from k (length (soft_members set enforced))) (soft_members set enforced) (length_numbers k (length (soft_members set enforced)))

-- ---- as a loop makes them
-- those that pass so far are there with their numbers
pub record AreNumbered (k : ℕ) (p : Member → Bool) (set : List Member) (done : List (ℕ × Member)) (rest : List Member) : Type 0 where
  pub members : map second done ++ filter p rest ≡ filter p set
  pub numbers : done ≡ numbered k (map second done)
  pub few : length done + length rest ≤ length set

pub none_numbered : (k : ℕ) (p : Member → Bool) (set : List Member) (done : List (ℕ × Member)) (rest : List Member) → done ≡ [] → rest ≡ set → AreNumbered k p set done rest
unfolding numbered
none_numbered k p set done rest e f =
    subst (λ d. AreNumbered k p set d rest) (sym e) (subst (λ r. AreNumbered k p set [] r) (sym f) (record { members = refl; numbers = refl; few = omega arith }))

module _ (k : ℕ) (p : Member → Bool) (set : List Member) (done : List (ℕ × Member)) (m : Member) (before rest : List Member) (is : before ≡ m ∷ rest) (h : AreNumbered k p set done before) where
  fewer : length done + (1 + length rest) ≤ length set
  fewer = let few = h.few in let e = ap length is in omega (arith, few, e)

  -- one more fits
  pub one_fits : length done < length set
  one_fits = let few = fewer in omega (arith, few)

  pub next_passes : (n : ℕ) (after : List (ℕ × Member)) → p m ≡ true → n ≡ length done → after ≡ done ++ (k + n, m) ∷ [] → AreNumbered k p set after rest
  next_passes n after e size a =
      let was : filter p before ≡ m ∷ filter p rest = ap (filter p) is ∙ cond-true (p m) (m ∷ filter p rest) (filter p rest) e in
      let more : map second after ≡ map second done ++ m ∷ [] = ap (map second) a ∙ map-append second done ((k + n, m) ∷ []) in
      let count : length (map second done) ≡ n = length-map done second ∙ sym size in
      let long : length after ≡ length done + 1 = ap length a ∙ length-append done ((k + n, m) ∷ []) in
      let few = fewer in
      record {
        members = ap (λ z. z ++ filter p rest) more ∙ append_assoc (map second done) (m ∷ []) (filter p rest) ∙ ap (λ z. map second done ++ z) (sym was) ∙ h.members;
        numbers = a
            ∙ ap (λ z. z ++ (k + n, m) ∷ []) h.numbers
            ∙ ap (λ c. numbered k (map second done) ++ (k + c, m) ∷ []) (sym count)
            ∙ sym (numbered_push k (map second done) m)
            ∙ ap (numbered k) (sym more);
        few = omega (arith, long, few);
      }

  pub next_stays : p m ≡ false → AreNumbered k p set done rest
  next_stays e =
      let few = fewer in
      record {
        members = ap (λ z. map second done ++ z) (sym (ap (filter p) is ∙ cond-false (p m) (m ∷ filter p rest) (filter p rest) e)) ∙ h.members;
        numbers = h.numbers;
        few = omega (arith, few);
      }

pub all_numbered : (k : ℕ) (p : Member → Bool) (set : List Member) (done : List (ℕ × Member)) (rest : List Member) → rest ≡ [] → AreNumbered k p set done rest → done ≡ numbered k (filter p set)
all_numbered k p set done rest e h = h.numbers ∙ ap (numbered k) (sym (append-nil (map second done)) ∙ ap (λ r. map second done ++ filter p r) (sym e) ∙ h.members)

-- what holds of members holds of those with numbers
pub numbered_all : (P : Member → Type 0) (k : ℕ) (list : List Member) → All P list → All (λ (e : ℕ × Member). P e.1) (numbered k list)
unfolding numbered
numbered_all P k [] h = All-nil (λ (e : ℕ × Member). P e.1)
numbered_all P k (m ∷ list) h =
    subst (All (λ (e : ℕ × Member). P e.1)) (sym (numbered_first k m list))
    (All-cons (λ (e : ℕ × Member). P e.1) (k, m) (numbered (suc k) list) (All-head P m list h) (numbered_all P (suc k) list (All-tail P m list h)))

-- ---- each of them
-- a member of the list, with the number that its place gives
pub record IsNumbered (k : ℕ) (list : List Member) (e : ℕ × Member) : Type 0 where
  pub index : ℕ
  pub below : index < length list
  pub number : e.0 ≡ k + index
  pub member : (d : Member) → get_or list index d ≡ e.1

numbered_later : (k : ℕ) (m : Member) (list : List Member) (e : ℕ × Member) → IsNumbered (suc k) list e → IsNumbered k (m ∷ list) e
numbered_later k m list e h =
    let below = h.below in
    let number = h.number in
    record { index = suc h.index; below = omega (arith, below); number = omega (arith, number); member = h.member }

pub all_have_numbers : (k : ℕ) (list : List Member) → All (IsNumbered k list) (numbered k list)
unfolding numbered
all_have_numbers k [] = All-nil (IsNumbered k [])
all_have_numbers k (m ∷ list) =
    subst (All (IsNumbered k (m ∷ list))) (sym (numbered_first k m list))
    (All-cons (IsNumbered k (m ∷ list)) (k, m) (numbered (suc k) list)
    (record { index = 0; below = omega arith; number = omega arith; member = λ d. refl })
    (All-weaker (IsNumbered (suc k) list) (IsNumbered k (m ∷ list)) (numbered_later k m list) (numbered (suc k) list) (all_have_numbers (suc k) list)))
