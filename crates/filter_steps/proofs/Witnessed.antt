-- Witnesses, one for each element that stays.
use Rattle.std.proofs.Common.{◌≡◌, ◌<◌, refl, sym, ap, subst, ℕ, zero, suc, List, [], ◌∷◌, ◌++◌, append_assoc, append-nil, length, get_or, arith}
use Rattle.lp_model.specs.declared.members.Member.{Member}
use Rattle.lp_model.specs.Program.{Program}
use Rattle.lp_model.specs.Satisfaction.{Satisfies, IsSatisfiable, coordinate, values_at}
use Rattle.lp_model.proofs.Points.{common_denominator}
use Rattle.lp_model.proofs.Sets.{part_law, part_without}
use Rattle.rational.specs.Linear.{Assignment}
use Rattle.certs.specs.declared.evidence.Point.{Point}
use Rattle.certs.specs.Tales.{IsPointOf}
use Rattle.filter_steps.specs.Isolated.{without, AreWitnesses}

-- Each point suits the elements around its own: those before it, and those after it in the list and behind the list.
abbrev pub EachSuits : {X P : Type 0} → (List X → P → Type 0) → List X → List X → List X → List P → Type 0
EachSuits Suits front [] back [] = Unit {0}
EachSuits Suits front [] back (p ∷ points) = ⊥
EachSuits Suits front (x ∷ list) back [] = ⊥
EachSuits Suits front (x ∷ list) back (p ∷ points) = Suits (front ++ (list ++ back)) p × EachSuits Suits (front ++ x ∷ []) list back points

module _ {X P : Type 0} (Suits : List X → P → Type 0) where
  -- ---- from the first on
  -- the next one stays
  pub late_stays : (front list : List X) (x : X) (back : List X) (points : List P) (p : P) → EachSuits Suits front list (x ∷ back) points → Suits (front ++ (list ++ back)) p
      → EachSuits Suits front (list ++ x ∷ []) back (points ++ p ∷ [])
  late_stays front [] x back [] p h s = (s, tt)
  late_stays front [] x back (q ∷ points) p h s = absurd h
  late_stays front (y ∷ list) x back [] p h s = absurd h
  late_stays front (y ∷ list) x back (q ∷ points) p h s = (
    subst (λ l. Suits (front ++ l) q) (sym (append_assoc list (x ∷ []) back)) h.0,
    late_stays (front ++ y ∷ []) list x back points p h.1 (subst (λ l. Suits l p) (sym (append_assoc front (y ∷ []) (list ++ back))) s),
  )

  -- the next one goes
  pub late_goes : ((a b c : List X) (p : P) → Suits (a ++ (b ++ c)) p → Suits (a ++ c) p) → (front list : List X) (x : X) (back : List X) (points : List P) → EachSuits Suits front list (x ∷ back) points → EachSuits Suits front list back points
  late_goes weaker front [] x back [] h = tt
  late_goes weaker front [] x back (q ∷ points) h = absurd h
  late_goes weaker front (y ∷ list) x back [] h = absurd h
  late_goes weaker front (y ∷ list) x back (q ∷ points) h = (
    subst (λ l. Suits l q) (append_assoc front list back) (weaker (front ++ list) (x ∷ []) back q (subst (λ l. Suits l q) (sym (append_assoc front list (x ∷ back))) h.0)),
    late_goes weaker (front ++ y ∷ []) list x back points h.1,
  )

  -- ---- from the last back
  -- the last of the front stays
  pub early_stays : (front : List X) (x : X) (list : List X) (points : List P) (p : P) → EachSuits Suits (front ++ x ∷ []) list [] points → Suits (front ++ list) p → EachSuits Suits front (x ∷ list) [] (p ∷ points)
  early_stays front x list points p h s = (subst (λ l. Suits (front ++ l) p) (sym (append-nil list)) s, h)

  -- some of the front go
  pub early_goes : ((a b c : List X) (p : P) → Suits (a ++ (b ++ c)) p → Suits (a ++ c) p) → (a b c list back : List X) (points : List P) → EachSuits Suits (a ++ (b ++ c)) list back points → EachSuits Suits (a ++ c) list back points
  early_goes weaker a b c [] back [] h = tt
  early_goes weaker a b c [] back (q ∷ points) h = absurd h
  early_goes weaker a b c (y ∷ list) back [] h = absurd h
  early_goes weaker a b c (y ∷ list) back (q ∷ points) h = (
    subst (λ l. Suits l q) (sym (append_assoc a c (list ++ back)))
        (weaker a b (c ++ (list ++ back)) q (subst (λ l. Suits (a ++ l) q) (append_assoc b c (list ++ back)) (subst (λ l. Suits l q) (append_assoc a (b ++ c) (list ++ back)) h.0))),
    subst (λ l. EachSuits Suits l list back points) (sym (append_assoc a c (y ∷ [])))
        (early_goes weaker a b (c ++ y ∷ []) list back points
        (subst (λ l. EachSuits Suits (a ++ l) list back points) (append_assoc b c (y ∷ [])) (subst (λ l. EachSuits Suits l list back points) (append_assoc a (b ++ c) (y ∷ [])) h.1))),
  )

  -- ---- in the end
  as_many : (front list back : List X) (points : List P) → EachSuits Suits front list back points → length points ≡ length list
  as_many front [] back [] h = refl
  as_many front [] back (q ∷ points) h = absurd h
  as_many front (y ∷ list) back [] h = absurd h
  as_many front (y ∷ list) back (q ∷ points) h = ap suc (as_many (front ++ y ∷ []) list back points h.1)

  each_suits : (front list back : List X) (points : List P) → EachSuits Suits front list back points → (i : ℕ) (d : P) → i < length points → Suits (front ++ (without list i ++ back)) (get_or points i d)
  each_suits front [] back [] h i d l = absurd (omega arith)
  each_suits front [] back (q ∷ points) h i d l = absurd h
  each_suits front (y ∷ list) back [] h i d l = absurd h
  each_suits front (y ∷ list) back (q ∷ points) h zero d l = h.0
  each_suits front (y ∷ list) back (q ∷ points) h (suc i) d l =
      subst (λ z. Suits z (get_or points i d)) (append_assoc front (y ∷ []) (without list i ++ back)) (each_suits (front ++ y ∷ []) list back points h.1 i d (let g : i < length points = omega arith in g))

-- ---- points for members
pub weaker_point : (model : Program) (a b c : List Member) (p : Point) → IsPointOf model (a ++ (b ++ c)) p → IsPointOf model (a ++ c) p
weaker_point model a b c p h = record { each_column = h.each_column; satisfies = part_law model (a ++ c) (a ++ (b ++ c)) (part_without a b c) (values_at p.values) h.satisfies }

-- what has a point can be satisfied
pub satisfiable_by : (model : Program) (members : List Member) (p : Point) → IsPointOf model members p → IsSatisfiable model members
satisfiable_by model members p h =
    let q = common_denominator p.values in
    let same : ◌≡◌ {A = Assignment} (coordinate q.0) (values_at p.values) = λ i. λ j. q.1 j i in
    record { point = q.0; satisfies = subst (Satisfies model members) (sym same) h.satisfies }

pub are_witnesses : (model : Program) (members : List Member) (points : List Point) → EachSuits (IsPointOf model) [] members [] points → AreWitnesses model members points
are_witnesses model members points h = record {
  as_many = as_many (IsPointOf model) [] members [] points h;
  each = λ i d l. subst (λ z. IsPointOf model z (get_or points i d)) (append-nil (without members i)) (each_suits (IsPointOf model) [] members [] points h i d l);
}
