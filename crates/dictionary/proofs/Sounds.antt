-- What holds of a dictionary's fields stays so.
use Rattle.std.proofs.Common.{◌≡◌, ◌-◌, ◌<◌, ◌^◌, refl, sym, ◌∙◌, ap, subst, ℕ, Bool, true, false, cond, List, [], length, get_or, set, arith, inl, inr}
use Rattle.std.proofs.lemmas.Bool.{cases_eq}
use Rattle.std.proofs.lemmas.List.{get_or-set_same, get_or-set_other}
use Rattle.rational.specs.Linear.{Term}
use Rattle.lp_model.specs.declared.members.Side.{Side}
use Rattle.certs.specs.System.{Place, is_basic}
use Rattle.certs.specs.System.Place.{Basic, AtLower, AtUpper, AtZero}
use Rattle.certs.specs.Turns.{exchanged, other_place}
use Rattle.certs.proofs.Tableaus.{place_basic, exchanged-length, exchanged-other, exchanged-entering}
use Rattle.dictionary.specs.Rows.{AreSparse}
use Rattle.dictionary.specs.Sound.{IsSound}

-- after a pivot
pub sound_after : (bounds : ℕ) (basis next : List Place) (rows rows' : List (List Term)) (objective usable usable' : Bool) (i j : ℕ) (side : Side) → IsSound bounds basis rows objective usable → j < length basis → i < cond objective (length basis - 1) (length basis)
    → next ≡ exchanged basis i side j → AreSparse (exchanged basis i side j) rows' → IsSound bounds next rows' objective usable'
sound_after bounds basis next rows rows' objective usable usable' i j side sound lj li e sparse = subst (λ b. IsSound bounds b rows' objective usable') (sym e) exact
  where
    clash : (a b : ℕ) → a < b → b ≡ a → ⊥
    clash a b h e = omega arith

    last : objective ≡ true → is_basic (exchanged basis i side j) (length (exchanged basis i side j) - 1) ≡ true
    last o =
        subst (λ n. is_basic (exchanged basis i side j) (n - 1) ≡ true) (sym (exchanged-length basis i j side))
        (let m : i < length basis - 1 = subst (λ b. i < cond b (length basis - 1) (length basis)) o li in
        elim (cases_eq (length basis - 1) j) [
          | inl e ↦ subst (λ v. is_basic (exchanged basis i side j) v ≡ true) (sym e) (exchanged-entering basis i j side lj)
          | inr e ↦ (exchanged-other basis i j side (length basis - 1) (λ d. absurd (clash i (length basis - 1) m d)) e ∙ sound.objective_basic o)
        ])

    exact : IsSound bounds (exchanged basis i side j) rows' objective usable'
    exact = record {
      bounded = sound.bounded ∙ sym (exchanged-length basis i j side);
      few = subst (λ n. n < 2 ^ 31) (sym (exchanged-length basis i j side)) sound.few;
      objective_basic = last;
      sparse = λ _. sparse;
    }

-- rows that are of no more use
pub sound_lost : (bounds : ℕ) (basis : List Place) (rows rows' : List (List Term)) (objective usable : Bool) → IsSound bounds basis rows objective usable → IsSound bounds basis rows' objective false
sound_lost bounds basis rows rows' objective usable sound = record { bounded = sound.bounded; few = sound.few; objective_basic = sound.objective_basic; sparse = λ e. cc }

-- a basis in which the same variables stand
pub sound_same : (bounds : ℕ) (basis next : List Place) (rows : List (List Term)) (objective usable : Bool) → length next ≡ length basis → ((v : ℕ) → is_basic next v ≡ is_basic basis v) → IsSound bounds basis rows objective usable → IsSound bounds next rows objective usable
sound_same bounds basis next rows objective usable e h sound = record {
  bounded = sound.bounded ∙ sym e;
  few = subst (λ n. n < 2 ^ 31) (sym e) sound.few;
  objective_basic = λ o. h (length next - 1) ∙ subst (λ n. is_basic basis (n - 1) ≡ true) (sym e) (sound.objective_basic o);
  sparse = λ u.
      (let s = sound.sparse u in
      record {
        long = s.long ∙ sym e;
        sparse = λ i b.
            (let r = s.sparse i (sym (h i) ∙ b) in
            record { is_row = r.is_row; nonbasic = λ k d l. (let o = r.nonbasic k d l in (subst (λ n. (get_or (get_or rows i []) k d).column < n) (sym e) o.0, h (get_or (get_or rows i []) k d).column ∙ o.1)) });
        empty = λ k b. s.empty k (sym (h k) ∙ b);
      });
}

other_code : (p : Place) → place_basic (other_place p) ≡ place_basic p
unfolding place_basic
other_code Basic = refl
other_code AtLower = refl
other_code AtUpper = refl
other_code AtZero = refl

pub turned_basic : (basis : List Place) (k : ℕ) (p : Place) → k < length basis → p ≡ other_place (get_or basis k AtZero) → (v : ℕ) → is_basic (set basis k p) v ≡ is_basic basis v
unfolding place_basic
turned_basic basis k p l e v =
    elim (cases_eq v k) [
      | inl d ↦ (ap (is_basic (set basis k p)) d ∙ ap place_basic (get_or-set_same basis k p AtZero l ∙ e) ∙ other_code (get_or basis k AtZero) ∙ ap (is_basic basis) (sym d))
      | inr d ↦ ap place_basic (get_or-set_other basis k v p AtZero d)
    ]
