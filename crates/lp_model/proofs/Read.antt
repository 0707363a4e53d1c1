-- What the code's lists of named parts show at an index and by a name.
use Rattle.std.proofs.Common.{◌≡◌, refl, sym, ◌∙◌, ap, ℕ, List, [], ◌∷◌, map, get_or, Option, Some, None}
use Rattle.std.specs.Option.{option_map}
use Rattle.std.specs.List.{slice_get}
use Rattle.std.proofs.lemmas.Option.{slice_get-map, get_or_from_slice_get}

-- what is read through a function comes from an element
pub record IsRead {E N : Type 0} (g : E → N) (o : Option E) (n : N) : Type 0 where
  pub element : E
  pub there : o ≡ Some element
  pub gives : g element ≡ n

read_through : {E N : Type 0} (g : E → N) (o : Option E) (n : N) → option_map g o ≡ Some n → IsRead g o n
read_through g None n h = absurd (cc)
read_through g (Some e) n h = record { element = e; there = refl; gives = cc }

-- the element that one function reads at an index, seen through another
pub shown_at : {E N F : Type 0} (g : E → N) (f : E → F) (es : List E) (i : ℕ) (n : N) (d : F) → slice_get (map g es) i ≡ Some n → (e : E) × (g e ≡ n) × (get_or (map f es) i d ≡ f e)
shown_at g f es i n d h =
    let r = read_through g (slice_get es i) n (sym (slice_get-map g es i) ∙ h) in (
      r.element,
      r.gives,
      get_or_from_slice_get (map f es) i (f r.element) d (slice_get-map f es i ∙ ap (option_map f) r.there),
    )

-- a function of a function of each element
pub map_twice : {E F N : Type 0} (g : F → N) (f : E → F) (es : List E) → map g (map f es) ≡ map (λ e. g (f e)) es
map_twice g f [] = refl
map_twice g f (e ∷ es) = ap (λ l. g (f e) ∷ l) (map_twice g f es)
