-- Operations and blocks of the numbers below a bound that pass a test, one number after another.
use Rattle.std.proofs.Common.{◌≡◌, ◌+◌, ◌<◌, refl, sym, ◌∙◌, ap, ℕ, Bool, true, false, List, [], ◌∷◌, ◌++◌, Option, Some, None, flat_map}
use Rattle.std.proofs.lemmas.List.{append-nil}
use Rattle.std.proofs.lemmas.List.Concat.{flat_map-append}
use Rattle.frac128.specs.declared.Wide.{Wide as Operation}
use Rattle.frac128.specs.Calculation.{Calculation, first_wide, or_else}
use Rattle.frac128.proofs.Calculations.{first_wide-append, first_wide-past, first_wide-before}
use Rattle.certs.specs.Tableau.{below}
use Rattle.certs.specs.Improves.{Block, nearest}
use Rattle.simplex.proofs.Firsts.{Split, split_at, below-yes, below-no}
use Rattle.simplex.specs.ImproveChosen.{nearer}
use Rattle.simplex.proofs.Nearer.{nearest_append}

-- one number more
pub more_yes : {X : Type 0} (f : ℕ → List X) (test : ℕ → Bool) (v : ℕ) → test v ≡ true → flat_map f (below (v + 1) test) ≡ flat_map f (below v test) ++ f v
more_yes f test v e = ap (flat_map f) (below-yes test v e) ∙ flat_map-append f (below v test) (v ∷ []) ∙ ap (λ l. flat_map f (below v test) ++ l) (append-nil (f v))

pub more_no : {X : Type 0} (f : ℕ → List X) (test : ℕ → Bool) (v : ℕ) → test v ≡ false → flat_map f (below (v + 1) test) ≡ flat_map f (below v test)
more_no f test v e = ap (flat_map f) (below-no test v e)

module _ (m : ℕ) (work : ℕ → Calculation) (test : ℕ → Bool) where
  last_none : (a b : Option Operation) → or_else a b ≡ None → b ≡ None
  last_none None b e = e
  last_none (Some o) b e = absurd (some o e)
    where
      some : (o : Operation) → ◌≡◌ {A = Option Operation} (Some o) None → ⊥
      some o q = cc

  first_none : (a b : Option Operation) → or_else a b ≡ None → a ≡ None
  first_none None b e = refl
  first_none (Some o) b e = e

  pub narrow_more : (v : ℕ) → test v ≡ true → first_wide m (flat_map work (below v test)) ≡ None → first_wide m (work v) ≡ None → first_wide m (flat_map work (below (v + 1) test)) ≡ None
  narrow_more v e h k = ap (first_wide m) (more_yes work test v e) ∙ first_wide-past m (flat_map work (below v test)) (work v) h ∙ k

  pub narrow_same : (v : ℕ) → test v ≡ false → first_wide m (flat_map work (below v test)) ≡ None → first_wide m (flat_map work (below (v + 1) test)) ≡ None
  narrow_same v e h = ap (first_wide m) (more_no work test v e) ∙ h

  -- the first that is too wide
  pub wide_here : (n v : ℕ) (o : Operation) → v < n → test v ≡ true → first_wide m (flat_map work (below v test)) ≡ None → first_wide m (work v) ≡ Some o → first_wide m (flat_map work (below n test)) ≡ Some o
  wide_here n v o l e h k =
      let s : Split test n v = split_at test n v l e in
      ap (λ z. first_wide m (flat_map work z)) s.is
      ∙ ap (first_wide m) (flat_map-append work (below v test) (v ∷ s.rest))
      ∙ first_wide-past m (flat_map work (below v test)) (flat_map work (v ∷ s.rest)) h
      ∙ first_wide-before m (work v) (flat_map work s.rest) o k

  -- where none is, none is of each
  pub narrow_each : (n v : ℕ) → v < n → test v ≡ true → first_wide m (flat_map work (below n test)) ≡ None → first_wide m (work v) ≡ None
  narrow_each n v l e h =
      let s : Split test n v = split_at test n v l e in
      let whole : first_wide m (flat_map work (below v test) ++ (work v ++ flat_map work s.rest)) ≡ None = sym (ap (λ z. first_wide m (flat_map work z)) s.is ∙ ap (first_wide m) (flat_map-append work (below v test) (v ∷ s.rest))) ∙ h in
      let behind : first_wide m (work v ++ flat_map work s.rest) ≡ None = last_none (first_wide m (flat_map work (below v test))) _ (sym (first_wide-append m (flat_map work (below v test)) (work v ++ flat_map work s.rest)) ∙ whole) in
      first_none (first_wide m (work v)) _ (sym (first_wide-append m (work v) (flat_map work s.rest)) ∙ behind)

-- the first of the blocks so far, with those of one number more
pub nearest_more : (f : ℕ → List Block) (test : ℕ → Bool) (v : ℕ) (first : Option Block) → test v ≡ true → first ≡ nearest (flat_map f (below v test)) → nearer first (nearest (f v)) ≡ nearest (flat_map f (below (v + 1) test))
nearest_more f test v first e h = ap (λ z. nearer z (nearest (f v))) h ∙ sym (nearest_append (flat_map f (below v test)) (f v)) ∙ ap nearest (sym (more_yes f test v e))
