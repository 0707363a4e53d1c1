-- The first number of a range that passes a test.
use Rattle.std.proofs.Common.{◌≡◌, refl, ℕ, zero, suc, ◌+◌, ◌<◌, ◌≤◌, Bool, true, false, cond, None, Some, ap, ◌∙◌, arith}
use Rattle.std.specs.Prelude.{find}
use Rattle.std.specs.List.{range_with_len}

module _ (p : ℕ → Bool) where
  -- none does
  pub none_in : (a n : ℕ) → ((k : ℕ) → a ≤ k → k < a + n → p k ≡ false) → find p (range_with_len a n) ≡ None
  none_in a zero none = refl
  none_in a (suc n) none =
      ap (λ (b : Bool). cond b (Some a) (find p (range_with_len (a + 1) n))) (none a (omega arith) (omega arith))
      ∙ none_in (a + 1) n (λ k h l. none k (omega arith) (omega arith))

  -- the one that is d past the beginning does, and none before it
  pub first_in : (a n d m : ℕ) → a + d ≡ m → d < n → ((k : ℕ) → a ≤ k → k < m → p k ≡ false) → p m ≡ true → find p (range_with_len a n) ≡ Some m
  first_in a zero d m e l none passes = absurd (omega arith)
  first_in a (suc n) zero m e l none passes =
      let same : a ≡ m = omega arith in
      ap (λ (b : Bool). cond b (Some a) (find p (range_with_len (a + 1) n))) (ap p same ∙ passes) ∙ ap Some same
  first_in a (suc n) (suc d) m e l none passes =
      ap (λ (b : Bool). cond b (Some a) (find p (range_with_len (a + 1) n))) (none a (omega arith) (omega arith))
      ∙ first_in (a + 1) n d m (omega arith) (omega arith) (λ k h i. none k (omega arith) i) passes
