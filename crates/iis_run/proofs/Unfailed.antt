-- Lists of trials in which nothing is found to fail.
use Rattle.std.proofs.Common.{◌≡◌, ◌+◌, sym, ℕ, Bool, true, false, true≢false, List, [], ◌∷◌, ◌++◌}
use Rattle.std.specs.Prelude.{All}
use Rattle.std.proofs.lemmas.List.Elements.{All-append, All-cons, All-head, All-nil, All-tail}
use Rattle.certs.specs.declared.evidence.Checked.{Checked}
use Rattle.certs.specs.declared.evidence.Checked.TheVariants.{No}
use Rattle.cert_check.specs.Trials.{Trial, on_line, said, paired_trials}

-- what is found is no failure
abbrev pub IsUnfailed : Trial → Type 0
IsUnfailed t = t.found ≡ No → ⊥

-- on no line
abbrev pub AreUnfailed : List Trial → Type 0
AreUnfailed list = All IsUnfailed list

pub nothing : AreUnfailed []
nothing = All-nil IsUnfailed

pub one_more : (n : ℕ) (found : Checked) (rest : List Trial) → (found ≡ No → ⊥) → AreUnfailed rest → AreUnfailed (on_line n found ∷ rest)
one_more n found rest h r = All-cons IsUnfailed (on_line n found) rest h r

pub alone : (n : ℕ) (found : Checked) → (found ≡ No → ⊥) → AreUnfailed (on_line n found ∷ [])
alone n found h = one_more n found [] h nothing

pub joined : (a b : List Trial) → AreUnfailed a → AreUnfailed b → AreUnfailed (a ++ b)
joined a b f g = All-append IsUnfailed a b f g

-- a test that passes is no failure
pub said_true : (b : Bool) → b ≡ true → said b ≡ No → ⊥
said_true true e f = cc
said_true false e f = true≢false (sym e)

-- a list beside itself, where each element agrees with itself
module _ {A : Type 0} (agree : A → A → Bool) where
  pub paired_unfailed : (n : ℕ) (xs : List A) → All (λ x. agree x x ≡ true) xs → AreUnfailed (paired_trials agree n xs xs)
  paired_unfailed n [] h = nothing
  paired_unfailed n (x ∷ xs) h =
      one_more n (said (agree x x)) (paired_trials agree (n + 1) xs xs) (said_true (agree x x) (All-head (λ y. agree y y ≡ true) x xs h))
      (paired_unfailed (n + 1) xs (All-tail (λ y. agree y y ≡ true) x xs h))
