-- What comes first, as code finds it.
use Rattle.std.proofs.Common.{◌≡◌, refl, sym, ◌∙◌, ap, subst, ℕ, ◌+◌, ◌<◌, zero, suc, List, [], ◌∷◌, ◌++◌, length, Option, Some, None, arith, inl, inr}
use Rattle.std.specs.Prelude.{◌⊎◌}
use Rattle.std.specs.Option.{option_or}
use Rattle.std.proofs.lemmas.Bool.{cases_lt}
use Rattle.certs.specs.Ended.{numbers_from}
use Rattle.certs.specs.System.{LinearSystem}
use Rattle.reductions.specs.Rules.{Found}
use Rattle.reductions.specs.Rules.Found.{Goes, Decides}
use Rattle.reductions.specs.Reduction.{first_found, places}
use Rattle.reductions.specs.Stage.{Stage}
use Rattle.presolve.specs.declared.looking.RowRule.{RowRule}
use Rattle.presolve.specs.declared.looking.RowRule.TheVariants.{Empty, Singleton, Impossible, Redundant, Forcing, Doubleton}
use Rattle.presolve.specs.declared.plans.Next.{Next}
use Rattle.presolve.specs.Looked.{rule_of}
use Rattle.presolve.specs.Next.{IsNext}

-- ---- what code finds and what the rule finds
module _ (system : LinearSystem) where
  -- nothing, where code finds nothing
  pub next_none : (found : Option Found) → IsNext system found None → found ≡ None
  next_none None h = refl
  next_none (Some (Goes step)) h = absurd h
  next_none (Some (Decides of)) h = absurd h

  -- and nothing by code, where the rule finds nothing
  none_next : (found : Option Found) → found ≡ None → IsNext system found None
  none_next found e = subst (λ o. IsNext system o None) (sym e) tt

  -- what code finds is found, whatever comes after
  next_before : (found other : Option Found) (next : Next) → IsNext system found (Some next) → IsNext system (option_or found other) (Some next)
  next_before None other next h = absurd h
  next_before (Some f) other next h = h

  -- after nothing the other
  next_after : (found other : Option Found) (next : Option Next) → IsNext system found None → IsNext system other next → IsNext system (option_or found other) next
  next_after found other next h k = subst (λ o. IsNext system (option_or o other) next) (sym (next_none found h)) k

-- ---- over numbers
found-append : {A : Type 0} (find : A → Option Found) (xs ys : List A) → first_found find (xs ++ ys) ≡ option_or (first_found find xs) (first_found find ys)
found-append find [] ys = refl
found-append find (x ∷ xs) ys = ap (option_or (find x)) (found-append find xs ys) ∙ by (find x)
  where
    by : (o : Option Found) → option_or o (option_or (first_found find xs) (first_found find ys)) ≡ option_or (option_or o (first_found find xs)) (first_found find ys)
    by None = refl
    by (Some f) = refl

or_none : (o : Option Found) → option_or o None ≡ o
or_none None = refl
or_none (Some f) = refl

-- one number more
found_more : (find : ℕ → Option Found) (n : ℕ) → first_found find (numbers_from 0 (suc n)) ≡ option_or (first_found find (numbers_from 0 n)) (find n)
found_more find n =
    found-append find (numbers_from 0 n) ((0 + n) ∷ [])
    ∙ ap (option_or (first_found find (numbers_from 0 n))) (or_none (find (0 + n)) ∙ ap find (let e : 0 + n ≡ n = omega arith in e))

-- nothing so far, and nothing at the next one
pub none_more : (find : ℕ → Option Found) (n : ℕ) → first_found find (numbers_from 0 n) ≡ None → find n ≡ None → first_found find (numbers_from 0 (n + 1)) ≡ None
none_more find n none e =
    ap (λ k. first_found find (numbers_from 0 k)) (let s : n + 1 ≡ suc n = omega arith in s)
    ∙ found_more find n
    ∙ ap (λ o. option_or o (find n)) none
    ∙ e

last_or_before : (v n : ℕ) → v < suc n → (v < n) ⊎ (v ≡ n)
last_or_before v n l = elim (cases_lt v n) [ inl m ↦ inl m | inr m ↦ inr (omega arith) ]

-- nothing so far, and something at the next one
pub first_at : (system : LinearSystem) (find : ℕ → Option Found) (v n : ℕ) (next : Next) → v < n → first_found find (numbers_from 0 v) ≡ None
    → IsNext system (find v) (Some next) → IsNext system (first_found find (numbers_from 0 n)) (Some next)
first_at system find v zero next l none h = absurd (omega arith)
first_at system find v (suc n) next l none h =
    subst (λ o. IsNext system o (Some next)) (sym (found_more find n))
    (elim (last_or_before v n l) [
      | inl m ↦ next_before system (first_found find (numbers_from 0 n)) (find n) next (first_at system find v n next m none h)
      | inr s ↦
          subst (λ k. IsNext system (option_or (first_found find (numbers_from 0 k)) (find k)) (Some next)) s
          (next_after system (first_found find (numbers_from 0 v)) (find v) (Some next) (none_next system (first_found find (numbers_from 0 v)) none) h)
    ])

-- ---- rules that look at rows
module _ (stage : Stage) where
  pub row_places : (rule : RowRule) → places (rule_of rule) stage.system ≡ numbers_from 0 (length stage.system.rows)
  row_places Empty = refl
  row_places Singleton = refl
  row_places Impossible = refl
  row_places Redundant = refl
  row_places Forcing = refl
  row_places Doubleton = refl
