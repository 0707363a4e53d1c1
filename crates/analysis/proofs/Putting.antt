-- Puts one after another.
use Rattle.std.proofs.Common.{◌≡◌, ◌≤◌, ◌+◌, refl, sym, ◌∙◌, ap, subst, ℕ, List, [], ◌∷◌, ◌++◌, append_assoc, length, take, Option, Some, None, option_map, arith, inl, inr}
use Rattle.std.proofs.lemmas.Bool.{cases_lt}
use Rattle.std.proofs.lemmas.List.{take-append-le, take_all}
use Rattle.std.proofs.Math.Seq.{take-append-add, take-append_seam}
use Rattle.iis_edge.specs.Causes.{Rose}
use Rattle.analysis.specs.Puts.{PutWhole, PutFailed, PutsNothing}

-- texts one after another
joined : (a : Option (List ℕ)) (x y : List ℕ) → option_map (λ b. b ++ y) (option_map (λ b. b ++ x) a) ≡ option_map (λ b. b ++ (x ++ y)) a
joined None x y = refl
joined (Some b) x y = ap (λ z. Some z) (append_assoc b x y)

-- two texts put whole are one
pub put_two : {K : Type 0} (faults : K → ℕ) (taken : K → Option (List ℕ)) (a b c : K) (x y : List ℕ) → PutWhole faults taken a b x → PutWhole faults taken b c y → PutWhole faults taken a c (x ++ y)
put_two faults taken a b c x y p q = record { bytes = q.bytes ∙ (ap (option_map (λ z. z ++ y)) p.bytes ∙ joined (taken a) x y); quiet = q.quiet ∙ p.quiet }

-- nothing put, then a text
nothing_more : (a : Option (List ℕ)) → option_map (λ b. b ++ []) a ≡ a
nothing_more None = refl
nothing_more (Some b) = ap (λ z. Some z) (empty_end b)
  where
    empty_end : (xs : List ℕ) → xs ++ [] ≡ xs
    empty_end [] = refl
    empty_end (x ∷ xs) = ap (λ z. x ∷ z) (empty_end xs)

-- a text put whole and then nothing
pub put_then_none : {K : Type 0} (faults : K → ℕ) (taken : K → Option (List ℕ)) (a b c : K) (x : List ℕ) → PutWhole faults taken a b x → PutsNothing faults taken b c → PutWhole faults taken a c x
put_then_none faults taken a b c x p q = record { bytes = q.bytes ∙ p.bytes; quiet = q.quiet ∙ p.quiet }

-- a front of the second text after the whole first one is a front of both
pub failed_after : {K : Type 0} (faults : K → ℕ) (taken : K → Option (List ℕ)) (a b c : K) (x y : List ℕ) → PutWhole faults taken a b x → PutFailed faults taken b c y → PutFailed faults taken a c (x ++ y)
failed_after faults taken a b c x y p q = record {
  bytes = (
    length x + q.bytes.0,
    q.bytes.1 ∙ (ap (option_map (λ z. z ++ take q.bytes.0 y)) p.bytes ∙ (joined (taken a) x (take q.bytes.0 y) ∙ ap (λ t. option_map (λ z. z ++ t) (taken a)) (sym (take-append-add x y q.bytes.0)))),
  );
  rose = subst (λ n. Rose n (faults c)) p.quiet q.rose;
  kept = subst (λ n. n ≤ faults c) p.quiet q.kept;
}

-- a front of a text is one of a longer text
front_of : (n : ℕ) (x y : List ℕ) → (m : ℕ) × (take n x ≡ take m (x ++ y))
front_of n x y =
    elim (cases_lt (length x) n) [
      | inl h ↦ (length x, take_all n x (let l : length x ≤ n = omega arith in l) ∙ sym (take-append_seam x y))
      | inr h ↦ (n, sym (take-append-le n x y h))
    ]

pub failed_longer : {K : Type 0} (faults : K → ℕ) (taken : K → Option (List ℕ)) (a b : K) (x y : List ℕ) → PutFailed faults taken a b x → PutFailed faults taken a b (x ++ y)
failed_longer faults taken a b x y p =
    let f = front_of p.bytes.0 x y in
    record { bytes = (f.0, p.bytes.1 ∙ ap (λ t. option_map (λ z. z ++ t) (taken a)) f.1); rose = p.rose; kept = p.kept }
