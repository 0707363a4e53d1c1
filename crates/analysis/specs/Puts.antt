-- What puts come to: the whole text, a front of it, or nothing.
use Rattle.std.specs.Prelude.{◌≡◌, ◌≤◌, ℕ, List, ◌++◌, take, Option, option_map}
use Rattle.iis_edge.specs.Causes.{Rose}

-- the text was put whole, and no put failed
pub record PutWhole {K : Type 0} (faults : K → ℕ) (taken : K → Option (List ℕ)) (old new : K) (text : List ℕ) : Type 0 where
  pub bytes : taken new ≡ option_map (λ b. b ++ text) (taken old)
  pub quiet : faults new ≡ faults old

-- a put failed, and a front of the text was put
pub record PutFailed {K : Type 0} (faults : K → ℕ) (taken : K → Option (List ℕ)) (old new : K) (text : List ℕ) : Type 0 where
  pub bytes : (n : ℕ) × (taken new ≡ option_map (λ b. b ++ take n text) (taken old))
  pub rose : Rose (faults old) (faults new)
  pub kept : faults old ≤ faults new

-- nothing was put
pub record PutsNothing {K : Type 0} (faults : K → ℕ) (taken : K → Option (List ℕ)) (old new : K) : Type 0 where
  pub bytes : taken new ≡ taken old
  pub quiet : faults new ≡ faults old
