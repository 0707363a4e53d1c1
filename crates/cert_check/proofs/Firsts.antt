-- Where the trials of parts stop the check of the whole.
use Rattle.std.proofs.Common.{◌≡◌, refl, sym, ◌∙◌, ap, subst, ℕ, List, [], ◌∷◌, ◌++◌, Option, Some, None, Result}
use Rattle.certs.specs.declared.evidence.Checked.{Checked}
use Rattle.certs.specs.declared.evidence.Checked.TheVariants.{Yes, No, Wide}
use Rattle.cert_check.specs.declared.outcome.Stop.{Stop}
use Rattle.cert_check.specs.declared.outcome.Stop.TheVariants.{Rejected, Wide as TooWide, Memory}
use Rattle.cert_check.specs.Trials.{Trial}
use Rattle.cert_check.specs.Stops.{stop_or, first_stop, IsStop, Says}

-- the first of two that is there
abbrev pub either : Option Stop → Option Stop → Option Stop
either None rest = rest
either (Some s) rest = Some s

stop_over : (n : ℕ) (found : Checked) (first rest : Option Stop) → stop_or n found (either first rest) ≡ either (stop_or n found first) rest
stop_over n Yes first rest = refl
stop_over n No first rest = refl
stop_over n (Wide o) first rest = refl

-- the first part stops the whole, or the rest does
pub first_append : (a b : List Trial) → first_stop (a ++ b) ≡ either (first_stop a) (first_stop b)
first_append [] b = refl
first_append (t ∷ a) b = ap (λ (f : Option Stop). stop_or t.line t.found f) (first_append a b) ∙ stop_over t.line t.found (first_stop a) (first_stop b)

-- a part that nothing stops is passed over
pub passed_over : (a b : List Trial) → first_stop a ≡ None → first_stop (a ++ b) ≡ first_stop b
passed_over a b e = first_append a b ∙ ap (λ (f : Option Stop). either f (first_stop b)) e

stop_either : (first rest : Option Stop) (s : Stop) → IsStop first s → IsStop (either first rest) s
stop_either first rest (Rejected n) h = ap (λ (f : Option Stop). either f rest) h
stop_either first rest (TooWide n o) h = ap (λ (f : Option Stop). either f rest) h
stop_either first rest Memory h = tt

-- what stops the first part stops the whole
pub stop_first : (a b : List Trial) (s : Stop) → IsStop (first_stop a) s → IsStop (first_stop (a ++ b)) s
stop_first a b s h = subst (λ (f : Option Stop). IsStop f s) (sym (first_append a b)) (stop_either (first_stop a) (first_stop b) s h)

-- where nothing stops the whole, nothing stops its parts
both_none : (first rest : Option Stop) → either first rest ≡ None → (first ≡ None) × (rest ≡ None)
both_none None rest e = (refl, e)
both_none (Some s) rest e = absurd (cc)

pub parts_pass : (a b : List Trial) → first_stop (a ++ b) ≡ None → (first_stop a ≡ None) × (first_stop b ≡ None)
parts_pass a b e = both_none (first_stop a) (first_stop b) (sym (first_append a b) ∙ e)

pub found_yes : (n : ℕ) (found : Checked) (rest : Option Stop) → stop_or n found rest ≡ None → (found ≡ Yes) × (rest ≡ None)
found_yes n Yes rest e = (refl, e)
found_yes n No rest e = absurd (cc)
found_yes n (Wide o) rest e = absurd (cc)

-- a stop is the same under an equation
pub stop_of : (first other : Option Stop) (s : Stop) → first ≡ other → IsStop first s → IsStop other s
stop_of first other s e h = subst (λ (f : Option Stop). IsStop f s) e h

-- what the second part says is what the whole says, where nothing stops the first
pub says_second : (a b : List Trial) (r : Result (Unit {0}) Stop) → first_stop a ≡ None → Says (first_stop b) r → Says (first_stop (a ++ b)) r
says_second a b r e h = subst (λ (f : Option Stop). Says f r) (sym (passed_over a b e)) h

-- and so is a stop of it
pub stop_second : (a b : List Trial) (s : Stop) → first_stop a ≡ None → IsStop (first_stop b) s → IsStop (first_stop (a ++ b)) s
stop_second a b s e h = stop_of _ _ s (sym (passed_over a b e)) h

-- it is the same under an equation
pub says_of : (first other : Option Stop) (r : Result (Unit {0}) Stop) → first ≡ other → Says first r → Says other r
says_of first other r e h = subst (λ (f : Option Stop). Says f r) e h
