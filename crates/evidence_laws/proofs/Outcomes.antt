-- What a check answers, by its steps: the first wide operation, or a yes.
use Rattle.std.proofs.Common.{◌≡◌, refl, ap, ◌∙◌, ℕ, Bool, true, false, cond, List, [], ◌∷◌, ◌++◌, Option, None, Some}
use Rattle.std.specs.Prelude.{All}
use Rattle.std.proofs.lemmas.List.Elements.{All-head, All-tail, All-nil, All-cons}
use Rattle.frac128.specs.declared.Wide.{Wide as Operation}
use Rattle.frac128.specs.Calculation.{Calculation, first_wide}
use Rattle.frac128.proofs.Calculations.{first_wide-is, done-wide}
use Rattle.frac128.proofs.Firsts.{first_for, none_for, narrow_for}
use Rattle.certs.specs.declared.evidence.Checked.{Checked}
use Rattle.certs.specs.declared.evidence.Checked.TheVariants.{Yes, No, Wide}
use Rattle.certs.specs.Checks.{Step, unless_wide, outcome_within, IsPassed, IsFirstWide, WideLaw, YesLaw}

-- ---- steps that pass are passed over
pub past : (most : ℕ) (s : Step) (rest : List Step) → IsPassed most s → outcome_within most (s ∷ rest) ≡ outcome_within most rest
past most s rest p =
    ap (λ (o : Option Operation). unless_wide o (cond s.passes (outcome_within most rest) No)) (none_for most s.operations p.fits) ∙ ap (λ (t : Bool). cond t (outcome_within most rest) No) p.passes

past_all : (most : ℕ) (front rest : List Step) → All (IsPassed most) front → outcome_within most (front ++ rest) ≡ outcome_within most rest
past_all most [] rest h = refl
past_all most (s ∷ front) rest h = past most s (front ++ rest) (All-head (IsPassed most) s front h) ∙ past_all most front rest (All-tail (IsPassed most) s front h)

-- ---- a wide answer
ahead : (most : ℕ) (s : Step) (steps : List Step) (o : Operation) → IsPassed most s → IsFirstWide most steps o → IsFirstWide most (s ∷ steps) o
ahead most s steps o p w = record {
  front = s ∷ w.front;
  step = w.step;
  back = w.back;
  split = ap (λ (l : List Step). s ∷ l) w.split;
  passed = All-cons (IsPassed most) s w.front p w.passed;
  before = w.before;
  after = w.after;
  operations = w.operations;
  fits = w.fits;
  wide = w.wide;
}

here : (most : ℕ) (s : Step) (steps : List Step) (o : Operation) → first_wide most s.operations ≡ Some o → IsFirstWide most (s ∷ steps) o
here most s steps o e =
    let r = first_for most s.operations o e in
    record {
      front = [];
      step = s;
      back = steps;
      split = refl;
      passed = All-nil (IsPassed most);
      before = r.0;
      after = r.1.0;
      operations = r.1.1.0;
      fits = r.1.1.1;
      wide = first_wide-is most s.operations o e;
    }

found : (most : ℕ) (s : Step) (steps : List Step) (o : Operation) (p : Option Operation) → first_wide most s.operations ≡ p → (t : Bool) → s.passes ≡ t
    → (outcome_within most steps ≡ Wide o → IsFirstWide most steps o) → unless_wide p (cond t (outcome_within most steps) No) ≡ Wide o → IsFirstWide most (s ∷ steps) o
found most s steps o None f true k h e = ahead most s steps o (record { fits = narrow_for most s.operations f; passes = k }) (h e)
found most s steps o None f false k h e = absurd (cc)
found most s steps o (Some q) f t k h e = here most s steps o (let same : q ≡ o = cc in f ∙ ap (λ (z : Operation). Some z) same)

wide_there : (most : ℕ) (steps : List Step) (o : Operation) → outcome_within most steps ≡ Wide o → IsFirstWide most steps o
wide_there most [] o e = absurd (cc)
wide_there most (s ∷ steps) o e = found most s steps o (first_wide most s.operations) refl s.passes refl (wide_there most steps o) e

wide_back : (most : ℕ) (steps : List Step) (o : Operation) → IsFirstWide most steps o → outcome_within most steps ≡ Wide o
wide_back most steps o w =
    let stops : first_wide most w.step.operations ≡ Some o =
    ap (λ (xs : Calculation). first_wide most xs) w.operations ∙ done-wide most w.before o w.after (none_for most w.before w.fits) w.wide in
    ap (λ (l : List Step). outcome_within most l) w.split
    ∙ (past_all most w.front (w.step ∷ w.back) w.passed ∙ ap (λ (p : Option Operation). unless_wide p (cond w.step.passes (outcome_within most w.back) No)) stops)

pub wide_law : WideLaw
wide_law most steps o = (wide_there most steps o, wide_back most steps o)

-- ---- a yes
passed_first : (most : ℕ) (s : Step) (r : Checked) (p : Option Operation) → first_wide most s.operations ≡ p → (t : Bool) → s.passes ≡ t → unless_wide p (cond t r No) ≡ Yes → IsPassed most s × (r ≡ Yes)
passed_first most s r None f true k e = (record { fits = narrow_for most s.operations f; passes = k }, e)
passed_first most s r None f false k e = absurd (cc)
passed_first most s r (Some q) f t k e = absurd (cc)

yes_there : (most : ℕ) (steps : List Step) → outcome_within most steps ≡ Yes → All (IsPassed most) steps
yes_there most [] e = All-nil (IsPassed most)
yes_there most (s ∷ steps) e =
    let both : IsPassed most s × (outcome_within most steps ≡ Yes) = passed_first most s (outcome_within most steps) (first_wide most s.operations) refl s.passes refl e in
    All-cons (IsPassed most) s steps both.0 (yes_there most steps both.1)

yes_back : (most : ℕ) (steps : List Step) → All (IsPassed most) steps → outcome_within most steps ≡ Yes
yes_back most [] h = refl
yes_back most (s ∷ steps) h = past most s steps (All-head (IsPassed most) s steps h) ∙ yes_back most steps (All-tail (IsPassed most) s steps h)

pub yes_law : YesLaw
yes_law most steps = (yes_there most steps, yes_back most steps)
