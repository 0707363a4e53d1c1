-- The first fault of steps, one after another.
use Rattle.std.proofs.Common.{◌≡◌, ℕ, List, [], ◌∷◌, ◌++◌, Option, Some, None, Result, Ok, Err, MatchResult, map, refl, sym, ap, ◌∙◌, subst, append_assoc, append-nil}
use Rattle.std.specs.Option.{option_or}
use Rattle.text_fields.specs.declared.faults.ReadKind.{ReadKind}
use Rattle.text_fields.specs.declared.faults.ReadStop.{ReadStop}
use Rattle.text_fields.specs.declared.faults.ReadFault.{ReadFault}
use Rattle.text_fields.specs.declared.faults.ReadFault.TheVariants.{Stop, Memory}
use Rattle.mps_lines.specs.declared.shapes.Figure.{Figure as FigureRead}
use Rattle.mps_lines.specs.Shapes.{Figure}
use Rattle.mps_lines.specs.Said.{figure_shown, figures_said}
use Rattle.mps_lines.specs.Steps.{Step, Placed, placed}
use Rattle.mps_reader.specs.declared.tables.Reader.{Reader}
use Rattle.mps_reader.specs.Faults.{fault, first_fault, stop_or}
use Rattle.mps_reader.specs.Held.{Holds, IsStepStop}
use Rattle.text_fields.specs.Faults.{IsFaultOf}

-- a step without a fault
pub step_passes : (steps : List Step) (line : ℕ) (s : Step) (rest : List Placed) → fault steps s ≡ None → first_fault steps (placed line s ∷ rest) ≡ first_fault (steps ++ s ∷ []) rest
unfolding first_fault
step_passes steps line s rest e = ap (λ o. stop_or line o (first_fault (steps ++ s ∷ []) rest)) e

-- and one with a fault
pub step_stops : (steps : List Step) (line : ℕ) (s : Step) (rest : List Placed) (kind : ReadKind) → fault steps s ≡ Some kind → first_fault steps (placed line s ∷ rest) ≡ Some (record { line = line; kind = kind })
unfolding first_fault
step_stops steps line s rest kind e = ap (λ o. stop_or line o (first_fault (steps ++ s ∷ []) rest)) e

pub no_more : (steps : List Step) → first_fault steps [] ≡ None
unfolding first_fault
no_more steps = refl

-- a step's fault is the first
pub first_is : (steps : List Step) (line : ℕ) (s : Step) (rest : List Placed) (found : ReadFault) → IsStepStop line (fault steps s) found → IsFaultOf (first_fault steps (placed line s ∷ rest)) found
first_is steps line s rest (Stop stop) h = step_stops steps line s rest stop.kind h.0 ∙ ap (λ (n : ℕ). Some (let t : ReadStop = record { line = n; kind = stop.kind } in t)) (sym h.1)
first_is steps line s rest Memory h = tt

-- faults of a first part come before those of the rest
pub first_append : (steps : List Step) (xs ys : List Placed) → first_fault steps (xs ++ ys) ≡ option_or (first_fault steps xs) (first_fault (steps ++ map (λ p. p.step) xs) ys)
unfolding first_fault
first_append steps [] ys = ap (λ (s : List Step). first_fault s ys) (sym (append-nil steps))
first_append steps (x ∷ xs) ys =
    ap (stop_or x.line (fault steps x.step)) (first_append (steps ++ x.step ∷ []) xs ys ∙ ap (λ (s : List Step). option_or (first_fault (steps ++ x.step ∷ []) xs) (first_fault s ys)) (append_assoc steps (x.step ∷ []) (map (λ p. p.step) xs)))
    ∙ by (fault steps x.step) (first_fault (steps ++ x.step ∷ []) xs) (first_fault (steps ++ map (λ p. p.step) (x ∷ xs)) ys)
  where
    by : (o : Option ReadKind) (a b : Option ReadStop) → stop_or x.line o (option_or a b) ≡ option_or (stop_or x.line o a) b
    by None a b = refl
    by (Some kind) a b = refl

-- what is placed says its steps
pub steps_placed : (line : ℕ) (ss : List Step) → map (λ (p : Placed). p.step) (map (placed line) ss) ≡ ss
steps_placed line [] = refl
steps_placed line (s ∷ ss) = ap (λ l. s ∷ l) (steps_placed line ss)

-- ---- the steps of one line
module _ (line : ℕ) (new : Reader) where
  pub all_none : (steps : List Step) → Holds new steps → (first_fault steps [] ≡ None) × Holds new (steps ++ [])
  all_none steps h = (no_more steps, subst (Holds new) (sym (append-nil steps)) h)

  pub all_then : (steps : List Step) (s : Step) (more : List Step) → fault steps s ≡ None → (first_fault (steps ++ s ∷ []) (map (placed line) more) ≡ None) × Holds new ((steps ++ s ∷ []) ++ more)
      → (first_fault steps (map (placed line) (s ∷ more)) ≡ None) × Holds new (steps ++ s ∷ more)
  all_then steps s more e rest = (step_passes steps line s (map (placed line) more) e ∙ rest.0, subst (Holds new) (append_assoc steps (s ∷ []) more) rest.1)

  pub one_taken : (steps : List Step) (s : Step) → (fault steps s ≡ None) × Holds new (steps ++ s ∷ []) → (first_fault steps (map (placed line) (s ∷ [])) ≡ None) × Holds new (steps ++ s ∷ [])
  one_taken steps s h = (step_passes steps line s [] h.0 ∙ no_more (steps ++ s ∷ []), h.1)

  pub two_taken : (steps : List Step) (s t : Step) → fault steps s ≡ None → (fault (steps ++ s ∷ []) t ≡ None) × Holds new ((steps ++ s ∷ []) ++ t ∷ []) → (first_fault steps (map (placed line) (s ∷ t ∷ [])) ≡ None) × Holds new (steps ++ s ∷ t ∷ [])
  two_taken steps s t e h = all_then steps s (t ∷ []) e (one_taken (steps ++ s ∷ []) t h)

pub stop_then : (line : ℕ) (steps : List Step) (s : Step) (more : List Step) (found : ReadFault) → fault steps s ≡ None → IsFaultOf (first_fault (steps ++ s ∷ []) (map (placed line) more)) found → IsFaultOf (first_fault steps (map (placed line) (s ∷ more))) found
stop_then line steps s more found e h = subst (λ o. IsFaultOf o found) (sym (step_passes steps line s (map (placed line) more) e)) h

-- a step without a fault, and those after it
pub then_all : (line : ℕ) (new : Reader) (steps : List Step) (s : Step) (more : List Step) (result : Result (Unit {0}) ReadFault) → fault steps s ≡ None
    → MatchResult result (λ _. (first_fault (steps ++ s ∷ []) (map (placed line) more) ≡ None) × Holds new ((steps ++ s ∷ []) ++ more)) (IsFaultOf (first_fault (steps ++ s ∷ []) (map (placed line) more)))
    → MatchResult result (λ _. (first_fault steps (map (placed line) (s ∷ more)) ≡ None) × Holds new (steps ++ s ∷ more)) (IsFaultOf (first_fault steps (map (placed line) (s ∷ more))))
then_all line new steps s more (Ok u) e h = all_then line new steps s more e h
then_all line new steps s more (Err found) e h = stop_then line steps s more found e h

-- ---- one figure or two
module _ (to : Figure → Step) (line : ℕ) (steps : List Step) (first : FigureRead) where
  abbrev one : Step
  one = to (figure_shown first)

  pub first_stops : (o : Option FigureRead) (found : ReadFault) → IsStepStop line (fault steps one) found → IsFaultOf (first_fault steps (map (placed line) (map to (figures_said first o)))) found
  first_stops None found h = first_is steps line one [] found h
  first_stops (Some second) found h = first_is steps line one (placed line (to (figure_shown second)) ∷ []) found h

  pub only_one : (o : Option FigureRead) (new : Reader) → o ≡ None → (fault steps one ≡ None) × Holds new (steps ++ one ∷ []) → (first_fault steps (map (placed line) (map to (figures_said first o))) ≡ None) × Holds new (steps ++ map to (figures_said first o))
  only_one o new is h = subst (λ (o : Option FigureRead). (first_fault steps (map (placed line) (map to (figures_said first o))) ≡ None) × Holds new (steps ++ map to (figures_said first o))) (sym is) (one_taken line new steps one h)

  module _ (second : FigureRead) (o : Option FigureRead) (is : o ≡ Some second) (passed : fault steps one ≡ None) where
    abbrev two : Step
    two = to (figure_shown second)

    abbrev Taken : Reader → Result (Unit {0}) ReadFault → Option FigureRead → Type 0
    Taken new result o = MatchResult result
        (λ _. (first_fault steps (map (placed line) (map to (figures_said first o))) ≡ None) × Holds new (steps ++ map to (figures_said first o)))
        (IsFaultOf (first_fault steps (map (placed line) (map to (figures_said first o)))))

    pub second_is : (new : Reader) (result : Result (Unit {0}) ReadFault) → MatchResult result (λ _. (fault (steps ++ one ∷ []) two ≡ None) × Holds new ((steps ++ one ∷ []) ++ two ∷ [])) (IsStepStop line (fault (steps ++ one ∷ []) two)) → Taken new result o
    second_is new (Ok u) h = subst (Taken new (Ok u)) (sym is) (two_taken line new steps one two passed h)
    second_is new (Err found) h = subst (Taken new (Err found)) (sym is) (stop_then line steps one (two ∷ []) found passed (first_is (steps ++ one ∷ []) line two [] found h))
