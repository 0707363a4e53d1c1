-- The sums over changed rows and over the terms of a forcing row, as what their loops make.
use Rattle.std.proofs.Common.{◌≡◌, ◌+◌, refl, sym, ◌∙◌, ap, ℕ, List, [], ◌∷◌, ◌++◌, map, append_assoc}
use Rattle.std.specs.Prelude.{flat_map}
use Rattle.std.proofs.lemmas.List.{append-nil}
use Rattle.rational.specs.Rational.{ℚ, ◌+ℚ◌, ◌-ℚ◌, ◌/ℚ◌, neg_ℚ, zero_ℚ}
use Rattle.rational.specs.Sum.{sum_over}
use Rattle.rational.specs.Linear.{Term}
use Rattle.rational.proofs.Field.{ring_ℚ, x0, x1, x2, x3, x4, ◌:+◌, ◌:-◌, ◌:*◌, minus, zero_of}
use Rattle.frac128.specs.Calculation.{Calculation}
use Rattle.frac128.specs.declared.Op.TheVariants.{Plus, Minus, Over}
use Rattle.lp_model.specs.declared.members.Side.TheVariants.{Lo, Up}
use Rattle.certs.specs.Improves.{magnitude}
use Rattle.certs.specs.System.{VariableShare}
use Rattle.certs.specs.Turns.{counted}
use Rattle.reductions.specs.declared.steps.Change.{Change}
use Rattle.reductions.specs.declared.steps.Forcing.{Forcing as Forced}
use Rattle.reductions.specs.Back.{Weights, taken_of, taken_work, equation_work, forced_weight, times_work}
use Rattle.trace_back.specs.Taking.{side_part, side_work, taken_with, take_work, given_with, give_work, times_with, time_work, forced_share, part_work}
use Rattle.trace_back.proofs.Folding.{made_after, work_after}

-- four calculations in turn, before a fifth
regroup : (a b c d e : Calculation) → (a ++ (b ++ (c ++ d))) ++ e ≡ a ++ (b ++ (c ++ (d ++ e)))
regroup a b c d e = append_assoc a (b ++ (c ++ d)) e ∙ ap (λ l. a ++ l) (append_assoc b (c ++ d) e ∙ ap (λ l. b ++ l) (append_assoc c d e))

module _ (columns : ℕ) (w : Weights) where
  -- ---- how often changed rows are taken
  pub taken-made : (sum : ℚ) (changes : List Change) → made_after (take_work columns w) (taken_with columns w) sum changes ≡ sum +ℚ taken_of columns changes w
  taken-made sum [] = ring_ℚ (sum ∷ []) x0 (x0 :+ zero_of) tt
  taken-made sum (c ∷ changes) =
      taken-made (taken_with columns w sum c) changes
      ∙ ring_ℚ (sum ∷ c.factor ∷ w Lo (columns + c.row) ∷ w Up (columns + c.row) ∷ taken_of columns changes w ∷ []) (((x0 :- x1 :* x2) :+ x1 :* x3) :+ x4) (x0 :+ (x1 :* (x3 :- x2) :+ x4)) tt

  pub taken-work : (sum : ℚ) (changes : List Change) → work_after (take_work columns w) (taken_with columns w) sum changes ≡ taken_work columns w sum changes
  taken-work sum [] = refl
  taken-work sum (c ∷ changes) =
      ap (λ l. take_work columns w sum c ++ l) (taken-work (taken_with columns w sum c) changes)
      ∙ regroup (side_work columns w c Lo) (counted Minus sum (side_part columns w c Lo)) (side_work columns w c Up) (counted Plus (sum -ℚ side_part columns w c Lo) (side_part columns w c Up)) (taken_work columns w (taken_with columns w sum c) changes)

  -- ---- and the opposite
  pub given-made : (sum : ℚ) (changes : List Change) → made_after (give_work columns w) (given_with columns w) sum changes ≡ sum -ℚ taken_of columns changes w
  given-made sum [] = ring_ℚ (sum ∷ []) x0 (x0 :- zero_of) tt
  given-made sum (c ∷ changes) =
      given-made (given_with columns w sum c) changes
      ∙ ring_ℚ (sum ∷ c.factor ∷ w Lo (columns + c.row) ∷ w Up (columns + c.row) ∷ taken_of columns changes w ∷ []) (((x0 :+ x1 :* x2) :- x1 :* x3) :- x4) (x0 :- (x1 :* (x3 :- x2) :+ x4)) tt

  pub given-work : (sum : ℚ) (changes : List Change) → work_after (give_work columns w) (given_with columns w) sum changes ≡ equation_work columns w sum changes
  given-work sum [] = refl
  given-work sum (c ∷ changes) =
      ap (λ l. give_work columns w sum c ++ l) (given-work (given_with columns w sum c) changes)
      ∙ regroup (side_work columns w c Lo) (counted Plus sum (side_part columns w c Lo)) (side_work columns w c Up) (counted Minus (sum +ℚ side_part columns w c Lo) (side_part columns w c Up)) (equation_work columns w (given_with columns w sum c) changes)

pub from_zero : (q : ℚ) → zero_ℚ +ℚ q ≡ q
from_zero q = ring_ℚ (q ∷ []) (zero_of :+ x0) x0 tt

pub less_from_zero : (q : ℚ) → zero_ℚ -ℚ q ≡ neg_ℚ q
less_from_zero q = ring_ℚ (q ∷ []) (zero_of :- x0) (minus x0) tt

module _ (f : Forced) (w : Weights) where
  -- ---- how often the side of a forcing row is taken
  pub times-made : (sum : ℚ) (terms : List Term) → made_after (time_work f w) (times_with f w) sum terms ≡ sum +ℚ sum_over (λ t. forced_weight f w t /ℚ magnitude t.factor) terms
  times-made sum [] = ring_ℚ (sum ∷ []) x0 (x0 :+ zero_of) tt
  times-made sum (t ∷ terms) =
      times-made (times_with f w sum t) terms
      ∙ ring_ℚ (sum ∷ (forced_weight f w t /ℚ magnitude t.factor) ∷ sum_over (λ t. forced_weight f w t /ℚ magnitude t.factor) terms ∷ []) ((x0 :+ x1) :+ x2) (x0 :+ (x1 :+ x2)) tt

  pub times-work : (sum : ℚ) (terms : List Term) → work_after (time_work f w) (times_with f w) sum terms ≡ times_work f w sum terms
  times-work sum [] = refl
  times-work sum (t ∷ terms) =
      ap (λ l. time_work f w sum t ++ l) (times-work (times_with f w sum t) terms)
      ∙ append_assoc (counted Over (forced_weight f w t) (magnitude t.factor)) (counted Plus sum (forced_weight f w t /ℚ magnitude t.factor)) (times_work f w (times_with f w sum t) terms)

  -- ---- the limits that it takes
  module _ (times : ℚ) where
    abbrev pub limit_more : List VariableShare → Term → List VariableShare
    limit_more done t = done ++ forced_share f w times t ∷ []

    abbrev pub limit_work : List VariableShare → Term → Calculation
    limit_work done t = part_work f w times t

    pub limits-made : (done : List VariableShare) (terms : List Term) → made_after limit_work limit_more done terms ≡ done ++ map (forced_share f w times) terms
    limits-made done [] = sym (append-nil done)
    limits-made done (t ∷ terms) = limits-made (limit_more done t) terms ∙ append_assoc done (forced_share f w times t ∷ []) (map (forced_share f w times) terms)

    pub limits-work : (done : List VariableShare) (terms : List Term) → work_after limit_work limit_more done terms ≡ flat_map (part_work f w times) terms
    limits-work done [] = refl
    limits-work done (t ∷ terms) = ap (λ l. part_work f w times t ++ l) (limits-work (limit_more done t) terms)
