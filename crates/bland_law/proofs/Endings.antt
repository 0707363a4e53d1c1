-- So a settle run makes fewer pivots than the digits of base 3 allow, and no basis comes twice.
use Rattle.std.proofs.Common.{◌≡◌, ◌+◌, ◌^◌, ◌<◌, ◌≤◌, refl, sym, ◌∙◌, ap, subst, ℕ, zero, suc, List, arith}
use Rattle.certs.specs.System.{LinearSystem, Place}
use Rattle.certs.specs.Tableau.{Tableau, IsTableauOf, IsWellFormedSystem}
use Rattle.certs.specs.Turns.{exchanged}
use Rattle.certs.specs.Runs.{IsPivotTurn, Reaches}
use Rattle.bland_law.specs.Ends.{limited_count, FewPivotsLaw, NoBasisTwiceLaw, NeverSpentLaw}
use Rattle.bland_law.proofs.Returns.{Memory, next, leaves_basic, leaves_below, enters_nonbasic, enters_below, no_return, left_nonbasic, entered_basic, others_same, remembered, still_remembered}
use Rattle.bland_law.proofs.Counts.{Exchanges, Fallen, nothing_fallen, fallen_more, fallen_few, rounds, rounds_enough}

module _ (most : ℕ) (system : LinearSystem) (formed : IsWellFormedSystem system) (middle last : List Place) (turn : IsPivotTurn most system middle last) where
  abbrev t : Tableau
  t = turn.here.tableau

  abbrev of : IsTableauOf system t
  of = turn.here.is_of

  after : next system formed t of turn.leaving turn.side turn.entering turn.due ≡ last
  unfolding next
  after = ap (λ b. exchanged b turn.leaving turn.side turn.entering) turn.here.at ∙ sym turn.next_is

  exchanges : Exchanges (limited_count system) (Memory system t.basis) (Memory system (next system formed t of turn.leaving turn.side turn.entering turn.due)) t.basis (next system formed t of turn.leaving turn.side turn.entering turn.due) turn.leaving turn.entering
  exchanges = record {
    leaves_below = leaves_below system formed t of turn.leaving turn.side turn.entering turn.due;
    enters_below = enters_below system formed t of turn.leaving turn.side turn.entering turn.due;
    leaves_basic = leaves_basic system formed t of turn.leaving turn.side turn.entering turn.due;
    enters_nonbasic = enters_nonbasic system formed t of turn.leaving turn.side turn.entering turn.due;
    left_nonbasic = left_nonbasic system formed t of turn.leaving turn.side turn.entering turn.due;
    entered_basic = entered_basic system formed t of turn.leaving turn.side turn.entering turn.due;
    others_same = others_same system formed t of turn.leaving turn.side turn.entering turn.due;
    remembered = λ l. remembered system formed t of turn.leaving turn.side turn.entering turn.due;
    still = still_remembered system formed t of turn.leaving turn.side turn.entering turn.due;
    no_return = no_return system formed t of turn.leaving turn.side turn.entering turn.due;
  }

  turned : (first : List Place) (k : ℕ) → Fallen (limited_count system) (Memory system middle) first middle k → Fallen (limited_count system) (Memory system last) first last (suc k)
  turned first k f =
      subst (λ b. Fallen (limited_count system) (Memory system b) first b (suc k)) after
      (fallen_more (limited_count system) (Memory system t.basis) (Memory system (next system formed t of turn.leaving turn.side turn.entering turn.due)) first t.basis (next system formed t of turn.leaving turn.side turn.entering turn.due) turn.leaving turn.entering k exchanges
      (subst (λ b. Fallen (limited_count system) (Memory system b) first b k) (sym turn.here.at) f))

fallen : (most : ℕ) (system : LinearSystem) (made : ℕ) (basis last : List Place) → IsWellFormedSystem system → Reaches most system made basis last → Fallen (limited_count system) (Memory system last) basis last made
fallen most system zero basis last formed e = subst (λ b. Fallen (limited_count system) (Memory system b) basis b 0) e (nothing_fallen (limited_count system) (Memory system basis) basis)
fallen most system (suc k) basis last formed (middle, both) = turned most system formed middle last both.1 basis k (fallen most system k basis middle formed both.0)

pub few_pivots_law : FewPivotsLaw
few_pivots_law most system made basis last formed r = fallen_few (limited_count system) (Memory system last) basis last made (fallen most system made basis last formed r)

-- ---- a way back to a basis can be gone as often as wanted
joined : (most : ℕ) (system : LinearSystem) (a b c : List Place) (j k : ℕ) → Reaches most system j a b → Reaches most system k b c → Reaches most system (k + j) a c
joined most system a b c j zero r e = subst (λ n. Reaches most system n a c) (let g : j ≡ zero + j = omega arith in g) (subst (λ z. Reaches most system j a z) e r)
joined most system a b c j (suc k) r (middle, both) =
    subst (λ n. Reaches most system n a c) (let g : suc (k + j) ≡ suc k + j = omega arith in g) (middle, (joined most system a b middle j k r both.0, both.1))

gone_round : (most : ℕ) (system : LinearSystem) (k : ℕ) (basis : List Place) → Reaches most system (suc k) basis basis → (n : ℕ) → Reaches most system (rounds k n) basis basis
unfolding rounds
gone_round most system k basis r zero = refl
gone_round most system k basis r (suc n) = joined most system basis basis basis (rounds k n) (suc k) (gone_round most system k basis r n) r

pub no_basis_twice_law : NoBasisTwiceLaw
no_basis_twice_law most system k basis formed r =
    let n : ℕ = 3 ^ limited_count system in
    let few : rounds k n < 3 ^ limited_count system = few_pivots_law most system (rounds k n) basis basis formed (gone_round most system k basis r n) in
    let many : n ≤ rounds k n = rounds_enough k n in
    omega arith

pub never_spent_law : NeverSpentLaw
never_spent_law most system basis budget begun last left turns formed run =
    let few : run.made < 3 ^ limited_count system = few_pivots_law most system run.made basis last formed run.reaches in
    let whole : run.made + left ≡ budget = run.budget_is in
    let none : left ≡ 0 = run.ends.0 in
    omega arith
