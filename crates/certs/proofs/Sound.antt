-- What a yes shows of a set: that some point satisfies it, or that none does.
use Rattle.std.proofs.Common.{◌≡◌, ◌<◌, sym, subst, [], length}
use Rattle.std.proofs.lemmas.List.Elements.{All-nil}
use Rattle.rational.specs.Linear.{Assignment}
use Rattle.lp_model.specs.Satisfaction.{coordinate, values_at, Satisfies}
use Rattle.lp_model.proofs.Points.{common_denominator}
use Rattle.certs.specs.declared.evidence.Branch.{Branch}
use Rattle.certs.specs.Combination.{KeepsBranch}
use Rattle.certs.specs.Checks.{SatisfiableLaw, RefutedLaw, UnsatisfiableLaw}
use Rattle.certs.proofs.Passed.{point_check_law, combination_check_law}
use Rattle.certs.proofs.Refuted.{combination_law}

pub satisfiable_law : SatisfiableLaw
satisfiable_law most model set values e =
    let p = common_denominator values in
    let same : ◌≡◌ {A = Assignment} (coordinate p.0) (values_at values) = λ i. λ j. p.1 j i in
    record { point = p.0; satisfies = subst (Satisfies model set) (sym same) (point_check_law most model set (values_at values) e) }

pub refuted_law : RefutedLaw
refuted_law most model set path shares f h e = combination_law model set path shares (combination_check_law most model set path shares f h e)

pub unsatisfiable_law : UnsatisfiableLaw
unsatisfiable_law most model set shares f e s =
    refuted_law most model set [] shares f (All-nil (λ (b : Branch). b.column < length model.columns)) e (coordinate s.point) s.satisfies (All-nil (KeepsBranch (coordinate s.point)))
