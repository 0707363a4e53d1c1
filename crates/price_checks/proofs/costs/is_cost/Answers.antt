use Rattle.std.proofs.Common.{◌≡◌, refl, ap, sym, ◌∙◌, Bool, true, false, not, cond}
use Rattle.std.proofs.lemmas.Result.{err_from_is_err_and}
use lib.IntN.{pos}
use Rattle.rational.specs.Rational.{ℚ, eq_ℚ, neg_ℚ, one_ℚ}
use Rattle.rational.proofs.Whole.{whole-neg}
use Rattle.certs.specs.declared.evidence.Checked.TheVariants.{Yes, No}
use Rattle.certs.proofs.Held.{told}
use Rattle.price_checks.proofs.Cost.{other_right, wide_sum, decided}
use Rattle.price_checks.proofs.costs.is_cost.Goals as goal

-- what is read, r, is compared with -1
compared : (r q m : ℚ) (b t : Bool) → r ≡ q → m ≡ neg_ℚ one_ℚ → b ≡ not (eq_ℚ r m) → b ≡ not t → eq_ℚ q (neg_ℚ one_ℚ) ≡ t
compared r q m b t e f h k = sym (ap (λ (z : ℚ). eq_ℚ z m) e ∙ ap (λ (z : ℚ). eq_ℚ q z) f) ∙ alike (eq_ℚ r m) t (sym h ∙ k)
  where
    alike : (x y : Bool) → not x ≡ not y → x ≡ y
    alike true true e = refl
    alike false false e = refl
    alike true false e = cc
    alike false true e = cc

pub returns-then-ne : goal.returns-then-ne
returns-then-ne c =
    let e = c.in_ok-right.ensures in
    other_right c.args.model.now c.args.shares.now c.args.total e.1 (compared c.in_ok-right.right _ c.whole.result c.ne.result false e.0 (c.whole.ensures ∙ whole-neg (pos 1)) c.ne.ensures c.if-ne.true)

pub returns-in_err-sum : goal.returns-in_err-sum
returns-in_err-sum c =
    let e = c.in_ok-right.ensures in
    let p = err_from_is_err_and c.from_residual-in_err-sum.result c.from_residual-in_err-sum.ensures.1 in
    rw (p.1, p.2)
    (wide_sum c.args.model.now c.args.shares.now c.args.total e.1 (compared c.in_ok-right.right _ c.whole.result c.ne.result true e.0 (c.whole.ensures ∙ whole-neg (pos 1)) c.ne.ensures c.if-ne.false) _ c.in_err-sum.ensures)

pub returns : goal.returns
returns c =
    let e = c.in_ok-right.ensures in
    let f = c.in_ok-sum.ensures in
    told c.eq.result
    ∙ (ap (λ (t : Bool). cond t Yes No) (c.eq.ensures ∙ ap (λ (q : ℚ). eq_ℚ q c.args.total) f.0)
    ∙ sym (decided c.args.model.now c.args.shares.now c.args.total e.1 (compared c.in_ok-right.right _ c.whole.result c.ne.result true e.0 (c.whole.ensures ∙ whole-neg (pos 1)) c.ne.ensures c.if-ne.false) f.1))
