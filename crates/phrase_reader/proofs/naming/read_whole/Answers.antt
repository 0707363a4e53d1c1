use Rattle.std.proofs.Common.{◌≡◌, ◌≤◌, ℤ, sym, ap, ◌∙◌, subst, true≢false, unsigned_abs}
use Rattle.std.proofs.lemmas.Option.{same_Some}
use Rattle.std.specs.Prelude.{None, Some}
use Rattle.rational.specs.Rational.{ℚ, whole}
use Rattle.rational.proofs.Whole.{whole-whole}
use Rattle.frac128.specs.Limit.{limit}
use Rattle.frac128.proofs.Machine.{z_read}
use Rattle.phrase_reader.specs.Words.{Finds, IsWholeSaid}
use Rattle.phrase_reader.proofs.Wholes.{num_is, said_whole, said_fraction}
use Rattle.phrase_reader.proofs.naming.read_whole.Goals as goal

pub returns-in_err-value : goal.returns-in_err-value
returns-in_err-value c = subst (Finds (IsWholeSaid c.args.text.now)) (sym c.from_residual.ensures) (record {
  found = tt;
  all = λ k h. absurd (let s : None ≡ Some (whole k) = c.in_err-value.ensures.all (whole k) (said_fraction c.args.text.now k h) in cc);
})

pub returns-then-not-is_whole : goal.returns-then-not-is_whole
returns-then-not-is_whole c =
    let q = c.in_ok-value.value in
    record {
      found = tt;
      all = λ k h. absurd (
          let e : q ≡ whole k = same_Some q (whole k) (c.in_ok-value.ensures.all (whole k) (said_fraction c.args.text.now k h)) in
          true≢false (sym (c.is_whole.ensures.1 (ap (λ (r : ℚ). r.den) e ∙ whole-whole k)) ∙ c.if-not-is_whole.true));
    }

pub returns : goal.returns
returns c =
    let q = c.in_ok-value.value in
    let said = said_whole c.args.text.now q c.in_ok-value.ensures.found (c.is_whole.ensures.0 c.if-not-is_whole.false) in
    let num : c.num.result ≡ q.num = c.num.ensures in
    let passed = z_read c.num.result (subst (λ (z : ℤ). unsigned_abs z ≤ limit) (sym num) said.0) ∙ num in
    subst (λ (z : ℤ). Finds (IsWholeSaid c.args.text.now) (Some z)) (sym passed) (record {
      found = said;
      all = λ k h. (
          let e : q ≡ whole k = same_Some q (whole k) (c.in_ok-value.ensures.all (whole k) (said_fraction c.args.text.now k h)) in
          ap Some (ap (λ (r : ℚ). r.num) e ∙ num_is k));
    })
