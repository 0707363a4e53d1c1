use Rattle.std.proofs.Common.{◌≡◌, ◌+◌, ◌^◌, ◌<◌, ◌≤◌, ℕ, arith, ap, sym, ◌∙◌, subst, length, inl, inr, rules}
use Rattle.std.proofs.Common.{lit≤}
use Rattle.std.proofs.Math.Nat.{pow-le-pow_right}
use Rattle.std.proofs.lemmas.Bool.{cases_lt}
use Rattle.std.proofs.lemmas.List.{length-map}
use Rattle.certs.specs.Rows.{row_of}
use Rattle.bland_law.specs.Ends.{limited_count}
use Rattle.bland_law.proofs.bounds.basis_bound.Goals as goal

-- 3^41 is past 2^64
past : (n : ℕ) → 41 ≤ n → 3 ^ n < 18446744073709551616 → ⊥
past n h l =
    let grown : 3 ^ 41 ≤ 3 ^ n = pow-le-pow_right (omega arith) h in
    let great : 18446744073709551616 ≤ 3 ^ 41 = lit≤ tt in
    omega (arith, grown, great)

pub returns-in_default-try_from : goal.returns-in_default-try_from
returns-in_default-try_from c = λ l.
    (let large : c.in-Some.count < 4294967296 → ⊥ = c.in_default-try_from.ensures in
    let columns : c.len.result ≡ length c.args.system.now.columns = search rules in
    let rows : c.len-2.result ≡ length c.args.system.now.rows = c.len-2.ensures ∙ (c.system.inside.rows.ok.0 ∙ (sym (length-map c.system.inside.rows.items row_of) ∙ ap (λ s. length s.rows) c.system.view_is)) in
    let count : c.in-Some.count ≡ limited_count c.args.system.now = c.in-Some.ensures.1 ∙ (ap (λ n. n + c.len-2.result) columns ∙ ap (λ n. length c.args.system.now.columns + n) rows) in
    past (limited_count c.args.system.now) (subst (λ n. 41 ≤ n) count (elim (cases_lt c.in-Some.count 4294967296) [ inl h ↦ absurd (large h) | inr h ↦ omega arith ])) l)
