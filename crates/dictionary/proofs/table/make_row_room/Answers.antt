use Rattle.std.proofs.Common.{sym, ◌∙◌, ap, subst, arith}
use Rattle.rational.specs.Linear.{factor_of}
use Rattle.dictionary.specs.Rows.{terms_of, IsRow}
use Rattle.dictionary.proofs.Counts.{is_zero}
use Rattle.dictionary.proofs.table.make_row_room.Goals as goal

pub returns-then-is_zero-clause-room : goal.returns-then-is_zero-clause-room
returns-then-is_zero-clause-room g c = λ n. absurd (n (ap (λ z. factor_of (terms_of g.N.Exact.value z) c.args.entering) (sym c.deref.ensures.value) ∙ sym c.factor_in.ensures ∙ is_zero _ _ c.is_zero.ensures c.if-is_zero.true))

pub returns-then-is_zero-clause-spare : goal.returns-then-is_zero-clause-spare
returns-then-is_zero-clause-spare g c = λ n. absurd (n (ap (λ z. factor_of (terms_of g.N.Exact.value z) c.args.entering) (sym c.deref.ensures.value) ∙ sym c.factor_in.ensures ∙ is_zero _ _ c.is_zero.ensures c.if-is_zero.true))

pub returns-clause-room : goal.returns-clause-room
returns-clause-room g c = λ n. (let a = c.in_ok-try_reserve_exact.ensures.ok in let b = c.try_reserve_exact.new.self.ok.0 in omega (arith, a, b))

pub returns-clause-spare : goal.returns-clause-spare
returns-clause-spare g c = λ n.
    (let a = c.in_ok-try_reserve.ensures.ok in
    let b = c.len.ensures in
    let d = c.try_reserve_exact.new.self.ok.0 in
    omega (arith, a, b, d))

pub factor_in-requires : goal.factor_in-requires
factor_in-requires g c = subst (λ z. IsRow (terms_of g.N.Exact.value z)) (sym c.deref.ensures.value) c.requires.row
