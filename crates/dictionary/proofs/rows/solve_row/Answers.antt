use Rattle.std.proofs.Common.{◌≡◌, ◌<◌, ◌++◌, length, take, drop, sym, ◌∙◌, ap, subst, []}
use Rattle.rational.specs.Rational.{neg_ℚ}
use Rattle.rational.specs.Linear.{factor_of}
use Rattle.rational.proofs.Field.{ring_ℚ, minus, zero_of}
use Rattle.dictionary.specs.Rows.{terms_of, IsRow}
use Rattle.dictionary.proofs.Terms.{refilled}
use Rattle.dictionary.proofs.Lists.{rises, row_of_rises}
use Rattle.dictionary.proofs.Changes.{opposite-nonzero}
use Rattle.dictionary.proofs.Pivots.{changed, rises-changed, negated}
use Rattle.dictionary.proofs.rows.solve_row.Goals as goal

pub put_entry-requires : goal.put_entry-requires
put_entry-requires g c =
    let v = g.N.Exact.value in
    let row = c.args.row.now.items in
    let new = c.negate_row.new.row in
    let same : take c.args.row.now.len (new ++ drop (length new) row) ≡ new = refilled new row c.args.row.now.len (c.negate_row.auto.row ∙ ap length c.deref_mut.ensures.value ∙ sym c.args.row.now.ok.0) in
    let is : terms_of v (take c.args.row.now.len (new ++ drop (length new) row)) ≡ changed (λ x. neg_ℚ x) (terms_of v row) = ap (terms_of v) same ∙ c.negate_row.ensures ∙ ap (λ z. changed (λ x. neg_ℚ x) (terms_of v z)) c.deref_mut.ensures.value in
    record {
      row = subst IsRow (sym is) (row_of_rises 0 (changed (λ x. neg_ℚ x) (terms_of v row)) (rises-changed (λ x. neg_ℚ x) opposite-nonzero 0 (terms_of v row) (rises (terms_of v row) c.requires.row)));
      new = ap (λ z. factor_of z c.args.leaving) is ∙ negated (terms_of v row) c.args.leaving ∙ ap neg_ℚ c.requires.new ∙ ring_ℚ [] (minus zero_of) zero_of tt;
      nonzero = c.requires.nonzero;
      room = subst (λ n. n < c.args.row.now.cap) (sym (ap length same ∙ c.negate_row.auto.row ∙ ap length c.deref_mut.ensures.value)) c.requires.room;
    }

pub returns-clause-row : goal.returns-clause-row
returns-clause-row g c = c.put_entry.ensures.row

pub returns-clause-own : goal.returns-clause-own
returns-clause-own g c = c.put_entry.ensures.own

pub returns-clause-others : goal.returns-clause-others
returns-clause-others g c = λ k d.
    (let v = g.N.Exact.value in
    let row = c.args.row.now.items in
    let new = c.negate_row.new.row in
    let same : take c.args.row.now.len (new ++ drop (length new) row) ≡ new = refilled new row c.args.row.now.len (c.negate_row.auto.row ∙ ap length c.deref_mut.ensures.value ∙ sym c.args.row.now.ok.0) in
    let is : terms_of v (take c.args.row.now.len (new ++ drop (length new) row)) ≡ changed (λ x. neg_ℚ x) (terms_of v row) = ap (terms_of v) same ∙ c.negate_row.ensures ∙ ap (λ z. changed (λ x. neg_ℚ x) (terms_of v z)) c.deref_mut.ensures.value in
    c.put_entry.ensures.others k d ∙ ap (λ z. factor_of z k) is ∙ negated (terms_of v row) k)
