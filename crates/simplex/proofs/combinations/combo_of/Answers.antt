use Rattle.std.proofs.Common.{◌≡◌, ◌-◌, sym, ◌∙◌, ap, ◌++◌, append_assoc, map, false, true}
use Rattle.certs.specs.Ended.{blocked_multiple, blocked_shares}
use Rattle.certs.specs.Turns.{limited}
use Rattle.certs.proofs.Blocked.{blocked_law}
use Rattle.dictionary.specs.Layouts.{side_of}
use Rattle.dictionary.specs.Value.{tableau_of}
use Rattle.certs.specs.Named.{named}
use Rattle.simplex.specs.Combined.{column_shares, row_shares}
use Rattle.simplex.proofs.Combining.{all_shares, one_side, rows_left}
use Rattle.simplex.proofs.combinations.combo_of.Goals as goal

pub returns-clause-shares : goal.returns-clause-shares
returns-clause-shares c = λ system n of side e.
    (let t = tableau_of c.args.dictionary.now in
    let k = c.args.dictionary.now.columns in
    let many = blocked_multiple t c.missed_one-missed.result.variable (side_of c.missed_one-missed.result.upper) in
    let same_side : side_of c.missed_one-missed.result.upper ≡ side = one_side t c.args.row (side_of c.missed_one-missed.result.upper) side c.missed_one-missed.ensures.is e in
    c.new.ensures
    ∙ c.in_ok-push_columns-2.ensures
    ∙ ap (λ z. z ++ column_shares k true k many) (c.in_ok-push_columns.ensures ∙ ap (λ z. z ++ column_shares k false k many) (c.in_ok-push_rows.ensures ∙ ap (λ z. z ++ row_shares k (limited t - k) many) c.new-shares.ensures.items))
    ∙ append_assoc (row_shares k (limited t - k) many) (column_shares k false k many) (column_shares k true k many)
    ∙ ap (λ z. row_shares k z many ++ (column_shares k false k many ++ column_shares k true k many)) (ap (λ z. limited t - z) (sym n) ∙ rows_left system t of)
    ∙ sym (all_shares k system t c.missed_one-missed.result.variable (side_of c.missed_one-missed.result.upper) n)
    ∙ ap (λ i. map (named k) (blocked_shares system t i (side_of c.missed_one-missed.result.upper))) c.missed_one-missed.ensures.row
    ∙ ap (λ s. map (named k) (blocked_shares system t c.args.row s)) same_side)

pub returns-clause-combination : goal.returns-clause-combination
returns-clause-combination c = λ system formed n of.
    (let t = tableau_of c.args.dictionary.now in
    let side = c.requires.blocked.0 in
    let e = c.requires.blocked.1 in
    record {
      of = blocked_shares system t c.args.row side;
      combination = blocked_law system t c.args.row side formed of e;
      same = returns-clause-shares c system n of side e ∙ ap (λ k. map (named k) (blocked_shares system t c.args.row side)) (sym n);
    })
