use Rattle.std.proofs.Common.{◌≡◌, ◌++◌, ◌∷◌, [], sym, ◌∙◌, ap, subst, Bool, cond, not, List, filter, length, append-nil, arith}
use Rattle.certs.specs.Elastic.{is_row_side}
use Rattle.std.specs.Prelude.{All, flat_map}
use Rattle.certs.specs.Ended.{numbers_from}
use Rattle.relaxation.specs.Origins.{IsKnownOrigin, origins_of, row_origins, soft_origins}
use Rattle.relaxation.specs.declared.origins.Origin.{Origin}
use Rattle.relaxation.specs.declared.origins.Origin.TheVariants.{Row}
use Rattle.relaxation.proofs.Listed.{all_known, row_more}
use Rattle.relaxation.proofs.origins.origins.Goals.{then-has_row+in_ok-push, else-has_row}
use Rattle.relaxation.proofs.origins.origins.Goals as goal

pub loop-row-preserved : goal.loop-row-preserved
loop-row-preserved c =
    let i = c.loop-row.row in
    let enforced = c.args.enforced.now.members in
    let rows = c.loop-row.rows.items in
    let with : Bool → List Origin = λ b. rows ++ cond b (Row i ∷ []) [] in
    row_more c.args.model.now enforced c.args.soft.now i rows c.if-has_row.rows.items c.push_sides.new.rows.items c.loop-row.invariant
    (elim c.if-has_row.branch [
      | then-has_row+in_ok-push w ↦ ap (λ v. v.items) w.rows-is ∙ w.in_ok-push.ensures.items ∙ ap with (sym w.if-has_row.true ∙ c.has_row.ensures)
      | else-has_row w ↦ ap (λ v. v.items) w.rows-is ∙ sym (append-nil rows) ∙ ap with (sym w.if-has_row.false ∙ c.has_row.ensures)
    ])
    c.in_ok-push_sides.ensures

pub returns-clause-known : goal.returns-clause-known
returns-clause-known c =
    let model = c.args.model.now in
    let enforced = c.args.enforced.now.members in
    let soft = c.args.soft.now in
    let last : c.loop-row.row ≡ length model.rows = omega (arith, c.loop-row-test.false, c.loop-row.auto.row-end, c.row_count-row-end.ensures.count) in
    let listed : c.push_bounds.new.rows.items ≡ origins_of model enforced soft =
    c.in_ok-push_bounds.ensures
    ∙ ap (λ z. z ++ soft_origins model (filter (λ e. not (is_row_side e.1)) soft)) (c.loop-row.invariant ∙ ap (λ n. flat_map (row_origins model enforced soft) (numbers_from 0 n)) last) in
    subst (All (IsKnownOrigin model)) (sym listed) (all_known model enforced soft c.requires.known)
