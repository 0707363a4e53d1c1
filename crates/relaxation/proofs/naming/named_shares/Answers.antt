use Rattle.std.proofs.Common.{◌≡◌, sym, ◌∙◌, ap, subst, ℕ, List, [], length}
use Rattle.std.specs.Prelude.{All}
use Rattle.std.proofs.lemmas.List.Elements.{All-weaker}
use Rattle.lp_model.specs.declared.members.Member.{Member}
use Rattle.lp_model.specs.declared.members.Member.TheVariants.{RowLo, RowUp, Lower, Upper, Whole}
use Rattle.lp_model.specs.Program.{Program}
use Rattle.rational.specs.Rational.{neg_ℚ}
use Rattle.certs.specs.declared.evidence.Share.{Share}
use Rattle.certs.specs.declared.evidence.Source.{Source}
use Rattle.certs.specs.declared.evidence.Source.TheVariants.{Member as Of, Below, Above}
use Rattle.certs.specs.Elastic.{numbered_soft}
use Rattle.certs.specs.Named.{IsOfSystem}
use Rattle.relaxation.specs.Costs.{cost_by, system_by}
use Rattle.relaxation.specs.declared.systems.Costs.TheVariants.{Weights}
use Rattle.relaxation.specs.Laws.{RefutesEnforced, ShowsLeast}
use Rattle.relaxation.specs.Origins.{origins, origins_of}
use Rattle.relaxation.specs.Shares.{IsOfRows, placed}
use Rattle.relaxation.specs.declared.origins.Origin.{Origin}
use Rattle.relaxation.proofs.Evidence.{named_least, named_refutes}
use Rattle.relaxation.proofs.Rows.{length_rows}
use Rattle.relaxation.proofs.naming.named_shares.Goals as goal

of_rows : (columns rows : ℕ) (q : Source) → IsOfSystem columns rows q → IsOfRows rows q
of_rows columns rows (Of (RowLo k)) h = h
of_rows columns rows (Of (RowUp k)) h = h
of_rows columns rows (Of (Lower j)) h = tt
of_rows columns rows (Of (Upper j)) h = tt
of_rows columns rows (Of (Whole j)) h = tt
of_rows columns rows (Below j) h = tt
of_rows columns rows (Above j) h = tt

all_of_rows : (columns rows : ℕ) (shares : List Share) → All (λ (s : Share). IsOfSystem columns rows s.source) shares → All (λ (s : Share). IsOfRows rows s.source) shares
all_of_rows columns rows shares h = All-weaker (λ (s : Share). IsOfSystem columns rows s.source) (λ (s : Share). IsOfRows rows s.source) (λ s k. of_rows columns rows s.source k) shares h

rows_so : (model : Program) (set enforced : List Member) (soft : List (ℕ × Member)) (rows : List Origin) → soft ≡ numbered_soft (length model.columns) set enforced
    → rows ≡ origins_of model enforced soft → rows ≡ origins model set enforced
rows_so model set enforced soft rows s r = r ∙ ap (origins_of model enforced) s

placed_so : (columns n : ℕ) (rows others : List Origin) (shares given result : List Share) → columns ≡ n → rows ≡ others → shares ≡ given → result ≡ placed columns rows [] shares
    → result ≡ placed n others [] given
placed_so columns n rows others shares given result c r s e = e ∙ (λ i. placed (c i) (r i) [] (s i))

pub placed-requires : goal.placed-requires
placed-requires c =
    let model = c.args.model.now in
    let set = c.args.set.now.members in
    let enforced = c.args.enforced.now.members in
    let system = system_by model set enforced Weights in
    let rows = rows_so model set enforced _ _ (c.as_slice.ensures.value ∙ c.in_ok-soft.ensures.soft) (c.as_slice-2.ensures.value ∙ c.in_ok-rows.ensures.rows) in
    subst (λ (l : List Share). All (λ s. IsOfRows (length c.as_slice-2.result.now) s.source) l) (sym c.as_slice-3.ensures)
    (subst (λ k. All (λ (s : Share). IsOfRows k s.source) c.args.combo.now.shares) (length_rows model set enforced (cost_by model Weights) ∙ ap length (sym rows))
    (all_of_rows (length system.columns) (length system.rows) c.args.combo.now.shares c.requires.of_system))

pub returns-clause-refutes : goal.returns-clause-refutes
returns-clause-refutes c costs h =
    let model = c.args.model.now in
    let set = c.args.set.now.members in
    let enforced = c.args.enforced.now.members in
    let rows = rows_so model set enforced _ _ (c.as_slice.ensures.value ∙ c.in_ok-soft.ensures.soft) (c.as_slice-2.ensures.value ∙ c.in_ok-rows.ensures.rows) in
    subst (RefutesEnforced model enforced)
    (sym (placed_so _ _ _ _ _ _ c.new.result c.column_count-columns.ensures.count rows c.as_slice-3.ensures (c.new.ensures ∙ c.in_ok-shares.ensures)))
    (named_refutes model set enforced costs c.args.combo.now.shares c.requires.elastic c.row_count-count.ensures.well_formed h c.requires.ordered)

pub returns-clause-least : goal.returns-clause-least
returns-clause-least c b rigid h =
    let model = c.args.model.now in
    let set = c.args.set.now.members in
    let enforced = c.args.enforced.now.members in
    let rows = rows_so model set enforced _ _ (c.as_slice.ensures.value ∙ c.in_ok-soft.ensures.soft) (c.as_slice-2.ensures.value ∙ c.in_ok-rows.ensures.rows) in
    subst (λ l. ShowsLeast model set l (neg_ℚ b))
    (sym (placed_so _ _ _ _ _ _ c.new.result c.column_count-columns.ensures.count rows c.as_slice-3.ensures (c.new.ensures ∙ c.in_ok-shares.ensures)))
    (named_least model set enforced c.args.combo.now.shares b c.requires.elastic c.row_count-count.ensures.well_formed rigid h c.requires.ordered)
