-- An edit makes another program just where what it changes stands there otherwise after it.
use Rattle.std.proofs.Common.{◌≡◌, ◌≢◌, ◌↔◌, refl, sym, ◌∙◌, ap, ℕ, Bool, true, false, not, true≢false, ◌==◌}
use Rattle.std.specs.Bool.{Decides}
use Rattle.std.proofs.lemmas.Bool.Decides.{Decides-and, Decides-eqb}
use Rattle.lp_model.specs.Program.{Program, row_at, column_at}
use Rattle.lp_model.specs.declared.members.Member.TheVariants.{RowLo, RowUp, Lower, Upper, Whole}
use Rattle.lp_model.specs.declared.edits.Target.{Target}
use Rattle.lp_model.specs.declared.edits.Target.TheVariants.{OneMember, BothSides}
use Rattle.lp_model.specs.declared.edits.Edit.{Edit}
use Rattle.lp_model.specs.declared.edits.Edit.TheVariants.{Drop, Keep, SetSide, SetBound, SetMark, Weigh}
use Rattle.lp_model.specs.declared.edits.Former.{Former}
use Rattle.lp_model.specs.declared.edits.Former.TheVariants.{Sides, Bounds}
use Rattle.lp_model.specs.contracts.edits.PartPartialEq.TheImpl.{ghosts as part_test}
use Rattle.lp_model.specs.Edits.{edited, former_of, former_target, former_sides, former_bounds, put_back, IsKnownEdit, BackLaw}
use Rattle.lp_model.proofs.Changed.{part_decides, column_decides, same_row, same_column}
use Rattle.report_text.specs.History.{changes, is_same_former, ChangesLaw}

-- ---- the test of what stands in a place decides whether it is the same
former_decides : (f g : Former) → Decides (is_same_former f g) (f ≡ g)
former_decides (Sides i a b) (Sides k c d) =
    let both = Decides-and (i == k) _ (Decides-eqb i k) (Decides-and (part_test.eq a c) _ (part_decides a c) (part_decides b d)) in (
      λ t. (let e = both.0 t in ap (λ x. Sides x a b) e.0 ∙ ap (λ x. Sides k x b) e.1.0 ∙ ap (λ x. Sides k c x) e.1.1),
      λ e. both.1 (let one : i ≡ k = cc in one, (let two : a ≡ c = cc in two, let three : b ≡ d = cc in three)),
    )
former_decides (Bounds j a) (Bounds k b) =
    let both = Decides-and (j == k) _ (Decides-eqb j k) (column_decides a b) in (
      λ t. (let e = both.0 t in ap (λ x. Bounds x a) e.0 ∙ ap (λ x. Bounds k x) e.1),
      λ e. both.1 (let one : j ≡ k = cc in one, let two : a ≡ b = cc in two),
    )
former_decides (Sides i a b) (Bounds k d) = (λ t. absurd (true≢false (sym t)), λ e. absurd (let no : ⊥ = cc in no))
former_decides (Bounds j c) (Sides k a b) = (λ t. absurd (true≢false (sym t)), λ e. absurd (let no : ⊥ = cc in no))

-- ---- what stands in its place, put there, changes nothing
row_stands : (model : Program) (i : ℕ) → put_back model (former_sides model i) ≡ model
row_stands model i = sym (same_row model i (row_at model i) refl)

column_stands : (model : Program) (j : ℕ) → put_back model (former_bounds model j) ≡ model
column_stands model j = sym (same_column model j (column_at model j) refl)

target_stands : (model : Program) (target : Target) → put_back model (former_target model target) ≡ model
target_stands model (BothSides i) = row_stands model i
target_stands model (OneMember (RowLo i)) = row_stands model i
target_stands model (OneMember (RowUp i)) = row_stands model i
target_stands model (OneMember (Lower j)) = column_stands model j
target_stands model (OneMember (Upper j)) = column_stands model j
target_stands model (OneMember (Whole j)) = column_stands model j

stands : (model : Program) (edit : Edit) → put_back model (former_of model edit) ≡ model
stands model (Drop target) = target_stands model target
stands model (Keep target) = target_stands model target
stands model (Weigh target w) = target_stands model target
stands model (SetSide i side number) = row_stands model i
stands model (SetBound j side number) = column_stands model j
stands model (SetMark j whole) = column_stands model j

-- ---- the law
module _ (back : BackLaw) (model : Program) (edit : Edit) (known : IsKnownEdit model edit) where
  unchanged : former_of model edit ≡ former_of (edited model edit) edit → edited model edit ≡ model
  unchanged e = sym (stands (edited model edit) edit) ∙ ap (put_back (edited model edit)) (sym e) ∙ (back model edit known).same

  tells : (b : Bool) → is_same_former (former_of model edit) (former_of (edited model edit) edit) ≡ b → edited model edit ≢ model → changes model edit ≡ true
  tells true e other = absurd (other (unchanged ((former_decides (former_of model edit) (former_of (edited model edit) edit)).0 e)))
  tells false e other = ap not e

  pub one_edit : (changes model edit ≡ true) ↔ (edited model edit ≢ model)
  one_edit = (
    λ t. λ same. true≢false (sym t ∙ ap not ((former_decides (former_of model edit) (former_of (edited model edit) edit)).1 (ap (λ m. former_of m edit) (sym same)))),
    tells (is_same_former (former_of model edit) (former_of (edited model edit) edit)) refl,
  )

pub changes_law_by : BackLaw → ChangesLaw
changes_law_by back model edit known = one_edit back model edit known
