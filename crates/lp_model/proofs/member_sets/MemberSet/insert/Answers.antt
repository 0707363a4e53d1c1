use Rattle.std.proofs.Common.{◌∙◌, refl, sym, subst, ap, ap₂, ℕ, true, cond, eqb, List}
use Rattle.std.proofs.lemmas.List.{with_items_is}
use Rattle.lane_scan.specs.Bits.{bit_of}
use Rattle.lp_model.specs.MemberSets.{SetValue, IsPossibleIn, set_with, marked_set}
use Rattle.lp_model.proofs.Marked.{inserted}
use Rattle.lp_model.proofs.member_sets.MemberSet.insert.Goals as goal

pub returns : goal.returns
returns c =
    let i = c.self.inside in
    let here = subst (λ (s : SetValue). IsPossibleIn s c.args.member) (sym c.self.view_is) c.requires in
    ap (marked_set i.rows i.columns) (with_items_is i.words c.put_bit.new.words (c.put_bit.ensures.each ∙ c.as_mut_slice.ensures.len))
    ∙ (inserted i.rows i.columns i.words.items c.put_bit.new.words c.args.member true here
    (λ k. c.put_bit.ensures.bits k ∙ ap₂ (λ (p : ℕ) (w : List ℕ). cond (eqb k p) true (bit_of w k)) c.place_of-place.ensures.place c.as_mut_slice.ensures.value) refl
    ∙ ap (λ (s : SetValue). set_with s c.args.member) c.self.view_is)
