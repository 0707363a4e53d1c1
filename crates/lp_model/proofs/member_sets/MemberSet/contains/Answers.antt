use Rattle.std.proofs.Common.{◌∙◌, sym, subst, ap, ap₂}
use Rattle.lane_scan.specs.Bits.{bit_of}
use Rattle.lp_model.specs.Members.{has}
use Rattle.lp_model.specs.MemberSets.{SetValue, IsPossibleIn}
use Rattle.lp_model.proofs.Marked.{has_mark}
use Rattle.lp_model.proofs.member_sets.MemberSet.contains.Goals as goal

pub returns : goal.returns
returns c =
    let i = c.self.inside in
    c.has_bit.ensures
    ∙ (ap₂ bit_of c.as_slice.ensures.value c.place_of-place.ensures.place
    ∙ (sym (has_mark i.rows i.columns i.words.items c.args.member (subst (λ (s : SetValue). IsPossibleIn s c.args.member) (sym c.self.view_is) c.requires))
    ∙ ap (λ (s : SetValue). has s.members c.args.member) c.self.view_is))
