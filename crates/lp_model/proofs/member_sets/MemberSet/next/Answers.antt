use Rattle.std.proofs.Common.{◌∙◌, sym, subst, ap, ℕ, List, arith}
use Rattle.std.specs.Prelude.{MatchOption, ⊤}
use Rattle.lane_scan.specs.Bits.{IsFirstBit}
use Rattle.lp_model.specs.MemberSets.{SetValue, IsPossibleIn, next_after}
use Rattle.lp_model.proofs.Marked.{found_here, found_none}
use Rattle.lp_model.proofs.member_sets.MemberSet.next.Goals as goal

pub returns-then-place-count_places : goal.returns-then-place-count_places
returns-then-place-count_places c =
    let i = c.self.inside in
    let asked = subst (λ (s : SetValue). MatchOption c.args.after ⊤ (IsPossibleIn s)) (sym c.self.view_is) c.requires in
    let first = subst (λ (k : ℕ). IsFirstBit i.words.items k c.first_bit-place.result) c.first_place-first.ensures.place (subst (λ (w : List ℕ). IsFirstBit w c.first_place-first.result c.first_bit-place.result) c.as_slice.ensures.value c.first_bit-place.ensures) in
    sym (found_here i.rows i.columns i.words.items c.args.after asked c.first_bit-place.result first (omega arith) (omega arith) c.member_at.result c.member_at.ensures.in_range c.member_at.ensures.place)
    ∙ ap (λ (s : SetValue). next_after s c.args.after) c.self.view_is

pub returns : goal.returns
returns c =
    let i = c.self.inside in
    let asked = subst (λ (s : SetValue). MatchOption c.args.after ⊤ (IsPossibleIn s)) (sym c.self.view_is) c.requires in
    let first = subst (λ (k : ℕ). IsFirstBit i.words.items k c.first_bit-place.result) c.first_place-first.ensures.place (subst (λ (w : List ℕ). IsFirstBit w c.first_place-first.result c.first_bit-place.result) c.as_slice.ensures.value c.first_bit-place.ensures) in
    sym (found_none i.rows i.columns i.words.items c.args.after asked c.first_bit-place.result first (omega arith))
    ∙ ap (λ (s : SetValue). next_after s c.args.after) c.self.view_is
