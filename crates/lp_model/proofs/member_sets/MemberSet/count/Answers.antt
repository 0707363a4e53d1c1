use Rattle.std.proofs.Common.{◌∙◌, ap, sym, subst, length, List, ℕ, rules}
use Rattle.lp_model.specs.MemberSets.{SetValue, IsMarking, marked_set}
use Rattle.lp_model.proofs.Marked.{counted}
use Rattle.lp_model.proofs.member_sets.MemberSet.count.Goals as goal

pub returns : goal.returns
returns c =
    let i = c.self.inside in
    let words = c.as_slice-words.result.now in
    c.count.ensures
    ∙ (counted i.rows i.columns words (subst (IsMarking i.rows i.columns) (sym c.as_slice-words.ensures.value) c.self.invariant) (λ k. search rules)
    ∙ (ap (λ (w : List ℕ). length (marked_set i.rows i.columns w).members) c.as_slice-words.ensures.value ∙ ap (λ (s : SetValue). length s.members) c.self.view_is))
