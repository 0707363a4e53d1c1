use Rattle.std.proofs.Common.{◌≡◌, ◌∙◌, sym, Bool, true, false, ◌&&◌, refl}
use Rattle.lp_model.proofs.Sets.{contains_of_has}
use Rattle.quick_run.proofs.combinations.limit_source.Goals as goal

-- the first of two tests that both pass
first_of : (a b : Bool) → (a && b) ≡ true → a ≡ true
first_of true b e = refl
first_of false b e = e

pub returns : goal.returns
returns c = contains_of_has c.args.set.now.members c.member_of-member.result (first_of _ _ (sym c.is_member_there.ensures ∙ c.if-not-is_member_there.false))
