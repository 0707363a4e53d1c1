-- Sets with marks: some column's mark is one of their members.
use Rattle.std.proofs.Common.{◌≡◌, ℕ, refl, sym, ◌∙◌, ap, Bool, true, false, true≢false, not, List, filter}
use Rattle.std.specs.Prelude.{Contains}
use Rattle.std.specs.List.{list_any}
use Rattle.std.proofs.lemmas.List.Elements.{All-contains, All-contains_itself}
use Rattle.lp_model.specs.declared.members.Member.{Member}
use Rattle.lp_model.specs.declared.members.Member.TheVariants.{RowLo, RowUp, Lower, Upper, Whole}
use Rattle.lp_model.specs.Members.{has, is_mark}
use Rattle.lp_model.specs.MemberSets.{SetValue, IsPossibleIn, possible_in}
use Rattle.lp_model.proofs.Sets.{contains_of_has, has_of_contains}
use Rattle.certs.specs.Answers.{is_linear}
use Rattle.certs.specs.Ended.{numbers_from}
use Rattle.certs.proofs.PlainAnswers.{linear_of, unmarked}
use Rattle.certs.proofs.Possible.{all_possible}
use Rattle.quick_answers.proofs.Numbers.{some_passes}

-- the mark of a column is in the set
abbrev pub has_mark_of : List Member → ℕ → Bool
has_mark_of set j = has set (Whole j)

-- it is there
pub marked : (set : List Member) (j : ℕ) → has_mark_of set j ≡ true → true ≡ not (is_linear set)
marked set j e = by (is_linear set) refl
  where
    by : (b : Bool) → is_linear set ≡ b → true ≡ not (is_linear set)
    by false linear = sym (ap not linear)
    by true linear = absurd (true≢false (All-contains (λ m. is_mark m ≡ false) set (Whole j) (unmarked set linear) (contains_of_has set (Whole j) e)))

-- none is
pub none_marked : (set : SetValue) → set.members ≡ filter (has set.members) (possible_in set) → list_any (has_mark_of set.members) (numbers_from 0 set.columns) ≡ false → false ≡ not (is_linear set.members)
none_marked set is none = sym (ap not (linear_of set.members (λ k d l. one _ (All-contains_itself set.members k d l) (all_possible set is k d l))))
  where
    one : (m : Member) → Contains set.members m → IsPossibleIn set m → is_mark m ≡ false
    one (RowLo i) c possible = refl
    one (RowUp i) c possible = refl
    one (Lower j) c possible = refl
    one (Upper j) c possible = refl
    one (Whole j) c possible = absurd (true≢false (sym (some_passes (has_mark_of set.members) j set.columns possible (has_of_contains set.members (Whole j) c)) ∙ none))
