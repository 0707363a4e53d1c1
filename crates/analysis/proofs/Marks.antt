-- The first mark among members, and answers that go by it.
use Rattle.std.proofs.Common.{◌≡◌, ◌<◌, refl, sym, subst, ℕ, false, Option, Some, None, List, [], ◌∷◌, length, arith}
use Rattle.std.specs.Prelude.{All, IfOk, Result, Ok, Err}
use Rattle.std.proofs.lemmas.List.Elements.{All-cons, All-head, All-nil, All-tail}
use Rattle.lp_model.specs.declared.members.Member.{Member}
use Rattle.lp_model.specs.declared.members.Member.TheVariants.{RowLo, RowUp, Lower, Upper, Whole}
use Rattle.lp_model.specs.Program.{Program}
use Rattle.lp_model.specs.Members.{active_members, is_mark}
use Rattle.lp_model.specs.MemberSets.{IsPossibleIn, active_set}
use Rattle.report_text.specs.declared.report.Answer.{Answer}
use Rattle.analysis.specs.Linear.{IsBegun, IsLinearly, IsLinearlyBy, first_mark}
use Rattle.analysis.proofs.Found.{possible_members_are}

-- ---- the first mark
-- what holds of all members holds of it
pub mark_holds : (P : Member → Type 0) (list : List Member) (j : ℕ) → All P list → first_mark list ≡ Some j → P (Whole j)
mark_holds P [] j h e = absurd (let impossible : ⊥ = cc in impossible)
mark_holds P (RowLo i ∷ list) j h e = mark_holds P list j (All-tail P (RowLo i) list h) e
mark_holds P (RowUp i ∷ list) j h e = mark_holds P list j (All-tail P (RowUp i) list h) e
mark_holds P (Lower i ∷ list) j h e = mark_holds P list j (All-tail P (Lower i) list h) e
mark_holds P (Upper i ∷ list) j h e = mark_holds P list j (All-tail P (Upper i) list h) e
mark_holds P (Whole i ∷ list) j h e = (let same : i ≡ j = cc in subst (λ k. P (Whole k)) same (All-head P (Whole i) list h))

-- so that of the active members is of a column of the program
pub mark_known : (model : Program) (j : ℕ) → first_mark (active_members model) ≡ Some j → j < length model.columns
mark_known model j e = mark_holds (IsPossibleIn (active_set model)) (active_members model) j (possible_members_are model) e

-- where there is none, no member is a mark
pub no_mark : (list : List Member) → first_mark list ≡ None → All (λ m. is_mark m ≡ false) list
no_mark [] e = All-nil (λ m. is_mark m ≡ false)
no_mark (RowLo i ∷ list) e = All-cons (λ m. is_mark m ≡ false) (RowLo i) list refl (no_mark list e)
no_mark (RowUp i ∷ list) e = All-cons (λ m. is_mark m ≡ false) (RowUp i) list refl (no_mark list e)
no_mark (Lower i ∷ list) e = All-cons (λ m. is_mark m ≡ false) (Lower i) list refl (no_mark list e)
no_mark (Upper i ∷ list) e = All-cons (λ m. is_mark m ≡ false) (Upper i) list refl (no_mark list e)
no_mark (Whole i ∷ list) e = absurd (let impossible : ⊥ = cc in impossible)

-- it is that of the members after one that is none
pub passed_mark : (m : Member) (rest : List Member) → ((j : ℕ) → m ≡ Whole j → ⊥) → first_mark (m ∷ rest) ≡ first_mark rest
passed_mark (RowLo i) rest other = refl
passed_mark (RowUp i) rest other = refl
passed_mark (Lower i) rest other = refl
passed_mark (Upper i) rest other = refl
passed_mark (Whole i) rest other = absurd (other i refl)

-- ---- answers that go by it
-- where the marks or the size decide, nothing else is told
pub begun_told : (model : Program) (size : ℕ) (IsTold : Answer → Type 0) (answer : Answer) → IsBegun model size (Some answer) → IsLinearly model size IsTold answer
begun_told model size IsTold answer h = by (first_mark (active_members model)) h
  where
    by : (mark : Option ℕ) → IsLinearlyBy mark size (λ a. ⊥) answer → IsLinearlyBy mark size IsTold answer
    by (Some j) h = h
    by None h = (h.0, λ l. absurd (h.1 l))

-- and else what is told
pub told_linearly : (model : Program) (size : ℕ) (IsTold : Answer → Type 0) (answer : Answer) → IsBegun model size None → IsTold answer → IsLinearly model size IsTold answer
told_linearly model size IsTold answer h told =
    subst (λ (mark : Option ℕ). IsLinearlyBy mark size IsTold answer) (sym h.0)
    (λ l. absurd (let few = h.1 in omega (arith, few, l)), λ l. told)

pub told_linearly_by : (model : Program) (size : ℕ) (IsTold : Answer → Type 0) {E : Type 0} (result : Result Answer E) → IsBegun model size None → IfOk result IsTold → IfOk result (IsLinearly model size IsTold)
told_linearly_by model size IsTold (Ok answer) h told = told_linearly model size IsTold answer h told
told_linearly_by model size IsTold (Err error) h told = tt
