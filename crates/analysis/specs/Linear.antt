-- Answers to commands that only a program without active marks may have.
use Rattle.std.specs.Prelude.{◌≡◌, ℕ, ◌+◌, ◌*◌, ◌≤◌, List, [], ◌∷◌, length, Option, Some, None}
use Rattle.lp_model.specs.Program.{Program}
use Rattle.lp_model.specs.declared.members.Member.{Member}
use Rattle.lp_model.specs.declared.members.Member.TheVariants.{Whole}
use Rattle.lp_model.specs.Members.{active_members}
use Rattle.certs.specs.Elastic.{soft_members}
use Rattle.certs.specs.Plain.{rows_in}
use Rattle.certs.specs.System.{bounding}
use Rattle.report_text.specs.declared.report.Answer.{Answer}
use Rattle.report_text.specs.declared.report.Answer.TheVariants.{NotLinear}
use Rattle.analysis.specs.Objectives.{IsSized, most_entries}

-- the column of the first mark among members
abbrev pub first_mark : List Member → Option ℕ
first_mark [] = None
first_mark (Whole j ∷ list) = Some j
first_mark (m ∷ list) = first_mark list

-- How many entries the dictionary of a set's elastic system has, the enforced members hard: a row for each row with an enforced side, one for each soft member, and one for the objective; and a column for each of the program's and for each soft member.
abbrev pub elastic_size : Program → List Member → List Member → ℕ
elastic_size model set enforced = (length (rows_in model enforced) + length (soft_members set enforced) + 1) * (length model.columns + length (soft_members set enforced))

-- How many entries the dictionary of a set's system of the alternative has: a row for each column of the program, one for the numbers, and one for the objective; and a column for each member that asks for a number.
abbrev pub alternative_size : Program → List Member → ℕ
alternative_size model set = (length model.columns + 2) * length (bounding model set)

-- Where there is a first mark, its column is told; else the size, just where it passes the most; and else what is told.
abbrev pub IsLinearlyBy : Option ℕ → ℕ → (Answer → Type 0) → Answer → Type 0
IsLinearlyBy (Some j) size IsTold answer = answer ≡ NotLinear j
IsLinearlyBy None size IsTold answer = IsSized size IsTold answer

-- so by the first mark of the active members
abbrev pub IsLinearly : Program → ℕ → (Answer → Type 0) → Answer → Type 0
IsLinearly model size IsTold answer = IsLinearlyBy (first_mark (active_members model)) size IsTold answer

-- Such an answer, where the marks or the size alone decide; and else there is no mark, and the size does not pass the most.
abbrev pub IsBegun : Program → ℕ → Option Answer → Type 0
IsBegun model size (Some answer) = IsLinearly model size (λ a. ⊥) answer
IsBegun model size None = (first_mark (active_members model) ≡ None) × (size ≤ most_entries)
