-- The end of a row.
use Rattle.std.proofs.Common.{◌≡◌, ℕ, ◌+◌, ◌<◌, ◌≤◌, Bool, true, false, cond, ◌||◌, List, Option, Some, None, length, refl, sym, ap, ◌∙◌, subst, arith}
use Rattle.std.specs.Prelude.{nat_le}
use Rattle.std.specs.Option.{option_or}
use Rattle.std.proofs.lemmas.Bool.Decides.{nat_tests}
use Rattle.text_fields.specs.declared.faults.ReadKind.TheVariants.{DuplicateName, Limit}
use Rattle.text_fields.specs.declared.faults.ReadStop.{ReadStop}
use Rattle.text_fields.specs.declared.faults.ReadFault.{ReadFault}
use Rattle.text_fields.specs.declared.faults.ReadFault.TheVariants.{Stop, Memory}
use Rattle.lp_model.specs.Shown.{is_named, most_rows, longest_name}
use Rattle.lp_statements.specs.Items.{Written, stop_at}
use Rattle.lp_statements.specs.Statements.{Constant}
use Rattle.lp_reader.specs.Numbers.{constant_fault}
use Rattle.lp_reader.specs.Names.{row_name}
use Rattle.lp_reader.specs.Faults.{is_too_long, label_fault, unnamed_fault, full_fault, row_end_fault}
use Rattle.text_fields.specs.Faults.{IsFaultOf}
use Rattle.std.proofs.lemmas.Fmt.{length-decimal-le}
use Rattle.lp_reader.proofs.NewColumns.{short_name}

some_none : (x : ReadStop) → Some x ≡ None → ⊥
some_none x h = cc

le_test : (a b : ℕ) → a ≤ b → nat_le a b ≡ true
le_test a b h = grind (arith, nat_tests)

lt_test : (a b : ℕ) → b < a → nat_le a b ≡ false
lt_test a b h = grind (arith, nat_tests)

lt_of_test : (a b : ℕ) → nat_le a b ≡ false → b < a
lt_of_test a b h = grind (arith, nat_tests)

-- a label that was checked
pub label_fresh : (names : List (List ℕ)) (label : Written) → label_fault names (Some label) ≡ None → is_named names label.text ≡ false
unfolding label_fault
label_fresh names label h = by (is_named names label.text) h
  where
    by : (b : Bool) → cond b (Some (stop_at label.line DuplicateName)) (cond (nat_le most_rows (length names) || is_too_long label.text) (Some (stop_at label.line Limit)) None) ≡ None → b ≡ false
    by true h = absurd (some_none (stop_at label.line DuplicateName) h)
    by false h = refl

pub label_room : (names : List (List ℕ)) (label : Written) → label_fault names (Some label) ≡ None → length names < most_rows
unfolding label_fault
label_room names label h = by (is_named names label.text) (nat_le most_rows (length names)) refl h
  where
    by : (b m : Bool) → nat_le most_rows (length names) ≡ m → cond b (Some (stop_at label.line DuplicateName)) (cond (m || is_too_long label.text) (Some (stop_at label.line Limit)) None) ≡ None → length names < most_rows
    by true m e h = absurd (some_none (stop_at label.line DuplicateName) h)
    by false true e h = absurd (some_none (stop_at label.line Limit) h)
    by false false e h = lt_of_test most_rows (length names) e

pub label_short : (names : List (List ℕ)) (label : Written) → label_fault names (Some label) ≡ None → length label.text ≤ longest_name
unfolding label_fault
label_short names label h = by (is_named names label.text) (nat_le most_rows (length names)) (is_too_long label.text) refl h
  where
    by : (b m l : Bool) → is_too_long label.text ≡ l → cond b (Some (stop_at label.line DuplicateName)) (cond (m || l) (Some (stop_at label.line Limit)) None) ≡ None → length label.text ≤ longest_name
    by true m l e h = absurd (some_none (stop_at label.line DuplicateName) h)
    by false true l e h = absurd (some_none (stop_at label.line Limit) h)
    by false false true e h = absurd (some_none (stop_at label.line Limit) h)
    by false false false e h = short_name label.text e

-- a name that is generated
pub generated_short : (n : ℕ) → n ≤ most_rows → length (row_name n None) ≤ longest_name
generated_short n h = let few = length-decimal-le 5 n (omega arith) (omega arith) (omega arith) in omega arith

-- with a label only the constant counts
pub labelled_fault : (names : List (List ℕ)) (label : Written) (right : Constant) (fault : ReadFault) → IsFaultOf (constant_fault right) fault → IsFaultOf (row_end_fault names (Some label) right) fault
unfolding unnamed_fault full_fault
labelled_fault names label right fault told = subst (λ (o : Option ReadStop). IsFaultOf o fault) (by (constant_fault right)) told
  where
    by : (o : Option ReadStop) → o ≡ option_or o None
    by None = refl
    by (Some x) = refl

pub labelled_none : (names : List (List ℕ)) (label : Written) (right : Constant) → constant_fault right ≡ None → row_end_fault names (Some label) right ≡ None
unfolding unnamed_fault full_fault
labelled_none names label right none = ap (λ o. option_or o None) none

module _ (names : List (List ℕ)) (right : Constant) (name : List ℕ) (is : name ≡ row_name (length names + 1) None) where
  named : (b : Bool) → is_named names name ≡ b → unnamed_fault names right.text.line None ≡ cond b (Some (stop_at right.text.line DuplicateName)) None
  unfolding unnamed_fault
  named b e = ap (λ b. cond b (Some (stop_at right.text.line DuplicateName)) None) (sym (ap (is_named names) is) ∙ e)

  pub unnamed_known : is_named names name ≡ true → row_end_fault names None right ≡ Some (stop_at right.text.line DuplicateName)
  unnamed_known e = ap (λ o. option_or o (option_or (constant_fault right) (full_fault names right.text.line None))) (named true e)

  pub unnamed_constant : (fault : ReadFault) → is_named names name ≡ false → IsFaultOf (constant_fault right) fault → IsFaultOf (row_end_fault names None right) fault
  unnamed_constant fault e told =
      subst (λ (o : Option ReadStop). IsFaultOf o fault) (sym (ap (λ o. option_or o (option_or (constant_fault right) (full_fault names right.text.line None))) (named false e)))
      (by fault (constant_fault right) told)
    where
      by : (fault : ReadFault) (o : Option ReadStop) → IsFaultOf o fault → IsFaultOf (option_or o (full_fault names right.text.line None)) fault
      by (Stop stop) o told = ap (λ o. option_or o (full_fault names right.text.line None)) told
      by Memory o told = tt

  pub unnamed_full : is_named names name ≡ false → constant_fault right ≡ None → most_rows ≤ length names → row_end_fault names None right ≡ Some (stop_at right.text.line Limit)
  unfolding full_fault
  unnamed_full e none full =
      ap (λ o. option_or o (option_or (constant_fault right) (full_fault names right.text.line None))) (named false e)
      ∙ ap (λ o. option_or o (full_fault names right.text.line None)) none ∙ ap (λ b. cond b (Some (stop_at right.text.line Limit)) None) (le_test most_rows (length names) full)

  pub unnamed_none : is_named names name ≡ false → constant_fault right ≡ None → length names < most_rows → row_end_fault names None right ≡ None
  unfolding full_fault
  unnamed_none e none room =
      ap (λ o. option_or o (option_or (constant_fault right) (full_fault names right.text.line None))) (named false e)
      ∙ ap (λ o. option_or o (full_fault names right.text.line None)) none ∙ ap (λ b. cond b (Some (stop_at right.text.line Limit)) None) (lt_test most_rows (length names) room)
