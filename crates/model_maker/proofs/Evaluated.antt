-- What the reader's definitions make of the text of each plan, by evaluation.
use Rattle.std.proofs.Common.{◌≡◌, ℕ, ◌-◌, ◌^◌, Bool, true, List, ◌++◌, length, map, get_or, Option, None, refl, sym, ap, ◌∙◌, arith}
use Rattle.std.specs.Prelude.{nat_lt}
use Rattle.std.specs.List.{range_with_len}
use Rattle.std.proofs.lemmas.List.FromFn.{get_or-map-range_with_len}
use Rattle.text_fields.specs.declared.faults.ReadStop.{ReadStop}
use Rattle.lp_model.specs.Program.{Program}
use Rattle.model_maker.specs.PlanText.{IsPlanSize}
use Rattle.text_fields.specs.Lines.{lines_of}
use Rattle.text_fields.specs.Numbers.{is_far}
use Rattle.text_fields.specs.Pieces.{is_word_start, is_word_byte, point_len, exponent_len, number_len, mark_of, piece_at}
use Rattle.text_fields.specs.Tokens.{token_fault, lexemes, scan_lines}
use Rattle.lp_statements.specs.Grammar.{label, signs, constant_of, constant, element_of, element, term, repeated, part, parts, form, objective, begin, subject_to, relation, agreeing, opening, closing, row_after, row, bound, statement_of}
use Rattle.lp_statements.specs.Items.{pair_heading, word_heading, may_head, pair_at, word_at, relation_of, sign_of, name_or_infinity, item_of, pieces, pieces_in}
use Rattle.lp_statements.specs.Script.{script, script_of}
use Rattle.lp_statements.specs.Words.{is_word, is_infinity, is_minimise, is_maximise, is_subject_to, is_bounds, is_general, is_binary, is_unsupported, heading_of, is_subject_to_pair, pair_of}
use Rattle.lp_reader.specs.Bounds.{lower_said, upper_said, whole_said, lower_of, upper_of, whole_of}
use Rattle.lp_reader.specs.Faults.{limit_fault, terms_fault, objective_label_fault, label_fault, unnamed_fault, full_fault, unknown_fault, statement_fault, first_fault}
use Rattle.lp_reader.specs.Meaning.{lp_fault, lp_program}
use Rattle.lp_reader.specs.Names.{terms_of, with_names, names_from}
use Rattle.lp_reader.specs.Numbers.{term_value, sum_of, sum_fault, constant_fault, side_of}
use Rattle.lp_reader.specs.Program.{form_from, rows_from, keeps_lower, notes_from, program_of}
use Rattle.frac128.specs.Literal.{number_after, kept, past_sign, past_digits, past_point, exponent_in, spelling_of, scaled, is_fitting, literal_of}
use Rattle.frac128.specs.Width.{is_wide}
use Rattle.rational.specs.Rational.{frac, ◌+ℚ◌, neg_ℚ, le_q, lt_q, eq_ℚ}
use Rattle.algebra.specs.Gcd.{gcd_within, gcd}
use Rattle.model_maker.specs.PlanProgram.{plan_program}
use Rattle.model_maker.specs.PlanText.{plan_text}
use Rattle.std.specs.Fmt.{digits}

-- that which the evaluation of a text goes through
reading : Unit {0}
unfolding lines_of is_far is_word_start is_word_byte point_len exponent_len number_len mark_of piece_at token_fault lexemes scan_lines label signs constant_of constant element_of element term repeated part parts form objective begin subject_to relation agreeing opening closing row_after row bound statement_of pair_heading word_heading may_head pair_at word_at relation_of sign_of name_or_infinity item_of pieces pieces_in script script_of is_word is_infinity is_minimise is_maximise is_subject_to is_bounds is_general is_binary is_unsupported heading_of is_subject_to_pair pair_of lower_said upper_said whole_said lower_of upper_of whole_of limit_fault terms_fault objective_label_fault label_fault unnamed_fault full_fault unknown_fault statement_fault first_fault lp_fault lp_program terms_of with_names names_from term_value sum_of sum_fault constant_fault side_of form_from rows_from keeps_lower notes_from program_of number_after kept past_sign past_digits past_point exponent_in spelling_of scaled is_fitting literal_of is_wide frac ◌+ℚ◌ neg_ℚ le_q lt_q eq_ℚ gcd_within gcd plan_program plan_text digits
reading = tt

-- the first fault of a text, the program that it declares, and whether it is short enough
abbrev pub Outcome : Type 0
Outcome = Option ReadStop × Program × Bool

-- of the text of a plan
abbrev pub outcome : ℕ → Outcome
outcome n = (lp_fault (plan_text n), lp_program (plan_text n), nat_lt (length (plan_text n)) (2 ^ 31))

-- as they are to be
abbrev pub meant : ℕ → Outcome
meant n = (None, plan_program n, true)

-- ---- some numbers of periods at a time, since there is a limit on the steps of each proof
from_2 : map outcome (range_with_len 2 24) ≡ map meant (range_with_len 2 24)
unfolding reading
from_2 = refl

from_26 : map outcome (range_with_len 26 10) ≡ map meant (range_with_len 26 10)
unfolding reading
from_26 = refl

from_36 : map outcome (range_with_len 36 6) ≡ map meant (range_with_len 36 6)
unfolding reading
from_36 = refl

from_42 : map outcome (range_with_len 42 5) ≡ map meant (range_with_len 42 5)
unfolding reading
from_42 = refl

from_47 : map outcome (range_with_len 47 4) ≡ map meant (range_with_len 47 4)
unfolding reading
from_47 = refl

from_51 : map outcome (range_with_len 51 3) ≡ map meant (range_with_len 51 3)
unfolding reading
from_51 = refl

from_54 : map outcome (range_with_len 54 3) ≡ map meant (range_with_len 54 3)
unfolding reading
from_54 = refl

from_57 : map outcome (range_with_len 57 2) ≡ map meant (range_with_len 57 2)
unfolding reading
from_57 = refl

from_59 : map outcome (range_with_len 59 2) ≡ map meant (range_with_len 59 2)
unfolding reading
from_59 = refl

-- all of them
all : map outcome (range_with_len 2 59) ≡ map meant (range_with_len 2 59)
all = λ i. from_2 i ++ (from_26 i ++ (from_36 i ++ (from_42 i ++ (from_47 i ++ (from_51 i ++ (from_54 i ++ (from_57 i ++ from_59 i)))))))

pub evaluated : (n : ℕ) → IsPlanSize n → outcome n ≡ meant n
evaluated n size =
    sym (get_or-map-range_with_len outcome 2 59 (n - 2) n (outcome n) (omega arith) (omega arith))
    ∙ (ap (λ (os : List Outcome). get_or os (n - 2) (outcome n)) all ∙ get_or-map-range_with_len meant 2 59 (n - 2) n (outcome n) (omega arith) (omega arith))
