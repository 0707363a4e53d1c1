-- The numbers of terms, bounds and sides, and what is wrong with them.
use Rattle.std.specs.Prelude.{ℕ, Bool, true, false, cond, List, filter, Option, Some, None, option_map}
use Rattle.std.specs.Str.{bytes_eq}
use Rattle.rational.specs.Rational.{ℚ, zero_ℚ, one_ℚ, neg_ℚ}
use Rattle.rational.specs.Sum.{sum_over}
use Rattle.frac128.specs.Limit.{limit}
use Rattle.frac128.specs.Width.{operation, is_wide}
use Rattle.frac128.specs.declared.Op.TheVariants.{Plus}
use Rattle.frac128.specs.declared.literal.Literal.{Literal}
use Rattle.frac128.specs.declared.literal.Literal.TheVariants.{Fits, TooWide}
use Rattle.text_fields.specs.declared.faults.ReadStop.{ReadStop}
use Rattle.text_fields.specs.declared.faults.ReadKind.TheVariants.{Text, SumWide}
use Rattle.text_fields.specs.declared.faults.TextKind.TheVariants.{BadNumber, NumberWide}
use Rattle.text_fields.specs.Numbers.{literal_in, bound_of, is_wide_bound}
use Rattle.lp_statements.specs.Items.{Written, stop_at}
use Rattle.lp_statements.specs.Statements.{Constant, Term}

-- a number with its sign
abbrev pub signed : Bool → ℚ → ℚ
signed true value = neg_ℚ value
signed false value = value

-- ---- factors
-- a number that is used has to fit
abbrev pub number_fault : ℕ → Option Literal → Option ReadStop
number_fault line None = Some (stop_at line (Text BadNumber))
number_fault line (Some (Fits value)) = None
number_fault line (Some (TooWide huge negative)) = Some (stop_at line (Text NumberWide))

-- the value of a literal that fits
abbrev pub value_in : Option Literal → ℚ
value_in (Some (Fits value)) = value
value_in _ = zero_ℚ

-- what is wrong with a factor, if one is written
abbrev pub factor_fault : Option Written → Option ReadStop
factor_fault (Some number) = number_fault number.line (literal_in number.text)
factor_fault None = None

-- a factor, which is 1 where none is written
abbrev pub factor : Option Written → ℚ
factor (Some number) = value_in (literal_in number.text)
factor None = one_ℚ

-- the factor of a term, with its sign
unfoldable pub term_value : Term → ℚ
term_value term = signed term.negative (factor term.factor)

-- a term of the column with this name
abbrev pub is_of : List ℕ → Term → Bool
is_of name term = bytes_eq term.name.text name

-- the sum of the factors that terms give a column
unfoldable pub sum_of : List ℕ → List Term → ℚ
sum_of name terms = sum_over term_value (filter (is_of name) terms)

-- a sum that is too wide with one term more
unfoldable pub sum_fault : List Term → Term → Option ReadStop
sum_fault before term = cond (is_wide limit (operation Plus (sum_of term.name.text before) (term_value term))) (Some (stop_at term.name.line SumWide)) None

-- ---- constants
-- a number that is huge need not fit
abbrev pub side_fault : ℕ → Option Literal → Option ReadStop
side_fault line None = number_fault line None
side_fault line (Some literal) = cond (is_wide_bound literal) (Some (stop_at line (Text NumberWide))) None

-- what is wrong with a constant
unfoldable pub constant_fault : Constant → Option ReadStop
constant_fault constant = cond constant.infinite None (side_fault constant.text.line (literal_in constant.text.text))

-- the same where it may be missing
abbrev pub constant_fault_in : Option Constant → Option ReadStop
constant_fault_in (Some constant) = constant_fault constant
constant_fault_in None = None

-- a huge number is no side
abbrev pub side_in : Bool → Option Literal → Option ℚ
side_in negative None = None
side_in negative (Some literal) = option_map (signed negative) (bound_of literal)

-- the side or bound that a constant is; infinity is none
unfoldable pub side_of : Constant → Option ℚ
side_of constant = cond constant.infinite None (side_in constant.negative (literal_in constant.text.text))
