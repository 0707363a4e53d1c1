-- Statements that are taken in.
use Rattle.std.proofs.Common.{◌≡◌, ℕ, ◌≤◌, Bool, true, false, cond, List, [], ◌∷◌, ◌++◌, Option, Some, None, length, refl, sym, ap, ◌∙◌, subst}
use Rattle.std.specs.Option.{option_or}
use Rattle.std.specs.Str.{bytes_eq}
use Rattle.rational.specs.Rational.{ℚ, zero_ℚ, one_ℚ}
use Rattle.text_fields.specs.declared.faults.ReadStop.{ReadStop}
use Rattle.text_fields.specs.declared.faults.ReadFault.{ReadFault}
use Rattle.text_fields.specs.declared.faults.ReadFault.TheVariants.{Stop, Memory}
use Rattle.name_map.specs.Names.{names_of, StandsAt}
use Rattle.name_map.proofs.NameLists.{length_map}
use Rattle.lp_model.specs.Shown.{most_columns, most_rows}
use Rattle.lp_statements.specs.declared.parts.Relation.{Relation}
use Rattle.lp_statements.specs.Items.{Written}
use Rattle.lp_statements.specs.Statements.{Constant, Term, Statement, Objective, Row, Free, Bound, Listed}
use Rattle.lp_reader.specs.declared.bounds.Said.{Said}
use Rattle.lp_reader.specs.declared.bounds.Said.TheVariants.{Nothing, Unbounded, At}
use Rattle.lp_reader.specs.declared.reader.Reader.{Reader}
use Rattle.lp_reader.specs.Numbers.{constant_fault_in, side_of}
use Rattle.lp_reader.specs.Names.{terms_of, columns_of, row_names}
use Rattle.lp_reader.specs.Faults.{terms_fault, objective_label_fault, label_fault, unknown_fault, row_end_fault, statement_fault}
use Rattle.lp_reader.specs.Bounds.{said_of, said_by, said_first, lower_said, upper_said, whole_said, lower_constant, upper_constant}
use Rattle.lp_reader.specs.Said.{lower_by, upper_by, SetsBounds}
use Rattle.lp_reader.specs.State.{bounds_of, terms_fault_in}
use Rattle.lp_reader.specs.Held.{Holds, HasRoom, IsEven}
use Rattle.text_fields.specs.Faults.{IsFaultOf}
use Rattle.lp_reader.proofs.Fronts.{faults_of_form}
use Rattle.lp_reader.proofs.Holding.{hold_said}

pub or_first : (a b : Option ReadStop) (fault : ReadFault) → IsFaultOf a fault → IsFaultOf (option_or a b) fault
or_first a b (Stop stop) told = ap (λ o. option_or o b) told
or_first a b Memory told = tt

pub or_second : (a b : Option ReadStop) (fault : ReadFault) → a ≡ None → IsFaultOf b fault → IsFaultOf (option_or a b) fault
or_second a b fault none told = subst (λ o. IsFaultOf (option_or o b) fault) (sym none) told

or_none : (a b : Option ReadStop) → a ≡ None → b ≡ None → option_or a b ≡ None
or_none a b p q = ap (λ o. option_or o b) p ∙ q

-- what the tables keep
pub holds_room : (reader : Reader) (front : List Statement) → Holds reader front → HasRoom reader
holds_room reader front holds = record {
  columns = subst (λ ns. length ns ≤ most_columns) (sym holds.columns) holds.few_columns;
  rows = subst (λ ns. length ns ≤ most_rows) (sym holds.named) holds.few_rows;
}

pub holds_even : (reader : Reader) (front : List Statement) → Holds reader front → IsEven reader
holds_even reader front holds = ap length holds.bounds ∙ (length_map (bounds_of front) (columns_of front) ∙ sym (ap length holds.columns))

module _ (old : Reader) (front : List Statement) (holds : Holds old front) where
  terms_told : (terms : List Term) → terms_fault (terms_of front) [] terms ≡ terms_fault_in (names_of old.columns.names) old.columns.entries [] terms
  terms_told terms = faults_of_form (terms_of front) terms ∙ (λ i. terms_fault_in (sym holds.columns i) (sym holds.entries i) [] terms)

  -- the objective
  pub objective_label_fails : (maximise : Bool) (label : Option Written) (terms : List Term) (fault : ReadFault) → IsFaultOf (objective_label_fault label) fault → IsFaultOf (statement_fault front (Objective maximise label terms)) fault
  unfolding statement_fault
  objective_label_fails maximise label terms fault told = or_first (objective_label_fault label) (terms_fault (terms_of front) [] terms) fault told

  pub objective_terms_fail : (maximise : Bool) (label : Option Written) (terms : List Term) (fault : ReadFault) → objective_label_fault label ≡ None → IsFaultOf (terms_fault_in (names_of old.columns.names) old.columns.entries [] terms) fault → IsFaultOf (statement_fault front (Objective maximise label terms)) fault
  unfolding statement_fault
  objective_terms_fail maximise label terms fault none told = or_second (objective_label_fault label) (terms_fault (terms_of front) [] terms) fault none (subst (λ (o : Option ReadStop). IsFaultOf o fault) (sym (terms_told terms)) told)

  pub objective_none : (maximise : Bool) (label : Option Written) (terms : List Term) → objective_label_fault label ≡ None → terms_fault_in (names_of old.columns.names) old.columns.entries [] terms ≡ None → statement_fault front (Objective maximise label terms) ≡ None
  unfolding statement_fault
  objective_none maximise label terms a b = or_none (objective_label_fault label) (terms_fault (terms_of front) [] terms) a (terms_told terms ∙ b)

  -- a row
  module _ (label : Option Written) (left : Option Constant) (terms : List Term) (relation : Relation) (right : Constant) where
    abbrev end_of : Option ReadStop
    end_of = row_end_fault (row_names front) label right

    abbrev terms_of_row : Option ReadStop
    terms_of_row = option_or (terms_fault (terms_of front) [] terms) end_of

    pub row_label_fails : (fault : ReadFault) → IsFaultOf (label_fault (names_of old.rows.names) label) fault → IsFaultOf (statement_fault front (Row label left terms relation right)) fault
    unfolding statement_fault
    row_label_fails fault told = or_first (label_fault (row_names front) label) (option_or (constant_fault_in left) terms_of_row) fault (subst (λ ns. IsFaultOf (label_fault ns label) fault) holds.named told)

    pub row_left_fails : (fault : ReadFault) → label_fault (names_of old.rows.names) label ≡ None → IsFaultOf (constant_fault_in left) fault → IsFaultOf (statement_fault front (Row label left terms relation right)) fault
    unfolding statement_fault
    row_left_fails fault a told = or_second (label_fault (row_names front) label) (option_or (constant_fault_in left) terms_of_row) fault (subst (λ ns. label_fault ns label ≡ None) holds.named a)
        (or_first (constant_fault_in left) terms_of_row fault told)

    pub row_terms_fail : (fault : ReadFault) → label_fault (names_of old.rows.names) label ≡ None → constant_fault_in left ≡ None → IsFaultOf (terms_fault_in (names_of old.columns.names) old.columns.entries [] terms) fault → IsFaultOf (statement_fault front (Row label left terms relation right)) fault
    unfolding statement_fault
    row_terms_fail fault a b told = or_second (label_fault (row_names front) label) (option_or (constant_fault_in left) terms_of_row) fault (subst (λ ns. label_fault ns label ≡ None) holds.named a)
        (or_second (constant_fault_in left) terms_of_row fault b (or_first (terms_fault (terms_of front) [] terms) end_of fault (subst (λ (o : Option ReadStop). IsFaultOf o fault) (sym (terms_told terms)) told)))

    pub row_end_fails : (fault : ReadFault) → label_fault (names_of old.rows.names) label ≡ None → constant_fault_in left ≡ None → terms_fault_in (names_of old.columns.names) old.columns.entries [] terms ≡ None → IsFaultOf (row_end_fault (names_of old.rows.names) label right) fault → IsFaultOf (statement_fault front (Row label left terms relation right)) fault
    unfolding statement_fault
    row_end_fails fault a b d told = or_second (label_fault (row_names front) label) (option_or (constant_fault_in left) terms_of_row) fault (subst (λ ns. label_fault ns label ≡ None) holds.named a)
        (or_second (constant_fault_in left) terms_of_row fault b (or_second (terms_fault (terms_of front) [] terms) end_of fault (terms_told terms ∙ d) (subst (λ ns. IsFaultOf (row_end_fault ns label right) fault) holds.named told)))

    pub row_none : label_fault (names_of old.rows.names) label ≡ None → constant_fault_in left ≡ None → terms_fault_in (names_of old.columns.names) old.columns.entries [] terms ≡ None → row_end_fault (names_of old.rows.names) label right ≡ None → statement_fault front (Row label left terms relation right) ≡ None
    unfolding statement_fault
    row_none a b d e = or_none (label_fault (row_names front) label) (option_or (constant_fault_in left) terms_of_row) (subst (λ ns. label_fault ns label ≡ None) holds.named a)
        (or_none (constant_fault_in left) terms_of_row b (or_none (terms_fault (terms_of front) [] terms) end_of (terms_told terms ∙ d) (subst (λ ns. row_end_fault ns label right ≡ None) holds.named e)))

  -- a name
  unknown_told : (name : Written) (fault : ReadFault) → IsFaultOf (unknown_fault (names_of old.columns.names) name) fault → IsFaultOf (unknown_fault (columns_of front) name) fault
  unknown_told name fault told = subst (λ ns. IsFaultOf (unknown_fault ns name) fault) holds.columns told

  known_told : (name : Written) → unknown_fault (names_of old.columns.names) name ≡ None → unknown_fault (columns_of front) name ≡ None
  known_told name none = subst (λ ns. unknown_fault ns name ≡ None) holds.columns none

  pub free_fails : (name : Written) (fault : ReadFault) → IsFaultOf (unknown_fault (names_of old.columns.names) name) fault → IsFaultOf (statement_fault front (Free name)) fault
  unfolding statement_fault
  free_fails name fault told = unknown_told name fault told

  pub listed_fails : (binary : Bool) (name : Written) (fault : ReadFault) → IsFaultOf (unknown_fault (names_of old.columns.names) name) fault → IsFaultOf (statement_fault front (Listed binary name)) fault
  unfolding statement_fault
  listed_fails binary name fault told = unknown_told name fault told

  -- a bound
  module _ (left : Option Constant) (name : Written) (relation : Relation) (right : Option Constant) where
    pub bound_left_fails : (fault : ReadFault) → IsFaultOf (constant_fault_in left) fault → IsFaultOf (statement_fault front (Bound left name relation right)) fault
    unfolding statement_fault
    bound_left_fails fault told = or_first (constant_fault_in left) (option_or (unknown_fault (columns_of front) name) (constant_fault_in right)) fault told

    pub bound_name_fails : (fault : ReadFault) → constant_fault_in left ≡ None → IsFaultOf (unknown_fault (names_of old.columns.names) name) fault → IsFaultOf (statement_fault front (Bound left name relation right)) fault
    unfolding statement_fault
    bound_name_fails fault a told = or_second (constant_fault_in left) (option_or (unknown_fault (columns_of front) name) (constant_fault_in right)) fault a (or_first (unknown_fault (columns_of front) name) (constant_fault_in right) fault (unknown_told name fault told))

    pub bound_right_fails : (fault : ReadFault) → constant_fault_in left ≡ None → unknown_fault (names_of old.columns.names) name ≡ None → IsFaultOf (constant_fault_in right) fault → IsFaultOf (statement_fault front (Bound left name relation right)) fault
    unfolding statement_fault
    bound_right_fails fault a b told = or_second (constant_fault_in left) (option_or (unknown_fault (columns_of front) name) (constant_fault_in right)) fault a (or_second (unknown_fault (columns_of front) name) (constant_fault_in right) fault (known_told name b) told)

    pub bound_none : constant_fault_in left ≡ None → unknown_fault (names_of old.columns.names) name ≡ None → constant_fault_in right ≡ None → statement_fault front (Bound left name relation right) ≡ None
    unfolding statement_fault
    bound_none a b d = or_none (constant_fault_in left) (option_or (unknown_fault (columns_of front) name) (constant_fault_in right)) a (or_none (unknown_fault (columns_of front) name) (constant_fault_in right) (known_told name b) d)

  -- what a bound says
  pub bound_taken : (new : Reader) (left : Option Constant) (name : Written) (relation : Relation) (right : Option Constant) (j : ℕ) → StandsAt (names_of old.columns.names) name.text j
      → SetsBounds old.columns new.columns j (lower_by (said_by left) relation (said_by right)) (upper_by (said_by left) relation (said_by right)) false
      → names_of new.rows.names ≡ names_of old.rows.names → new.rows.items.items ≡ old.rows.items.items → new.objective ≡ old.objective → new.maximise ≡ old.maximise → Holds new (front ++ Bound left name relation right ∷ [])
  unfolding lower_said upper_said whole_said
  bound_taken new left name relation right j at sets =
      hold_said old new front (Bound left name relation right) name.text j (lower_by (said_by left) relation (said_by right)) (upper_by (said_by left) relation (said_by right)) false holds at sets refl refl refl refl
      (λ n. ap (λ said. cond (bytes_eq n name.text) said Nothing) (lower_same left relation right))
      (λ n. ap (λ said. cond (bytes_eq n name.text) said Nothing) (upper_same left relation right))
      (λ n. same (bytes_eq n name.text))
    where
      same : (b : Bool) → false ≡ cond b false false
      same true = refl
      same false = refl

      first_is : (side : Option ℚ) (later : Said) → said_of side ≡ said_first (said_of side) later
      first_is None later = refl
      first_is (Some value) later = refl

      lower_same : (left : Option Constant) (relation : Relation) (right : Option Constant) → said_by (lower_constant left relation right) ≡ lower_by (said_by left) relation (said_by right)
      lower_same left Relation.AtMost right = refl
      lower_same left Relation.AtLeast right = refl
      lower_same None Relation.Equal right = refl
      lower_same (Some left) Relation.Equal right = first_is (side_of left) (said_by right)

      upper_same : (left : Option Constant) (relation : Relation) (right : Option Constant) → said_by (upper_constant left relation right) ≡ upper_by (said_by left) relation (said_by right)
      upper_same left Relation.AtMost right = refl
      upper_same left Relation.AtLeast right = refl
      upper_same None Relation.Equal right = refl
      upper_same (Some left) Relation.Equal right = first_is (side_of left) (said_by right)

  pub free_taken : (new : Reader) (name : Written) (j : ℕ) → StandsAt (names_of old.columns.names) name.text j → SetsBounds old.columns new.columns j Unbounded Unbounded false
      → unknown_fault (names_of old.columns.names) name ≡ None
      → names_of new.rows.names ≡ names_of old.rows.names → new.rows.items.items ≡ old.rows.items.items → new.objective ≡ old.objective → new.maximise ≡ old.maximise → (statement_fault front (Free name) ≡ None) × Holds new (front ++ Free name ∷ [])
  unfolding lower_said upper_said whole_said statement_fault
  free_taken new name j at sets none a b d e =
      (known_told name none, hold_said old new front (Free name) name.text j Unbounded Unbounded false holds at sets refl refl refl refl (λ n. refl) (λ n. refl) (λ n. same (bytes_eq n name.text)) a b d e)
    where
      same : (b : Bool) → false ≡ cond b false false
      same true = refl
      same false = refl

  pub binary_taken : (new : Reader) (name : Written) (j : ℕ) → StandsAt (names_of old.columns.names) name.text j → SetsBounds old.columns new.columns j (At zero_ℚ) (At one_ℚ) true
      → unknown_fault (names_of old.columns.names) name ≡ None
      → names_of new.rows.names ≡ names_of old.rows.names → new.rows.items.items ≡ old.rows.items.items → new.objective ≡ old.objective → new.maximise ≡ old.maximise → (statement_fault front (Listed true name) ≡ None) × Holds new (front ++ Listed true name ∷ [])
  unfolding lower_said upper_said whole_said statement_fault
  binary_taken new name j at sets none a b d e =
      (known_told name none, hold_said old new front (Listed true name) name.text j (At zero_ℚ) (At one_ℚ) true holds at sets refl refl refl refl (λ n. refl) (λ n. refl) (λ n. same (bytes_eq n name.text)) a b d e)
    where
      same : (b : Bool) → b ≡ cond b true false
      same true = refl
      same false = refl

  pub general_taken : (new : Reader) (name : Written) (j : ℕ) → StandsAt (names_of old.columns.names) name.text j → SetsBounds old.columns new.columns j Nothing Nothing true
      → unknown_fault (names_of old.columns.names) name ≡ None
      → names_of new.rows.names ≡ names_of old.rows.names → new.rows.items.items ≡ old.rows.items.items → new.objective ≡ old.objective → new.maximise ≡ old.maximise → (statement_fault front (Listed false name) ≡ None) × Holds new (front ++ Listed false name ∷ [])
  unfolding lower_said upper_said whole_said statement_fault
  general_taken new name j at sets none a b d e =
      (known_told name none, hold_said old new front (Listed false name) name.text j Nothing Nothing true holds at sets refl refl refl refl (λ n. nothing (bytes_eq n name.text)) (λ n. nothing (bytes_eq n name.text)) (λ n. same (bytes_eq n name.text)) a b d e)
    where
      same : (b : Bool) → b ≡ cond b true false
      same true = refl
      same false = refl

      nothing : (b : Bool) → Nothing ≡ cond b Nothing Nothing
      nothing true = refl
      nothing false = refl
