-- Terms past the limit are not needed.
use Rattle.std.proofs.Common.{◌≡◌, ℕ, zero, suc, ◌+◌, ◌<◌, Bool, true, false, cond, ◌||◌, List, [], ◌∷◌, ◌++◌, Option, Some, None, length, take, refl, sym, ap, ◌∙◌, arith, append_assoc, length-append}
use Rattle.std.specs.Prelude.{nat_le}
use Rattle.std.specs.Option.{option_or}
use Rattle.std.proofs.lemmas.Bool.Decides.{nat_tests}
use Rattle.text_fields.specs.declared.faults.ReadStop.{ReadStop}
use Rattle.text_fields.specs.declared.faults.ReadKind.TheVariants.{Limit}
use Rattle.lp_statements.specs.Items.{Written, stop_at}
use Rattle.lp_statements.specs.Statements.{Term, Statement, Objective, Heading, Row, Free, Bound, Listed, IsKept, Entire, Shortened, shortened}
use Rattle.lp_model.specs.Shown.{most_entries}
use Rattle.lp_reader.specs.Numbers.{constant_fault_in}
use Rattle.lp_reader.specs.Names.{terms_of, columns_in, row_names}
use Rattle.lp_reader.specs.Faults.{column_passes, limit_fault, term_fault, terms_fault, objective_label_fault, label_fault, row_end_fault, statement_fault}

some_none : (x : ReadStop) → Some x ≡ None → ⊥
some_none x h = cc

lt_of_test : (a b : ℕ) → nat_le a b ≡ false → b < a
lt_of_test a b h = grind (arith, nat_tests)

-- no fault of two is a fault of neither
neither : (a b : Option ReadStop) → option_or a b ≡ None → (a ≡ None) × (b ≡ None)
neither None b h = (refl, h)
neither (Some x) b h = absurd (some_none x h)

-- a term without a fault is within the limit
within_limit : (columns : List (List ℕ)) (entries : ℕ) (name : Written) → limit_fault columns entries name ≡ None → entries < most_entries
unfolding limit_fault
within_limit columns entries name h = by (nat_le most_entries entries) refl h
  where
    by : (b : Bool) → nat_le most_entries entries ≡ b → cond (b || column_passes columns name.text) (Some (stop_at name.line Limit)) None ≡ None → entries < most_entries
    by true e h = absurd (some_none (stop_at name.line Limit) h)
    by false e h = lt_of_test most_entries entries e

term_within : (columns : List (List ℕ)) (entries : ℕ) (before : List Term) (term : Term) → term_fault columns entries before term ≡ None → entries < most_entries
term_within columns entries before term h = within_limit columns entries term.name (neither _ _ (neither _ _ h).1).0

one_longer : (front before : List Term) (term : Term) → length (front ++ (before ++ term ∷ [])) ≡ length (front ++ before) + 1
one_longer front before term = ap length (sym (append_assoc front before (term ∷ []))) ∙ length-append (front ++ before) (term ∷ [])

-- the first fault of terms is that of those up to the first past the limit
pub faults_kept : (n : ℕ) (front before terms : List Term) → 0 < n → most_entries < length (front ++ before) + n → terms_fault front before (take n terms) ≡ terms_fault front before terms
unfolding terms_fault
faults_kept zero front before terms some past = absurd (omega arith)
faults_kept (suc n) front before [] some past = refl
faults_kept (suc n) front before (term ∷ terms) some past =
    by (term_fault (columns_in (front ++ before)) (length (front ++ before)) before term) refl (λ room. let long = one_longer front before term in faults_kept n front (before ++ term ∷ []) terms (omega arith) (omega arith))
  where
    by : (o : Option ReadStop) → term_fault (columns_in (front ++ before)) (length (front ++ before)) before term ≡ o
        → (length (front ++ before) < most_entries → terms_fault front (before ++ term ∷ []) (take n terms) ≡ terms_fault front (before ++ term ∷ []) terms)
        → option_or o (terms_fault front (before ++ term ∷ []) (take n terms)) ≡ option_or o (terms_fault front (before ++ term ∷ []) terms)
    by (Some stop) e rest = refl
    by None e rest = rest (term_within (columns_in (front ++ before)) (length (front ++ before)) before term e)

-- and where there is none, all are kept
pub all_kept : (n : ℕ) (front before terms : List Term) → 0 < n → most_entries < length (front ++ before) + n → terms_fault front before (take n terms) ≡ None → take n terms ≡ terms
unfolding terms_fault
all_kept zero front before terms some past none = absurd (omega arith)
all_kept (suc n) front before [] some past none = refl
all_kept (suc n) front before (term ∷ terms) some past none =
    let both = neither (term_fault (columns_in (front ++ before)) (length (front ++ before)) before term) (terms_fault front (before ++ term ∷ []) (take n terms)) none in
    let room = term_within (columns_in (front ++ before)) (length (front ++ before)) before term both.0 in
    let long = one_longer front before term in
    ap (λ ts. term ∷ ts) (all_kept n front (before ++ term ∷ []) terms (omega arith) (omega arith) both.1)

-- ---- statements
module _ (n : ℕ) (front : List Statement) (past : most_entries < n) where
  terms_kept : (terms : List Term) → terms_fault (terms_of front) [] (take n terms) ≡ terms_fault (terms_of front) [] terms
  terms_kept terms = faults_kept n (terms_of front) [] terms (omega arith) (omega arith)

  short_fault : (s : Statement) → statement_fault front (shortened n s) ≡ statement_fault front s
  unfolding statement_fault
  short_fault (Objective maximise label terms) = ap (option_or (objective_label_fault label)) (terms_kept terms)
  short_fault (Row label left terms relation right) = ap (λ o. option_or (label_fault (row_names front) label) (option_or (constant_fault_in left) (option_or o (row_end_fault (row_names front) label right)))) (terms_kept terms)
  short_fault (Heading keyword) = refl
  short_fault (Free name) = refl
  short_fault (Bound left name relation right) = refl
  short_fault (Listed binary name) = refl

  short_same : (s : Statement) → statement_fault front (shortened n s) ≡ None → shortened n s ≡ s
  unfolding statement_fault
  short_same (Objective maximise label terms) none = ap (Objective maximise label) (all_kept n (terms_of front) [] terms (omega arith) (omega arith) (neither _ _ none).1)
  short_same (Row label left terms relation right) none =
      ap (λ ts. Row label left ts relation right) (all_kept n (terms_of front) [] terms (omega arith) (omega arith) (neither _ _ (neither _ _ (neither _ _ none).1).1).0)
  short_same (Heading keyword) none = refl
  short_same (Free name) none = refl
  short_same (Bound left name relation right) none = refl
  short_same (Listed binary name) none = refl

  -- the fault of what is kept is that of the statement
  pub kept_fault : (s kept : Statement) → IsKept n s kept → statement_fault front kept ≡ statement_fault front s
  kept_fault s kept (Entire is) = ap (statement_fault front) is
  kept_fault s kept (Shortened is) = ap (statement_fault front) is ∙ short_fault s

  -- and what has no fault is the statement
  pub kept_same : (s kept : Statement) → IsKept n s kept → statement_fault front kept ≡ None → kept ≡ s
  kept_same s kept (Entire is) none = is
  kept_same s kept (Shortened is) none = is ∙ short_same s (sym (ap (statement_fault front) is) ∙ none)
