-- What one statement more changes.
use Rattle.std.proofs.Common.{◌≡◌, ℕ, suc, ◌+◌, Bool, true, false, cond, ◌||◌, List, [], ◌∷◌, ◌++◌, Option, Some, None, length, map, refl, sym, ap, ◌∙◌, arith, append_assoc, append-nil, length-append, true≢false}
use Rattle.std.specs.Prelude.{unwrap_or}
use Rattle.std.specs.List.{All, list_any, filter_map, cons_option}
use Rattle.std.specs.Option.{option_or}
use Rattle.std.specs.Str.{bytes_eq}
use Rattle.std.proofs.lemmas.List.Elements.{filter_map-append, All-nil, All-cons, All-head, All-tail}
use Rattle.std.proofs.lemmas.List.Folds.{list_any-append}
use Rattle.std.proofs.lemmas.Slice.Eq.{bytes_eq-Decides}
use Rattle.rational.specs.Rational.{ℚ, zero_ℚ}
use Rattle.lp_model.specs.Shown.{is_named}
use Rattle.lp_statements.specs.Statements.{Term, Statement, Objective, Heading, Row, Free, Bound, Listed}
use Rattle.lp_reader.specs.declared.bounds.Said.{Said}
use Rattle.lp_reader.specs.declared.bounds.Said.TheVariants.{Nothing}
use Rattle.lp_reader.specs.declared.columns.Bounds.{Bounds}
use Rattle.lp_reader.specs.Numbers.{is_of, sum_of}
use Rattle.lp_reader.specs.Names.{terms_in, terms_of, with_name, with_names, columns_in, columns_of, RowPart, row_in, rows_of, row_name, names_from}
use Rattle.lp_reader.specs.Faults.{term_fault, terms_fault}
use Rattle.lp_reader.specs.Bounds.{last_or, is_said, bound_after, bound_after_all, lower_said, upper_said, whole_said, lower_of, upper_of, whole_of, is_lower_set}
use Rattle.lp_reader.specs.Program.{with_term, form_from}
use Rattle.lp_reader.specs.Said.{changed}
use Rattle.lp_reader.specs.State.{bounds_of, terms_fault_in}
use Rattle.lp_reader.proofs.Forms.{no_term}

-- ---- terms and columns
pub terms_push : (front : List Statement) (s : Statement) → terms_of (front ++ s ∷ []) ≡ terms_of front ++ terms_in s
unfolding terms_of
terms_push [] s = append-nil (terms_in s)
terms_push (t ∷ front) s = ap (λ ts. terms_in t ++ ts) (terms_push front s) ∙ sym (append_assoc (terms_in t) (terms_of front) (terms_in s))

pub with_names_append : (names : List (List ℕ)) (xs ys : List Term) → with_names names (xs ++ ys) ≡ with_names (with_names names xs) ys
unfolding with_names
with_names_append names [] ys = refl
with_names_append names (x ∷ xs) ys = with_names_append (with_name names x.name.text) xs ys

pub columns_push : (front : List Statement) (s : Statement) → columns_of (front ++ s ∷ []) ≡ with_names (columns_of front) (terms_in s)
columns_push front s = ap (with_names []) (terms_push front s) ∙ with_names_append [] (terms_of front) (terms_in s)

-- the faults of terms, by what the tables say
pub faults_by_state : (front before terms : List Term) → terms_fault front before terms ≡ terms_fault_in (columns_in (front ++ before)) (length (front ++ before)) before terms
unfolding terms_fault terms_fault_in with_names
faults_by_state front before [] = refl
faults_by_state front before (t ∷ terms) =
    ap (option_or (term_fault (columns_in (front ++ before)) (length (front ++ before)) before t))
    (faults_by_state front (before ++ t ∷ []) terms ∙ ap (λ (s : List (List ℕ) × ℕ). terms_fault_in s.0 s.1 (before ++ t ∷ []) terms) (λ i. (names i, count i)))
  where
    names : columns_in (front ++ (before ++ t ∷ [])) ≡ with_name (columns_in (front ++ before)) t.name.text
    names = ap columns_in (sym (append_assoc front before (t ∷ []))) ∙ with_names_append [] (front ++ before) (t ∷ [])

    count : length (front ++ (before ++ t ∷ [])) ≡ length (front ++ before) + 1
    count = ap length (sym (append_assoc front before (t ∷ []))) ∙ length-append (front ++ before) (t ∷ [])

pub faults_of_form : (front terms : List Term) → terms_fault front [] terms ≡ terms_fault_in (columns_in front) (length front) [] terms
faults_of_form front terms = faults_by_state front [] terms ∙ ap (λ (ts : List Term). terms_fault_in (columns_in ts) (length ts) [] terms) (append-nil front)

-- a name that no column has is that of no term
or_left : (a b : Bool) → (a || b) ≡ false → a ≡ false
or_left true b h = h
or_left false b h = refl

or_right : (a b : Bool) → (a || b) ≡ false → b ≡ false
or_right true b h = absurd (true≢false h)
or_right false b h = h

pub named_stays : (names : List (List ℕ)) (terms : List Term) (name : List ℕ) → is_named (with_names names terms) name ≡ false → is_named names name ≡ false
unfolding with_names
named_stays names [] name h = h
named_stays names (t ∷ terms) name h = by (is_named names t.name.text) (named_stays (with_name names t.name.text) terms name h)
  where
    by : (b : Bool) → is_named (cond b names (names ++ t.name.text ∷ [])) name ≡ false → is_named names name ≡ false
    by true e = e
    by false e = or_left (is_named names name) (is_named (t.name.text ∷ []) name) (sym (list_any-append (bytes_eq name) names (t.name.text ∷ [])) ∙ e)

pub absent_terms : (names : List (List ℕ)) (terms : List Term) (name : List ℕ) → is_named (with_names names terms) name ≡ false → list_any (is_of name) terms ≡ false
unfolding with_names
absent_terms names [] name h = refl
absent_terms names (t ∷ terms) name h =
    both (is_of name t) (list_any (is_of name) terms) (here (is_of name t) refl (named_stays (with_name names t.name.text) terms name h)) (absent_terms (with_name names t.name.text) terms name h)
  where
    both : (a b : Bool) → a ≡ false → b ≡ false → (a || b) ≡ false
    both true b p q = p
    both false b p q = q

    there : (b : Bool) → is_named names t.name.text ≡ b → is_named (cond b names (names ++ t.name.text ∷ [])) t.name.text ≡ true
    there true e = e
    there false e = list_any-append (bytes_eq t.name.text) names (t.name.text ∷ []) ∙ ap (λ b. b || (bytes_eq t.name.text t.name.text || false)) e ∙ ap (λ b. b || false) ((bytes_eq-Decides t.name.text t.name.text).1 refl)

    here : (b : Bool) → is_of name t ≡ b → is_named (with_name names t.name.text) name ≡ false → b ≡ false
    here false e h = refl
    here true e h =
        let is : t.name.text ≡ name = (bytes_eq-Decides t.name.text name).0 e in
        absurd (true≢false (sym (there (is_named names t.name.text) refl) ∙ ap (is_named (with_name names t.name.text)) is ∙ h))

-- ---- forms
-- columns that the terms do not name give no terms
pub form_widen : (names : List (List ℕ)) (j : ℕ) (terms : List Term) (more : List (List ℕ)) → All (λ name. list_any (is_of name) terms ≡ false) more → form_from j (names ++ more) terms ≡ form_from j names terms
unfolding form_from
form_widen [] j terms [] none = refl
form_widen [] j terms (name ∷ more) none =
    no_term j name terms (form_from (j + 1) more terms) (ap (λ b. cond b (Some (sum_of name terms)) None) (All-head (λ name. list_any (is_of name) terms ≡ false) name more none))
    ∙ form_widen [] (j + 1) terms more (All-tail (λ name. list_any (is_of name) terms ≡ false) name more none)
form_widen (name ∷ names) j terms more none = ap (with_term j (sum_of name terms)) (form_widen names (j + 1) terms more none)

-- ---- bounds
last_push : {X : Type 0} (d : X) (xs : List X) (o : Option X) → last_or d (xs ++ cons_option o []) ≡ unwrap_or o (last_or d xs)
last_push d [] None = refl
last_push d [] (Some x) = refl
last_push d (x ∷ xs) o = last_push x xs o

pub last_said : {X : Type 0} (f : Statement → Option X) (d : X) (front : List Statement) (s : Statement) → last_or d (filter_map f (front ++ s ∷ [])) ≡ unwrap_or (f s) (last_or d (filter_map f front))
last_said f d front s = ap (last_or d) (filter_map-append f front (s ∷ [])) ∙ last_push d (filter_map f front) (f s)

or_false : (b : Bool) → (b || false) ≡ b
or_false true = refl
or_false false = refl

any_push : (p : Statement → Bool) (front : List Statement) (s : Statement) → list_any p (front ++ s ∷ []) ≡ (list_any p front || p s)
any_push p front s = list_any-append p front (s ∷ []) ∙ ap (λ b. list_any p front || b) (or_false (p s))

bound_push : (f : Statement → Said) (bound : Option ℚ) (front : List Statement) (s : Statement) → bound_after_all bound (map f (front ++ s ∷ [])) ≡ bound_after (bound_after_all bound (map f front)) (f s)
bound_push f bound [] s = refl
bound_push f bound (t ∷ front) s = bound_push f (bound_after bound (f t)) front s

pub bounds_push : (front : List Statement) (s : Statement) (name : List ℕ) → bounds_of (front ++ s ∷ []) name ≡ changed (bounds_of front name) (lower_said name s) (upper_said name s) (whole_said name s)
unfolding lower_of upper_of whole_of is_lower_set
bounds_push front s name =
    ap (λ (b : Option ℚ × Option ℚ × Bool × Bool). let r : Bounds = record { lo = b.0; up = b.1; whole = b.2; lower_set = b.3 } in r)
    (λ i. (bound_push (lower_said name) (Some zero_ℚ) front s i, bound_push (upper_said name) None front s i, any_push (whole_said name) front s i, any_push (λ s. is_said (lower_said name s)) front s i))

pub unchanged : (b : Bounds) → changed b Nothing Nothing false ≡ b
unchanged b = ap (λ (w : Bool × Bool). let r : Bounds = record { lo = b.lo; up = b.up; whole = w.0; lower_set = w.1 } in r) (λ i. (or_false b.whole i, or_false b.lower_set i))

-- ---- rows
pub rows_push : (front : List Statement) (s : Statement) → rows_of (front ++ s ∷ []) ≡ rows_of front ++ cons_option (row_in s) []
rows_push front s = filter_map-append row_in front (s ∷ [])

names_push : (n : ℕ) (rows : List RowPart) (row : RowPart) → names_from n (rows ++ row ∷ []) ≡ names_from n rows ++ row_name (n + length rows) row.label ∷ []
unfolding names_from
names_push n [] row = ap (λ (k : ℕ). row_name k row.label ∷ []) (let e : n ≡ n + 0 = omega arith in e)
names_push n (r ∷ rows) row =
    ap (λ ns. row_name n r.label ∷ ns) (names_push (n + 1) rows row ∙ ap (λ (k : ℕ). names_from (n + 1) rows ++ row_name k row.label ∷ []) (let e : n + 1 + length rows ≡ n + suc (length rows) = omega arith in e))

pub names_long : (n : ℕ) (rows : List RowPart) → length (names_from n rows) ≡ length rows
unfolding names_from
names_long n [] = refl
names_long n (r ∷ rows) = let e = names_long (n + 1) rows in omega arith

pub row_names_push : (rows : List RowPart) (row : RowPart) → names_from 1 (rows ++ row ∷ []) ≡ names_from 1 rows ++ row_name (length (names_from 1 rows) + 1) row.label ∷ []
row_names_push rows row = names_push 1 rows row ∙ ap (λ (k : ℕ). names_from 1 rows ++ row_name k row.label ∷ []) (let l = names_long 1 rows in let e : 1 + length rows ≡ length (names_from 1 rows) + 1 = omega arith in e)

-- each row's terms are among those of the statements
pub rows_absent : (front : List Statement) (name : List ℕ) → list_any (is_of name) (terms_of front) ≡ false → All (λ (row : RowPart). list_any (is_of name) row.terms ≡ false) (rows_of front)
unfolding terms_of
rows_absent [] name h = All-nil (λ (row : RowPart). list_any (is_of name) row.terms ≡ false)
rows_absent (s ∷ front) name h =
    by s (or_left (list_any (is_of name) (terms_in s)) (list_any (is_of name) (terms_of front)) (sym (list_any-append (is_of name) (terms_in s) (terms_of front)) ∙ h))
    (rows_absent front name (or_right (list_any (is_of name) (terms_in s)) (list_any (is_of name) (terms_of front)) (sym (list_any-append (is_of name) (terms_in s) (terms_of front)) ∙ h)))
  where
    by : (s : Statement) → list_any (is_of name) (terms_in s) ≡ false → All (λ (row : RowPart). list_any (is_of name) row.terms ≡ false) (rows_of front) → All (λ (row : RowPart). list_any (is_of name) row.terms ≡ false) (cons_option (row_in s) (rows_of front))
    by (Row label left terms relation right) here rest = All-cons (λ (row : RowPart). list_any (is_of name) row.terms ≡ false) (record { label = label; left = left; terms = terms; relation = relation; right = right }) (rows_of front) here rest
    by (Objective maximise label terms) here rest = rest
    by (Heading keyword) here rest = rest
    by (Free column) here rest = rest
    by (Bound left column relation right) here rest = rest
    by (Listed binary column) here rest = rest
