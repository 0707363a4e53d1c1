-- What the code's edits make of the lists of named parts.
use Rattle.std.proofs.Common.{◌≡◌, ◌<◌, ◌≤◌, refl, sym, ◌∙◌, ap, subst, ℕ, zero, suc, Bool, true, false, true≢false, cond, List, [], ◌∷◌, length, map, get_or, set, Option, None, Some, is_some, length-set}
use Rattle.std.specs.List.{slice_get}
use Rattle.std.proofs.lemmas.List.{set-get_or, get_or-set_same}
use Rattle.std.proofs.lemmas.Bool.{cond_both}
use Rattle.std.proofs.lemmas.List.{length-map}
use Rattle.rational.specs.Rational.{ℚ, one_ℚ}
use Rattle.name_map.specs.Names.{values_of, set_value_at}
use Rattle.lp_model.specs.declared.parts.Row.{Row}
use Rattle.lp_model.specs.declared.parts.Column.{Column}
use Rattle.lp_model.specs.Program.{Program, NamedRow, NamedColumn, Weight, Soft, Rigid, empty_row, empty_column, row_at, column_at, IsPositiveWeight, IsWellFormedRow, IsWellFormedColumn}
use Rattle.lp_model.specs.Members.{RowLo, RowUp, Whole, Side, Lo, Up}
use Rattle.lp_model.specs.Shown.{named_row, named_column, most_rows, most_columns, IsKept}
use Rattle.lp_model.specs.Edits.{Part, Change, BothSides, with_row, with_column, with_sides, where_there, on_target, changed, changed_sides, changed_bound, changed_bounds, changed_mark, marked, lower_part, upper_part, lower_bound_part, upper_bound_part, done, IsOwn, IsFittingChange}
use Rattle.std.specs.Bool.{Decides, beq}
use Rattle.std.specs.Cmp.{booleans_Decides}
use Rattle.std.proofs.lemmas.Bool.Decides.{Decides-and}
use Rattle.std.specs.Option.{option_eq}
use Rattle.rational.specs.Rational.{eq_ℚ}
use Rattle.rational.proofs.Compare.{eq-Decides, option_eq-Decides}
use Rattle.lp_model.specs.contracts.edits.PartPartialEq.TheImpl.{ghosts as part_ghosts}
use Rattle.lp_model.specs.contracts.parts.WeightPartialEq.TheImpl.{ghosts as weight_ghosts}
use Rattle.lp_model.specs.contracts.parts.ColumnPartialEq.TheImpl.{ghosts as column_ghosts}
use Rattle.lp_model.proofs.Edited.{row_put, column_put, weight_with_positive, weight_with_none, no_mark_kept}

-- ---- a column in the place of one
pub column_shown : (es : List (List ℕ × Column)) (j : ℕ) (c : Column)
    → map (λ e. named_column e.0 e.1) (set_value_at es j c) ≡ set (map (λ e. named_column e.0 e.1) es) j (named_column (get_or (map (λ e. named_column e.0 e.1) es) j empty_column).name c)
column_shown [] j c = refl
column_shown (e ∷ es) zero c = refl
column_shown (e ∷ es) (suc j) c = ap (λ l. named_column e.0 e.1 ∷ l) (column_shown es j c)

pub kept_column : (model : Program) (j : ℕ) (c : NamedColumn) → IsKept model → c.name ≡ (column_at model j).name → IsWellFormedColumn c → IsKept (with_column model j c)
kept_column model j c kept named fits =
    let same : length (set model.columns j c) ≡ length model.columns = length-set model.columns j c in
    record { well_formed = column_put model j c kept.well_formed fits named; few_rows = kept.few_rows; few_columns = subst (λ n. n ≤ most_columns) (sym same) kept.few_columns }

-- ---- the sides of a row in the place of others
-- the row of the code with other sides
abbrev pub sided : Row → Part → Part → Row
sided row lo up = record { terms = row.terms; lo = lo.number; up = up.number; lo_active = lo.active; up_active = up.active; lo_weight = lo.weight; up_weight = up.weight }

row_shown_by : (name : List ℕ) (row former : Row) (lo up : Part) → Some row ≡ Some former → named_row name (sided former lo up) ≡ with_sides (named_row name row) lo up
row_shown_by name row former lo up e = let same : row ≡ former = cc in ap (λ r. named_row name (sided r lo up)) (sym same)

-- as many rows as before
pub length_kept : (es : List (List ℕ × Row)) (i : ℕ) (row : Row) → length (set_value_at es i row) ≡ length (map (λ e. named_row e.0 e.1) es)
length_kept [] i row = refl
length_kept (e ∷ es) zero row = ap suc (sym (length-map es (λ e. named_row e.0 e.1)))
length_kept (e ∷ es) (suc i) row = ap suc (length_kept es i row)

-- it was taken out, and put back with these sides
pub sides_shown : (es : List (List ℕ × Row)) (i : ℕ) (blank former : Row) (lo up : Part) → slice_get (values_of es) i ≡ Some former
    → map (λ e. named_row e.0 e.1) (set_value_at (set_value_at es i blank) i (sided former lo up)) ≡ set (map (λ e. named_row e.0 e.1) es) i (with_sides (get_or (map (λ e. named_row e.0 e.1) es) i empty_row) lo up)
sides_shown [] i blank former lo up h = refl
sides_shown (e ∷ es) zero blank former lo up h = ap (λ r. r ∷ map (λ e. named_row e.0 e.1) es) (row_shown_by e.0 e.1 former lo up h)
sides_shown (e ∷ es) (suc i) blank former lo up h = ap (λ l. named_row e.0 e.1 ∷ l) (sides_shown es i blank former lo up h)

pub kept_sides : (model : Program) (i : ℕ) (lo up : Part) → IsKept model → IsWellFormedRow (length model.columns) (with_sides (row_at model i) lo up) → IsKept (with_row model i (with_sides (row_at model i) lo up))
kept_sides model i lo up kept fits =
    let row : NamedRow = with_sides (row_at model i) lo up in
    let same : length (set model.rows i row) ≡ length model.rows = length-set model.rows i row in
    record { well_formed = row_put model i row kept.well_formed fits refl; few_rows = subst (λ n. n ≤ most_rows) (sym same) kept.few_rows; few_columns = kept.few_columns }

-- ---- what is put back as it was
pub same_row : (model : Program) (i : ℕ) (row : NamedRow) → row ≡ row_at model i → model ≡ with_row model i row
same_row model i row e = ap (λ rows. record model { rows = rows }) (sym (set-get_or model.rows i empty_row) ∙ ap (set model.rows i) (sym e))

pub same_column : (model : Program) (j : ℕ) (c : NamedColumn) → c ≡ column_at model j → model ≡ with_column model j c
same_column model j c e = ap (λ columns. record model { columns = columns }) (sym (set-get_or model.columns j empty_column) ∙ ap (set model.columns j) (sym e))

-- and what is not, makes another program
pub another_row : (model : Program) (i : ℕ) (row : NamedRow) → i < length model.rows → with_row model i row ≡ model → row ≡ row_at model i
another_row model i row within e = sym (get_or-set_same model.rows i row empty_row within) ∙ ap (λ m. row_at m i) e

pub another_column : (model : Program) (j : ℕ) (c : NamedColumn) → j < length model.columns → with_column model j c ≡ model → c ≡ column_at model j
another_column model j c within e = sym (get_or-set_same model.columns j c empty_column within) ∙ ap (λ m. column_at m j) e

-- a named column tells the column
pub one_column : (n m : List ℕ) (c d : Column) → named_column n c ≡ named_column m d → c ≡ d
one_column n m c d e =
    ap (λ (k : NamedColumn). record {
      lo = k.lower;
      up = k.upper;
      whole = k.whole;
      lower_active = k.lower_active;
      upper_active = k.upper_active;
      whole_active = k.whole_active;
      lower_weight = k.lower_weight;
      upper_weight = k.upper_weight;
    }) e

-- ---- a changed part fits
pub record IsPart (p : Part) : Type 0 where
  pub positive : IsPositiveWeight p.weight
  pub absent : p.number ≡ None → (p.active ≡ true) × (p.weight ≡ Soft one_ℚ)

flagged : (number : Option ℚ) (active on : Bool) (w : Weight) → IsPart (record { number = number; active = active; weight = w }) → IsPart (cond (is_some number) (record { number = number; active = on; weight = w }) (record { number = number; active = active; weight = w }))
flagged None active on w h = h
flagged (Some x) active on w h = record { positive = h.positive; absent = λ e. absurd (let no : ⊥ = cc in no) }

weighed : (number : Option ℚ) (active : Bool) (v w : Weight) → IsPositiveWeight w → IsPart (record { number = number; active = active; weight = v }) → IsPart (cond (is_some number) (record { number = number; active = active; weight = w }) (record { number = number; active = active; weight = v }))
weighed None active v w p h = h
weighed (Some x) active v w p h = record { positive = p; absent = λ e. absurd (let no : ⊥ = cc in no) }

pub part_fits : (p : Part) (change : Change) → IsFittingChange change → IsPart p → IsPart (changed p change)
part_fits p Change.Nothing f h = h
part_fits p (Change.Flag on) f h = flagged p.number p.active on p.weight h
part_fits p (Change.Weigh w) f h = weighed p.number p.active p.weight w f h
part_fits p (Change.Set number) f h = record { positive = weight_with_positive number p.weight h.positive; absent = λ e. (refl, weight_with_none number p.weight e) }

pub row_fits : (n : ℕ) (row : NamedRow) (lo up : Change) → IsFittingChange lo → IsFittingChange up → IsWellFormedRow n row → IsWellFormedRow n (changed_sides row lo up)
row_fits n row lo up f g h =
    let a : IsPart (changed (lower_part row) lo) = part_fits (lower_part row) lo f (record { positive = h.lower_weight; absent = h.no_lower }) in
    let b : IsPart (changed (upper_part row) up) = part_fits (upper_part row) up g (record { positive = h.upper_weight; absent = h.no_upper }) in
    record { form = h.form; lower_weight = a.positive; upper_weight = b.positive; no_lower = a.absent; no_upper = b.absent }

pub column_fits : (c : NamedColumn) (lo up : Change) → IsFittingChange lo → IsFittingChange up → IsWellFormedColumn c → IsWellFormedColumn (changed_bounds c lo up)
column_fits c lo up f g h =
    let a : IsPart (changed (lower_bound_part c) lo) = part_fits (lower_bound_part c) lo f (record { positive = h.lower_weight; absent = h.no_lower }) in
    let b : IsPart (changed (upper_bound_part c) up) = part_fits (upper_bound_part c) up g (record { positive = h.upper_weight; absent = h.no_upper }) in
    record { lower_weight = a.positive; upper_weight = b.positive; no_lower = a.absent; no_upper = b.absent; no_mark = h.no_mark }

pub mark_fits : (c : NamedColumn) (whole : Bool) → IsWellFormedColumn c → IsWellFormedColumn (marked c whole)
mark_fits c whole h = record { lower_weight = h.lower_weight; upper_weight = h.upper_weight; no_lower = h.no_lower; no_upper = h.no_upper; no_mark = λ e. no_mark_kept whole c.whole_active e }

pub mark_changed_fits : (c : NamedColumn) (change : Change) → IsWellFormedColumn c → IsWellFormedColumn (changed_mark c change)
mark_changed_fits c Change.Nothing h = h
mark_changed_fits c (Change.Flag on) h = flagged_mark c on (λ e. e) h
  where
    flagged_mark : (c : NamedColumn) (on : Bool) → (c.whole ≡ false → c.whole ≡ false) → IsWellFormedColumn c → IsWellFormedColumn (cond c.whole (record c { whole_active = on }) c)
    flagged_mark c on e h = cond_both c.whole (record c { whole_active = on }) c IsWellFormedColumn
        (λ yes. record { lower_weight = h.lower_weight; upper_weight = h.upper_weight; no_lower = h.no_lower; no_upper = h.no_upper; no_mark = λ no. absurd (true≢false (sym yes ∙ no)) })
        (λ no. h)
mark_changed_fits c (Change.Weigh w) h = h
mark_changed_fits c (Change.Set number) h = h

pub bound_fits : (c : NamedColumn) (side : Side) (change : Change) → IsFittingChange change → IsWellFormedColumn c → IsWellFormedColumn (changed_bound c side change)
bound_fits c Lo change f h = column_fits c change Change.Nothing f tt h
bound_fits c Up change f h = column_fits c Change.Nothing change tt f h

-- ---- a target is changed part by part
pub cond_same : {X : Type 0} (b : Bool) (x : X) → cond b x x ≡ x
cond_same true x = refl
cond_same false x = refl

-- a side of a row, where the row has it or not
lower_or_not : (model : Program) (i : ℕ) (b : Bool) (p : Part)
    → cond b (with_row model i (with_sides (row_at model i) p (upper_part (row_at model i)))) model ≡ with_row model i (with_sides (row_at model i) (cond b p (lower_part (row_at model i))) (upper_part (row_at model i)))
lower_or_not model i true p = refl
lower_or_not model i false p = same_row model i (row_at model i) refl

upper_or_not : (model : Program) (i : ℕ) (b : Bool) (p : Part)
    → cond b (with_row model i (with_sides (row_at model i) (lower_part (row_at model i)) p)) model ≡ with_row model i (with_sides (row_at model i) (lower_part (row_at model i)) (cond b p (upper_part (row_at model i))))
upper_or_not model i true p = refl
upper_or_not model i false p = same_row model i (row_at model i) refl

pub there_lower : (model : Program) (i : ℕ) (change : Change) → IsOwn change → where_there (done change) model (RowLo i) ≡ with_row model i (changed_sides (row_at model i) change Change.Nothing)
there_lower model i Change.Nothing own = cond_same (is_some (row_at model i).lower) model ∙ same_row model i (row_at model i) refl
there_lower model i (Change.Flag on) own = lower_or_not model i (is_some (row_at model i).lower) (record (lower_part (row_at model i)) { active = on })
there_lower model i (Change.Weigh w) own = lower_or_not model i (is_some (row_at model i).lower) (record (lower_part (row_at model i)) { weight = w })
there_lower model i (Change.Set number) own = absurd own

pub there_upper : (model : Program) (i : ℕ) (change : Change) → IsOwn change → where_there (done change) model (RowUp i) ≡ with_row model i (changed_sides (row_at model i) Change.Nothing change)
there_upper model i Change.Nothing own = cond_same (is_some (row_at model i).upper) model ∙ same_row model i (row_at model i) refl
there_upper model i (Change.Flag on) own = upper_or_not model i (is_some (row_at model i).upper) (record (upper_part (row_at model i)) { active = on })
there_upper model i (Change.Weigh w) own = upper_or_not model i (is_some (row_at model i).upper) (record (upper_part (row_at model i)) { weight = w })
there_upper model i (Change.Set number) own = absurd own

-- both sides
pub set_twice : {X : Type 0} (xs : List X) (k : ℕ) (first second : X) → set (set xs k first) k second ≡ set xs k second
set_twice [] k first second = refl
set_twice (x ∷ xs) zero first second = refl
set_twice (x ∷ xs) (suc k) first second = ap (λ l. x ∷ l) (set_twice xs k first second)

pub row_twice : (model : Program) (i : ℕ) (first second : NamedRow) → with_row (with_row model i first) i second ≡ with_row model i second
row_twice model i first second = ap (λ rows. record model { rows = rows }) (set_twice model.rows i first second)

pub both_there : (model : Program) (i : ℕ) (change : Change) → i < length model.rows → IsOwn change → on_target (done change) model (BothSides i) ≡ with_row model i (changed_sides (row_at model i) change change)
both_there model i change within own =
    let first : NamedRow = changed_sides (row_at model i) change Change.Nothing in
    let there : row_at (with_row model i first) i ≡ first = get_or-set_same model.rows i first empty_row within in
    ap (λ p. where_there (done change) p (RowUp i)) (there_lower model i change own)
    ∙ there_upper (with_row model i first) i change own
    ∙ ap (λ row. with_row (with_row model i first) i (changed_sides row Change.Nothing change)) there
    ∙ row_twice model i first (changed_sides (row_at model i) change change)

-- a mark
pub mark_or_not : (model : Program) (j : ℕ) (b : Bool) (c : NamedColumn) → cond b (with_column model j c) model ≡ with_column model j (cond b c (column_at model j))
mark_or_not model j true c = refl
mark_or_not model j false c = same_column model j (column_at model j) refl

pub there_mark : (model : Program) (j : ℕ) (change : Change) → IsOwn change → where_there (done change) model (Whole j) ≡ with_column model j (changed_mark (column_at model j) change)
there_mark model j Change.Nothing own = cond_same (column_at model j).whole model ∙ same_column model j (column_at model j) refl
there_mark model j (Change.Flag on) own = mark_or_not model j (column_at model j).whole (record (column_at model j) { whole_active = on })
there_mark model j (Change.Weigh w) own = cond_same (column_at model j).whole model ∙ same_column model j (column_at model j) refl
there_mark model j (Change.Set number) own = absurd own

-- ---- the tests of parts, of weights and of columns decide whether they are the same
weight_decides : (v w : Weight) → Decides (weight_ghosts.eq v w) (v ≡ w)
weight_decides (Soft a) (Soft b) = (λ t. ap Soft ((eq-Decides a b).0 t), λ e. (eq-Decides a b).1 (let same : a ≡ b = cc in same))
weight_decides (Soft a) Rigid = (λ t. absurd (true≢false (sym t)), λ e. absurd (let no : ⊥ = cc in no))
weight_decides Rigid (Soft b) = (λ t. absurd (true≢false (sym t)), λ e. absurd (let no : ⊥ = cc in no))
weight_decides Rigid Rigid = (λ t. refl, λ e. refl)

one_part : (p q : Part) → (p.number ≡ q.number) × ((p.active ≡ q.active) × (p.weight ≡ q.weight)) → p ≡ q
one_part p q e =
    ap (λ x. record { number = x; active = p.active; weight = p.weight }) e.0
    ∙ ap (λ x. record { number = q.number; active = x; weight = p.weight }) e.1.0
    ∙ ap (λ x. record { number = q.number; active = q.active; weight = x }) e.1.1

pub part_decides : (p q : Part) → Decides (part_ghosts.eq p q) (p ≡ q)
part_decides p q =
    let d = Decides-and (option_eq eq_ℚ p.number q.number) _ (option_eq-Decides p.number q.number)
    (Decides-and (beq p.active q.active) _ (booleans_Decides p.active q.active) (weight_decides p.weight q.weight)) in
    (λ t. one_part p q (d.0 t), λ e. d.1 (ap (λ (x : Part). x.number) e, (ap (λ (x : Part). x.active) e, ap (λ (x : Part). x.weight) e)))

abbrev IsSameColumn : Column → Column → Type 0
IsSameColumn c d = (c.lo ≡ d.lo) × ((c.up ≡ d.up) × ((c.whole ≡ d.whole) × ((c.lower_active ≡ d.lower_active) × ((c.upper_active ≡ d.upper_active) × ((c.whole_active ≡ d.whole_active) × ((c.lower_weight ≡ d.lower_weight) × ((c.upper_weight ≡ d.upper_weight))))))))

same_columns : (c d : Column) → IsSameColumn c d → c ≡ d
same_columns c d e =
    ap (λ x. record { lo = x; up = c.up; whole = c.whole; lower_active = c.lower_active; upper_active = c.upper_active; whole_active = c.whole_active; lower_weight = c.lower_weight; upper_weight = c.upper_weight }) e.0
    ∙ ap (λ x. record { lo = d.lo; up = x; whole = c.whole; lower_active = c.lower_active; upper_active = c.upper_active; whole_active = c.whole_active; lower_weight = c.lower_weight; upper_weight = c.upper_weight }) e.1.0
    ∙ ap (λ x. record { lo = d.lo; up = d.up; whole = x; lower_active = c.lower_active; upper_active = c.upper_active; whole_active = c.whole_active; lower_weight = c.lower_weight; upper_weight = c.upper_weight }) e.1.1.0
    ∙ ap (λ x. record { lo = d.lo; up = d.up; whole = d.whole; lower_active = x; upper_active = c.upper_active; whole_active = c.whole_active; lower_weight = c.lower_weight; upper_weight = c.upper_weight }) e.1.1.1.0
    ∙ ap (λ x. record { lo = d.lo; up = d.up; whole = d.whole; lower_active = d.lower_active; upper_active = x; whole_active = c.whole_active; lower_weight = c.lower_weight; upper_weight = c.upper_weight }) e.1.1.1.1.0
    ∙ ap (λ x. record { lo = d.lo; up = d.up; whole = d.whole; lower_active = d.lower_active; upper_active = d.upper_active; whole_active = x; lower_weight = c.lower_weight; upper_weight = c.upper_weight }) e.1.1.1.1.1.0
    ∙ ap (λ x. record { lo = d.lo; up = d.up; whole = d.whole; lower_active = d.lower_active; upper_active = d.upper_active; whole_active = d.whole_active; lower_weight = x; upper_weight = c.upper_weight }) e.1.1.1.1.1.1.0
    ∙ ap (λ x. record { lo = d.lo; up = d.up; whole = d.whole; lower_active = d.lower_active; upper_active = d.upper_active; whole_active = d.whole_active; lower_weight = d.lower_weight; upper_weight = x }) e.1.1.1.1.1.1.1

pub column_decides : (c d : Column) → Decides (column_ghosts.eq c d) (c ≡ d)
column_decides c d =
    let both = (Decides-and (option_eq eq_ℚ c.lo d.lo) _ (option_eq-Decides c.lo d.lo) (Decides-and (option_eq eq_ℚ c.up d.up) _ (option_eq-Decides c.up d.up) (Decides-and (beq c.whole d.whole) _ (booleans_Decides c.whole d.whole) (Decides-and (beq c.lower_active d.lower_active) _ (booleans_Decides c.lower_active d.lower_active) (Decides-and (beq c.upper_active d.upper_active) _ (booleans_Decides c.upper_active d.upper_active) (Decides-and (beq c.whole_active d.whole_active) _ (booleans_Decides c.whole_active d.whole_active) (Decides-and (weight_ghosts.eq c.lower_weight d.lower_weight) _ (weight_decides c.lower_weight d.lower_weight) (weight_decides c.upper_weight d.upper_weight)))))))) in
    (λ t. same_columns c d (both.0 t), λ e. both.1 (ap (λ (x : Column). x.lo) e, (ap (λ (x : Column). x.up) e, (ap (λ (x : Column). x.whole) e, (ap (λ (x : Column). x.lower_active) e, (ap (λ (x : Column). x.upper_active) e, (ap (λ (x : Column). x.whole_active) e, (ap (λ (x : Column). x.lower_weight) e, (ap (λ (x : Column). x.upper_weight) e)))))))))

-- ---- the sides of a row after changes, from its parts
module _ (row : NamedRow) (lo up : Change) (a b after after' : Part) (is : a ≡ lower_part row) (is' : b ≡ upper_part row) (from : after ≡ changed a lo) (from' : after' ≡ changed b up) where
  pub sides_after : with_sides row after after' ≡ changed_sides row lo up
  sides_after = ap (λ p. with_sides row p after') (from ∙ ap (λ p. changed p lo) is) ∙ ap (with_sides row (changed (lower_part row) lo)) (from' ∙ ap (λ p. changed p up) is')

  pub sides_same : after ≡ a → after' ≡ b → changed_sides row lo up ≡ row
  sides_same e f = sym sides_after ∙ ap (λ p. with_sides row p after') (e ∙ is) ∙ ap (with_sides row (lower_part row)) (f ∙ is')

  pub lower_same : with_sides row after after' ≡ row → after ≡ a
  lower_same e = ap lower_part e ∙ sym is

  pub upper_same : with_sides row after after' ≡ row → after' ≡ b
  upper_same e = ap upper_part e ∙ sym is'

-- what decides is not false where the two are the same
pub told_apart : {P : Type 0} (t r : Bool) → Decides t P → r ≡ t → r ≡ false → P → ⊥
told_apart t r d e off p = true≢false (sym (d.1 p) ∙ sym e ∙ off)
