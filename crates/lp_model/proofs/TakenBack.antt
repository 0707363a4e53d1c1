-- What an edit changes, put back after it, gives the program before it.
use Rattle.std.proofs.Common.{◌≡◌, ◌<◌, refl, sym, ◌∙◌, ap, subst, ℕ, Bool, true, false, cond, length, length-set}
use Rattle.std.proofs.lemmas.List.{get_or-set_same}
use Rattle.lp_model.specs.Program.{Program, NamedRow, NamedColumn, Weight, empty_row, empty_column, row_at, column_at}
use Rattle.lp_model.specs.Members.{RowLo, RowUp, Lower, Upper, Whole, Lo, Up, exists}
use Rattle.lp_model.specs.Shown.{named_column}
use Rattle.lp_model.specs.Edits.{Part, Change, Target, Edit, Former, OneMember, BothSides, Drop, Keep, SetSide, SetBound, SetMark, Weigh, with_row, with_column, with_sides, with_flag, with_weight, weight_with, on_target, edited, lower_part, upper_part, former_sides, former_bounds, former_of, unnamed, put_back, IsKnownFormer, IsKnownTarget, IsTakenBack, BackLaw}
use Rattle.lp_model.proofs.Changed.{same_row, same_column, row_twice, set_twice, cond_same, there_lower, there_upper, both_there, mark_or_not}

-- an edited program goes back by this
record GoesBack (model new : Program) (former : Former) : Type 0 where
  pub known : IsKnownFormer new former
  pub same : put_back new former ≡ model

-- where the sides of a row were changed
sides_back : (model new : Program) (i : ℕ) (lo up : Part) → i < length model.rows → new ≡ with_row model i (with_sides (row_at model i) lo up) → GoesBack model new (former_sides model i)
sides_back model new i lo up within e =
    let row : NamedRow = with_sides (row_at model i) lo up in
    let there : row_at (with_row model i row) i ≡ row = get_or-set_same model.rows i row empty_row within in
    let back : put_back (with_row model i row) (former_sides model i) ≡ model =
    ap (λ r. with_row (with_row model i row) i (with_sides r (lower_part (row_at model i)) (upper_part (row_at model i)))) there
    ∙ row_twice model i row (row_at model i)
    ∙ sym (same_row model i (row_at model i) refl) in
    record { known = subst (λ p. i < length p.rows) (sym e) (subst (λ n. i < n) (sym (length-set model.rows i row)) within); same = ap (λ p. put_back p (former_sides model i)) e ∙ back }

-- and where a column was
bounds_back : (model new : Program) (j : ℕ) (c : NamedColumn) → c.name ≡ (column_at model j).name → j < length model.columns → new ≡ with_column model j c → GoesBack model new (former_bounds model j)
bounds_back model new j c named within e =
    let there : column_at (with_column model j c) j ≡ c = get_or-set_same model.columns j c empty_column within in
    let back : put_back (with_column model j c) (former_bounds model j) ≡ model =
    ap (λ k. with_column (with_column model j c) j (named_column k.name (unnamed (column_at model j)))) there
    ∙ ap (λ columns. record model { columns = columns }) (set_twice model.columns j c _)
    ∙ ap (λ n. with_column model j (named_column n (unnamed (column_at model j)))) named
    ∙ sym (same_column model j (column_at model j) refl) in
    record { known = subst (λ p. j < length p.columns) (sym e) (subst (λ n. j < n) (sym (length-set model.columns j c)) within); same = ap (λ p. put_back p (former_bounds model j)) e ∙ back }

-- a bound or a mark that is there or not
bound_back : (model : Program) (j : ℕ) (b : Bool) (c : NamedColumn) → c.name ≡ (column_at model j).name → j < length model.columns → GoesBack model (cond b (with_column model j c) model) (former_bounds model j)
bound_back model j b c named within = bounds_back model (cond b (with_column model j c) model) j (cond b c (column_at model j)) (name_or_not b) within (mark_or_not model j b c)
  where
    name_or_not : (b : Bool) → (cond b c (column_at model j)).name ≡ (column_at model j).name
    name_or_not true = named
    name_or_not false = refl

same_back : (model : Program) (j : ℕ) → j < length model.columns → GoesBack model model (former_bounds model j)
same_back model j within = bounds_back model model j (column_at model j) refl within (same_column model j (column_at model j) refl)

flag_back : (model : Program) (target : Target) (on : Bool) → IsKnownTarget model target → GoesBack model (on_target (λ p m. with_flag p m on) model target) (former_of model (Drop target))
flag_back model (BothSides i) on h = sides_back model _ i _ _ h (both_there model i (Change.Flag on) h tt)
flag_back model (OneMember (RowLo i)) on h = sides_back model _ i _ _ h (there_lower model i (Change.Flag on) tt)
flag_back model (OneMember (RowUp i)) on h = sides_back model _ i _ _ h (there_upper model i (Change.Flag on) tt)
flag_back model (OneMember (Lower j)) on h = bound_back model j (exists model (Lower j)) (record (column_at model j) { lower_active = on }) refl h
flag_back model (OneMember (Upper j)) on h = bound_back model j (exists model (Upper j)) (record (column_at model j) { upper_active = on }) refl h
flag_back model (OneMember (Whole j)) on h = bound_back model j (exists model (Whole j)) (record (column_at model j) { whole_active = on }) refl h

weight_back : (model : Program) (target : Target) (w : Weight) → IsKnownTarget model target → GoesBack model (on_target (λ p m. with_weight p m w) model target) (former_of model (Drop target))
weight_back model (BothSides i) w h = sides_back model _ i _ _ h (both_there model i (Change.Weigh w) h tt)
weight_back model (OneMember (RowLo i)) w h = sides_back model _ i _ _ h (there_lower model i (Change.Weigh w) tt)
weight_back model (OneMember (RowUp i)) w h = sides_back model _ i _ _ h (there_upper model i (Change.Weigh w) tt)
weight_back model (OneMember (Lower j)) w h = bound_back model j (exists model (Lower j)) (record (column_at model j) { lower_weight = w }) refl h
weight_back model (OneMember (Upper j)) w h = bound_back model j (exists model (Upper j)) (record (column_at model j) { upper_weight = w }) refl h
weight_back model (OneMember (Whole j)) w h = subst (λ (p : Program). GoesBack model p (former_bounds model j)) (sym (cond_same (exists model (Whole j)) model)) (same_back model j h)

-- the same by the record of the law
taken_back : (model : Program) (edit : Edit) → GoesBack model (edited model edit) (former_of model edit) → IsTakenBack model edit
taken_back model edit h = record { known = h.known; same = h.same }

pub back_law : BackLaw
back_law model (Drop target) h = taken_back model (Drop target) (flag_back model target false h)
back_law model (Keep target) h = taken_back model (Keep target) (flag_back model target true h)
back_law model (Weigh target w) h = taken_back model (Weigh target w) (weight_back model target w h)
back_law model (SetSide i Lo number) h = taken_back model (SetSide i Lo number) (sides_back model _ i (record { number = number; active = true; weight = weight_with number (row_at model i).lower_weight }) (upper_part (row_at model i)) h refl)
back_law model (SetSide i Up number) h = taken_back model (SetSide i Up number) (sides_back model _ i (lower_part (row_at model i)) (record { number = number; active = true; weight = weight_with number (row_at model i).upper_weight }) h refl)
back_law model (SetBound j Lo number) h = taken_back model (SetBound j Lo number) (bounds_back model _ j _ refl h refl)
back_law model (SetBound j Up number) h = taken_back model (SetBound j Up number) (bounds_back model _ j _ refl h refl)
back_law model (SetMark j whole) h = taken_back model (SetMark j whole) (bounds_back model _ j _ refl h refl)
