-- The fields of a dictionary at the start.
use Rattle.std.proofs.Common.{◌≡◌, ◌+◌, ◌-◌, ◌<◌, ◌≤◌, ◌^◌, refl, sym, ◌∙◌, ap, subst, ℕ, suc, Bool, true, false, true≢false, cond, List, [], ◌∷◌, ◌++◌, length, length-append, take, map, replicate, is_some, arith, inl, inr, Option, Some, None}
use Rattle.std.specs.Prelude.{All, IfSome, slice_index_or}
use Rattle.std.proofs.lemmas.Bool.{cases_lt}
use Rattle.std.proofs.lemmas.List.{take_at, length-map, length-replicate, get_or-append_right, get_or_append_left, get_or-replicate, get_or_past}
use Rattle.std.proofs.lemmas.List.Elements.{All-nil, All-cons, All-append, All-map}
use Rattle.rational.specs.Linear.{Term, factor_of}
use Rattle.lp_model.specs.Program.{IsForm}
use Rattle.lp_model.specs.declared.parts.Row.{Row}
use Rattle.certs.specs.Rows.{row_of}
use Rattle.certs.specs.System.{Limits, SystemRow, LinearSystem, no_limits, Place, is_basic}
use Rattle.certs.specs.System.Place.{Basic}
use Rattle.certs.specs.Tableau.{variables, all_limits, start_place, start_basis, start_forms, start_tableau, forms_of, IsTableauOf, IsWellFormedSystem}
use Rattle.certs.proofs.Tableaus.{same_of, basic_below}
use Rattle.certs.proofs.Starts.{n, m, o, length_start, length_limits, column_nonbasic, row_basic, start_law}
use Rattle.dictionary.specs.Rows.{IsSparse, AreSparse}
use Rattle.dictionary.specs.Sound.{IsSound}

-- what is made of rows one after another
pub twice : {X Y Z : Type 0} (f : X → Y) (h : Y → Z) (xs : List X) → map h (map f xs) ≡ map (λ x. h (f x)) xs
twice f h [] = refl
twice f h (x ∷ xs) = ap (λ z. h (f x) ∷ z) (twice f h xs)

module _ (system : LinearSystem) where
  all_basic : (rows : List SystemRow) (b : Bool) → replicate (length rows + cond b 1 0) Basic ≡ map (λ (r : SystemRow). Basic) rows ++ cond b (Basic ∷ []) []
  all_basic [] true = refl
  all_basic [] false = refl
  all_basic (r ∷ rows) b = (let e : suc (length rows) + cond b 1 0 ≡ suc (length rows + cond b 1 0) = omega arith in ap (λ k. replicate k Basic) e) ∙ ap (λ z. Basic ∷ z) (all_basic rows b)

  pub basis_is : (limits : List Limits) → limits ≡ all_limits system → map (λ l. start_place l) (take (n system) limits) ++ replicate (length limits - n system) Basic ≡ start_basis system
  basis_is limits e =
      ap (λ l. map (λ l. start_place l) (take (n system) l) ++ replicate (length l - n system) Basic) e
      ∙ ap (λ l. map (λ l. start_place l) l ++ replicate (length (all_limits system) - n system) Basic) (take_at system.columns _ (n system) refl)
      ∙ ap (λ k. map (λ l. start_place l) system.columns ++ replicate k Basic) (ap (λ z. z - n system) (length_limits system) ∙ (let q : n system + (m system + o system) - n system ≡ m system + o system = omega arith in q))
      ∙ ap (λ l. map (λ l. start_place l) system.columns ++ l) (all_basic system.rows (is_some system.objective))

  -- a variable is basic exactly where it is past the columns
  pub past_columns : (i : ℕ) → is_basic (start_basis system) i ≡ true → (n system ≤ i) × (i < n system + (m system + o system))
  past_columns i b = (
    elim (cases_lt i (n system)) [ inl h ↦ absurd (true≢false (sym b ∙ column_nonbasic system i h)) | inr h ↦ h ],
    subst (λ z. i < z) (length_start system) (basic_below (start_basis system) i b),
  )

  -- ---- the rows
  abbrev pub rows : List (List Term)
  rows = replicate (n system) [] ++ start_forms system

  objective_many : (o : Option (List Term)) → length (forms_of o) ≡ cond (is_some o) 1 0
  objective_many None = refl
  objective_many (Some terms) = refl

  forms_many : length (start_forms system) ≡ m system + o system
  forms_many = length-append (map (λ (r : SystemRow). r.terms) system.rows) (forms_of system.objective) ∙ ap (λ z. z + length (forms_of system.objective)) (length-map system.rows (λ (r : SystemRow). r.terms)) ∙ ap (λ z. m system + z) (objective_many system.objective)

  rows_many : length rows ≡ n system + (m system + o system)
  rows_many = length-append (replicate (n system) []) (start_forms system) ∙ ap (λ z. z + length (start_forms system)) (length-replicate (n system) []) ∙ ap (λ z. n system + z) forms_many

  row_at : (i : ℕ) → n system ≤ i → slice_index_or rows i [] ≡ slice_index_or (start_forms system) (i - n system) []
  row_at i l = get_or-append_right (replicate (n system) []) (start_forms system) (n system) i [] (length-replicate (n system) []) l

  no_row : (k : ℕ) → k < n system → slice_index_or rows k [] ≡ []
  no_row k l = get_or_append_left (replicate (n system) []) (start_forms system) [] k (subst (λ z. k < z) (sym (length-replicate (n system) [])) l) ∙ get_or-replicate (n system) k [] [] l

  module _ (formed : IsWellFormedSystem system) where
    objective_forms : (o : Option (List Term)) → IfSome o (IsForm (n system)) → All (IsForm (n system)) (forms_of o)
    objective_forms None h = All-nil (IsForm (n system))
    objective_forms (Some terms) h = All-cons (IsForm (n system)) terms [] h (All-nil (IsForm (n system)))

    all_forms : All (IsForm (n system)) (start_forms system)
    all_forms = All-append (IsForm (n system)) (map (λ (r : SystemRow). r.terms) system.rows) (forms_of system.objective) (All-map (IsForm (n system)) (λ (r : SystemRow). r.terms) system.rows formed.rows) (objective_forms system.objective formed.objective)

    form_sparse : (row : List Term) → IsForm (n system) row → IsSparse (start_basis system) row
    form_sparse row form = record {
      is_row = record { ascending = form.ascending; nonzero = form.nonzero };
      nonbasic = λ k d l. (
        (let a = form.known k d l in let b = length_start system in subst (λ z. (slice_index_or row k d).column < z) (sym b) (omega (arith, a))),
        column_nonbasic system (slice_index_or row k d).column (form.known k d l),
      );
    }

    pub start_sparse : AreSparse (start_basis system) rows
    start_sparse = record {
      long = rows_many ∙ sym (length_start system);
      sparse = λ i b.
          (let p = past_columns i b in
          subst (IsSparse (start_basis system)) (sym (row_at i p.0)) (form_sparse _ (all_forms (i - n system) [] (subst (λ z. i - n system < z) (sym forms_many) (less i p.0 p.1)))));
      empty = λ k b.
          elim (cases_lt k (n system)) [
            | inl l ↦ no_row k l
            | inr l ↦
                elim (cases_lt k (n system + (m system + o system))) [
                  | inl h ↦ absurd (true≢false (sym (row_basic system k l h) ∙ b))
                  | inr h ↦ get_or_past rows k [] (subst (λ z. z ≤ k) (sym rows_many) h)
                ]
          ];
    }
      where
        less : (i : ℕ) → n system ≤ i → i < n system + (m system + o system) → i - n system < m system + o system
        less i a b = omega arith

    pub start_is_sound : (bounds : ℕ) (objective : Bool) → bounds ≡ length (all_limits system) → variables system < 2 ^ 31 → objective ≡ is_some system.objective → IsSound bounds (start_basis system) rows objective true
    start_is_sound bounds objective eb few eo = record {
      bounded = eb ∙ length_limits system ∙ sym (length_start system);
      few = subst (λ z. z < 2 ^ 31) (plain (length_start system)) few;
      objective_basic = λ t. last (ap (λ b. cond b 1 0) (sym eo ∙ t));
      sparse = λ _. start_sparse;
    }
      where
        plain : length (start_basis system) ≡ n system + (m system + o system) → variables system ≡ length (start_basis system)
        plain e = (let q : n system + m system + o system ≡ n system + (m system + o system) = omega arith in q) ∙ sym e

        last : o system ≡ 1 → is_basic (start_basis system) (length (start_basis system) - 1) ≡ true
        last one = subst (λ z. is_basic (start_basis system) (z - 1) ≡ true) (sym (length_start system)) (row_basic system (n system + (m system + o system) - 1) (omega arith) (omega arith))

    -- the tableau
    pub start_is_of : (limits : List Limits) (objective : Bool) (basis : List Place) → limits ≡ all_limits system → objective ≡ is_some system.objective → basis ≡ start_basis system
        → IsTableauOf system (record { limits = limits; objective = objective; basis = basis; factor = λ i k. factor_of (slice_index_or rows i []) k })
    start_is_of limits objective basis el eo eb =
        same_of system (start_tableau system) (record { limits = limits; objective = objective; basis = basis; factor = λ i k. factor_of (slice_index_or rows i []) k }) el eo eb
        (λ i k b l c. ap (λ r. factor_of r k) (row_at i (past_columns i b).0)) (start_law system formed)

  -- what the fields are made of
  pub limits_made : (columns : List Limits) (rows : List Row) (objective : Option (List Term)) (limits : List Limits) (cs : List Limits) (rs : List Row) (b : Bool)
      → system ≡ record { columns = columns; rows = map row_of rows; objective = objective } → cs ≡ columns → rs ≡ rows → b ≡ is_some objective
      → limits ≡ cs ++ (map (λ r. (row_of r).limits) rs ++ cond b (no_limits ∷ []) []) → limits ≡ all_limits system
  limits_made columns rows objective limits cs rs b e ec er eb h =
      h
      ∙ ap (λ z. z ++ (map (λ r. (row_of r).limits) rs ++ cond b (no_limits ∷ []) [])) ec
      ∙ ap (λ z. columns ++ (map (λ r. (row_of r).limits) z ++ cond b (no_limits ∷ []) [])) er
      ∙ ap (λ z. columns ++ (map (λ r. (row_of r).limits) rows ++ cond z (no_limits ∷ []) [])) eb
      ∙ ap (λ z. columns ++ (z ++ cond (is_some objective) (no_limits ∷ []) [])) (sym (twice row_of (λ (r : SystemRow). r.limits) rows))
      ∙ ap all_limits (sym e)

  pub basis_made : {B : Type 0} (view : B → Limits) (bounds given : List B) (columns : ℕ) (basis : List Place) → given ≡ bounds → map view bounds ≡ all_limits system → columns ≡ length system.columns
      → basis ≡ map (λ l. start_place l) (take columns (map view given)) ++ replicate (length given - columns) Basic → basis ≡ start_basis system
  basis_made view bounds given columns basis eg el ec h =
      h
      ∙ ap (λ g. map (λ l. start_place l) (take columns (map view g)) ++ replicate (length g - columns) Basic) eg
      ∙ ap (λ k. map (λ l. start_place l) (take k (map view bounds)) ++ replicate (length bounds - k) Basic) ec
      ∙ ap (λ k. map (λ l. start_place l) (take (n system) (map view bounds)) ++ replicate (k - n system) Basic) (sym (length-map bounds view))
      ∙ basis_is (map view bounds) el

  pub bounds_many : {B : Type 0} (view : B → Limits) (bounds : List B) → map view bounds ≡ all_limits system → length bounds ≡ n system + (m system + o system)
  bounds_many view bounds el = sym (length-map bounds view) ∙ ap length el ∙ length_limits system

  pub rows_made : (rows' : List (List Term)) (columns : ℕ) (given rs : List Row) (objective : Option (List Term)) (cs : List Limits) → system ≡ record { columns = cs; rows = map row_of rs; objective = objective } → given ≡ rs → columns ≡ length system.columns
      → rows' ≡ replicate columns [] ++ (map (λ (r : Row). r.terms) given ++ forms_of objective) → rows' ≡ rows
  rows_made rows' columns given rs objective cs e eg ec h =
      h
      ∙ ap (λ k. replicate k [] ++ (map (λ (r : Row). r.terms) given ++ forms_of objective)) ec
      ∙ ap (λ z. replicate (n system) [] ++ (map (λ (r : Row). r.terms) z ++ forms_of objective)) eg
      ∙ ap (λ z. replicate (n system) [] ++ (z ++ forms_of objective)) (sym (twice row_of (λ (r : SystemRow). r.terms) rs))
      ∙ ap (λ s. replicate (n system) [] ++ start_forms s) (sym e)
