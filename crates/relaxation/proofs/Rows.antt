-- The rows and columns of an elastic system, by what its rows are.
use Rattle.std.proofs.Common.{◌≡◌, ◌+◌, refl, sym, ◌∙◌, ap, ℕ, Bool, true, false, cond, not, List, [], ◌∷◌, ◌++◌, map, filter, length, length-append, Option, Some, None}
use Rattle.std.specs.Prelude.{flat_map}
use Rattle.std.proofs.lemmas.List.{length-map, map-append}
use Rattle.rational.specs.Rational.{ℚ, zero_ℚ}
use Rattle.rational.specs.Linear.{Term}
use Rattle.lp_model.specs.declared.members.Member.{Member}
use Rattle.lp_model.specs.declared.members.Side.{Side}
use Rattle.lp_model.specs.declared.members.Side.TheVariants.{Lo, Up}
use Rattle.lp_model.specs.Program.{Program}
use Rattle.lp_model.specs.Members.{form, number, side}
use Rattle.certs.specs.Elastic.{elastic_factor, elastic_row, elastic_rows, elastic_system, is_row_side, is_side_of, numbered_soft, only_on, rows_of, soft_members}
use Rattle.certs.specs.Ended.{numbers_from}
use Rattle.certs.specs.Plain.{column_limits, has_row, is_lowered, is_raised, number_in, plain_row}
use Rattle.certs.specs.Named.{bound_of}
use Rattle.certs.specs.declared.evidence.Source.TheVariants.{Member as Of, Below, Above}
use Rattle.lp_model.specs.declared.members.Member.TheVariants.{Lower, Upper}
use Rattle.certs.proofs.Numbered.{mapped_more}
use Rattle.certs.specs.System.{Limits, LinearSystem, SystemRow, limit_on}
use Rattle.certs.proofs.Translated.{length_mapped}
use Rattle.relaxation.specs.Origins.{cost_term, from_zero, limits_on, origin_row, origins, origins_of, row_origins, soft_origin, soft_origins}
use Rattle.relaxation.specs.declared.origins.Origin.{Origin}
use Rattle.relaxation.specs.declared.origins.Origin.TheVariants.{Row}
use Rattle.relaxation.proofs.Soft.{costs_are, members_numbered, numbered, second}
use Rattle.relaxation.proofs.Joined.{flat_map-same, map-flat_map}

-- ---- limits of columns: the enforced bounds
not_raised : (o : Option ℚ) → is_raised o None ≡ false
not_raised None = refl
not_raised (Some b) = refl

not_lowered : (o : Option ℚ) → is_lowered o None ≡ false
not_lowered None = refl
not_lowered (Some b) = refl

pub limit_is : (model : Program) (enforced : List Member) (j : ℕ) (side : Side) → limit_on (column_limits model enforced [] j) side ≡ number_in model enforced (bound_of j side)
limit_is model enforced j Lo =
    ap (λ b. elim (cond b (Above j) (Of (Lower j))) [ Of m ↦ number_in model enforced m | Below k ↦ None | Above k ↦ None ]) (not_raised (number_in model enforced (Lower j)))
limit_is model enforced j Up =
    ap (λ b. elim (cond b (Below j) (Of (Upper j))) [ Of m ↦ number_in model enforced m | Below k ↦ None | Above k ↦ None ]) (not_lowered (number_in model enforced (Upper j)))

-- one column more
pub column_more : (model : Program) (enforced : List Member) (j : ℕ) (lower upper : Option ℚ) (before after : List Limits) → lower ≡ number_in model enforced (Lower j) → upper ≡ number_in model enforced (Upper j)
    → before ≡ map (column_limits model enforced []) (numbers_from 0 j) → after ≡ before ++ record { lower = lower; upper = upper } ∷ [] → after ≡ map (column_limits model enforced []) (numbers_from 0 (j + 1))
column_more model enforced j lower upper before after l u b a =
    a
    ∙ ap (λ z. z ++ record { lower = lower; upper = upper } ∷ []) b
    ∙ (λ i. map (column_limits model enforced []) (numbers_from 0 j) ++ record { lower = (l ∙ sym (limit_is model enforced j Lo)) i; upper = (u ∙ sym (limit_is model enforced j Up)) i } ∷ [])
    ∙ sym (mapped_more (column_limits model enforced []) j)

-- ---- rows
one_side : (side : Side) (b : ℚ) → limits_on side (Some b) ≡ only_on side b
one_side Lo b = refl
one_side Up b = refl

module _ (model : Program) (enforced : List Member) where
  soft_row : (e : ℕ × Member) (o : Option ℚ) → number model e.1 ≡ o → map (origin_row model enforced) (soft_origin e o) ≡ elastic_row model e o
  soft_row e None h = refl
  soft_row e (Some b) h =
      ap (λ z. record { terms = form model e.1 ++ record { column = e.0; factor = elastic_factor (side e.1) } ∷ []; limits = z } ∷ [])
      (ap (limits_on (side e.1)) h ∙ one_side (side e.1) b)

  pub soft_rows : (soft : List (ℕ × Member)) → map (origin_row model enforced) (soft_origins model soft) ≡ elastic_rows model soft
  soft_rows soft =
      map-flat_map (origin_row model enforced) (λ e. soft_origin e (number model e.1)) soft
      ∙ flat_map-same (λ e. map (origin_row model enforced) (soft_origin e (number model e.1))) (λ e. elastic_row model e (number model e.1)) (λ e. soft_row e (number model e.1) refl) soft

  one_row : (soft : List (ℕ × Member)) (i : ℕ) → map (origin_row model enforced) (row_origins model enforced soft i) ≡ rows_of model enforced soft i
  one_row soft i =
      map-append (origin_row model enforced) (cond (has_row enforced i) (Row i ∷ []) []) (soft_origins model (filter (λ e. is_side_of i e.1) soft))
      ∙ ap (λ z. z ++ map (origin_row model enforced) (soft_origins model (filter (λ e. is_side_of i e.1) soft))) (by (has_row enforced i))
      ∙ ap (λ z. cond (has_row enforced i) (plain_row model enforced i ∷ []) [] ++ z) (soft_rows (filter (λ e. is_side_of i e.1) soft))
    where
      by : (b : Bool) → map (origin_row model enforced) (cond b (Row i ∷ []) []) ≡ cond b (plain_row model enforced i ∷ []) []
      by true = refl
      by false = refl

module _ (model : Program) (set enforced : List Member) (cost : Member → ℚ) where
  abbrev system : LinearSystem
  system = elastic_system model set enforced cost

  abbrev soft : List (ℕ × Member)
  soft = numbered_soft (length model.columns) set enforced

  pub rows_are : map (origin_row model enforced) (origins model set enforced) ≡ system.rows
  rows_are =
      let first : List Origin = flat_map (row_origins model enforced soft) (numbers_from 0 (length model.rows)) in
      let second : List Origin = soft_origins model (filter (λ e. not (is_row_side e.1)) soft) in
      map-append (origin_row model enforced) first second
      ∙ ap (λ z. z ++ map (origin_row model enforced) second)
      (map-flat_map (origin_row model enforced) (row_origins model enforced soft) (numbers_from 0 (length model.rows))
      ∙ flat_map-same (λ i. map (origin_row model enforced) (row_origins model enforced soft i)) (rows_of model enforced soft) (one_row model enforced soft) (numbers_from 0 (length model.rows)))
      ∙ ap (λ z. flat_map (rows_of model enforced soft) (numbers_from 0 (length model.rows)) ++ z) (soft_rows model enforced (filter (λ e. not (is_row_side e.1)) soft))

  pub length_rows : length system.rows ≡ length (origins model set enforced)
  length_rows = ap length (sym rows_are) ∙ length-map (origins model set enforced) (origin_row model enforced)

  pub length_columns : length system.columns ≡ length model.columns + length (soft_members set enforced)
  length_columns =
      length-append (map (column_limits model enforced []) (numbers_from 0 (length model.columns))) (map (λ m. record { lower = Some zero_ℚ; upper = None }) (soft_members set enforced))
      ∙ ap (λ z. z + length (map (λ (m : Member). let r : Limits = record { lower = Some zero_ℚ; upper = None } in r) (soft_members set enforced))) (length_mapped (column_limits model enforced []) (length model.columns))
      ∙ ap (λ z. length model.columns + z) (length-map (soft_members set enforced) (λ m. record { lower = Some zero_ℚ; upper = None }))

-- ---- the whole system, as the code makes its parts
map_twice : {X Y Z : Type 0} (f : X → Y) (g : Y → Z) (xs : List X) → map g (map f xs) ≡ map (λ x. g (f x)) xs
map_twice f g [] = refl
map_twice f g (x ∷ xs) = ap (λ z. g (f x) ∷ z) (map_twice f g xs)

pub system_made : (model : Program) (set enforced : List Member) (cost : Member → ℚ) (list : List (ℕ × Member)) (columns : List Limits) (rows : List SystemRow) (objective : List Term)
    → list ≡ numbered_soft (length model.columns) set enforced
    → columns ≡ map (column_limits model enforced []) (numbers_from 0 (length model.columns)) ++ map (λ e. from_zero) list
    → rows ≡ map (origin_row model enforced) (origins_of model enforced list) → objective ≡ map (cost_term cost) list
    → let made : LinearSystem = record { columns = columns; rows = rows; objective = Some objective } in made ≡ elastic_system model set enforced cost
unfolding numbered
system_made model set enforced cost list columns rows objective s c r o =
    let n : ℕ = length model.columns in
    let members : List Member = soft_members set enforced in
    let limits = c
    ∙ ap (λ z. map (column_limits model enforced []) (numbers_from 0 n) ++ map (λ e. from_zero) z) s
    ∙ ap (λ z. map (column_limits model enforced []) (numbers_from 0 n) ++ z)
    (sym (map_twice second (λ (m : Member). from_zero) (numbered n members)) ∙ ap (map (λ (m : Member). from_zero)) (members_numbered n members)) in
    let listed = r ∙ ap (λ z. map (origin_row model enforced) (origins_of model enforced z)) s ∙ rows_are model set enforced cost in
    let costs = o ∙ ap (map (cost_term cost)) s ∙ costs_are cost n members in
    λ i. record { columns = limits i; rows = listed i; objective = Some (costs i) }
