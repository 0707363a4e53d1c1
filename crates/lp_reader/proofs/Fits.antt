-- Rows and columns that fit are refused for want of memory alone.
use Rattle.std.proofs.Common.{◌≡◌, ℕ, zero, suc, ◌+◌, ◌<◌, ◌≤◌, false, ◌||◌, List, [], ◌∷◌, ◌++◌, length, map, drop, get_or, refl, sym, ap, ◌∙◌, subst, arith}
use Rattle.std.specs.List.{All, IsDistinct}
use Rattle.std.specs.Str.{bytes_eq}
use Rattle.std.proofs.lemmas.List.{map-append}
use Rattle.std.proofs.lemmas.List.Folds.{list_any-append}
use Rattle.std.proofs.lemmas.Map.Keys.{apart_from_distinct}
use Rattle.std.proofs.Math.Seq.{drop-cons}
use Rattle.name_map.specs.Names.{name_at}
use Rattle.lp_model.specs.Shown.{is_named, longest_name, CanAdd}
use Rattle.lp_model.specs.declared.parts.Row.{Row}
use Rattle.lp_reader.specs.declared.columns.Bounds.{Bounds}
use Rattle.lp_reader.specs.Building.{listed, columns_listed, rows_listed, column_shown, no_row}
use Rattle.lp_model.specs.Shown.{named_row}
use Rattle.lp_reader.specs.State.{plain}
use Rattle.lp_reader.proofs.Built.{length-listed}
use Rattle.lp_reader.proofs.Holding.{bytes_sym}

-- ---- names that come one after another
map_listed : {X Y : Type 0} (g : X → Y) (f : ℕ → X) (n : ℕ) → map g (listed f n) ≡ listed (λ i. g (f i)) n
map_listed g f zero = refl
map_listed g f (suc n) = map-append g (listed f n) (f n ∷ []) ∙ ap (λ ys. ys ++ g (f n) ∷ []) (map_listed g f n)

module _ (names : List (List ℕ)) (most : ℕ) (apart : IsDistinct bytes_eq names) (few : length names ≤ most) (short : All (λ (name : List ℕ). length name ≤ longest_name) names) where
  fresh : (n i : ℕ) → n ≤ i → i < length names → is_named (listed (name_at names) n) (name_at names i) ≡ false
  fresh zero i le h = refl
  fresh (suc n) i le h =
      list_any-append (bytes_eq (name_at names i)) (listed (name_at names) n) (name_at names n ∷ [])
      ∙ ap (λ b. b || (bytes_eq (name_at names i) (name_at names n) || false)) (fresh n i (omega arith) h)
      ∙ ap (λ b. b || false) (bytes_sym (name_at names i) (name_at names n) ∙ apart_from_distinct bytes_eq names n i [] apart (omega arith) h)

  can_add : (i : ℕ) → i < length names → CanAdd (listed (name_at names) i) most (name_at names i)
  can_add i h = record { fresh = fresh i i (omega arith) h; room = let l = length-listed (name_at names) i in omega arith; short = short i [] h }

  pub column_fits : (bounds : List Bounds) (i : ℕ) → i < length names → CanAdd (map (λ c. c.name) (columns_listed names bounds i)) most (name_at names i)
  column_fits bounds i h = subst (λ ns. CanAdd ns most (name_at names i)) (sym (map_listed (λ c. c.name) (λ k. column_shown (name_at names k) (get_or bounds k plain)) i)) (can_add i h)

  pub row_fits : (rows : List Row) (i : ℕ) → i < length names → CanAdd (map (λ r. r.name) (rows_listed names rows i)) most (name_at names i)
  row_fits rows i h = subst (λ ns. CanAdd ns most (name_at names i)) (sym (map_listed (λ r. r.name) (λ k. named_row (name_at names k) (get_or rows k no_row)) i)) (can_add i h)

-- ---- rows that are left
pub left_first : {X : Type 0} (xs : List X) (i : ℕ) (d x : X) (ys : List X) → drop i xs ≡ x ∷ ys → i < length xs → x ≡ get_or xs i d
left_first xs i d x ys e h = ap (λ l. get_or l 0 d) (sym e ∙ drop-cons xs i d h)

pub left_rest : {X : Type 0} (xs : List X) (i : ℕ) (d x : X) (ys : List X) → drop i xs ≡ x ∷ ys → i < length xs → ys ≡ drop (i + 1) xs
left_rest xs i d x ys e h = ap (drop 1) (sym e ∙ drop-cons xs i d h) ∙ ap (λ (n : ℕ). drop n xs) (let s : suc i ≡ i + 1 = omega arith in s)
