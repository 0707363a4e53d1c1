-- Bounds: their faults, and readers that have taken one more.
use Rattle.std.proofs.Common.{◌≡◌, ℕ, Bool, true, false, cond, not, nat_eq, ◌&&◌, ◌||◌, List, [], ◌∷◌, ◌++◌, Option, Some, None, Err, is_some, map, refl, sym, ap, ◌∙◌, subst, true≢false}
use Rattle.std.specs.List.{list_any}
use Rattle.std.specs.Option.{option_map, option_map_or, option_or}
use Rattle.std.specs.Map.{lookup}
use Rattle.std.specs.Str.{bytes_eq}
use Rattle.std.proofs.lemmas.Slice.Eq.{bytes_eq-Decides}
use Rattle.rational.specs.Rational.{ℚ, zero_ℚ, one_ℚ}
use Rattle.indexmap.specs.IndexMap.{insert_entry}
use Rattle.name_map.specs.Names.{StandsAt}
use Rattle.text_fields.specs.declared.faults.TextKind.{TextKind}
use Rattle.text_fields.specs.declared.faults.TextKind.TheVariants.{ForeignByte, LongLine, BadNumber, NumberWide}
use Rattle.text_fields.specs.declared.faults.ReadKind.TheVariants.{Text, UnknownName, DuplicateEntry}
use Rattle.mps_lines.specs.declared.shapes.BoundKind.{BoundKind}
use Rattle.mps_lines.specs.Shapes.{Bounded}
use Rattle.mps_lines.specs.Steps.{Step, ToBound}
use Rattle.mps_reader.specs.declared.tables.Reader.{Reader}
use Rattle.mps_reader.specs.Tables.{ColumnRecord, columns_of, bounds_of, sets_lower, sets_upper, makes_whole}
use Rattle.mps_reader.specs.Sides.{lower_set, upper_set, is_binary, number_of}
use Rattle.mps_reader.specs.Faults.{fault, is_no_number, is_wide_side, is_set_twice}
use Rattle.mps_reader.specs.Held.{Keeps, Holds, KeepsSettings, column_names_held, setting_among, kept_of, is_set_held, put_where, GivesNumber}
use Rattle.mps_reader.proofs.Looks.{any_find, any_lookup, place_look, find_push}
use Rattle.mps_reader.proofs.Tested.{hits, passes, ends, column_is_named}
use Rattle.mps_reader.proofs.Grows.{tables_bound}
use Rattle.mps_reader.proofs.Keeping.{setting_passed, setting_put}
use Rattle.mps_reader.proofs.Sided.{grown_table}

-- ---- what is set before
-- either of two tests, for each of which there is a switch
any_either : {X : Type 0} (e p q : X → Bool) (a b : Bool) (xs : List X) → list_any (λ x. e x && ((a && p x) || (b && q x))) xs ≡ ((a && list_any (λ x. e x && p x) xs) || (b && list_any (λ x. e x && q x) xs))
any_either e p q true true [] = refl
any_either e p q true false [] = refl
any_either e p q false true [] = refl
any_either e p q false false [] = refl
any_either e p q a b (x ∷ xs) = ap (λ r. (e x && ((a && p x) || (b && q x))) || r) (any_either e p q a b xs) ∙ by (e x) a b (p x) (q x) (list_any (λ x. e x && p x) xs) (list_any (λ x. e x && q x) xs)
  where
    by : (e a b p q P Q : Bool) → ((e && ((a && p) || (b && q))) || ((a && P) || (b && Q))) ≡ ((a && ((e && p) || P)) || (b && ((e && q) || Q)))
    by false a b p q P Q = refl
    by true false false p q P Q = refl
    by true true false true q P Q = refl
    by true true false false q P Q = refl
    by true false true p true P Q = refl
    by true false true p false P Q = refl
    by true true true true q P Q = refl
    by true true true false true true Q = refl
    by true true true false true false Q = refl
    by true true true false false P Q = refl

module _ (reader : Reader) (steps : List Step) (bound : Bounded) (h : Holds reader steps) where
  named : (b : Bool) → list_any (bytes_eq bound.column) (column_names_held reader) ≡ b → not (list_any (bytes_eq bound.column) (map (λ (c : ColumnRecord). c.name) (columns_of steps))) ≡ not b
  named b e = ap not (column_is_named reader.columns (columns_of steps) h.columns bound.column ∙ e)

  pub bound_unknown : list_any (bytes_eq bound.column) (column_names_held reader) ≡ false → fault steps (ToBound bound) ≡ Some UnknownName
  unfolding fault
  bound_unknown e = hits UnknownName _ _ (named false e)

  module _ (column : ℕ) (at : StandsAt (column_names_held reader) bound.column column) where
    pub bound_bad : option_map_or is_no_number bound.number false ≡ true → fault steps (ToBound bound) ≡ Some (Text BadNumber)
    unfolding fault
    bound_bad e = passes UnknownName _ _ (named true at.among) (hits (Text BadNumber) _ _ e)

    pub bound_wide : option_map_or is_no_number bound.number false ≡ false → option_map_or is_wide_side bound.number false ≡ true → fault steps (ToBound bound) ≡ Some (Text NumberWide)
    unfolding fault
    bound_wide e wide = passes UnknownName _ _ (named true at.among) (passes (Text BadNumber) _ _ e (hits (Text NumberWide) _ _ wide))

    -- a number with a fault
    pub bound_stop : (kind : TextKind) → GivesNumber bound.number (Err kind) → fault steps (ToBound bound) ≡ Some (Text kind)
    bound_stop BadNumber e = bound_bad e
    bound_stop NumberWide e = bound_wide e.0 e.1
    bound_stop ForeignByte e = absurd e
    bound_stop LongLine e = absurd e

    -- what a table holds
    set_there : {V : Type 0} (sets : BoundKind → Bool) (value : Bounded → V) (table : List (ℕ × V)) → KeepsSettings sets value (column_names_held reader) table (bounds_of steps)
        → list_any (λ b. bytes_eq bound.column b.column && sets b.kind) (bounds_of steps) ≡ is_some (lookup (nat_eq column) table)
    set_there sets value table keeps =
        any_find value (λ (b : Bounded). bytes_eq bound.column b.column && sets b.kind) (bounds_of steps) ∙ ap is_some (keeps.found bound.column ∙ sym (place_look (column_names_held reader) bound.column column table at keeps.within))

    twice_is : is_set_twice steps bound ≡ is_set_held reader column bound.kind
    twice_is =
        any_either (λ (b : Bounded). bytes_eq bound.column b.column) (λ b. sets_lower b.kind) (λ b. sets_upper b.kind) (sets_lower bound.kind) (sets_upper bound.kind) (bounds_of steps)
        ∙ (λ i. (sets_lower bound.kind && set_there sets_lower lower_set reader.lowers.entries h.lowers i) || (sets_upper bound.kind && set_there sets_upper upper_set reader.uppers.entries h.uppers i))

    pub bound_twice : option_map_or is_no_number bound.number false ≡ false → option_map_or is_wide_side bound.number false ≡ false → is_set_held reader column bound.kind ≡ true → fault steps (ToBound bound) ≡ Some DuplicateEntry
    unfolding fault
    bound_twice e fits there = passes UnknownName _ _ (named true at.among) (passes (Text BadNumber) _ _ e (passes (Text NumberWide) _ _ fits (hits DuplicateEntry _ _ (twice_is ∙ there))))

    pub bound_fits : option_map_or is_no_number bound.number false ≡ false → option_map_or is_wide_side bound.number false ≡ false → is_set_held reader column bound.kind ≡ false → fault steps (ToBound bound) ≡ None
    unfolding fault
    bound_fits e fits absent = passes UnknownName _ _ (named true at.among) (passes (Text BadNumber) _ _ e (passes (Text NumberWide) _ _ fits (passes DuplicateEntry _ _ (twice_is ∙ absent) ends)))

-- ---- tables with one bound more
module _ {V : Type 0} (sets : BoundKind → Bool) (value : Bounded → V) (columns : List (List ℕ)) (table : List (ℕ × V)) (said : List Bounded) (keeps : KeepsSettings sets value columns table said) (b : Bounded) (column : ℕ) (at : StandsAt columns b.column column) where
  -- a bound that sets nothing that is set
  setting_after : (v : V) → value b ≡ v → (sets b.kind ≡ true → is_some (lookup (nat_eq column) table) ≡ false) → KeepsSettings sets value columns (put_where (sets b.kind) table column v) (said ++ b ∷ [])
  setting_after v same absent = by (sets b.kind) refl
    where
      by : (c : Bool) → sets b.kind ≡ c → KeepsSettings sets value columns (put_where c table column v) (said ++ b ∷ [])
      by true is = subst (λ t. KeepsSettings sets value columns t (said ++ b ∷ [])) (sym (grown_table table column v (absent is))) (setting_put sets value columns table said keeps b column v at is same)
      by false is = setting_passed sets value columns table said keeps b is

-- a mark that is set again changes nothing
insert_again : (table : List (ℕ × Unit {0})) (place : ℕ) → list_any (λ e. nat_eq place e.0) table ≡ true → insert_entry nat_eq table place tt ≡ table
insert_again [] place h = absurd (true≢false (sym h))
insert_again (e ∷ table) place h = by (nat_eq place e.0) refl (λ rest. insert_again table place rest)
  where
    by : (b : Bool) → nat_eq place e.0 ≡ b → (list_any (λ e. nat_eq place e.0) table ≡ true → insert_entry nat_eq table place tt ≡ table) → insert_entry nat_eq (e ∷ table) place tt ≡ e ∷ table
    by true is more = ap (λ c. cond c ((e.0, tt) ∷ table) (e ∷ insert_entry nat_eq table place tt)) is
    by false is more = ap (λ c. cond c ((e.0, tt) ∷ table) (e ∷ insert_entry nat_eq table place tt)) is ∙ ap (λ t. e ∷ t) (more (sym (ap (λ c. c || list_any (λ e. nat_eq place e.0) table) is) ∙ h))

module _ (sets : BoundKind → Bool) (columns : List (List ℕ)) (table : List (ℕ × Unit {0})) (said : List Bounded) (keeps : KeepsSettings sets (λ b. tt) columns table said) (b : Bounded) (column : ℕ) (at : StandsAt columns b.column column) where
  mark_after : KeepsSettings sets (λ b. tt) columns (put_where (sets b.kind) table column tt) (said ++ b ∷ [])
  mark_after = by (sets b.kind) refl (is_some (lookup (nat_eq column) table)) refl
    where
      again : is_some (lookup (nat_eq column) table) ≡ true → (c : List ℕ) → option_map (λ b. tt) (setting_among sets (said ++ b ∷ []) c) ≡ kept_of columns table c
      again there c = find_push (λ (b : Bounded). tt) (λ b. bytes_eq c b.column && sets b.kind) said b ∙ ap (λ o. option_or o (cond (bytes_eq c b.column && sets b.kind) (Some tt) None)) (keeps.found c) ∙ last (bytes_eq c b.column) refl (kept_of columns table c) refl
        where
          last : (x : Bool) → bytes_eq c b.column ≡ x → (o : Option (Unit {0})) → kept_of columns table c ≡ o → option_or o (cond (x && sets b.kind) (Some tt) None) ≡ o
          last false e None q = refl
          last false e (Some v) q = refl
          last true e (Some v) q = refl
          last true e None q = absurd (true≢false (sym there ∙ ap is_some (place_look columns b.column column table at keeps.within ∙ ap (kept_of columns table) (sym ((bytes_eq-Decides c b.column).0 e)) ∙ q)))

      by : (c : Bool) → sets b.kind ≡ c → (d : Bool) → is_some (lookup (nat_eq column) table) ≡ d → KeepsSettings sets (λ b. tt) columns (put_where c table column tt) (said ++ b ∷ [])
      by false is d there = setting_passed sets (λ b. tt) columns table said keeps b is
      by true is false there = subst (λ t. KeepsSettings sets (λ b. tt) columns t (said ++ b ∷ [])) (sym (grown_table table column tt there)) (setting_put sets (λ b. tt) columns table said keeps b column tt at is refl)
      by true is true there = subst (λ t. KeepsSettings sets (λ b. tt) columns t (said ++ b ∷ [])) (sym (insert_again table column (sym (any_lookup (nat_eq column) table) ∙ there)))
          (record { found = again there; within = keeps.within })

first_false : (s x r : Bool) → ((s && x) || r) ≡ false → s ≡ true → x ≡ false
first_false true false r h e = refl
first_false true true r h e = absurd (true≢false h)
first_false false x r h e = absurd (true≢false (sym e))

second_false : (l s x : Bool) → (l || (s && x)) ≡ false → s ≡ true → x ≡ false
second_false true s x h e = absurd (true≢false h)
second_false false true x h e = h
second_false false false x h e = absurd (true≢false (sym e))

pub bound_taken : (reader other : Reader) (steps : List Step) (b : Bounded) (column : ℕ) (kind : BoundKind) (number : Option ℚ) → Holds reader steps → StandsAt (column_names_held reader) b.column column → b.kind ≡ kind → number_of b ≡ number → is_set_held reader column kind ≡ false
    → other.lowers.entries ≡ put_where (sets_lower kind) reader.lowers.entries column (cond (is_binary kind) (Some zero_ℚ) number)
    → other.uppers.entries ≡ put_where (sets_upper kind) reader.uppers.entries column (cond (is_binary kind) (Some one_ℚ) number)
    → other.wholes.entries ≡ put_where (makes_whole kind) reader.wholes.entries column tt
    → Holds (record reader { lowers = other.lowers; uppers = other.uppers; wholes = other.wholes }) (steps ++ ToBound b ∷ [])
bound_taken reader other steps b column kind number h at kind_is number_is absent lowers uppers wholes =
    let same : is_set_held reader column b.kind ≡ false = ap (is_set_held reader column) kind_is ∙ absent in
    subst (Keeps (record reader { lowers = other.lowers; uppers = other.uppers; wholes = other.wholes })) (sym (tables_bound steps b)) (record {
      sense = h.sense;
      rows = h.rows;
      columns = h.columns;
      entries = h.entries;
      rights = h.rights;
      ranges = h.ranges;
      lowers = subst (λ t. KeepsSettings sets_lower lower_set (column_names_held reader) t (bounds_of steps ++ b ∷ [])) (sym (lowers ∙ (λ i. put_where (sets_lower (sym kind_is i)) reader.lowers.entries column (cond (is_binary (sym kind_is i)) (Some zero_ℚ) (sym number_is i)))))
          (setting_after sets_lower lower_set (column_names_held reader) reader.lowers.entries (bounds_of steps) h.lowers b column at (lower_set b) refl (first_false (sets_lower b.kind) _ _ same));
      uppers = subst (λ t. KeepsSettings sets_upper upper_set (column_names_held reader) t (bounds_of steps ++ b ∷ [])) (sym (uppers ∙ (λ i. put_where (sets_upper (sym kind_is i)) reader.uppers.entries column (cond (is_binary (sym kind_is i)) (Some one_ℚ) (sym number_is i)))))
          (setting_after sets_upper upper_set (column_names_held reader) reader.uppers.entries (bounds_of steps) h.uppers b column at (upper_set b) refl (second_false _ (sets_upper b.kind) _ same));
      wholes = subst (λ t. KeepsSettings makes_whole (λ b. tt) (column_names_held reader) t (bounds_of steps ++ b ∷ [])) (sym (wholes ∙ (λ i. put_where (makes_whole (sym kind_is i)) reader.wholes.entries column tt)))
          (mark_after makes_whole (column_names_held reader) reader.wholes.entries (bounds_of steps) h.wholes b column at);
    })
