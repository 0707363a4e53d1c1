-- Columns that come one after another.
use Rattle.std.proofs.Common.{eq-eqb, ◌≡◌, ℕ, ◌+◌, ◌<◌, ◌≤◌, Bool, true, false, cond, ltb, nat_eq, ◌||◌, List, [], ◌∷◌, ◌++◌, Some, None, length, refl, sym, ap, ◌∙◌, subst, arith, true≢false, length-append, append-nil}
use Rattle.std.specs.Prelude.{nat_le}
use Rattle.std.specs.List.{list_any, All}
use Rattle.std.specs.Str.{bytes_eq}
use Rattle.std.proofs.lemmas.List.{get_or_append_left}
use Rattle.std.proofs.lemmas.List.Elements.{All-nil, All-cons, All-head, All-tail}
use Rattle.std.proofs.lemmas.List.Folds.{list_any-append}
use Rattle.std.proofs.Math.Seq.{get_or-append_seam}
use Rattle.std.proofs.lemmas.Slice.Eq.{bytes_eq-Decides}
use Rattle.std.proofs.lemmas.Bool.{ltb-true, ltb-false, ne_eqb}
use Rattle.std.proofs.lemmas.Bool.Decides.{nat_tests}
use Rattle.text_fields.specs.declared.faults.ReadKind.TheVariants.{Limit}
use Rattle.name_map.specs.Names.{names_of, name_at, StandsAt}
use Rattle.lp_model.specs.Shown.{is_named, most_columns, longest_name, most_entries}
use Rattle.lp_statements.specs.Items.{Written, stop_at}
use Rattle.lp_reader.specs.declared.columns.Columns.{Columns}
use Rattle.lp_reader.specs.Faults.{is_too_long, limit_fault}
use Rattle.lp_reader.specs.State.{PutsColumn, TakesColumn}

-- the limits, by their tests
limit_is : (columns : List (List ℕ)) (entries : ℕ) (name : Written) (m n f l : Bool) → nat_le most_entries entries ≡ m → is_named columns name.text ≡ n → nat_le most_columns (length columns) ≡ f → is_too_long name.text ≡ l
    → limit_fault columns entries name ≡ cond (m || cond n false (f || l)) (Some (stop_at name.line Limit)) None
unfolding limit_fault
limit_is columns entries name m n f l a b d e = rw (a, b, d, e) refl

le_test : (a b : ℕ) → a ≤ b → nat_le a b ≡ true
le_test a b h = grind (arith, nat_tests)

lt_test : (a b : ℕ) → (a ≤ b → ⊥) → nat_le a b ≡ false
lt_test a b h = grind (arith, nat_tests)

pub limit_many : (columns : List (List ℕ)) (entries : ℕ) (name : Written) → most_entries ≤ entries → limit_fault columns entries name ≡ Some (stop_at name.line Limit)
limit_many columns entries name h = limit_is columns entries name true (is_named columns name.text) (nat_le most_columns (length columns)) (is_too_long name.text) (le_test most_entries entries h) refl refl refl

pub limit_full : (columns : List (List ℕ)) (entries : ℕ) (name : Written) → is_named columns name.text ≡ false → most_columns ≤ length columns → limit_fault columns entries name ≡ Some (stop_at name.line Limit)
limit_full columns entries name new h = limit_is columns entries name (nat_le most_entries entries) false true (is_too_long name.text) refl new (le_test most_columns (length columns) h) refl ∙ by (nat_le most_entries entries)
  where
    by : (m : Bool) → cond (m || cond false false (true || is_too_long name.text)) (Some (stop_at name.line Limit)) None ≡ Some (stop_at name.line Limit)
    by true = refl
    by false = refl

pub limit_long : (columns : List (List ℕ)) (entries : ℕ) (name : Written) → is_named columns name.text ≡ false → is_too_long name.text ≡ true → limit_fault columns entries name ≡ Some (stop_at name.line Limit)
limit_long columns entries name new h = limit_is columns entries name (nat_le most_entries entries) false (nat_le most_columns (length columns)) true refl new refl h ∙ by (nat_le most_entries entries) (nat_le most_columns (length columns))
  where
    by : (m f : Bool) → cond (m || cond false false (f || true)) (Some (stop_at name.line Limit)) None ≡ Some (stop_at name.line Limit)
    by true f = refl
    by false true = refl
    by false false = refl

pub limit_known : (columns : List (List ℕ)) (entries : ℕ) (name : Written) → (most_entries ≤ entries → ⊥) → is_named columns name.text ≡ true → limit_fault columns entries name ≡ None
limit_known columns entries name few there = limit_is columns entries name false true (nat_le most_columns (length columns)) (is_too_long name.text) (lt_test most_entries entries few) there refl refl

pub limit_new : (columns : List (List ℕ)) (entries : ℕ) (name : Written) → (most_entries ≤ entries → ⊥) → is_named columns name.text ≡ false → (most_columns ≤ length columns → ⊥) → is_too_long name.text ≡ false → limit_fault columns entries name ≡ None
limit_new columns entries name few new room short = limit_is columns entries name false false false false (lt_test most_entries entries few) new (lt_test most_columns (length columns) room) short

-- ---- a name that was put last
any_false : {X : Type 0} (p : X → Bool) (xs : List X) → list_any p xs ≡ false → All (λ x. p x ≡ false) xs
any_false p [] h = All-nil (λ x. p x ≡ false)
any_false p (x ∷ xs) h = by (p x) refl h (λ h. any_false p xs h)
  where
    by : (b : Bool) → p x ≡ b → (b || list_any p xs) ≡ false → (list_any p xs ≡ false → All (λ x. p x ≡ false) xs) → All (λ x. p x ≡ false) (x ∷ xs)
    by true e h rest = absurd (true≢false h)
    by false e h rest = All-cons (λ x. p x ≡ false) x xs e (rest h)

pub name_stays : (names more : List (List ℕ)) (i : ℕ) → i < length names → name_at (names ++ more) i ≡ name_at names i
name_stays names more i h = get_or_append_left names more [] i h

pub stands_last : (names : List (List ℕ)) (name : List ℕ) → list_any (bytes_eq name) names ≡ false → StandsAt (names ++ name ∷ []) name (length names)
stands_last names name absent =
    let self : bytes_eq name name ≡ true = (bytes_eq-Decides name name).1 refl in
    let last : name_at (names ++ name ∷ []) (length names) ≡ name = get_or-append_seam names name [] [] in
    record {
      within = omega (arith, length-append names (name ∷ []));
      named = last;
      alone = λ k h. by k (ltb k (length names)) refl (omega (arith, length-append names (name ∷ []))) self last;
      among = list_any-append (bytes_eq name) names (name ∷ []) ∙ ap (λ b. b || (bytes_eq name name || false)) absent ∙ ap (λ b. b || false) self;
    }
  where
    by : (k : ℕ) (b : Bool) → ltb k (length names) ≡ b → k ≤ length names → bytes_eq name name ≡ true → name_at (names ++ name ∷ []) (length names) ≡ name → bytes_eq name (name_at (names ++ name ∷ []) k) ≡ nat_eq (length names) k
    by k true e le self last =
        let lt : k < length names = ltb-true _ _ e in
        ap (bytes_eq name) (name_stays names (name ∷ []) k lt) ∙ any_false (bytes_eq name) names absent k [] lt ∙ sym (ne_eqb (length names) k (λ q. omega arith))
    by k false e le self last =
        let ge : length names ≤ k = ltb-false _ _ e in
        let is : length names ≡ k = omega arith in
        subst (λ (n : ℕ). bytes_eq name (name_at (names ++ name ∷ []) n) ≡ nat_eq (length names) n) is (ap (bytes_eq name) last ∙ self ∙ sym (eq-eqb (length names) (length names) refl))

-- ---- names that are short enough
pub all_push : {X : Type 0} (P : X → Type 0) (xs : List X) (x : X) → All P xs → P x → All P (xs ++ x ∷ [])
all_push P [] x h p = All-cons P x [] p (All-nil P)
all_push P (y ∷ xs) x h p = All-cons P y (xs ++ x ∷ []) (All-head P y xs h) (all_push P xs x (All-tail P y xs h) p)

pub short_name : (name : List ℕ) → is_too_long name ≡ false → length name ≤ longest_name
short_name name h = grind (arith, nat_tests)

-- ---- the column of a term
pub takes_known : (old new : Columns) (name : List ℕ) (j : ℕ) → names_of new.names ≡ names_of old.names → new.bounds.items ≡ old.bounds.items → new.entries ≡ old.entries + 1 → StandsAt (names_of old.names) name j → TakesColumn old new name j
takes_known old new name j names bounds entries at = record {
  names = names ∙ sym (ap (λ b. cond b (names_of old.names) (names_of old.names ++ name ∷ [])) at.among);
  entries = entries;
  stands = subst (λ (ns : List (List ℕ)). StandsAt ns name j) (sym names) at;
  widened = record { more = []; names = names ∙ sym (append-nil (names_of old.names)); bounds = bounds ∙ sym (append-nil old.bounds.items); fresh = All-nil (λ name. is_named (names_of old.names) name ≡ false) };
  few = λ h. subst (λ (ns : List (List ℕ)). length ns ≤ most_columns) (sym names) h;
  short = λ h. subst (λ (ns : List (List ℕ)). All (λ (name : List ℕ). length name ≤ longest_name) ns) (sym names) h;
}

pub takes_new : (old mid new : Columns) (name : List ℕ) (j : ℕ) → PutsColumn old mid name → names_of new.names ≡ names_of mid.names → new.bounds.items ≡ mid.bounds.items → new.entries ≡ mid.entries + 1 → is_named (names_of old.names) name ≡ false → j ≡ length (names_of old.names) → (most_columns ≤ length (names_of old.names) → ⊥) → is_too_long name ≡ false → TakesColumn old new name j
takes_new old mid new name j puts names bounds entries absent is room fits = record {
  names = names ∙ (puts.names ∙ sym (ap (λ b. cond b (names_of old.names) (names_of old.names ++ name ∷ [])) absent));
  entries = let a = puts.entries in omega arith;
  stands = subst (λ (ns : List (List ℕ)). StandsAt ns name j) (sym (names ∙ puts.names)) (subst (StandsAt (names_of old.names ++ name ∷ []) name) (sym is) (stands_last (names_of old.names) name absent));
  widened = record { more = name ∷ []; names = names ∙ puts.names; bounds = bounds ∙ puts.bounds; fresh = All-cons (λ name. is_named (names_of old.names) name ≡ false) name [] absent (All-nil (λ name. is_named (names_of old.names) name ≡ false)) };
  few = λ h. subst (λ (ns : List (List ℕ)). length ns ≤ most_columns) (sym (names ∙ puts.names)) (let long = length-append (names_of old.names) (name ∷ []) in omega (arith, room));
  short = λ h. subst (λ (ns : List (List ℕ)). All (λ (name : List ℕ). length name ≤ longest_name) ns) (sym (names ∙ puts.names)) (all_push (λ (name : List ℕ). length name ≤ longest_name) (names_of old.names) name h (short_name name fits));
}
