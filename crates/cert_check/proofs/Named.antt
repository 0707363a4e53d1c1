-- The members that a proof uses, put in one after another.
use Rattle.std.proofs.Common.{◌≡◌, ◌<◌, ◌≤◌, ◌+◌, refl, sym, ◌∙◌, ap, subst, ℕ, Bool, true, false, ◌||◌, List, length, drop, get_or, filter}
use Rattle.std.specs.Prelude.{All}
use Rattle.std.specs.List.{list_any}
use Rattle.std.proofs.lemmas.List.{at_drop_more, at_drop_all}
use Rattle.std.proofs.lemmas.List.Elements.{All-weaker, filter_passes}
use Rattle.lp_model.specs.declared.members.Member.{Member}
use Rattle.lp_model.specs.Program.{Program}
use Rattle.lp_model.specs.Members.{is_same, has}
use Rattle.lp_model.specs.MemberSets.{SetValue, IsMemberFor, possible_in, set_with, empty_set}
use Rattle.certs.proofs.HasLists.{agree_on, has_of_filter}
use Rattle.certs.specs.declared.evidence.Node.{Node}
use Rattle.certs.specs.declared.evidence.Node.TheVariants.{Split, Leaf}
use Rattle.certs.specs.declared.evidence.Source.{Source}
use Rattle.certs.specs.declared.evidence.Source.TheVariants.{Member as Of, Below, Above}
use Rattle.certs.specs.Named.{IsKnownNode, IsKnownSource}
use Rattle.certs.specs.Violation.{is_of}
use Rattle.report_text.specs.Form.{IsNodeFor, IsNamedSource, IsUse}
use Rattle.cert_check.specs.Uses.{with_source, with_tested}

-- ---- by one test and then by another
or_over : (a b c : Bool) → ((a || b) || c) ≡ (a || (b || c))
or_over true b c = refl
or_over false b c = refl

or_turned : (a b : Bool) → (a || b) ≡ (b || a)
or_turned true true = refl
or_turned true false = refl
or_turned false true = refl
or_turned false false = refl

or_none : (b : Bool) → (b || false) ≡ b
or_none true = refl
or_none false = refl

module _ (set : SetValue) where
  same_by : (f g : Member → Bool) → ((m : Member) → f m ≡ g m) → with_tested set f ≡ with_tested set g
  same_by f g h = ap (λ (l : List Member). record set { members = l }) (agree_on (λ m. has set.members m || f m) (λ m. has set.members m || g m) (possible_in set) (λ m c. ap (λ b. has set.members m || b) (h m)))

  tested_twice : (f g : Member → Bool) → with_tested (with_tested set f) g ≡ with_tested set (λ m. f m || g m)
  tested_twice f g =
      ap (λ (l : List Member). record set { members = l })
      (agree_on (λ m. has (filter (λ n. has set.members n || f n) (possible_in set)) m || g m) (λ m. has set.members m || (f m || g m)) (possible_in set) (λ m c.
      ap (λ b. b || g m) (has_of_filter (λ n. has set.members n || f n) (possible_in set) m c) ∙ or_over (has set.members m) (f m) (g m)))

  pub with_one : (m : Member) → set_with set m ≡ with_tested set (λ n. is_same n m)
  with_one m = ap (λ (l : List Member). record set { members = l }) (agree_on (λ n. is_same n m || has set.members n) (λ n. has set.members n || is_same n m) (possible_in set) (λ n c. or_turned (is_same n m) (has set.members n)))

  -- no other passes
  pub none_more : (f : Member → Bool) → ((m : Member) → f m ≡ false) → set.members ≡ filter (has set.members) (possible_in set) → with_tested set f ≡ set
  none_more f h is =
      ap (λ (l : List Member). record set { members = l })
      (agree_on (λ m. has set.members m || f m) (has set.members) (possible_in set) (λ m c. ap (λ b. has set.members m || b) (h m) ∙ or_none (has set.members m)) ∙ sym is)

  pub tested_over : (f g : Member → Bool) (next : SetValue) → next ≡ with_tested set f → with_tested next g ≡ with_tested set (λ m. f m || g m)
  tested_over f g next e = ap (λ (s : SetValue). with_tested s g) e ∙ tested_twice f g

  pub source_over : (source : Source) (g : Member → Bool) → with_tested (with_source set source) g ≡ with_tested set (λ m. is_of m source || g m)
  source_over (Of m) g = tested_over (λ n. is_same n m) g (set_with set m) (with_one m)
  source_over (Below j) g = refl
  source_over (Above j) g = refl

  -- what one of a list puts in, and the rest of the list does
  pub put_next : {A : Type 0} (uses : Member → A → Bool) (list : List A) (i : ℕ) (a : A) (next : SetValue) → i < length list → a ≡ get_or list i a
      → with_tested next (λ m. list_any (uses m) (drop (i + 1) list)) ≡ with_tested set (λ m. uses m a || list_any (uses m) (drop (i + 1) list))
      → with_tested next (λ m. list_any (uses m) (drop (i + 1) list)) ≡ with_tested set (λ m. list_any (uses m) (drop i list))
  put_next {A} uses list i a next l is e =
      e
      ∙ same_by (λ m. uses m a || list_any (uses m) (drop (i + 1) list)) (λ m. list_any (uses m) (drop i list)) (λ m.
      ap (λ (x : A). uses m x || list_any (uses m) (drop (i + 1) list)) is
      ∙ sym (at_drop_more (λ (z : List A). list_any (uses m) z) list i a l))

  pub put_all : {A : Type 0} (uses : Member → A → Bool) (list : List A) (i : ℕ) → length list ≤ i → set.members ≡ filter (has set.members) (possible_in set) → with_tested set (λ m. list_any (uses m) (drop i list)) ≡ set
  put_all uses list i l is = none_more (λ m. list_any (uses m) (drop i list)) (λ m. at_drop_all (λ z. list_any (uses m) z) list i l) is

-- ---- sizes
pub source_rows : (set : SetValue) (source : Source) → (with_source set source).rows ≡ set.rows
source_rows set (Of m) = refl
source_rows set (Below j) = refl
source_rows set (Above j) = refl

pub source_columns : (set : SetValue) (source : Source) → (with_source set source).columns ≡ set.columns
source_columns set (Of m) = refl
source_columns set (Below j) = refl
source_columns set (Above j) = refl

-- what one set may have, another of its size may
pub source_known : (set other : SetValue) (source : Source) → other.rows ≡ set.rows → other.columns ≡ set.columns → IsKnownSource set source → IsKnownSource other source
source_known set other source r k h = by source h
  where
    by : (s : Source) → IsKnownSource set s → IsKnownSource other s
    by (Of m) p = subst (λ n. IsMemberFor n other.columns m) (sym r) (subst (λ n. IsMemberFor set.rows n m) (sym k) p)
    by (Below j) p = tt
    by (Above j) p = tt

pub node_known : (set other : SetValue) (node : Node) → other.rows ≡ set.rows → other.columns ≡ set.columns → IsKnownNode set node → IsKnownNode other node
node_known set other (Split j k) r e h = subst (λ n. j < n) (sym e) h
node_known set other (Leaf combo) r e h = All-weaker (λ s. IsKnownSource set s.source) (λ s. IsKnownSource other s.source) (λ s p. source_known set other s.source r e p) combo.shares h

-- ---- what a report's proof names is known
known_source : (model : Program) (s : Source) → IsNamedSource model s → IsKnownSource (empty_set model) s
known_source model (Of m) h = h.known
known_source model (Below j) h = tt
known_source model (Above j) h = tt

pub known_node : (model : Program) (node : Node) → IsNodeFor model node → IsKnownNode (empty_set model) node
known_node model (Split j k) h = h.0.known
known_node model (Leaf combo) h = All-weaker (IsUse model) (λ s. IsKnownSource (empty_set model) s.source) (λ s u. known_source model s.source u.named) combo.shares h.each

-- a set has each of its members
pub all_there : (set : SetValue) → set.members ≡ filter (has set.members) (possible_in set) → All (λ m. has set.members m ≡ true) set.members
all_there set is = subst (All (λ m. has set.members m ≡ true)) (sym is) (filter_passes (has set.members) (possible_in set))
