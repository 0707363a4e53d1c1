-- Lists in order: an element more, and what they say.
use Rattle.std.proofs.Common.{◌≡◌, refl, suc, Bool, true, List, [], ◌∷◌, ◌++◌, arith}
use Rattle.std.specs.Prelude.{All, AllPairs, IsTrue}
use Rattle.std.specs.List.{list_all}
use Rattle.std.proofs.lemmas.List.Elements.{All-nil, All-head, All-push, All-contains, Contains-append_right}
use Rattle.std.proofs.lemmas.List.Quantifiers.{all_pairs_push}
use Rattle.std.proofs.lemmas.List.Sums.{AllPass-from_list_all}
use Rattle.std.proofs.lemmas.Bool.{and_parts, and_from}
use Rattle.certs.proofs.Lists.{all_back}
use Rattle.lp_model.specs.Program.{Program, IsWellFormed, noted_column}
use Rattle.lp_model.specs.declared.members.Member.{Member}
use Rattle.lp_model.specs.declared.parts.Note.{Note}
use Rattle.lp_model.specs.Members.{comes_before, exists, is_active}
use Rattle.certs.specs.declared.evidence.Branch.{Branch}
use Rattle.certs.specs.declared.evidence.Share.{Share}
use Rattle.certs.specs.Order.{source_before}
use Rattle.reductions.specs.declared.steps.ReduceStep.{ReduceStep}
use Rattle.report_text.specs.declared.phrases.Phrase.{Phrase}
use Rattle.report_text.specs.declared.phrases.StopPhrase.{StopPhrase}
use Rattle.report_text.specs.Form.{AreMembers, AreUses, IsUse, IsNamedMember, IsNamedBranch, IsNamedColumn, IsStepFor}
use Rattle.phrase_reader.specs.Phrases.{IsPhraseFor}
use Rattle.report_reader.specs.declared.lists.Listing.{Listing}
use Rattle.report_reader.specs.Things.{may_use, may_stand, may_list, AreListed, uses, members, branches, steps, notes, share_of, member_phrase, member_of}
use Rattle.report_reader.proofs.Both.{Alone}
use Rattle.report_reader.proofs.Found.{share_finds, member_finds, member_says, branch_finds, step_finds, note_finds}
use Rattle.report_reader.proofs.Passing.{list_alone}

-- what stands before an element comes before it
module _ {X : Type 0} (before : X → X → Bool) where
  all_before : (xs : List X) (x : X) (rest : List X) → AllPairs (λ y z. IsTrue (before y z)) (xs ++ x ∷ rest) → list_all (λ y. before y x) xs ≡ true
  all_before [] x rest h = refl
  all_before (y ∷ xs) x rest h = and_from (before y x) (list_all (λ z. before z x) xs) (All-contains (λ z. IsTrue (before y z)) (xs ++ x ∷ rest) x (pairs_head y (xs ++ x ∷ rest) h) (Contains-append_right xs (x ∷ rest) x (0, omega arith, refl))) (all_before xs x rest (pairs_tail y (xs ++ x ∷ rest) h))
    where
      pairs_head : (y : X) (xs : List X) → AllPairs (λ y z. IsTrue (before y z)) (y ∷ xs) → All (λ z. IsTrue (before y z)) xs
      pairs_head y xs h k d l = h 0 (suc k) d (omega arith) (omega arith)

      pairs_tail : (y : X) (xs : List X) → AllPairs (λ y z. IsTrue (before y z)) (y ∷ xs) → AllPairs (λ y z. IsTrue (before y z)) xs
      pairs_tail y xs h i j d l m = h (suc i) (suc j) d (omega arith) (omega arith)

module _ (model : Program) where
  -- ---- no elements
  pub no_uses : AreUses model []
  no_uses = record { each = All-nil (IsUse model); in_order = λ i j d l m. absurd (omega arith) }

  pub no_members : AreMembers model []
  no_members = record { named = All-nil (IsNamedMember model); in_order = λ i j d l m. absurd (omega arith) }

  pub none_listed : (l : Listing) → AreListed model l []
  none_listed Listing.Listed = no_members
  none_listed Listing.LeftOut = record { members = no_members; active = All-nil (λ m. IsTrue (is_active model m)) }
  none_listed Listing.Enforced = record { members = no_members; there = All-nil (λ m. IsTrue (exists model m)) }

  -- ---- one more
  pub share_taken : (shares : List Share) (s : Share) → AreUses model shares → IsUse model s → may_use shares s ≡ true → AreUses model (shares ++ s ∷ [])
  share_taken shares s h k after = record {
    each = All-push (IsUse model) shares s h.each k;
    in_order = all_pairs_push (λ t u. IsTrue (source_before t.source u.source)) shares s h.in_order (AllPass-from_list_all (λ t. source_before t.source s.source) shares after);
  }

  pub member_taken : (ms : List Member) (m : Member) → AreMembers model ms → IsNamedMember model m → list_all (λ n. comes_before n m) ms ≡ true → AreMembers model (ms ++ m ∷ [])
  member_taken ms m h named after = record {
    named = All-push (IsNamedMember model) ms m h.named named;
    in_order = all_pairs_push (λ a b. IsTrue (comes_before a b)) ms m h.in_order (AllPass-from_list_all (λ n. comes_before n m) ms after);
  }

  pub are_members : (l : Listing) (ms : List Member) → AreListed model l ms → AreMembers model ms
  are_members Listing.Listed ms h = h
  are_members Listing.LeftOut ms h = h.members
  are_members Listing.Enforced ms h = h.members

  named_of : (l : Listing) (m : Member) → IsPhraseFor model (member_phrase l m) → IsNamedMember model m
  named_of Listing.Listed m h = h
  named_of Listing.LeftOut m h = h
  named_of Listing.Enforced m h = h

  pub listed_taken : (l : Listing) (ms : List Member) (m : Member) → AreListed model l ms → may_list model l ms m ≡ true → IsPhraseFor model (member_phrase l m) → AreListed model l (ms ++ m ∷ [])
  listed_taken l ms m h may named = by l h (named_of l m named) (and_parts (may_stand model l m) (list_all (λ n. comes_before n m) ms) may)
    where
      by : (l : Listing) → AreListed model l ms → IsNamedMember model m → (may_stand model l m ≡ true) × (list_all (λ n. comes_before n m) ms ≡ true) → AreListed model l (ms ++ m ∷ [])
      by Listing.Listed h named both = member_taken ms m h named both.1
      by Listing.LeftOut h named both = record { members = member_taken ms m h.members named both.1; active = All-push (λ n. IsTrue (is_active model n)) ms m h.active both.0 }
      by Listing.Enforced h named both = record { members = member_taken ms m h.members named both.1; there = All-push (λ n. IsTrue (exists model n)) ms m h.there both.0 }

  -- ---- each stands where it may
  use_stands : (xs : List Share) (x : Share) (rest : List Share) → AreUses model (xs ++ x ∷ rest) → may_use xs x ≡ true
  use_stands xs x rest h = all_before (λ t u. source_before t.source u.source) xs x rest h.in_order

  stands_there : (l : Listing) (xs : List Member) (x : Member) (rest : List Member) → AreListed model l (xs ++ x ∷ rest) → may_stand model l x ≡ true
  stands_there Listing.Listed xs x rest h = refl
  stands_there Listing.LeftOut xs x rest h = All-head (λ m. IsTrue (is_active model m)) x rest (all_back (λ m. IsTrue (is_active model m)) xs (x ∷ rest) h.active)
  stands_there Listing.Enforced xs x rest h = All-head (λ m. IsTrue (exists model m)) x rest (all_back (λ m. IsTrue (exists model m)) xs (x ∷ rest) h.there)

  pub member_stands : (l : Listing) (xs : List Member) (x : Member) (rest : List Member) → AreListed model l (xs ++ x ∷ rest) → may_list model l xs x ≡ true
  member_stands l xs x rest h =
      and_from (may_stand model l x) (list_all (λ n. comes_before n x) xs) (stands_there l xs x rest h) (all_before comes_before xs x rest (are_members l (xs ++ x ∷ rest) h).in_order)

  -- ---- lists are known by what they say
  module _ (names : IsWellFormed model) where
    pub uses_alone : Alone (uses model)
    uses_alone = list_alone model names Share Phrase.Use share_of may_use (AreUses model) share_finds (λ x y h. cc) (λ x. refl) use_stands

    member_one : (l : Listing) (x y : Member) → member_phrase l x ≡ member_phrase l y → x ≡ y
    member_one Listing.Listed x y h = cc
    member_one Listing.LeftOut x y h = let s : StopPhrase.Without x ≡ StopPhrase.Without y = cc in cc
    member_one Listing.Enforced x y h = let s : StopPhrase.Enforced x ≡ StopPhrase.Enforced y = cc in cc

    pub members_alone : (l : Listing) → Alone (members model l)
    members_alone l = list_alone model names Member (member_phrase l) (member_of l) (may_list model l) (AreListed model l) (member_finds l) (member_one l) (member_says l) (member_stands l)

    pub branches_alone : Alone (branches model)
    branches_alone = list_alone model names Branch _ _ _ (All (IsNamedBranch model)) branch_finds (λ x y h. (let s : StopPhrase.Branch x ≡ StopPhrase.Branch y = cc in cc)) (λ x. refl) (λ xs x rest h. refl)

    pub steps_alone : Alone (steps model)
    steps_alone = list_alone model names ReduceStep _ _ _ (All (IsStepFor model)) step_finds (λ x y h. cc) (λ x. refl) (λ xs x rest h. refl)

    pub notes_alone : Alone (notes model)
    notes_alone = list_alone model names Note _ _ _ (All (λ note. IsNamedColumn model (noted_column note))) note_finds (λ x y h. cc) (λ x. refl) (λ xs x rest h. refl)
