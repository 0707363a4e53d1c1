-- What the rows of an elastic system are, as loops list them, and that they are rows and members of the program.
use Rattle.std.proofs.Common.{◌≡◌, ◌+◌, ◌<◌, refl, sym, ◌∙◌, ap, subst, ℕ, Bool, true, false, cond, not, List, [], ◌∷◌, ◌++◌, append_assoc, append-nil, filter, map, take, length, get_or, Option, Some, None, IsSome, arith}
use Rattle.std.specs.Prelude.{All, flat_map}
use Rattle.std.proofs.lemmas.List.{map_more}
use Rattle.std.proofs.lemmas.List.Concat.{flat_map-append}
use Rattle.std.proofs.lemmas.List.Elements.{All-append, All-cons, All-filter, All-from_get_or, All-nil, All-weaker}
use Rattle.rational.specs.Rational.{ℚ, zero_ℚ}
use Rattle.lp_model.specs.declared.members.Member.{Member}
use Rattle.lp_model.specs.MemberSets.{IsMemberFor}
use Rattle.lp_model.specs.Members.{number}
use Rattle.lp_model.specs.Program.{Program}
use Rattle.certs.specs.Elastic.{is_row_side, is_side_of}
use Rattle.certs.specs.Ended.{numbers_from}
use Rattle.certs.specs.Plain.{has_row}
use Rattle.certs.specs.System.{Limits}
use Rattle.certs.proofs.Numbered.{numbers_more}
use Rattle.certs.proofs.Translated.{length_numbers, number_at}
use Rattle.relaxation.specs.Origins.{IsKnownOrigin, from_zero, origins_of, row_origins, soft_origin, soft_origins}
use Rattle.relaxation.specs.declared.origins.Origin.{Origin}
use Rattle.relaxation.specs.declared.origins.Origin.TheVariants.{Row, Soft}
use Rattle.relaxation.proofs.Joined.{All-flat_map}

-- ---- what holds of each of them
module _ (model : Program) (enforced : List Member) (P : Origin → Type 0) (Q : ℕ × Member → Type 0)
    (rows : (i : ℕ) → i < length model.rows → has_row enforced i ≡ true → P (Row i))
    (softs : (e : ℕ × Member) → IsSome (number model e.1) → Q e → P (Soft e.0 e.1)) where
  soft_one : (e : ℕ × Member) (o : Option ℚ) → number model e.1 ≡ o → Q e → All P (soft_origin e o)
  soft_one e None h q = All-nil P
  soft_one e (Some b) h q = All-cons P (Soft e.0 e.1) [] (softs e (subst (λ z. IsSome z) (sym h) refl) q) (All-nil P)

  soft_all : (list : List (ℕ × Member)) → All Q list → All P (soft_origins model list)
  soft_all list h =
      All-flat_map P (λ e. soft_origin e (number model e.1)) list
      (All-weaker Q (λ (e : ℕ × Member). All P (soft_origin e (number model e.1))) (λ e k. soft_one e (number model e.1) refl k) list h)

  row_all : (soft : List (ℕ × Member)) (i : ℕ) → i < length model.rows → All Q soft → All P (row_origins model enforced soft i)
  row_all soft i l h =
      All-append P (cond (has_row enforced i) (Row i ∷ []) []) (soft_origins model (filter (λ e. is_side_of i e.1) soft)) (by (has_row enforced i) refl)
      (soft_all (filter (λ e. is_side_of i e.1) soft) (All-filter (λ (e : ℕ × Member). is_side_of i e.1) Q soft h))
    where
      by : (b : Bool) → has_row enforced i ≡ b → All P (cond b (Row i ∷ []) [])
      by true e = All-cons P (Row i) [] (rows i l e) (All-nil P)
      by false e = All-nil P

  pub origins_all : (soft : List (ℕ × Member)) → All Q soft → All P (origins_of model enforced soft)
  origins_all soft h =
      let n : ℕ = length model.rows in
      All-append P (flat_map (row_origins model enforced soft) (numbers_from 0 n)) (soft_origins model (filter (λ e. not (is_row_side e.1)) soft))
      (All-flat_map P (row_origins model enforced soft) (numbers_from 0 n)
      (All-from_get_or (λ i. All P (row_origins model enforced soft i)) (numbers_from 0 n) 0
      (λ k l. let below : k < n = subst (λ z. k < z) (length_numbers 0 n) l in
      let at : get_or (numbers_from 0 n) k 0 ≡ k = number_at 0 n k 0 below ∙ (let e : 0 + k ≡ k = omega arith in e) in
      row_all soft (get_or (numbers_from 0 n) k 0) (subst (λ z. z < n) (sym at) below) h)))
      (soft_all (filter (λ e. not (is_row_side e.1)) soft) (All-filter (λ (e : ℕ × Member). not (is_row_side e.1)) Q soft h))

-- they are rows and members of the program
pub all_known : (model : Program) (enforced : List Member) (soft : List (ℕ × Member)) → All (λ (e : ℕ × Member). IsMemberFor (length model.rows) (length model.columns) e.1) soft
    → All (IsKnownOrigin model) (origins_of model enforced soft)
all_known model enforced soft h =
    origins_all model enforced (IsKnownOrigin model) (λ (e : ℕ × Member). IsMemberFor (length model.rows) (length model.columns) e.1) (λ i l e. l) (λ e some k. k) soft h

-- one row more
pub row_more : (model : Program) (enforced : List Member) (soft : List (ℕ × Member)) (i : ℕ) (start before after : List Origin)
    → start ≡ flat_map (row_origins model enforced soft) (numbers_from 0 i) → before ≡ start ++ cond (has_row enforced i) (Row i ∷ []) []
    → after ≡ before ++ soft_origins model (filter (λ e. is_side_of i e.1) soft) → after ≡ flat_map (row_origins model enforced soft) (numbers_from 0 (i + 1))
row_more model enforced soft i start before after s b a =
    let sides : List Origin = soft_origins model (filter (λ e. is_side_of i e.1) soft) in
    let front : List Origin = cond (has_row enforced i) (Row i ∷ []) [] in
    a
    ∙ ap (λ z. z ++ sides) b
    ∙ append_assoc start front sides
    ∙ ap (λ z. z ++ (front ++ sides)) s
    ∙ ap (λ z. flat_map (row_origins model enforced soft) (numbers_from 0 i) ++ z) (sym (append-nil (front ++ sides)))
    ∙ sym (ap (flat_map (row_origins model enforced soft)) (numbers_more i) ∙ flat_map-append (row_origins model enforced soft) (numbers_from 0 i) (i ∷ []))

-- the limits of one elastic variable more
pub variable_more : (soft : List (ℕ × Member)) (i : ℕ) (d : ℕ × Member) (start before after : List Limits) (q : ℚ) → i < length soft → q ≡ zero_ℚ
    → before ≡ start ++ map (λ e. from_zero) (take i soft) → after ≡ before ++ record { lower = Some q; upper = None } ∷ [] → after ≡ start ++ map (λ e. from_zero) (take (i + 1) soft)
variable_more soft i d start before after q l zero b a =
    a
    ∙ ap (λ z. before ++ record { lower = Some z; upper = None } ∷ []) zero
    ∙ ap (λ z. z ++ from_zero ∷ []) b
    ∙ append_assoc start (map (λ e. from_zero) (take i soft)) (from_zero ∷ [])
    ∙ ap (λ z. start ++ z) (sym (map_more (λ (e : ℕ × Member). from_zero) soft i d l))
