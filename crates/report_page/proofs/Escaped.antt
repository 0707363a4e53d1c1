-- The law of escaping.
use Rattle.std.proofs.Common.{◌≡◌, ◌≢◌, inl, inr, refl, sym, ◌∙◌, ap, subst, ℕ, ◌==◌, ◌&&◌, not, cond, Bool, true, false, List, [], ◌∷◌, ◌++◌, codes, arith}
use Rattle.std.specs.Prelude.{All, Contains}
use Rattle.std.specs.List.{list_all}
use Rattle.std.proofs.lemmas.Bool.Decides.{eqb_tells}
use Rattle.std.proofs.lemmas.List.{append_cancel_left}
use Rattle.std.proofs.lemmas.List.Elements.{All-append, All-cons, All-nil}
use Rattle.report_page.specs.Escaping.{entities, escaped_byte, escaped, IsPlain, BeginsEntity, EscapingLaw}

-- none of the five bytes
abbrev is_quiet : ℕ → Bool
is_quiet c = not (c == 60) && (not (c == 62) && (not (c == 34) && (not (c == 39) && not (c == 38))))

-- the byte that an entity stands for, by its second byte
abbrev letter : ℕ → ℕ
letter c = cond (c == 97) 38 (cond (c == 108) 60 (cond (c == 103) 62 (cond (c == 113) 34 39)))

abbrev second : List ℕ → ℕ
second [] = 0
second (c ∷ cs) = letter c

-- the first byte of the text that is escaped so
abbrev first : List ℕ → ℕ
first [] = 0
first (c ∷ cs) = cond (c == 38) (second cs) c

-- how a byte is written: by its entity, or as itself
data How (b : ℕ) : Type 0 where
  by_entity : (tail : List ℕ) → Contains entities (38 ∷ tail) → list_all is_quiet tail ≡ true → ((rest : List ℕ) → first ((38 ∷ tail) ++ rest) ≡ b) → escaped_byte b ≡ 38 ∷ tail → How b
  as_itself : is_quiet b ≡ true → ((rest : List ℕ) → first (b ∷ rest) ≡ b) → escaped_byte b ≡ b ∷ [] → How b

-- each of the five has its entity
ampersand : (b : ℕ) → b ≡ 38 → How b
ampersand b e = subst How (sym e) (by_entity (codes "amp;") (0, omega arith, refl) refl (λ rest. refl) refl)

less : (b : ℕ) → b ≡ 60 → How b
less b e = subst How (sym e) (by_entity (codes "lt;") (1, omega arith, refl) refl (λ rest. refl) refl)

greater : (b : ℕ) → b ≡ 62 → How b
greater b e = subst How (sym e) (by_entity (codes "gt;") (2, omega arith, refl) refl (λ rest. refl) refl)

double_quote : (b : ℕ) → b ≡ 34 → How b
double_quote b e = subst How (sym e) (by_entity (codes "quot;") (3, omega arith, refl) refl (λ rest. refl) refl)

single_quote : (b : ℕ) → b ≡ 39 → How b
single_quote b e = subst How (sym e) (by_entity (codes "#39;") (4, omega arith, refl) refl (λ rest. refl) refl)

-- and any other byte is itself
other : (b : ℕ) → (b == 38) ≡ false → (b == 60) ≡ false → (b == 62) ≡ false → (b == 34) ≡ false → (b == 39) ≡ false → How b
other b a l g q s = as_itself (rw (l, g, q, s, a) refl) (λ rest. rw a refl) (rw (a, l, g, q, s) refl)

how : (b : ℕ) → How b
how b =
    elim (eqb_tells b 38) as (λ _. How b) [
      | inl a ↦ ampersand b a.1
      | inr a ↦
          elim (eqb_tells b 60) as (λ _. How b) [
            | inl l ↦ less b l.1
            | inr l ↦
                elim (eqb_tells b 62) as (λ _. How b) [
                  | inl g ↦ greater b g.1
                  | inr g ↦
                      elim (eqb_tells b 34) as (λ _. How b) [
                        | inl q ↦ double_quote b q.1
                        | inr q ↦
                            elim (eqb_tells b 39) as (λ _. How b) [ inl s ↦ single_quote b s.1 | inr s ↦ other b a.0 l.0 g.0 q.0 s.0 ]
                      ]
                ]
          ]
    ]

-- ---- no byte marks up
-- a byte that is none of the five
differs : (c d : ℕ) → is_quiet c ≡ true → is_quiet d ≡ false → c ≢ d
differs c d h k e = absurd (cc)

quiet_plain : (c : ℕ) → is_quiet c ≡ true → IsPlain c
quiet_plain c h = record { less = differs c 60 h refl; greater = differs c 62 h refl; double_quote = differs c 34 h refl; single_quote = differs c 39 h refl }

ampersand_plain : IsPlain 38
ampersand_plain = record { less = omega arith; greater = omega arith; double_quote = omega arith; single_quote = omega arith }

both : (a b : Bool) → (a && b) ≡ true → (a ≡ true) × (b ≡ true)
both true true e = (refl, refl)
both true false e = absurd (cc)
both false b e = absurd (cc)

all_plain : (cs : List ℕ) → list_all is_quiet cs ≡ true → All IsPlain cs
all_plain [] h = All-nil IsPlain
all_plain (c ∷ cs) h = let k = both (is_quiet c) (list_all is_quiet cs) h in All-cons IsPlain c cs (quiet_plain c k.0) (all_plain cs k.1)

byte_plain : (b : ℕ) → How b → All IsPlain (escaped_byte b)
byte_plain b (by_entity tail known quiet reads is) = subst (All IsPlain) (sym is) (All-cons IsPlain 38 tail ampersand_plain (all_plain tail quiet))
byte_plain b (as_itself quiet reads is) = subst (All IsPlain) (sym is) (All-cons IsPlain b [] (quiet_plain b quiet) (All-nil IsPlain))

text_plain : (text : List ℕ) → All IsPlain (escaped text)
text_plain [] = All-nil IsPlain
text_plain (b ∷ text) = All-append IsPlain (escaped_byte b) (escaped text) (byte_plain b (how b)) (text_plain text)

-- ---- each & begins an entity
-- a & behind quiet bytes is behind them all
record Behind (rest front back : List ℕ) : Type 0 where
  pub left : List ℕ
  pub is : rest ≡ left ++ 38 ∷ back

heads : (a b : ℕ) (xs ys : List ℕ) → a ∷ xs ≡ b ∷ ys → a ≡ b
heads a b xs ys e = grind (arith, e)

tails : (a b : ℕ) (xs ys : List ℕ) → a ∷ xs ≡ b ∷ ys → xs ≡ ys
tails a b xs ys e = grind (arith, e)

behind : (quiet rest front back : List ℕ) → list_all is_quiet quiet ≡ true → quiet ++ rest ≡ front ++ 38 ∷ back → Behind rest front back
behind [] rest front back h e = record { left = front; is = e }
behind (c ∷ cs) rest [] back h e = absurd (differs c 38 (both (is_quiet c) (list_all is_quiet cs) h).0 refl (heads c 38 (cs ++ rest) back e))
behind (c ∷ cs) rest (d ∷ front) back h e =
    let k = behind cs rest front back (both (is_quiet c) (list_all is_quiet cs) h).1 (tails c d (cs ++ rest) (front ++ 38 ∷ back) e) in
    record { left = k.left; is = k.is }

next_begins : (b : ℕ) (rest front back : List ℕ) → How b → ((left : List ℕ) → rest ≡ left ++ 38 ∷ back → BeginsEntity (38 ∷ back)) → escaped_byte b ++ rest ≡ front ++ 38 ∷ back → BeginsEntity (38 ∷ back)
next_begins b rest [] back (by_entity tail known quiet reads is) go e = record { entity = 38 ∷ tail; known = known; rest = rest; is = sym e ∙ ap (λ t. t ++ rest) is }
next_begins b rest (d ∷ front) back (by_entity tail known quiet reads is) go e =
    let k = behind tail rest front back quiet (tails 38 d (tail ++ rest) (front ++ 38 ∷ back) (sym (ap (λ t. t ++ rest) is) ∙ e)) in
    go k.left k.is
next_begins b rest front back (as_itself quiet reads is) go e =
    let k = behind (b ∷ []) rest front back (rw quiet refl) (sym (ap (λ t. t ++ rest) is) ∙ e) in
    go k.left k.is

text_begins : (text front back : List ℕ) → escaped text ≡ front ++ 38 ∷ back → BeginsEntity (38 ∷ back)
text_begins [] [] back e = absurd (cc)
text_begins [] (d ∷ front) back e = absurd (cc)
text_begins (b ∷ text) front back e = next_begins b (escaped text) front back (how b) (λ left is. text_begins text left back is) e

-- ---- nothing is lost
byte_first : (b : ℕ) (rest : List ℕ) → How b → first (escaped_byte b ++ rest) ≡ b
byte_first b rest (by_entity tail known quiet reads is) = ap (λ t. first (t ++ rest)) is ∙ reads rest
byte_first b rest (as_itself quiet reads is) = ap (λ t. first (t ++ rest)) is ∙ reads rest

byte_there : (b : ℕ) (rest : List ℕ) → How b → escaped_byte b ++ rest ≢ []
byte_there b rest (by_entity tail known quiet reads is) e = absurd (cc)
byte_there b rest (as_itself quiet reads is) e = absurd (cc)

one_text : (s t : List ℕ) → escaped s ≡ escaped t → s ≡ t
one_text [] [] e = refl
one_text [] (d ∷ ds) e = absurd (byte_there d (escaped ds) (how d) (sym e))
one_text (c ∷ cs) [] e = absurd (byte_there c (escaped cs) (how c) e)
one_text (c ∷ cs) (d ∷ ds) e =
    let same = sym (byte_first c (escaped cs) (how c)) ∙ (ap first e ∙ byte_first d (escaped ds) (how d)) in
    let rest = append_cancel_left (escaped_byte d) (escaped cs) (escaped ds) (sym (ap (λ b. escaped_byte b ++ escaped cs) same) ∙ e) in
    ap (λ b. b ∷ cs) same ∙ ap (λ (l : List ℕ). d ∷ l) (one_text cs ds rest)

pub law : EscapingLaw
law = record { plain = text_plain; ampersands = text_begins; injective = one_text }
