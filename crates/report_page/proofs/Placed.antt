-- The law of markup.
use Rattle.std.proofs.Common.{◌≡◌, ◌≢◌, inl, inr, refl, sym, ◌∙◌, ap, ℕ, zero, suc, ◌+◌, ◌/◌, ◌%◌, ◌==◌, nat_lt, ℤ, pos, negsuc, Bool, true, false, cond, List, [], ◌∷◌, ◌++◌, arith}
use Rattle.std.specs.Prelude.{All, decimal}
use Rattle.std.specs.Fmt.{signed_decimal, digits, digits_onto, digit_glyph}
use Rattle.std.proofs.lemmas.Bool.Decides.{eqb_tells, nat_tests}
use Rattle.std.proofs.lemmas.List.Sums.{fold-append}
use Rattle.std.proofs.lemmas.List.Folds.{fold_stays}
use Rattle.std.proofs.lemmas.List.Elements.{All-append, All-cons, All-nil, All-head, All-tail, All-weaker}
use Rattle.rational.specs.Rational.{ℚ}
use Rattle.frac128.specs.Printed.{printed}
use Rattle.report_page.specs.Escaping.{escaped, IsPlain}
use Rattle.report_page.specs.Pieces.{Piece, Place, piece_bytes, bytes_of, behind, behind_bytes, behind_piece, behind_pieces, MarkupLaw}
use Rattle.report_page.proofs.Escaped.{law as escaping}

-- ---- bytes that lead nowhere else
-- neither < nor >
record IsCalm (b : ℕ) : Type 0 where
  pub less : (b == 60) ≡ false
  pub greater : (b == 62) ≡ false

differs : (b d : ℕ) → b ≢ d → (b == d) ≡ false
differs b d h = elim (eqb_tells b d) [ inl e ↦ absurd (h e.1) | inr e ↦ e.0 ]

stays : (place : Place) (b : ℕ) → IsCalm b → behind place b ≡ place
stays Place.Running b h = rw (h.less, h.greater) refl
stays Place.Tag b h = rw (h.greater, h.less) refl
stays Place.Nowhere b h = refl

all_stay : (place : Place) (bs : List ℕ) → All IsCalm bs → behind_bytes place bs ≡ place
all_stay place [] h = refl
all_stay place (b ∷ bs) h = ap (λ p. behind_bytes p bs) (stays place b (All-head IsCalm b bs h)) ∙ all_stay place bs (All-tail IsCalm b bs h)

-- those of an escaped text
calm_text : (text : List ℕ) → All IsCalm (escaped text)
calm_text text = All-weaker IsPlain IsCalm (λ b p. record { less = differs b 60 p.less; greater = differs b 62 p.greater }) (escaped text) (escaping.plain text)

-- those of a number
calm_glyph : (d : ℕ) → IsCalm (digit_glyph false d)
calm_glyph d = by (nat_lt d 10) refl
  where
    by : (t : Bool) → nat_lt d 10 ≡ t → IsCalm (cond t (48 + d) (87 + d))
    by true e = record { less = differs (48 + d) 60 (grind (arith, nat_tests, e)); greater = differs (48 + d) 62 (grind (arith, nat_tests, e)) }
    by false e = record { less = differs (87 + d) 60 (omega arith); greater = differs (87 + d) 62 (omega arith) }

either : (t : Bool) (xs ys : List ℕ) → All IsCalm xs → All IsCalm ys → All IsCalm (cond t xs ys)
either true xs ys h k = h
either false xs ys h k = k

calm_digits : (k n : ℕ) (acc : List ℕ) → All IsCalm acc → All IsCalm (digits_onto k 10 false n acc)
calm_digits zero n acc h = h
calm_digits (suc k) n acc h =
    let more = All-cons IsCalm (digit_glyph false (n % 10)) acc (calm_glyph (n % 10)) h in
    either (n / 10 == 0) (digit_glyph false (n % 10) ∷ acc) (digits_onto k 10 false (n / 10) (digit_glyph false (n % 10) ∷ acc)) more (calm_digits k (n / 10) (digit_glyph false (n % 10) ∷ acc) more)

calm_decimal : (n : ℕ) → All IsCalm (decimal n)
unfolding digits
calm_decimal n = calm_digits 64 n [] (All-nil IsCalm)

calm_sign : (b : ℕ) (bs : List ℕ) → b ≢ 60 → b ≢ 62 → All IsCalm bs → All IsCalm (b ∷ bs)
calm_sign b bs l g h = All-cons IsCalm b bs (record { less = differs b 60 l; greater = differs b 62 g }) h

calm_signed : (z : ℤ) → All IsCalm (signed_decimal z)
calm_signed (pos n) = calm_decimal n
calm_signed (negsuc n) = calm_sign 45 (decimal (suc n)) (omega arith) (omega arith) (calm_decimal (suc n))

calm_number : (q : ℚ) → All IsCalm (printed q)
calm_number q =
    let num = calm_signed q.num in
    either (q.den == 1) (signed_decimal q.num) (signed_decimal q.num ++ (47 ∷ decimal q.den)) num
    (All-append IsCalm (signed_decimal q.num) (47 ∷ decimal q.den) num (calm_sign 47 (decimal q.den) (omega arith) (omega arith) (calm_decimal q.den)))

-- ---- pieces
-- the bytes of a piece that may stand lead where it does
piece_leads : (place : Place) (p : Piece) → behind_piece place p ≢ Place.Nowhere → behind_bytes place (piece_bytes p) ≡ behind_piece place p
piece_leads place (Piece.Fixed bytes) h = refl
piece_leads Place.Running (Piece.Text text) h = all_stay Place.Running (escaped text) (calm_text text)
piece_leads Place.Tag (Piece.Text text) h = absurd (h refl)
piece_leads Place.Nowhere (Piece.Text text) h = absurd (h refl)
piece_leads place (Piece.Number q) h = all_stay place (printed q) (calm_number q)
piece_leads place (Piece.Whole z) h = all_stay place (signed_decimal z) (calm_signed z)
piece_leads place (Piece.Count n) h = all_stay place (decimal n) (calm_decimal n)

-- from no place none is come to
no_way : (p : Piece) → behind_piece Place.Nowhere p ≡ Place.Nowhere
no_way (Piece.Fixed bytes) = fold_stays behind Place.Nowhere (λ b. refl) bytes
no_way (Piece.Text text) = refl
no_way (Piece.Number q) = refl
no_way (Piece.Whole z) = refl
no_way (Piece.Count n) = refl

lost : (ps : List Piece) → behind_pieces Place.Nowhere ps ≡ Place.Nowhere
lost ps = fold_stays behind_piece Place.Nowhere no_way ps

apart : Place.Running ≢ Place.Nowhere
apart e = absurd (cc)

fronts : (place : Place) (front back : List Piece) → behind_pieces place (front ++ back) ≡ Place.Running → behind_bytes place (bytes_of front) ≡ behind_pieces place front
fronts place [] back h = refl
fronts place (p ∷ front) back h =
    let there : behind_piece place p ≢ Place.Nowhere = λ e. apart (sym h ∙ (ap (λ q. behind_pieces q (front ++ back)) e ∙ lost (front ++ back))) in
    fold-append behind place (piece_bytes p) (bytes_of front)
    ∙ (ap (λ q. behind_bytes q (bytes_of front)) (piece_leads place p there) ∙ fronts (behind_piece place p) front back h)

pub law : MarkupLaw
law = record { head = refl; fronts = fronts Place.Running }
