-- A thing and then another are read as both.
use Rattle.std.proofs.Common.{◌≡◌, refl, sym, ap, subst, ◌∙◌, ℕ, Bool, true, false, true≢false, ◌&&◌, ◌||◌, List, [], ◌∷◌, ◌++◌, append_assoc, arith, ◌⊎◌, inl, inr}
use Rattle.std.specs.Prelude.{All, Result, Ok, Err}
use Rattle.std.specs.Borrow.{Bor}
use Rattle.std.proofs.lemmas.Bool.{or_left, or_right, or_parts, or_from}
use Rattle.std.proofs.lemmas.List.{length-append, map-append, append_cancel_left}
use Rattle.std.proofs.lemmas.List.Elements.{All-nil, All-cons, All-head, All-append}
use Rattle.phrase_reader.specs.Parts.{parts}
use Rattle.phrase_reader.specs.Phrases.{IsPhraseFor, Says}
use Rattle.phrase_reader.proofs.OnePhrase.{phrases_one}
use Rattle.lp_model.specs.Program.{Program, IsWellFormed}
use Rattle.report_text.specs.declared.phrases.Phrase.{Phrase}
use Rattle.report_text.specs.Grammar.{Line, phrase_line, lines_of}
use Rattle.report_reader.specs.declared.reader.ReportStop.{ReportStop}
use Rattle.report_reader.specs.declared.reader.ReportStop.TheVariants.{BadLine, Truncated, Memory}
use Rattle.report_reader.specs.declared.cursor.Cursor.{Cursor}
use Rattle.report_reader.specs.Kinds.{Kind, both, is_none, begins, IsFrontOf, IsWrong, IsStop, lines_from, IsPassed, IsReading, IsEnded, IsRead, IsCursor}

-- a thing of the kind is known by what it says, where nothing behind goes on with it
abbrev pub Alone : Kind → Type 0
Alone K = (a b : K.Value) (m n : List Phrase) → K.IsFor a → K.IsFor b → K.said a ++ m ≡ K.said b ++ n → begins (K.goes_on a) m ≡ false → begins (K.goes_on b) n ≡ false → a ≡ b

-- one kind may stand behind another: what stands there does not go on with the first
pub record Follows (X Y : Kind) : Type 0 where
  pub alone : Alone X
  pub some : Y.Value
  pub form : Y.IsFor some
  pub apart : (x : X.Value) (y : Y.Value) → begins (X.goes_on x) (Y.said y) ≡ false

-- no phrase goes on with it, it says something, and it is known by what it says
pub record Ends (K : Kind) : Type 0 where
  pub alone : Alone K
  pub off : (v : K.Value) (q : Phrase) → K.goes_on v q ≡ false
  pub some : (v : K.Value) → is_none (K.said v) ≡ false

-- ---- what phrases begin with
-- what goes on with a thing behind phrases, of which none does, goes on with both
behind : (f g : Phrase → Bool) (ps more : List Phrase) → begins f (ps ++ more) ≡ true → begins f ps ≡ false → begins (λ q. g q || (f q && is_none ps)) more ≡ true
behind f g [] [] h k = absurd (true≢false (sym h))
behind f g [] (q ∷ more) h k = or_right (g q) (f q && true) (ap (λ b. b && true) h)
behind f g (p ∷ ps) more h k = absurd (true≢false (sym h ∙ k))

pub not_behind : (f g : Phrase → Bool) (ps more : List Phrase) → begins (λ q. g q || (f q && is_none ps)) more ≡ false → begins f ps ≡ false → begins f (ps ++ more) ≡ false
not_behind f g [] [] h k = refl
not_behind f g [] (q ∷ more) h k = and_off (f q) ((or_parts (g q) (f q && true) h).1)
  where
    and_off : (b : Bool) → (b && true) ≡ false → b ≡ false
    and_off true e = e
    and_off false e = refl
not_behind f g (p ∷ ps) more h k = k

-- what does not go on with both does not go on with the second
pub only_second : (f g : Phrase → Bool) (b : Bool) (more : List Phrase) → begins (λ q. g q || (f q && b)) more ≡ false → begins g more ≡ false
only_second f g b [] h = refl
only_second f g b (q ∷ more) h = (or_parts (g q) (f q && b) h).0

second : (f g : Phrase → Bool) (b : Bool) (more : List Phrase) → begins g more ≡ true → begins (λ q. g q || (f q && b)) more ≡ true
second f g b [] h = h
second f g b (q ∷ more) h = or_left (g q) (f q && b) h

-- the rest of equal lists behind equal fronts
pub rest_of : (a b : List Phrase) (m n : List Phrase) → a ≡ b → a ++ m ≡ b ++ n → m ≡ n
rest_of a b m n e h = append_cancel_left a m n (h ∙ ap (λ l. l ++ n) (sym e))

module _ (model : Program) (names : IsWellFormed model) where
  -- one line says one phrase
  pub phrase_one : (line : Line) (p q : Phrase) → Says model line p → Says model line q → p ≡ q
  phrase_one line p q h k =
      let e = phrases_one model names (p ∷ []) (q ∷ []) (All-cons (IsPhraseFor model) p [] h.form (All-nil (IsPhraseFor model))) (All-cons (IsPhraseFor model) q [] k.form (All-nil (IsPhraseFor model))) (ap (λ l. l ∷ []) (sym h.text ∙ k.text)) in
      cc

  -- phrases that lines say are none, or begin with what the first line says
  pub front_starts : (q : Phrase) (rest : List ℕ) (said : List Phrase) (back : List Line) → lines_from model q rest ≡ lines_of model said ++ back → All (IsPhraseFor model) said → IsPhraseFor model q → (said ≡ []) ⊎ ((tail : List Phrase) × (said ≡ q ∷ tail))
  front_starts q rest [] back e each form = inl refl
  front_starts q rest (s ∷ said) back e each form =
      let same : phrase_line model q ≡ phrase_line model s = cc in
      inr (said, ap (λ r. r ∷ said) (phrase_one (phrase_line model q) s q (record { form = All-head (IsPhraseFor model) s said each; text = same }) (record { form = form; text = refl })))

  pub head_said : (q : Phrase) (rest : List ℕ) (said : List Phrase) (line : Line) (back : List Line) (r : Phrase) (tail : List Phrase) → lines_from model q rest ≡ lines_of model said ++ line ∷ back → All (IsPhraseFor model) said → IsPhraseFor model q → Says model line r
      → (more : List Phrase) × (said ++ r ∷ tail ≡ q ∷ more)
  head_said q rest said line back r tail e each form is = elim (front_starts q rest said (line ∷ back) e each form) [
    | inl none ↦
        let cut : phrase_line model q ∷ parts 10 rest ≡ line ∷ back = e ∙ ap (λ l. lines_of model l ++ line ∷ back) none in
        let same : phrase_line model q ≡ line = cc in
        (tail, ap (λ l. l ++ r ∷ tail) none ∙ ap (λ x. x ∷ tail) (phrase_one line r q is (record { form = form; text = sym same })))
    | inr some ↦ (some.0 ++ r ∷ tail, ap (λ l. l ++ r ∷ tail) some.1)
  ]

  pub first_said : (test : Phrase → Bool) (q : Phrase) (rest : List ℕ) (said : List Phrase) (line : Line) (back : List Line) (r : Phrase) (tail : List Phrase) → lines_from model q rest ≡ lines_of model said ++ line ∷ back → All (IsPhraseFor model) said → IsPhraseFor model q → Says model line r → test q ≡ false
      → begins test (said ++ r ∷ tail) ≡ false
  first_said test q rest said line back r tail e each form is off = ap (begins test) (head_said q rest said line back r tail e each form is).1 ∙ off

  module _ (X Y : Kind) (f : Follows X Y) where
    pub both_alone : Alone Y → Alone (both X Y)
    both_alone alone a b m n ha hb e na nb =
        let s = append_assoc (X.said a.0) (Y.said a.1) m in
        let t = append_assoc (X.said b.0) (Y.said b.1) n in
        let e2 : X.said a.0 ++ (Y.said a.1 ++ m) ≡ X.said b.0 ++ (Y.said b.1 ++ n) = sym s ∙ e ∙ t in
        let x = f.alone a.0 b.0 (Y.said a.1 ++ m) (Y.said b.1 ++ n) ha.0 hb.0 e2
        (not_behind (X.goes_on a.0) (Y.goes_on a.1) (Y.said a.1) m na (f.apart a.0 a.1))
        (not_behind (X.goes_on b.0) (Y.goes_on b.1) (Y.said b.1) n nb (f.apart b.0 b.1)) in
        let y = alone a.1 b.1 m n ha.1 hb.1 (rest_of (X.said a.0) (X.said b.0) (Y.said a.1 ++ m) (Y.said b.1 ++ n) (ap X.said x) e2)
        (only_second (X.goes_on a.0) (Y.goes_on a.1) (is_none (Y.said a.1)) m na)
        (only_second (X.goes_on b.0) (Y.goes_on b.1) (is_none (Y.said b.1)) n nb) in
        ap (λ x. (x, a.1)) x ∙ ap (λ y. (b.0, y)) y

    -- what ends ends both
    pub behind_ends : Ends Y → Ends (both X Y)
    behind_ends e = record {
      alone = both_alone e.alone;
      off = λ v q. or_from (Y.goes_on v.1 q) (X.goes_on v.0 q && is_none (Y.said v.1)) (e.off v.1 q) (and_off (X.goes_on v.0 q) (is_none (Y.said v.1)) (e.some v.1));
      some = λ v. some_behind (X.said v.0) (Y.said v.1) (e.some v.1);
    }
      where
        and_off : (a b : Bool) → b ≡ false → (a && b) ≡ false
        and_off true b h = h
        and_off false b h = refl

        some_behind : (a b : List Phrase) → is_none b ≡ false → is_none (a ++ b) ≡ false
        some_behind [] b h = h
        some_behind (p ∷ a) b h = refl

    -- a front of the first is one of both
    pub front_first : (said : List Phrase) → IsFrontOf X said → IsFrontOf (both X Y) said
    front_first said h = record {
      value = (h.value, f.some);
      form = (h.form, f.form);
      more = h.more ++ Y.said f.some;
      is = ap (λ l. l ++ Y.said f.some) h.is ∙ append_assoc said h.more (Y.said f.some);
    }

    front_second : (x : X.Value) (said : List Phrase) → X.IsFor x → IsFrontOf Y said → IsFrontOf (both X Y) (X.said x ++ said)
    front_second x said hx h = record {
      value = (x, h.value);
      form = (hx, h.form);
      more = h.more;
      is = ap (λ l. X.said x ++ l) h.is ∙ sym (append_assoc (X.said x) said h.more);
    }

    -- reading stops within the first
    pub stop_first : (lines : List Line) (first : ℕ) (stop : ReportStop) → IsStop model X lines first stop → IsStop model (both X Y) lines first stop
    stop_first lines first (BadLine n) h = record {
      said = h.said;
      line = h.line;
      back = h.back;
      cut = h.cut;
      whole = h.whole;
      number = h.number;
      each = h.each;
      right = front_first h.said h.right;
      wrong = λ q says v more rest form e.
          behind (X.goes_on v.0) (Y.goes_on v.1) (Y.said v.1) more
          (h.wrong q says v.0 (Y.said v.1 ++ more) rest form.0 (sym (append_assoc (X.said v.0) (Y.said v.1) more) ∙ e)) (f.apart v.0 v.1);
    }
    stop_first lines first Truncated h = record { said = h.said; last = h.last; cut = h.cut; each = h.each; right = front_first h.said h.right }
    stop_first lines first Memory h = tt

    -- or within the second
    module _ (lines : List Line) (first : ℕ) (x : X.Value) (q : Phrase) (rest : List ℕ) (number : ℕ) (passed : IsPassed model X lines first x (lines_from model q rest) number) (form : IsPhraseFor model q) (ended : X.goes_on x q ≡ false) where
      lines_behind : (said : List Phrase) (back : List Line) → lines_from model q rest ≡ lines_of model said ++ back → lines ≡ lines_of model (X.said x ++ said) ++ back
      lines_behind said back e =
          passed.cut ∙ ap (λ l. lines_of model (X.said x) ++ l) e ∙ sym (append_assoc (lines_of model (X.said x)) (lines_of model said) back)
          ∙ ap (λ l. l ++ back) (sym (map-append (phrase_line model) (X.said x) said))

      wrong_second : (said : List Phrase) (r : Phrase) → ((tail : List Phrase) → begins (X.goes_on x) (said ++ r ∷ tail) ≡ false) → IsWrong Y said r → IsWrong (both X Y) (X.said x ++ said) r
      wrong_second said r off wrong v more tail forms e = by (begins (X.goes_on v.0) (Y.said v.1 ++ more)) refl
        where
          split : X.said v.0 ++ (Y.said v.1 ++ more) ≡ X.said x ++ (said ++ r ∷ tail)
          split = sym (append_assoc (X.said v.0) (Y.said v.1) more) ∙ e ∙ append_assoc (X.said x) said (r ∷ tail)

          by : (b : Bool) → begins (X.goes_on v.0) (Y.said v.1 ++ more) ≡ b → begins ((both X Y).goes_on v) more ≡ true
          by true h = behind (X.goes_on v.0) (Y.goes_on v.1) (Y.said v.1) more h (f.apart v.0 v.1)
          by false h =
              let same = f.alone v.0 x (Y.said v.1 ++ more) (said ++ r ∷ tail) forms.0 passed.form split h (off tail) in
              second (X.goes_on v.0) (Y.goes_on v.1) (is_none (Y.said v.1)) more
              (wrong v.1 more tail forms.1 (rest_of (X.said v.0) (X.said x) (Y.said v.1 ++ more) (said ++ r ∷ tail) (ap X.said same) split))

      pub stop_second : (stop : ReportStop) → IsStop model Y (lines_from model q rest) number stop → IsStop model (both X Y) lines first stop
      stop_second (BadLine n) h = record {
        said = X.said x ++ h.said;
        line = h.line;
        back = h.back;
        cut = lines_behind h.said (h.line ∷ h.back) h.cut;
        whole = h.whole;
        number = (let a = h.number in let b = passed.number in let c = length-append (X.said x) h.said in omega arith);
        each = All-append (IsPhraseFor model) (X.said x) h.said passed.each h.each;
        right = front_second x h.said passed.form h.right;
        wrong = λ r says. wrong_second h.said r (λ tail. first_said (X.goes_on x) q rest h.said h.line h.back r tail h.cut h.each form says ended) (h.wrong r says);
      }
      stop_second Truncated h = record {
        said = X.said x ++ h.said;
        last = h.last;
        cut = lines_behind h.said (h.last ∷ []) h.cut;
        each = All-append (IsPhraseFor model) (X.said x) h.said passed.each h.each;
        right = front_second x h.said passed.form h.right;
      }
      stop_second Memory h = tt

      passed_both : (y : Y.Value) (left : List Line) (n : ℕ) → IsPassed model Y (lines_from model q rest) number y left n → IsPassed model (both X Y) lines first (x, y) left n
      passed_both y left n h = record {
        form = (passed.form, h.form);
        cut = lines_behind (Y.said y) left h.cut;
        each = All-append (IsPhraseFor model) (X.said x) (Y.said y) passed.each h.each;
        number = (let a = h.number in let b = passed.number in let c = length-append (X.said x) (Y.said y) in omega arith);
      }

    -- what ends both
    ended_both : (x : X.Value) (y : Y.Value) (left : List Line) (n : ℕ) (q p : Phrase) (rest : List ℕ) (number : ℕ) → X.goes_on x q ≡ false → IsPassed model Y (lines_from model q rest) number y left n → Y.goes_on y p ≡ false → (is_none (Y.said y) ≡ true → X.goes_on x p ≡ false) → (both X Y).goes_on (x, y) p ≡ false
    ended_both x y left n q p rest number off passed ended same = or_from (Y.goes_on y p) (X.goes_on x p && is_none (Y.said y)) ended (by (X.goes_on x p) (is_none (Y.said y)) same)
      where
        by : (f b : Bool) → (b ≡ true → f ≡ false) → (f && b) ≡ false
        by false b h = refl
        by true true h = h refl
        by true false h = refl

    -- where the second says nothing the same line is next
    same_next : (x : X.Value) (y : Y.Value) (q p : Phrase) (rest after : List ℕ) (number n : ℕ) → IsPhraseFor model q → IsPhraseFor model p → X.goes_on x q ≡ false → IsPassed model Y (lines_from model q rest) number y (lines_from model p after) n → is_none (Y.said y) ≡ true → X.goes_on x p ≡ false
    same_next x y q p rest after number n hq hp off passed none =
        let nothing : (ps : List Phrase) → is_none ps ≡ true → ps ≡ [] = nothing_said in
        let cut : lines_from model q rest ≡ lines_from model p after = passed.cut ∙ ap (λ ps. lines_of model ps ++ lines_from model p after) (nothing (Y.said y) none) in
        let line : phrase_line model q ≡ phrase_line model p = cc in
        ap (X.goes_on x) (phrase_one (phrase_line model p) p q (record { form = hp; text = refl }) (record { form = hq; text = sym line })) ∙ off
      where
        nothing_said : (ps : List Phrase) → is_none ps ≡ true → ps ≡ []
        nothing_said [] h = refl
        nothing_said (p ∷ ps) h = absurd (true≢false (sym h))

    module _ (a : Cursor) (c : Cursor) (x : X.Value) (y : Y.Value) where
      by_cursors : (s t u : Result Phrase ReportStop) (n : ℕ) (r : Bor (List ℕ)) (k : ℕ) (o : Bor (List ℕ)) (l : ℕ) (w : Bor (List ℕ))
          → IsRead model X (record { ahead = s; number = n; rest = r }) (record { ahead = t; number = k; rest = o }) x → IsCursor model (record { ahead = t; number = k; rest = o }) → IsRead model Y (record { ahead = t; number = k; rest = o }) (record { ahead = u; number = l; rest = w }) y → IsCursor model (record { ahead = u; number = l; rest = w })
          → IsRead model (both X Y) (record { ahead = s; number = n; rest = r }) (record { ahead = u; number = l; rest = w }) (x, y)
      by_cursors (Err s) t u n r k o l w h hc i ic =
          let same = h.reading in
          let again : IsReading model Y (record { ahead = Err s; number = n; rest = r }) (record { ahead = u; number = l; rest = w }) y = subst (λ (z : Cursor). IsReading model Y z (record { ahead = u; number = l; rest = w }) y) same i.reading in
          record { reading = again; ended = subst (λ (z : Cursor). IsEnded (both X Y) (x, y) z.ahead) (sym again) tt }
      by_cursors (Ok p) (Err t) u n r k o l w h hc i ic =
          let same = i.reading in
          subst (λ (z : Cursor). IsRead model (both X Y) (record { ahead = Ok p; number = n; rest = r }) z (x, y)) (sym same)
          (record { reading = stop_first (lines_from model p r.now) n t h.reading; ended = tt })
      by_cursors (Ok p) (Ok q) (Err u) n r k o l w h hc i ic = record { reading = stop_second (lines_from model p r.now) n x q o.now k h.reading hc.at.0 h.ended u i.reading; ended = tt }
      by_cursors (Ok p) (Ok q) (Ok v) n r k o l w h hc i ic = record {
        reading = passed_both (lines_from model p r.now) n x q o.now k h.reading hc.at.0 h.ended y (lines_from model v w.now) l i.reading;
        ended = ended_both x y (lines_from model v w.now) l q v o.now k h.ended i.reading i.ended (same_next x y q v o.now w.now k l hc.at.0 ic.at.0 h.ended i.reading);
      }

    pub both_read : (a b c : Cursor) (x : X.Value) (y : Y.Value) → IsRead model X a b x → IsCursor model b → IsRead model Y b c y → IsCursor model c → IsRead model (both X Y) a c (x, y)
    both_read a b c x y h hc i ic = by_cursors a c x y a.ahead b.ahead c.ahead a.number a.rest b.number b.rest c.number c.rest h hc i ic
