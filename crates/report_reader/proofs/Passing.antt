-- One line more: what it makes of a thing that is read.
use Rattle.std.proofs.Common.{◌≡◌, ◌≢◌, ◌<◌, ◌-◌, refl, sym, ap, subst, ◌∙◌, ℕ, ◌+◌, Bool, true, false, true≢false, cond, List, [], ◌∷◌, ◌++◌, length, append_assoc, append-nil, Option, Some, None, is_some, arith, ◌⊎◌, inl, inr}
use Rattle.std.specs.Prelude.{All, map, unwrap_or, Result, Ok, Err}
use Rattle.std.proofs.lemmas.List.{length-append, map-append}
use Rattle.std.proofs.lemmas.List.Elements.{All-nil, All-push, All-append}
use Rattle.phrase_reader.specs.Parts.{parts}
use Rattle.phrase_reader.specs.Phrases.{IsPhraseFor}
use Rattle.phrase_reader.proofs.Spelling.{some_parts}
use Rattle.lp_model.specs.Program.{Program, IsWellFormed}
use Rattle.report_text.specs.declared.phrases.Phrase.{Phrase}
use Rattle.report_text.specs.Grammar.{Line, phrase_line, lines_of}
use Rattle.report_reader.specs.declared.reader.ReportStop.{ReportStop}
use Rattle.report_reader.specs.declared.reader.ReportStop.TheVariants.{BadLine, Truncated, Memory}
use Rattle.report_reader.specs.declared.cursor.Cursor.{Cursor}
use Rattle.report_reader.specs.Kinds.{Kind, word, one, list, next_in, is_there, begins, IsFrontOf, IsWrong, IsBad, IsStop, lines_from, IsOutcome, IsReading, IsReadingFrom, IsEnded, IsRead, IsAhead, IsCursor, IsCursorAt, IsLookedAt, Passes, PassesFrom, Pushes}
use Rattle.report_reader.specs.Things.{found, may_any}
use Rattle.report_reader.proofs.Both.{Alone, phrase_one, front_starts, head_said}

-- what the next line says
abbrev pub says : Phrase → Result Phrase ReportStop
says p = Ok p

-- how many lines there can be from one on
abbrev pub room : Result Phrase ReportStop → ℕ → ℕ
room (Ok p) n = 2147483648 - n
room (Err stop) n = 0

-- one phrase is next
pub one_ahead : (p q : Phrase) → says p ≡ says q → p ≡ q
one_ahead p q e = cc

-- where any element may stand, what is found comes next
pub any_next : {X : Type 0} (xs : List X) (o : Option X) → next_in may_any xs o ≡ o
any_next xs None = refl
any_next xs (Some x) = refl

module _ (model : Program) where
  -- phrases are passed, and the line of another is next
  pub record HasCome (lines : List Line) (first : ℕ) (said : List Phrase) (p : Phrase) (rest : List ℕ) (n : ℕ) : Type 0 where
    pub cut : lines ≡ lines_of model said ++ lines_from model p rest
    pub each : All (IsPhraseFor model) said
    pub form : IsPhraseFor model p
    pub number : n ≡ first + length said

  -- so are those of a thing that need not be whole, or reading stopped within it
  abbrev pub Came : Kind → List Line → ℕ → List Phrase → Result Phrase ReportStop → Cursor → Type 0
  Came K lines first said (Ok q) mid = HasCome lines first said q mid.rest.now mid.number
  Came K lines first said (Err stop) mid = IsStop model K lines first stop

  abbrev pub ComesFrom : Kind → Result Phrase ReportStop → Cursor → Cursor → List Phrase → Type 0
  ComesFrom K (Ok p) old mid said = Came K (lines_from model p old.rest.now) old.number said mid.ahead mid
  ComesFrom K (Err stop) old mid said = mid ≡ old

  abbrev pub Comes : Kind → Cursor → Cursor → List Phrase → Type 0
  Comes K old mid said = ComesFrom K old.ahead old mid said

  -- what a loop keeps that reads a thing
  pub record Looping (K : Kind) (old mid : Cursor) (value : K.Value) : Type 0 where
    pub stands : IsCursor model mid
    pub reading : IsReading model K old mid value
    pub form : K.IsFor value

  -- the phrase that is next is one for the program
  pub looked_at : (mid : Cursor) → IsCursor model mid → IsLookedAt model mid.ahead
  looked_at mid c = by mid.ahead c.at
    where
      by : (s : Result Phrase ReportStop) → IsCursorAt model s mid → IsLookedAt model s
      by (Ok q) h = h.0
      by (Err stop) h = tt

module _ (model : Program) (names : IsWellFormed model) where
  pub come_start : (p : Phrase) (rest : List ℕ) (n : ℕ) → IsPhraseFor model p → HasCome model (lines_from model p rest) n [] p rest n
  come_start p rest n form = record { cut = refl; each = All-nil (IsPhraseFor model); form = form; number = omega arith }

  -- what a phrase that is passed leads to
  pub further : (K : Kind) (lines : List Line) (first : ℕ) (said : List Phrase) (p : Phrase) (rest : List ℕ) (n : ℕ) (value : K.Value) (s : Result Phrase ReportStop) (new : Cursor) → HasCome model lines first said p rest n → K.IsFor value → K.said value ≡ said ++ p ∷ []
      → new.number ≡ n + 1 → IsAhead model new.number rest s new.rest.now → IsOutcome model K lines first value s new
  further K lines first said p rest n value (Ok q) new h form is number ahead = record {
    form = form;
    cut = h.cut ∙ ap (λ l. lines_of model said ++ phrase_line model p ∷ l) ahead.0 ∙ sym (append_assoc (lines_of model said) (phrase_line model p ∷ []) (lines_from model q new.rest.now)) ∙ ap (λ l. l ++ lines_from model q new.rest.now) (sym (map-append (phrase_line model) said (p ∷ [])) ∙ ap (lines_of model) (sym is));
    each = subst (All (IsPhraseFor model)) (sym is) (All-push (IsPhraseFor model) said p h.each h.form);
    number = (let a = h.number in let b = ap length is in let c = length-append said (p ∷ []) in omega arith);
  }
  further K lines first said p rest n value (Err (BadLine m)) new h form is number ahead = record {
    said = said ++ p ∷ [];
    line = ahead.1.line;
    back = ahead.1.back;
    cut = h.cut ∙ ap (λ l. lines_of model said ++ phrase_line model p ∷ l) ahead.1.cut ∙ sym (append_assoc (lines_of model said) (phrase_line model p ∷ []) (ahead.1.line ∷ ahead.1.back)) ∙ ap (λ l. l ++ ahead.1.line ∷ ahead.1.back) (sym (map-append (phrase_line model) said (p ∷ [])));
    whole = ahead.1.whole;
    number = (let a = h.number in let b = ahead.0 in let c = length-append said (p ∷ []) in omega arith);
    each = All-push (IsPhraseFor model) said p h.each h.form;
    right = record { value = value; form = form; more = []; is = is ∙ sym (append-nil (said ++ p ∷ [])) };
    wrong = λ q says. absurd (ahead.1.unsaid q says);
  }
  further K lines first said p rest n value (Err Truncated) new h form is number ahead = record {
    said = said ++ p ∷ [];
    last = rest;
    cut = h.cut ∙ ap (λ l. lines_of model said ++ phrase_line model p ∷ l) ahead ∙ sym (append_assoc (lines_of model said) (phrase_line model p ∷ []) (rest ∷ [])) ∙ ap (λ l. l ++ rest ∷ []) (sym (map-append (phrase_line model) said (p ∷ [])));
    each = All-push (IsPhraseFor model) said p h.each h.form;
    right = record { value = value; form = form; more = []; is = is ∙ sym (append-nil (said ++ p ∷ [])) };
  }
  further K lines first said p rest n value (Err Memory) new h form is number ahead = tt

  -- what a phrase that is wrong leads to
  pub refused : (K : Kind) (lines : List Line) (first : ℕ) (said : List Phrase) (p : Phrase) (rest : List ℕ) (n : ℕ) → HasCome model lines first said p rest n → IsFrontOf K said → IsWrong K said p → IsBad model K lines first n
  refused K lines first said p rest n h right wrong = record {
    said = said;
    line = phrase_line model p;
    back = parts 10 rest;
    cut = h.cut;
    whole = some_parts 10 rest;
    number = h.number;
    each = h.each;
    right = right;
    wrong = λ q says. subst (λ (r : Phrase). IsWrong K said r) (sym (phrase_one model names (phrase_line model p) q p says (record { form = h.form; text = refl }))) wrong;
  }

  -- ---- things of one line
  never_on : (X : Type 0) (say : X → Phrase) (Is : X → Type 0) (x : X) (s : Result Phrase ReportStop) → IsEnded (one X say Is) x s
  never_on X say Is x (Ok q) = refl
  never_on X say Is x (Err stop) = tt

  module _ (X : Type 0) (say : X → Phrase) (find : Phrase → Option X) (Is : X → Type 0)
      (finds : (q : Phrase) (x : X) → find q ≡ Some x → q ≡ say x) (finds_it : (x : X) → find (say x) ≡ Some x) (is : (x : X) → IsPhraseFor model (say x) → Is x) (some : X) (some_is : Is some) where
    one_wrong : (p : Phrase) → find p ≡ None → IsWrong (one X say Is) [] p
    one_wrong p none x more rest form e =
        let same : say x ≡ p = cc in
        let s : Some x ≡ None = sym (finds_it x) ∙ ap find same ∙ none in
        absurd (cc)

    one_from : (s : Result Phrase ReportStop) (o : Option X) (old new : Cursor) (x other : X) → o ≡ found find s → IsCursorAt model s old → PassesFrom model s (is_some o) old new → x ≡ unwrap_or o other → IsReadingFrom model (one X say Is) s old new x
    one_from (Err stop) o old new x other e c h r = h
    one_from (Ok p) None old new x other e c h r =
        let t = refused (one X say Is) (lines_from model p old.rest.now) old.number [] p old.rest.now old.number (come_start p old.rest.now old.number c.0)
        (record { value = some; form = some_is; more = say some ∷ []; is = refl }) (one_wrong p (sym e)) in
        subst (λ (z : Cursor). IsOutcome model (one X say Is) (lines_from model p old.rest.now) old.number x z.ahead z) (sym h) t
    one_from (Ok p) (Some y) old new x other e c h r =
        let same = finds p y (sym e) in
        further (one X say Is) (lines_from model p old.rest.now) old.number [] p old.rest.now old.number x new.ahead new (come_start p old.rest.now old.number c.0)
        (subst Is (sym r) (is y (subst (IsPhraseFor model) same c.0))) (ap (λ z. say z ∷ []) r ∙ ap (λ q. q ∷ []) (sym same)) h.0 h.1

    pub one_read : (o : Option X) (old new : Cursor) (x other : X) → o ≡ found find old.ahead → IsCursor model old → Passes model (is_some o) old new → x ≡ unwrap_or o other → IsRead model (one X say Is) old new x
    one_read o old new x other e c h r = record { reading = one_from old.ahead o old new x other e c.at h r; ended = never_on X say Is x new.ahead }

    pub one_alone : ((x y : X) → say x ≡ say y → x ≡ y) → Alone (one X say Is)
    one_alone apart x y m n hx hy e a b = apart x y cc

  -- ---- known phrases
  word_from : (p : Phrase) (right : Bool) (s : Result Phrase ReportStop) (old new : Cursor) → (right ≡ true → (q : Phrase) → s ≡ Ok q → q ≡ p) → (right ≡ false → s ≢ Ok p) → IsCursorAt model s old → PassesFrom model s right old new → IsReadingFrom model (word p) s old new tt
  word_from p right (Err stop) old new on off c h = h
  word_from p true (Ok q) old new on off c h =
      further (word p) (lines_from model q old.rest.now) old.number [] q old.rest.now old.number tt new.ahead new (come_start q old.rest.now old.number c.0) tt (ap (λ r. r ∷ []) (sym (on refl q refl))) h.0 h.1
  word_from p false (Ok q) old new on off c h =
      let t = refused (word p) (lines_from model q old.rest.now) old.number [] q old.rest.now old.number (come_start q old.rest.now old.number c.0) (record { value = tt; form = tt; more = p ∷ []; is = refl })
      (λ done more rest form e. absurd (off refl (ap Ok (let same : p ≡ q = cc in sym same)))) in
      subst (λ (z : Cursor). IsOutcome model (word p) (lines_from model q old.rest.now) old.number tt z.ahead z) (sym h) t

  word_on : (p : Phrase) (s : Result Phrase ReportStop) → IsEnded (word p) tt s
  word_on p (Ok q) = refl
  word_on p (Err stop) = tt

  pub word_read : (p : Phrase) (right : Bool) (old new : Cursor) → (right ≡ true → (q : Phrase) → old.ahead ≡ Ok q → q ≡ p) → (right ≡ false → old.ahead ≢ Ok p) → IsCursor model old → Passes model right old new → IsRead model (word p) old new tt
  word_read p right old new on off c h = record { reading = word_from p right old.ahead old new on off c.at h; ended = word_on p new.ahead }

  pub word_alone : (p : Phrase) → Alone (word p)
  word_alone p a b m n ha hb e na nb = refl

  -- ---- loops
  -- nothing is read yet
  pub start_reading : (K : Kind) (value : K.Value) (old : Cursor) → IsCursor model old → K.IsFor value → K.said value ≡ [] → IsReading model K old old value
  start_reading K value old c form none = from old.ahead refl c.at
    where
      outcome : (p : Phrase) (s : Result Phrase ReportStop) → s ≡ Ok p → IsOutcome model K (lines_from model p old.rest.now) old.number value s old
      outcome p (Ok q) e =
          let same : q ≡ p = cc in
          record {
            form = form;
            cut = ap (λ r. lines_from model r old.rest.now) (sym same) ∙ ap (λ l. lines_of model l ++ lines_from model q old.rest.now) (sym none);
            each = subst (All (IsPhraseFor model)) (sym none) (All-nil (IsPhraseFor model));
            number = (let a = ap length none in omega arith);
          }
      outcome p (Err stop) e = absurd (cc)

      from : (s : Result Phrase ReportStop) → old.ahead ≡ s → IsCursorAt model s old → IsReadingFrom model K s old old value
      from (Ok p) e c = outcome p old.ahead e
      from (Err stop) e c = refl

  -- reading so far came to the line that is next
  pub come_from : (K : Kind) (old mid : Cursor) (a : K.Value) (p q : Phrase) → old.ahead ≡ Ok p → mid.ahead ≡ Ok q → IsReading model K old mid a → IsCursor model mid → HasCome model (lines_from model p old.rest.now) old.number (K.said a) q mid.rest.now mid.number
  come_from K old mid a p q e f h c =
      let t = subst (λ s. IsReadingFrom model K s old mid a) e h in
      let u = subst (λ s. IsOutcome model K (lines_from model p old.rest.now) old.number a s mid) f t in
      record { cut = u.cut; each = u.each; form = (subst (λ s. IsCursorAt model s mid) f c.at).0; number = u.number }

  -- where reading had stopped it had stopped before
  pub begun_before : (K : Kind) (old mid : Cursor) (a : K.Value) (q : Phrase) → mid.ahead ≡ Ok q → IsReading model K old mid a → (p : Phrase) × (old.ahead ≡ Ok p)
  begun_before K old mid a q f h = by old.ahead refl
    where
      by : (s : Result Phrase ReportStop) → old.ahead ≡ s → (p : Phrase) × (old.ahead ≡ Ok p)
      by (Ok p) e = (p, e)
      by (Err stop) e =
          let same = subst (λ s. IsReadingFrom model K s old mid a) e h in
          let t : Ok q ≡ Err stop = sym f ∙ ap (λ (z : Cursor). z.ahead) same ∙ e in
          absurd (cc)

  -- one line more is read of it
  pub more_reading : (K : Kind) (old mid new : Cursor) (a b : K.Value) (q : Phrase) → mid.ahead ≡ Ok q → IsCursor model mid → IsReading model K old mid a → Passes model true mid new → K.IsFor b → K.said b ≡ K.said a ++ q ∷ [] → IsReading model K old new b
  more_reading K old mid new a b q f c h passes form is =
      let start = begun_before K old mid a q f h in
      let t = subst (λ s. PassesFrom model s true mid new) f passes in
      subst (λ s. IsReadingFrom model K s old new b) (sym start.1)
      (further K (lines_from model start.0 old.rest.now) old.number (K.said a) q mid.rest.now mid.number b new.ahead new (come_from K old mid a start.0 q start.1 f h c) form is t.0 t.1)

  -- where memory is refused no more is said
  pub given_up : (K : Kind) (old mid : Cursor) (a b : K.Value) → IsReading model K old mid a → (p : Phrase) → old.ahead ≡ Ok p → IsReading model K old (record mid { ahead = Err Memory }) b
  given_up K old mid a b h p e = subst (λ s. IsReadingFrom model K s old (record mid { ahead = Err Memory }) b) (sym e) tt

  -- where reading stopped what was read does not matter
  pub any_value : (K : Kind) (old new : Cursor) (a b : K.Value) (stop : ReportStop) → new.ahead ≡ Err stop → IsRead model K old new a → IsRead model K old new b
  any_value K old new a b stop e h = record { reading = by old.ahead h.reading; ended = subst (IsEnded K b) (sym e) tt }
    where
      by : (s : Result Phrase ReportStop) → IsReadingFrom model K s old new a → IsReadingFrom model K s old new b
      by (Ok p) t = subst (λ s. IsOutcome model K (lines_from model p old.rest.now) old.number b s new) (sym e) (subst (λ s. IsOutcome model K (lines_from model p old.rest.now) old.number a s new) e t)
      by (Err s) t = t

  -- ---- said so far, of a thing that is not whole
  pub comes_start : (K : Kind) (old : Cursor) → IsCursor model old → Comes model K old old []
  comes_start K old c = from old.ahead refl c.at
    where
      came : (p : Phrase) (s : Result Phrase ReportStop) → s ≡ says p → IsCursorAt model s old → Came model K (lines_from model p old.rest.now) old.number [] s old
      came p (Ok q) e h = let same : q ≡ p = cc in subst (λ (r : Phrase). HasCome model (lines_from model r old.rest.now) old.number [] q old.rest.now old.number) same (come_start q old.rest.now old.number h.0)
      came p (Err stop) e h = absurd (cc)

      from : (s : Result Phrase ReportStop) → old.ahead ≡ s → IsCursorAt model s old → ComesFrom model K s old old []
      from (Ok p) e h = came p old.ahead e (subst (λ s. IsCursorAt model s old) (sym e) h)
      from (Err stop) e h = refl

  -- where a line is next, what was said so far came to it
  pub comes_to : (K : Kind) (old mid : Cursor) (said : List Phrase) (p q : Phrase) → old.ahead ≡ Ok p → mid.ahead ≡ Ok q → Comes model K old mid said → HasCome model (lines_from model p old.rest.now) old.number said q mid.rest.now mid.number
  comes_to K old mid said p q e f h = subst (λ s. Came model K (lines_from model p old.rest.now) old.number said s mid) f (subst (λ s. ComesFrom model K s old mid said) e h)

  pub comes_before : (K : Kind) (old mid : Cursor) (said : List Phrase) (q : Phrase) → mid.ahead ≡ Ok q → Comes model K old mid said → (p : Phrase) × (old.ahead ≡ Ok p)
  comes_before K old mid said q f h = by old.ahead refl
    where
      by : (s : Result Phrase ReportStop) → old.ahead ≡ s → (p : Phrase) × (old.ahead ≡ Ok p)
      by (Ok p) e = (p, e)
      by (Err stop) e =
          let same = subst (λ s. ComesFrom model K s old mid said) e h in
          let t : Ok q ≡ Err stop = sym f ∙ ap (λ (z : Cursor). z.ahead) same ∙ e in
          absurd (cc)

  -- a whole thing was said so far
  pub comes_whole : (K : Kind) (old mid : Cursor) (value : K.Value) → K.IsFor value → Comes model K old mid (K.said value) → IsReading model K old mid value
  comes_whole K old mid value form h = from old.ahead h
    where
      outcome : (lines : List Line) (first : ℕ) (s : Result Phrase ReportStop) → Came model K lines first (K.said value) s mid → IsOutcome model K lines first value s mid
      outcome lines first (Ok q) t = record { form = form; cut = t.cut; each = t.each; number = t.number }
      outcome lines first (Err stop) t = t

      from : (s : Result Phrase ReportStop) → ComesFrom model K s old mid (K.said value) → IsReadingFrom model K s old mid value
      from (Ok p) t = outcome (lines_from model p old.rest.now) old.number mid.ahead t
      from (Err stop) t = t

  -- reading had stopped
  pub comes_stopped : (K : Kind) (old mid : Cursor) (said : List Phrase) (value : K.Value) (stop : ReportStop) → mid.ahead ≡ Err stop → Comes model K old mid said → IsReading model K old mid value
  comes_stopped K old mid said value stop f h = from old.ahead h
    where
      from : (s : Result Phrase ReportStop) → ComesFrom model K s old mid said → IsReadingFrom model K s old mid value
      from (Ok p) t = subst (λ s. IsOutcome model K (lines_from model p old.rest.now) old.number value s mid) (sym f) (subst (λ s. Came model K (lines_from model p old.rest.now) old.number said s mid) f t)
      from (Err other) t = t

  -- a phrase that is wrong behind what was said
  pub comes_wrong : (K : Kind) (old mid new : Cursor) (said : List Phrase) (value : K.Value) → IsCursor model mid → Comes model K old mid said → Passes model false mid new → IsFrontOf K said → ((q : Phrase) → mid.ahead ≡ Ok q → IsWrong K said q) → IsReading model K old new value
  comes_wrong K old mid new said value c h passes right wrong = by mid.ahead refl passes
    where
      stopped : (stop : ReportStop) → mid.ahead ≡ Err stop → new ≡ mid → IsReading model K old new value
      stopped stop f same = subst (λ (z : Cursor). IsReading model K old z value) (sym same) (from old.ahead h)
        where
          from : (s : Result Phrase ReportStop) → ComesFrom model K s old mid said → IsReadingFrom model K s old mid value
          from (Ok p) t = subst (λ s. IsOutcome model K (lines_from model p old.rest.now) old.number value s mid) (sym f) (subst (λ s. Came model K (lines_from model p old.rest.now) old.number said s mid) f t)
          from (Err other) t = t

      by : (s : Result Phrase ReportStop) → mid.ahead ≡ s → PassesFrom model s false mid new → IsReading model K old new value
      by (Err stop) f t = stopped stop f t
      by (Ok q) f t =
          let start = comes_before K old mid said q f h in
          let bad = refused K (lines_from model start.0 old.rest.now) old.number said q mid.rest.now mid.number (comes_to K old mid said start.0 q start.1 f h) right (wrong q f) in
          subst (λ (z : Cursor). IsReading model K old z value) (sym t) (subst (λ s. IsReadingFrom model K s old (record mid { ahead = Err (BadLine mid.number) }) value) (sym start.1) bad)

  -- Another thing is read behind what was said. Where reading stops within it, it stops so within the whole.
  module _ (K E : Kind) (said : List Phrase) (q : Phrase)
      (right : (front : List Phrase) → (front ≡ []) ⊎ ((tail : List Phrase) × (front ≡ q ∷ tail)) → IsFrontOf E front → IsFrontOf K (said ++ front))
      (wrong : (front : List Phrase) (r : Phrase) → ((tail : List Phrase) → (more : List Phrase) × (front ++ r ∷ tail ≡ q ∷ more)) → IsWrong E front r → IsWrong K (said ++ front) r) where
    lines_on : (lines : List Line) (first n : ℕ) (rest : List ℕ) (front : List Phrase) (back : List Line) → HasCome model lines first said q rest n → lines_from model q rest ≡ lines_of model front ++ back → lines ≡ lines_of model (said ++ front) ++ back
    lines_on lines first n rest front back h e =
        h.cut ∙ ap (λ l. lines_of model said ++ l) e ∙ sym (append_assoc (lines_of model said) (lines_of model front) back) ∙ ap (λ l. l ++ back) (sym (map-append (phrase_line model) said front))

    more_from : (lines : List Line) (first n : ℕ) (rest : List ℕ) (value : E.Value) (s : Result Phrase ReportStop) (new : Cursor) → IsCursorAt model s new → HasCome model lines first said q rest n → IsOutcome model E (lines_from model q rest) n value s new → Came model K lines first (said ++ E.said value) s new
    more_from lines first n rest value (Ok r) new c h t = record {
      cut = lines_on lines first n rest (E.said value) (lines_from model r new.rest.now) h t.cut;
      each = All-append (IsPhraseFor model) said (E.said value) h.each t.each;
      form = c.0;
      number = (let a = h.number in let b = t.number in let d = length-append said (E.said value) in omega arith);
    }
    more_from lines first n rest value (Err (BadLine m)) new c h t = record {
      said = said ++ t.said;
      line = t.line;
      back = t.back;
      cut = lines_on lines first n rest t.said (t.line ∷ t.back) h t.cut;
      whole = t.whole;
      number = (let a = h.number in let b = t.number in let d = length-append said t.said in omega arith);
      each = All-append (IsPhraseFor model) said t.said h.each t.each;
      right = right t.said (front_starts model names q rest t.said (t.line ∷ t.back) t.cut t.each h.form) t.right;
      wrong = λ r is. wrong t.said r (λ tail. head_said model names q rest t.said t.line t.back r tail t.cut t.each h.form is) (t.wrong r is);
    }
    more_from lines first n rest value (Err Truncated) new c h t = record {
      said = said ++ t.said;
      last = t.last;
      cut = lines_on lines first n rest t.said (t.last ∷ []) h t.cut;
      each = All-append (IsPhraseFor model) said t.said h.each t.each;
      right = right t.said (front_starts model names q rest t.said (t.last ∷ []) t.cut t.each h.form) t.right;
    }
    more_from lines first n rest value (Err Memory) new c h t = tt

    pub comes_more : (old mid new : Cursor) (value : E.Value) → IsCursor model new → Comes model K old mid said → mid.ahead ≡ Ok q → IsReading model E mid new value → Comes model K old new (said ++ E.said value)
    comes_more old mid new value c h f read =
        let start = comes_before K old mid said q f h in
        let t = more_from (lines_from model start.0 old.rest.now) old.number mid.number mid.rest.now value new.ahead new c.at (comes_to K old mid said start.0 q start.1 f h) (subst (λ s. IsReadingFrom model E s mid new value) f read) in
        subst (λ s. ComesFrom model K s old new (said ++ E.said value)) (sym start.1) t

  -- ---- a thing of one kind as one of another, of which all that begin with the first line are such
  module _ (K L : Kind) (to : K.Value → L.Value) (form : (v : K.Value) → K.IsFor v → L.IsFor (to v)) (is : (v : K.Value) → L.said (to v) ≡ K.said v) (on : (v : K.Value) (q : Phrase) → L.goes_on (to v) q ≡ K.goes_on v q) where
    front_to : (said : List Phrase) → IsFrontOf K said → IsFrontOf L said
    front_to said h = record { value = to h.value; form = form h.value h.form; more = h.more; is = is h.value ∙ h.is }

    begins_to : (v : K.Value) (more : List Phrase) → begins (K.goes_on v) more ≡ true → begins (L.goes_on (to v)) more ≡ true
    begins_to v [] h = h
    begins_to v (q ∷ more) h = on v q ∙ h

    wrong_to : (p : Phrase) (said : List Phrase) (r : Phrase) → ((w : L.Value) (more rest : List Phrase) → L.IsFor w → L.said w ++ more ≡ p ∷ rest → (v : K.Value) × (K.IsFor v × (to v ≡ w)))
        → ((tail : List Phrase) → (more : List Phrase) × (said ++ r ∷ tail ≡ p ∷ more)) → IsWrong K said r → IsWrong L said r
    wrong_to p said r all head wrong w more rest h e =
        let starts = head rest in
        let v = all w more starts.0 h (e ∙ starts.1) in
        subst (λ x. begins (L.goes_on x) more ≡ true) v.1.1
        (begins_to v.0 more (wrong v.0 more rest v.1.0 (ap (λ l. l ++ more) (sym (is v.0) ∙ ap L.said v.1.1) ∙ e)))

    to_from : (p : Phrase) (rest : List ℕ) (n : ℕ) (value : K.Value) (s : Result Phrase ReportStop) (new : Cursor) → IsPhraseFor model p → ((w : L.Value) (more rest : List Phrase) → L.IsFor w → L.said w ++ more ≡ p ∷ rest → (v : K.Value) × (K.IsFor v × (to v ≡ w)))
        → IsOutcome model K (lines_from model p rest) n value s new → IsOutcome model L (lines_from model p rest) n (to value) s new
    to_from p rest n value (Ok q) new hp all t = record {
      form = form value t.form;
      cut = t.cut ∙ ap (λ ps. lines_of model ps ++ lines_from model q new.rest.now) (sym (is value));
      each = subst (All (IsPhraseFor model)) (sym (is value)) t.each;
      number = t.number ∙ ap (λ ps. n + length ps) (sym (is value));
    }
    to_from p rest n value (Err (BadLine m)) new hp all t = record {
      said = t.said;
      line = t.line;
      back = t.back;
      cut = t.cut;
      whole = t.whole;
      number = t.number;
      each = t.each;
      right = front_to t.said t.right;
      wrong = λ r says. wrong_to p t.said r all (λ tail. head_said model names p rest t.said t.line t.back r tail t.cut t.each hp says) (t.wrong r says);
    }
    to_from p rest n value (Err Truncated) new hp all t = record { said = t.said; last = t.last; cut = t.cut; each = t.each; right = front_to t.said t.right }
    to_from p rest n value (Err Memory) new hp all t = tt

    reading_to : (s : Result Phrase ReportStop) (old new : Cursor) (value : K.Value) → IsCursorAt model s old → ((p : Phrase) → s ≡ Ok p → (w : L.Value) (more rest : List Phrase) → L.IsFor w → L.said w ++ more ≡ p ∷ rest → (v : K.Value) × (K.IsFor v × (to v ≡ w)))
        → IsReadingFrom model K s old new value → IsReadingFrom model L s old new (to value)
    reading_to (Ok p) old new value c all t = to_from p old.rest.now old.number value new.ahead new c.0 (all p refl) t
    reading_to (Err stop) old new value c all t = t

    ended_to : (s : Result Phrase ReportStop) (value : K.Value) → IsEnded K value s → IsEnded L (to value) s
    ended_to (Ok q) value h = on value q ∙ h
    ended_to (Err stop) value h = tt

    pub read_to : (old new : Cursor) (value : K.Value) → IsCursor model old → ((p : Phrase) → old.ahead ≡ Ok p → (w : L.Value) (more rest : List Phrase) → L.IsFor w → L.said w ++ more ≡ p ∷ rest → (v : K.Value) × (K.IsFor v × (to v ≡ w)))
        → IsRead model K old new value → IsRead model L old new (to value)
    read_to old new value c all h = record { reading = reading_to old.ahead old new value c.at all h.reading; ended = ended_to new.ahead value h.ended }

  -- ---- a loop that reads a thing
  pub loop_start : (K : Kind) (old : Cursor) (value : K.Value) → IsCursor model old → K.IsFor value → K.said value ≡ [] → Looping model K old old value
  loop_start K old value c form none = record { stands = c; reading = start_reading K value old c form none; form = form }

  pub pushed_stands : {X : Type 0} (next new : Cursor) (xs ys : List X) (x : X) → IsCursor model next → Pushes next xs x new ys → IsCursor model new
  pushed_stands next new xs ys x c pushes = elim pushes [
    | inl p ↦ subst (IsCursor model) (sym p.0) c
    | inr p ↦ subst (IsCursor model) (sym p.0) (record { names = c.names; at = tt })
  ]

  room_of : (s : Result Phrase ReportStop) (mid : Cursor) (q : Phrase) → s ≡ Ok q → IsCursorAt model s mid → 0 < room s mid.number
  room_of (Ok p) mid q f c = let short = c.1 in omega arith
  room_of (Err stop) mid q f c = absurd (cc)

  pub room_some : (mid : Cursor) (q : Phrase) → mid.ahead ≡ Ok q → IsCursor model mid → 0 < room mid.ahead mid.number
  room_some mid q f c = room_of mid.ahead mid q f c.at

  pub room_less : (mid new : Cursor) (q : Phrase) → mid.ahead ≡ Ok q → IsCursor model mid → Passes model true mid new → room new.ahead new.number < room mid.ahead mid.number
  room_less mid new q f c passes =
      let t = subst (λ s. PassesFrom model s true mid new) f passes in
      let short = (subst (λ s. IsCursorAt model s mid) f c.at).1 in
      subst (λ s. room new.ahead new.number < room s mid.number) (sym f) (by new.ahead new.number t.0 short)
    where
      by : (s : Result Phrase ReportStop) (n : ℕ) → n ≡ mid.number + 1 → mid.number + length mid.rest.now < 2147483648 → room s n < 2147483648 - mid.number
      by (Ok p) n e h = omega arith
      by (Err stop) n e h = omega arith

  -- a thing that says something leaves fewer lines
  pub room_read : (E : Kind) (mid next : Cursor) (value : E.Value) (q : Phrase) → mid.ahead ≡ Ok q → IsCursor model mid → IsCursor model next → 0 < length (E.said value) → IsReading model E mid next value → room next.ahead next.number < room mid.ahead mid.number
  room_read E mid next value q f c d some read =
      subst (λ s. room next.ahead next.number < room s mid.number) (sym f) (by next.ahead d.at (subst (λ s. IsReadingFrom model E s mid next value) f read))
    where
      short : mid.number + length mid.rest.now < 2147483648
      short = (subst (λ s. IsCursorAt model s mid) f c.at).1

      by : (s : Result Phrase ReportStop) → IsCursorAt model s next → IsOutcome model E (lines_from model q mid.rest.now) mid.number value s next → room s next.number < 2147483648 - mid.number
      by (Ok r) e t = let a = t.number in let b = e.1 in let g = short in omega arith
      by (Err stop) e t = let g = short in omega arith

  -- lists of elements of one line
  module _ (X : Type 0) (say : X → Phrase) (find : Phrase → Option X) (may : List X → X → Bool) (Are : List X → Type 0) (finds : (q : Phrase) (x : X) → find q ≡ Some x → q ≡ say x) where
    -- what comes next is what the next line says, and may stand there
    pub next_is : (xs : List X) (s : Result Phrase ReportStop) (x : X) → next_in may xs (found find s) ≡ Some x → (s ≡ Ok (say x)) × (may xs x ≡ true)
    next_is xs (Err stop) x e = absurd (let t : None ≡ Some x = e in cc)
    next_is xs (Ok q) x e = by (find q) refl e
      where
        here : (y : X) (b : Bool) → may xs y ≡ b → find q ≡ Some y → cond b (Some y) None ≡ Some x → (says q ≡ says (say x)) × (may xs x ≡ true)
        here y true m f e = let same : y ≡ x = cc in (ap says (finds q y f ∙ ap say same), subst (λ (z : X). may xs z ≡ true) same m)
        here y false m f e = absurd (let t : None ≡ Some x = e in cc)

        by : (o : Option X) → find q ≡ o → next_in may xs o ≡ Some x → (says q ≡ says (say x)) × (may xs x ≡ true)
        by None f e = absurd (let t : None ≡ Some x = e in cc)
        by (Some y) f e = here y (may xs y) refl f e

    next_none : (xs : List X) (s : Result Phrase ReportStop) → next_in may xs (found find s) ≡ None → IsEnded (list X say find may Are) xs s
    next_none xs (Ok q) e = ap is_there e
    next_none xs (Err stop) e = tt

    map_push : (xs : List X) (x : X) → map say (xs ++ x ∷ []) ≡ map say xs ++ say x ∷ []
    map_push xs x = map-append say xs (x ∷ [])

    -- one element more
    pub list_more : (old mid next new : Cursor) (xs ys : List X) (x : X) → next_in may xs (found find mid.ahead) ≡ Some x → IsCursor model mid → IsReading model (list X say find may Are) old mid xs → Passes model true mid next → Pushes next xs x new ys → (may xs x ≡ true → IsPhraseFor model (say x) → Are (xs ++ x ∷ []))
        → IsReading model (list X say find may Are) old new ys
    list_more old mid next new xs ys x e c h passes pushes are =
        let n = next_is xs mid.ahead x e in
        let start = begun_before (list X say find may Are) old mid xs (say x) n.0 h in
        let read = more_reading (list X say find may Are) old mid next xs (xs ++ x ∷ []) (say x) n.0 c h passes (are n.1 (subst (λ s. IsCursorAt model s mid) n.0 c.at).0) (map_push xs x) in
        elim pushes [
          | inl p ↦ subst (λ (z : Cursor). IsReading model (list X say find may Are) old z ys) (sym p.0) (subst (λ zs. IsReading model (list X say find may Are) old next zs) (sym p.1) read)
          | inr p ↦ subst (λ (z : Cursor). IsReading model (list X say find may Are) old z ys) (sym p.0) (given_up (list X say find may Are) old next (xs ++ x ∷ []) ys read start.0 start.1)
        ]

    pub loop_more : (old mid next new : Cursor) (xs ys : List X) (x : X) → Looping model (list X say find may Are) old mid xs → next_in may xs (found find mid.ahead) ≡ Some x → Passes model true mid next → IsCursor model next → Pushes next xs x new ys → (may xs x ≡ true → IsPhraseFor model (say x) → Are (xs ++ x ∷ []))
        → Looping model (list X say find may Are) old new ys
    loop_more old mid next new xs ys x h e passes c pushes are = record {
      stands = pushed_stands next new xs ys x c pushes;
      reading = list_more old mid next new xs ys x e h.stands h.reading passes pushes are;
      form = elim pushes [
        | inl p ↦ (let n = next_is xs mid.ahead x e in subst Are (sym p.1) (are n.1 (subst (λ s. IsCursorAt model s mid) n.0 h.stands.at).0))
        | inr p ↦ subst Are (sym p.1) h.form
      ];
    }

    pub loop_smaller : (mid next new : Cursor) (xs ys : List X) (x : X) → next_in may xs (found find mid.ahead) ≡ Some x → IsCursor model mid → Passes model true mid next → Pushes next xs x new ys → room new.ahead new.number < room mid.ahead mid.number
    loop_smaller mid next new xs ys x e c passes pushes =
        let n = next_is xs mid.ahead x e in
        elim pushes [
          | inl p ↦ subst (λ (z : Cursor). room z.ahead z.number < room mid.ahead mid.number) (sym p.0) (room_less mid next (say x) n.0 c passes)
          | inr p ↦ subst (λ (z : Cursor). room z.ahead z.number < room mid.ahead mid.number) (sym p.0) (room_some mid (say x) n.0 c)
        ]

    pub loop_end : (old new : Cursor) (xs : List X) → Looping model (list X say find may Are) old new xs → next_in may xs (found find new.ahead) ≡ None → IsRead model (list X say find may Are) old new xs
    loop_end old new xs h e = record { reading = h.reading; ended = next_none xs new.ahead e }

    -- a list is known by what it says: each element that stands in it may stand there
    pub list_alone : ((x y : X) → say x ≡ say y → x ≡ y) → ((x : X) → find (say x) ≡ Some x) → ((xs : List X) (x : X) (rest : List X) → Are (xs ++ x ∷ rest) → may xs x ≡ true) → Alone (list X say find may Are)
    list_alone apart says stands xs ys m n hx hy e a b = from [] xs ys e hx hy a b
      where
        ends : (zs : List X) (y : X) (ys : List X) (m : List Phrase) → Are (zs ++ y ∷ ys) → begins (λ q. is_there (next_in may zs (find q))) (say y ∷ m) ≡ false → ⊥
        ends zs y ys m h off =
            let t : is_there (next_in may zs (find (say y))) ≡ true = ap (λ o. is_there (next_in may zs o)) (says y) ∙ ap (λ b. is_there (cond b (Some y) None)) (stands zs y ys h) in
            true≢false (sym t ∙ off)

        from : (zs xs ys : List X) → map say xs ++ m ≡ map say ys ++ n → Are (zs ++ xs) → Are (zs ++ ys) → begins (λ q. is_there (next_in may (zs ++ xs) (find q))) m ≡ false → begins (λ q. is_there (next_in may (zs ++ ys) (find q))) n ≡ false → xs ≡ ys
        from zs [] [] e hx hy a b = refl
        from zs [] (y ∷ ys) e hx hy a b =
            absurd (ends zs y ys (map say ys ++ n) hy (subst (λ (l : List Phrase). begins (λ q. is_there (next_in may zs (find q))) l ≡ false) e (subst (λ (l : List X). begins (λ q. is_there (next_in may l (find q))) m ≡ false) (append-nil zs) a)))
        from zs (x ∷ xs) [] e hx hy a b =
            absurd (ends zs x xs (map say xs ++ m) hx (subst (λ (l : List Phrase). begins (λ q. is_there (next_in may zs (find q))) l ≡ false) (sym e) (subst (λ (l : List X). begins (λ q. is_there (next_in may l (find q))) n ≡ false) (append-nil zs) b)))
        from zs (x ∷ xs) (y ∷ ys) e hx hy a b =
            let same : x ≡ y = apart x y cc in
            let rest : map say xs ++ m ≡ map say ys ++ n = cc in
            let one : (l : List X) (x : X) → zs ++ x ∷ l ≡ (zs ++ x ∷ []) ++ l = λ l x. sym (append_assoc zs (x ∷ []) l) in
            let hy2 : Are ((zs ++ x ∷ []) ++ ys) = subst Are (ap (λ z. zs ++ z ∷ ys) (sym same) ∙ one ys x) hy in
            let b2 = subst (λ (l : List X). begins (λ q. is_there (next_in may l (find q))) n ≡ false) (ap (λ z. zs ++ z ∷ ys) (sym same) ∙ one ys x) b in
            ap (λ z. z ∷ xs) same
            ∙ ap (λ l. y ∷ l) (from (zs ++ x ∷ []) xs ys rest (subst Are (one xs x) hx) hy2 (subst (λ (l : List X). begins (λ q. is_there (next_in may l (find q))) m ≡ false) (one xs x) a) b2)
