-- What is told behind the proof of an irreducible set, by the method.
use Rattle.std.proofs.Common.{◌≡◌, refl, sym, ap, subst, ◌∙◌, ℕ, Bool, true, false, true≢false, ◌&&◌, ◌||◌, [], ◌∷◌, ◌++◌, Option, Some, None}
use Rattle.rational.specs.Rational.{ℚ}
use Rattle.certs.specs.declared.evidence.Point.{Point}
use Rattle.lp_model.specs.Program.{Program, IsWellFormed}
use Rattle.report_text.specs.declared.report.Method.{Method}
use Rattle.report_text.specs.declared.report.Method.TheVariants.{Elastic, Alternative}
use Rattle.report_text.specs.declared.phrases.Phrase.{Phrase}
use Rattle.report_text.specs.Grammar.{value_phrases, rounds_phrases, price_phrases}
use Rattle.report_text.specs.Form.{has_rounds, has_price}
use Rattle.report_reader.specs.declared.cursor.Cursor.{Cursor}
use Rattle.report_reader.specs.Kinds.{begins, lines_from, IsEnded, IsRead, IsReadingFrom, IsCursor, IsCursorAt, Passes, PassesFrom}
use Rattle.report_reader.specs.Things.{found, number_of, objective, tail, rounds, price, more_values}
use Rattle.report_reader.proofs.Passing.{further, come_start, read_to}
use Rattle.report_reader.proofs.Found.{number_finds}
use Rattle.report_reader.specs.declared.numbers.Number.{Number}
use Rattle.report_reader.specs.declared.reader.ReportStop.{ReportStop}
use Rattle.phrase_reader.specs.Phrases.{IsPhraseFor}
use Rattle.std.specs.Prelude.{Result, Ok, Err}
use Rattle.report_reader.proofs.Both.{Alone}
use Rattle.report_reader.proofs.Points.{values_alone}

-- whether rounds and a price are told as the method has them
abbrev pub tells : Method → Option ℕ → Option (ℚ × Point) → Bool
tells method told priced = has_rounds method told && has_price method priced

-- what is told of both is told the same way
abbrev pub SameWay : Option ℕ → Option (ℚ × Point) → Option ℕ → Option (ℚ × Point) → Type 0
SameWay None None None None = Unit {0}
SameWay (Some m) None (Some n) None = Unit {0}
SameWay None (Some p) None (Some q) = Unit {0}
SameWay told priced other given = ⊥

same_way : (method : Method) (told : Option ℕ) (priced : Option (ℚ × Point)) (other : Option ℕ) (given : Option (ℚ × Point)) → tells method told priced ≡ true → tells method other given ≡ true → SameWay told priced other given
same_way Elastic (Some m) None (Some n) None h k = tt
same_way Elastic None priced other given h k = absurd (true≢false (sym h))
same_way Elastic (Some m) (Some p) other given h k = absurd (true≢false (sym h))
same_way Elastic (Some m) None None given h k = absurd (true≢false (sym k))
same_way Elastic (Some m) None (Some n) (Some q) h k = absurd (true≢false (sym k))
same_way Alternative None (Some p) None (Some q) h k = tt
same_way Alternative (Some m) priced other given h k = absurd (true≢false (sym h))
same_way Alternative None None other given h k = absurd (true≢false (sym h))
same_way Alternative None (Some p) (Some n) given h k = absurd (true≢false (sym k))
same_way Alternative None (Some p) None None h k = absurd (true≢false (sym k))
same_way method None None None None h k = tt
same_way method (Some m) priced other given h k = absurd (true≢false (sym h))
same_way method None (Some p) other given h k = absurd (true≢false (sym h))
same_way method None None (Some n) given h k = absurd (true≢false (sym k))
same_way method None None None (Some q) h k = absurd (true≢false (sym k))

module _ (model : Program) (names : IsWellFormed model) (method : Method) where
  pub tail_alone : Alone (tail model method)
  tail_alone a b m n ha hb e na nb = by a.0 a.1 b.0 b.1 (same_way method a.0 a.1 b.0 b.1 ha.0 hb.0) ha hb e na nb
    where
      by : (told : Option ℕ) (priced : Option (ℚ × Point)) (other : Option ℕ) (given : Option (ℚ × Point)) → SameWay told priced other given → (tail model method).IsFor (told, priced) → (tail model method).IsFor (other, given)
          → (rounds_phrases told ++ price_phrases priced) ++ m ≡ (rounds_phrases other ++ price_phrases given) ++ n → begins ((tail model method).goes_on (told, priced)) m ≡ false → begins ((tail model method).goes_on (other, given)) n ≡ false
          → ◌≡◌ {A = Option ℕ × Option (ℚ × Point)} (told, priced) (other, given)
      by None None None None way ha hb e na nb = refl
      by (Some x) None (Some y) None way ha hb e na nb = let p : Phrase.Rounds x ≡ Phrase.Rounds y = cc in let same : x ≡ y = cc in ap (λ z. (Some z, None)) same
      by None (Some p) None (Some q) way ha hb e na nb =
          let t : Phrase.Total p.0 ≡ Phrase.Total q.0 = cc in
          let total : p.0 ≡ q.0 = cc in
          let rest : value_phrases 0 p.1.values ++ m ≡ value_phrases 0 q.1.values ++ n = cc in
          let point = values_alone model names p.1 q.1 m n ha.1.1.1 hb.1.1.1 rest na nb in
          ap (λ x. (None, Some (x, p.1))) total ∙ ap (λ x. (None, Some (q.0, x))) point
      by told priced other given way ha hb e na nb = absurd way

module _ (model : Program) (names : IsWellFormed model) where
  -- rounds alone, and a price alone
  pub rounds_read : (old new : Cursor) (n : ℕ) → IsCursor model old → IsRead model rounds old new n → IsRead model (tail model Elastic) old new (Some n, None)
  rounds_read old new n c h = read_to model names rounds (tail model Elastic) (λ n. (Some n, None)) (λ n form. (refl, (form, tt))) (λ n. refl) (λ n q. refl) old new n c (λ p e w more rest form is. told w form) h
    where
      told : (w : Option ℕ × Option (ℚ × Point)) → (tail model Elastic).IsFor w → (n : ℕ) × (rounds.IsFor n × (◌≡◌ {A = Option ℕ × Option (ℚ × Point)} (Some n, None) w))
      told (Some n, None) form = (n, (form.1.0, refl))
      told (None, priced) form = absurd (true≢false (sym form.0))
      told (Some n, Some p) form = absurd (true≢false (sym form.0))

  pub price_read : (old new : Cursor) (p : ℚ × Point) → IsCursor model old → IsRead model (price model) old new (p.0, (tt, p.1)) → IsRead model (tail model Alternative) old new (None, Some p)
  price_read old new p c h = read_to model names (price model) (tail model Alternative) (λ v. (None, Some (v.0, v.1.1))) (λ v form. (refl, (tt, (form.0, form.1.1)))) (λ v. refl) on old new (p.0, (tt, p.1)) c (λ q e w more rest form is. told w form) h
    where
      or_none : (b : Bool) → b ≡ ((b || false) || false)
      or_none true = refl
      or_none false = refl

      on : (v : (price model).Value) (q : Phrase) → (tail model Alternative).goes_on (None, Some (v.0, v.1.1)) q ≡ (price model).goes_on v q
      on v q = or_none (more_values v.1.1.values q)

      told : (w : Option ℕ × Option (ℚ × Point)) → (tail model Alternative).IsFor w → (v : (price model).Value) × ((price model).IsFor v × (◌≡◌ {A = Option ℕ × Option (ℚ × Point)} (None, Some (v.0, v.1.1)) w))
      told (None, Some p) form = ((p.0, (tt, p.1)), ((form.1.1.0, (tt, form.1.1.1)), refl))
      told (None, None) form = absurd (true≢false (sym form.0))
      told (Some n, priced) form = absurd (true≢false (sym form.0))

  -- the objective's value, where it is told
  pub objective_some : (old new : Cursor) (v : ℚ) → IsCursor model old → found (number_of Number.Objective) old.ahead ≡ Some v → Passes model true old new → IsRead model objective old new (Some v)
  objective_some old new v c e passes = record { reading = from old.ahead e c.at passes; ended = off new.ahead }
    where
      off : (s : Result Phrase ReportStop) → IsEnded objective (Some v) s
      off (Ok q) = refl
      off (Err stop) = tt

      from : (s : Result Phrase ReportStop) → found (number_of Number.Objective) s ≡ Some v → IsCursorAt model s old → PassesFrom model s true old new → IsReadingFrom model objective s old new (Some v)
      from (Err stop) e c t = absurd (cc)
      from (Ok q) e c t =
          let same = number_finds Number.Objective q v e in
          further model names objective (lines_from model q old.rest.now) old.number [] q old.rest.now old.number (Some v) new.ahead new (come_start model names q old.rest.now old.number c.0)
          (subst (IsPhraseFor model) same c.0) (ap (λ r. r ∷ []) (sym same)) t.0 t.1
