-- Members with their witnesses are read pair by pair.
use Rattle.std.proofs.Common.{◌≡◌, ◌<◌, refl, sym, ap, subst, ◌∙◌, Bool, true, false, true≢false, ◌||◌, List, [], ◌∷◌, ◌++◌, length, append_assoc, append-nil, Some, None, arith, ◌⊎◌, inl, inr}
use Rattle.std.specs.Prelude.{map, flat_map, zip, All, Result, Ok, Err}
use Rattle.rational.specs.Rational.{ℚ}
use Rattle.std.proofs.lemmas.List.{map-append, length-append, append_cancel_left}
use Rattle.std.proofs.lemmas.List.Concat.{flat_map-append}
use Rattle.std.proofs.lemmas.List.Elements.{All-nil, All-head, All-push}
use Rattle.std.proofs.lemmas.Bool.{or_left, or_parts, or_from}
use Rattle.certs.proofs.Lists.{all_back}
use Rattle.lp_model.specs.Program.{Program, IsWellFormed}
use Rattle.lp_model.specs.declared.members.Member.{Member}
use Rattle.certs.specs.declared.evidence.Point.{Point}
use Rattle.report_text.specs.declared.phrases.Phrase.{Phrase}
use Rattle.report_text.specs.Grammar.{value_phrases, witness_phrases, point_phrases}
use Rattle.report_text.specs.Form.{AreMembers, IsNamedMember, IsPointFor}
use Rattle.report_reader.specs.declared.reader.ReportStop.{ReportStop}
use Rattle.report_reader.specs.declared.reader.ReportStop.TheVariants.{Memory}
use Rattle.report_reader.specs.declared.cursor.Cursor.{Cursor}
use Rattle.report_reader.specs.declared.lists.Listing.{Listing}
use Rattle.report_reader.specs.Kinds.{Kind, one, both, begins, is_there, next_in, IsFrontOf, IsWrong, IsReading, IsRead, IsEnded, IsCursor, IsCursorAt, IsOutcome, IsReadingFrom, Passes, Pushes, lines_from}
use Rattle.report_reader.specs.Things.{found, value_of, may_value, nonzeros, may_list, member_of, more_values, last_on, point, AreWitnessed, witnessed}
use Rattle.report_reader.proofs.Both.{Alone, Follows, both_read}
use Rattle.report_reader.proofs.Found.{member_finds}
use Rattle.report_reader.proofs.Passing.{Comes, ComesFrom, comes_before, comes_start, comes_whole, comes_stopped, comes_more, next_is, one_read, room, room_read, room_some}
use Rattle.report_reader.proofs.Points.{values_alone, point_of, no_values, point_taken}
use Rattle.report_reader.proofs.Sorted.{no_members, member_taken, member_stands}

-- a member and its witness
abbrev pub pair : Program → Kind
pair model = both (one Member Phrase.Member (IsNamedMember model)) (point model)

-- what is read of a pair
abbrev pub read_pair : Member → Point → Member × (Unit {0} × Point)
read_pair m p = (m, (tt, p))

last_pair : (ws : List (Member × Point)) (w : Member × Point) (q : Phrase) → last_on (ws ++ w ∷ []) q ≡ more_values w.1.values q
last_pair [] w q = refl
last_pair (v ∷ []) w q = refl
last_pair (v ∷ u ∷ ws) w q = last_pair (u ∷ ws) w q

last_begins : (ws : List (Member × Point)) (w : Member × Point) (l : List Phrase) → begins (last_on (ws ++ w ∷ [])) l ≡ begins (more_values w.1.values) l
last_begins ws w [] = refl
last_begins ws w (q ∷ l) = last_pair ws w q

-- nothing but a value goes on with a witness
pub last_off : (ws : List (Member × Point)) (q : Phrase) → value_of q ≡ None → last_on ws q ≡ false
last_off [] q h = refl
last_off (w ∷ []) q h = ap (λ o. is_there (next_in may_value (nonzeros 0 w.1.values) o)) h
last_off (w ∷ v ∷ ws) q h = last_off (v ∷ ws) q h

-- what the loop keeps
pub record ReadsPairs (model : Program) (old mid : Cursor) (ms : List Member) (ps : List Point) : Type 0 where
  pub stands : IsCursor model mid
  pub came : Comes model (witnessed model) old mid (flat_map witness_phrases (zip ms ps))
  pub form : AreMembers model ms
  pub grown : (q : Phrase) → mid.ahead ≡ Ok q → (length ps ≡ length ms) × (AreWitnessed model (zip ms ps) × (last_on (zip ms ps) q ≡ false))

zip_push : (ms : List Member) (ps : List Point) (m : Member) (p : Point) → length ps ≡ length ms → zip (ms ++ m ∷ []) (ps ++ p ∷ []) ≡ zip ms ps ++ (m, p) ∷ []
zip_push [] [] m p e = refl
zip_push [] (w ∷ ps) m p e = absurd (omega arith)
zip_push (n ∷ ms) [] m p e = absurd (omega arith)
zip_push (n ∷ ms) (w ∷ ps) m p e = ap (λ l. (n, w) ∷ l) (zip_push ms ps m p (let f : length ps ≡ length ms = omega arith in f))

zip_first : (ms : List Member) (ps : List Point) → length ps ≡ length ms → map (λ (w : Member × Point). w.0) (zip ms ps) ≡ ms
zip_first [] ps e = refl
zip_first (n ∷ ms) [] e = absurd (omega arith)
zip_first (n ∷ ms) (w ∷ ps) e = ap (λ l. n ∷ l) (zip_first ms ps (let f : length ps ≡ length ms = omega arith in f))

module _ (model : Program) where
  pub no_pairs : AreWitnessed model []
  no_pairs = record { members = no_members model; points = All-nil (IsPointFor model) }

  pub pair_taken : (ws : List (Member × Point)) (m : Member) (p : Point) → AreWitnessed model ws → IsNamedMember model m → IsPointFor model p → may_list model Listing.Listed (map (λ w. w.0) ws) m ≡ true → AreWitnessed model (ws ++ (m, p) ∷ [])
  pair_taken ws m p h named form may = record {
    members = subst (AreMembers model) (sym (map-append (λ (w : Member × Point). w.0) ws ((m, p) ∷ []))) (member_taken model (map (λ w. w.0) ws) m h.members named may);
    points = subst (All (IsPointFor model)) (sym (map-append (λ (w : Member × Point). w.1) ws ((m, p) ∷ []))) (All-push (IsPointFor model) (map (λ w. w.1) ws) p h.points form);
  }

  -- a member of a pair may stand behind those before it
  pair_stands : (ws : List (Member × Point)) (w : Member × Point) (rest : List (Member × Point)) → AreWitnessed model (ws ++ w ∷ rest) → may_list model Listing.Listed (map (λ w. w.0) ws) w.0 ≡ true
  pair_stands ws w rest h =
      member_stands model Listing.Listed (map (λ w. w.0) ws) w.0 (map (λ w. w.0) rest) (subst (AreMembers model) (map-append (λ (w : Member × Point). w.0) ws (w ∷ rest)) h.members)

  pair_point : (ws : List (Member × Point)) (w : Member × Point) (rest : List (Member × Point)) → AreWitnessed model (ws ++ w ∷ rest) → IsPointFor model w.1
  pair_point ws w rest h =
      All-head (IsPointFor model) w.1 (map (λ w. w.1) rest) (all_back (IsPointFor model) (map (λ w. w.1) ws) (w.1 ∷ map (λ w. w.1) rest) (subst (All (IsPointFor model)) (map-append (λ (w : Member × Point). w.1) ws (w ∷ rest)) h.points))

  pair_named : (ws : List (Member × Point)) (w : Member × Point) (rest : List (Member × Point)) → AreWitnessed model (ws ++ w ∷ rest) → IsNamedMember model w.0
  pair_named ws w rest h =
      All-head (IsNamedMember model) w.0 (map (λ w. w.0) rest) (all_back (IsNamedMember model) (map (λ w. w.0) ws) (w.0 ∷ map (λ w. w.0) rest) (subst (All (IsNamedMember model)) (map-append (λ (w : Member × Point). w.0) ws (w ∷ rest)) h.members.named))

  -- where a pair may follow, its first phrase goes on with those before it
  pair_begins : (ws : List (Member × Point)) (w : Member × Point) (m : List Phrase) → may_list model Listing.Listed (map (λ w. w.0) ws) w.0 ≡ true → begins ((witnessed model).goes_on ws) (witness_phrases w ++ m) ≡ true
  pair_begins ws w m may = or_left _ (last_on ws (Phrase.Member w.0)) (rw may refl)

  -- a value goes on with a pair where it goes on with its witness
  or_none : (b : Bool) → ((b || false) || false) ≡ b
  or_none true = refl
  or_none false = refl

  pair_on : (m : Member) (p : Point) (l : List Phrase) → begins ((pair model).goes_on (read_pair m p)) l ≡ begins (more_values p.values) l
  pair_on m p [] = refl
  pair_on m p (q ∷ l) = or_none (more_values p.values q)

  -- but another pair does not
  behind_values : (vs : List ℚ) (all : List (Member × Point)) (m : List Phrase) → (all ≡ [] → begins (more_values vs) m ≡ false) → begins (more_values vs) (flat_map witness_phrases all ++ m) ≡ false
  behind_values vs [] m h = h refl
  behind_values vs (v ∷ all) m h = refl

  off_last : (ws : List (Member × Point)) (w : Member × Point) (m : List Phrase) → begins ((witnessed model).goes_on (ws ++ w ∷ [])) m ≡ false → begins (more_values w.1.values) m ≡ false
  off_last ws w [] h = refl
  off_last ws w (q ∷ m) h = sym (last_pair ws w q) ∙ (or_parts _ (last_on (ws ++ w ∷ []) q) h).1

  module _ (names : IsWellFormed model) where
    -- Pairs that say what others say and more have these first.
    pub pairs_left : (zs ws all : List (Member × Point)) (m rest : List Phrase) → AreWitnessed model (zs ++ ws) → AreWitnessed model (zs ++ all) → flat_map witness_phrases all ++ m ≡ flat_map witness_phrases ws ++ rest
        → begins ((witnessed model).goes_on (zs ++ all)) m ≡ false → begins (last_on (zs ++ ws)) rest ≡ false → (left : List (Member × Point)) × (all ≡ ws ++ left)
    pairs_left zs [] all m rest h k e off last = (all, refl)
    pairs_left zs (w ∷ ws) [] m rest h k e off last =
        let on = pair_begins zs w (flat_map witness_phrases ws ++ rest) (pair_stands zs w ws h) in
        let same : m ≡ witness_phrases w ++ (flat_map witness_phrases ws ++ rest) = e ∙ append_assoc (witness_phrases w) (flat_map witness_phrases ws) rest in
        absurd (true≢false (sym on ∙ ap (λ l. begins ((witnessed model).goes_on zs) l) (sym same) ∙ ap (λ l. begins ((witnessed model).goes_on l) m) (sym (append-nil zs)) ∙ off))
    pairs_left zs (w ∷ ws) (v ∷ all) m rest h k e off last =
        let first : Phrase.Member v.0 ≡ Phrase.Member w.0 = cc in
        let member : v.0 ≡ w.0 = cc in
        let behind : (value_phrases 0 v.1.values ++ flat_map witness_phrases all) ++ m ≡ (value_phrases 0 w.1.values ++ flat_map witness_phrases ws) ++ rest = cc in
        let split : value_phrases 0 v.1.values ++ (flat_map witness_phrases all ++ m) ≡ value_phrases 0 w.1.values ++ (flat_map witness_phrases ws ++ rest) = sym (append_assoc (value_phrases 0 v.1.values) (flat_map witness_phrases all) m) ∙ behind ∙ append_assoc (value_phrases 0 w.1.values) (flat_map witness_phrases ws) rest in
        let point = values_alone model names v.1 w.1 (flat_map witness_phrases all ++ m) (flat_map witness_phrases ws ++ rest) (pair_point zs v all k) (pair_point zs w ws h) split
        (behind_values v.1.values all m (λ none. off_last zs v m (subst (λ l. begins ((witnessed model).goes_on (zs ++ v ∷ l)) m ≡ false) none off)))
        (behind_values w.1.values ws rest (λ none. sym (last_begins zs w rest) ∙ ap (λ l. begins (last_on (zs ++ w ∷ l)) rest) (sym none) ∙ last)) in
        let same : v ≡ w = ap (λ m. (m, v.1)) member ∙ ap (λ p. (w.0, p)) point in
        let over : (u : Member × Point) (l : List (Member × Point)) → zs ++ u ∷ l ≡ (zs ++ u ∷ []) ++ l = λ u l. sym (append_assoc zs (u ∷ []) l) in
        let all_is : zs ++ v ∷ all ≡ (zs ++ w ∷ []) ++ all = ap (λ u. zs ++ u ∷ all) same ∙ over w all in
        let t = pairs_left (zs ++ w ∷ []) ws all m rest (subst (AreWitnessed model) (over w ws) h) (subst (AreWitnessed model) all_is k)
        (append_cancel_left (value_phrases 0 w.1.values) _ _ (ap (λ (p : Point). value_phrases 0 p.values ++ (flat_map witness_phrases all ++ m)) (sym point) ∙ split))
        (subst (λ l. begins ((witnessed model).goes_on l) m ≡ false) all_is off) (subst (λ l. begins (last_on l) rest ≡ false) (over w ws) last) in
        (t.0, ap (λ u. u ∷ all) same ∙ ap (λ l. w ∷ l) t.1)

    -- what is left is what the rest says
    left_said : (ws all left : List (Member × Point)) (m rest : List Phrase) → all ≡ ws ++ left → flat_map witness_phrases all ++ m ≡ flat_map witness_phrases ws ++ rest → flat_map witness_phrases left ++ m ≡ rest
    left_said ws all left m rest is e =
        append_cancel_left (flat_map witness_phrases ws) _ _
        (sym (append_assoc (flat_map witness_phrases ws) (flat_map witness_phrases left) m) ∙ ap (λ l. l ++ m) (sym (flat_map-append witness_phrases ws left) ∙ ap (flat_map witness_phrases) (sym is)) ∙ e)

    last_not : (ws : List (Member × Point)) (n : List Phrase) → begins ((witnessed model).goes_on ws) n ≡ false → begins (last_on ws) n ≡ false
    last_not ws [] h = refl
    last_not ws (q ∷ n) h = (or_parts _ (last_on ws q) h).1

    pub witnessed_alone : Alone (witnessed model)
    witnessed_alone a b m n ha hb e na nb =
        let t = pairs_left [] b a m n hb ha e na (last_not b n nb) in
        t.1 ∙ none t.0 t.1 (left_said b a t.0 m n t.1 e)
      where
        none : (left : List (Member × Point)) → a ≡ b ++ left → flat_map witness_phrases left ++ m ≡ n → b ++ left ≡ b
        none [] is said = append-nil b
        none (w ∷ left) is said =
            let on = pair_begins b w (flat_map witness_phrases left ++ m) (pair_stands b w left (subst (AreWitnessed model) is ha)) in
            absurd (true≢false (sym on ∙ ap (begins ((witnessed model).goes_on b)) (sym (append_assoc (witness_phrases w) (flat_map witness_phrases left) m) ∙ said) ∙ nb))

    -- ---- a pair more
    module _ (ws : List (Member × Point)) (m : Member) (h : AreWitnessed model ws) (may : may_list model Listing.Listed (map (λ w. w.0) ws) m ≡ true) where
      right : (front : List Phrase) → (front ≡ []) ⊎ ((tail : List Phrase) × (front ≡ Phrase.Member m ∷ tail)) → IsFrontOf (pair model) front → IsFrontOf (witnessed model) (flat_map witness_phrases ws ++ front)
      right front starts t = elim starts [
        | inl none ↦ record { value = ws; form = h; more = []; is = sym (append-nil (flat_map witness_phrases ws)) ∙ ap (λ l. flat_map witness_phrases ws ++ l) (sym none) ∙ sym (append-nil (flat_map witness_phrases ws ++ front)) }
        | inr some ↦
            let is : Phrase.Member t.value.0 ∷ point_phrases t.value.1.1 ≡ Phrase.Member m ∷ (some.0 ++ t.more) = t.is ∙ ap (λ l. l ++ t.more) some.1 in
            let first : Phrase.Member t.value.0 ≡ Phrase.Member m = cc in
            let member : t.value.0 ≡ m = cc in
            record {
              value = ws ++ (t.value.0, t.value.1.1) ∷ [];
              form = pair_taken ws t.value.0 t.value.1.1 h t.form.0 t.form.1.1 (ap (may_list model Listing.Listed (map (λ w. w.0) ws)) member ∙ may);
              more = t.more;
              is = flat_map-append witness_phrases ws ((t.value.0, t.value.1.1) ∷ []) ∙ ap (λ l. flat_map witness_phrases ws ++ l) (append-nil (witness_phrases (t.value.0, t.value.1.1)) ∙ t.is) ∙ sym (append_assoc (flat_map witness_phrases ws) front t.more);
            }
      ]

      wrong : (front : List Phrase) (r : Phrase) → ((tail : List Phrase) → (more : List Phrase) × (front ++ r ∷ tail ≡ Phrase.Member m ∷ more)) → IsWrong (pair model) front r → IsWrong (witnessed model) (flat_map witness_phrases ws ++ front) r
      wrong front r head w all more rest form e = by (begins ((witnessed model).goes_on all) more) refl
        where
          ends : (left : List (Member × Point)) → all ≡ ws ++ left → flat_map witness_phrases left ++ more ≡ front ++ r ∷ rest → begins ((witnessed model).goes_on all) more ≡ false → ⊥
          ends [] is said off =
              let starts = head rest in
              let on : begins ((witnessed model).goes_on ws) (Phrase.Member m ∷ starts.0) ≡ true = or_left _ (last_on ws (Phrase.Member m)) (rw may refl) in
              true≢false (sym on ∙ ap (begins ((witnessed model).goes_on ws)) (sym (said ∙ starts.1)) ∙ ap (λ l. begins ((witnessed model).goes_on l) more) (sym (is ∙ append-nil ws)) ∙ off)
          ends (v ∷ left) is said off =
              let on = w (read_pair v.0 v.1) (flat_map witness_phrases left ++ more) rest (pair_named ws v left (subst (AreWitnessed model) is form), (tt, pair_point ws v left (subst (AreWitnessed model) is form))) (sym (append_assoc (witness_phrases v) (flat_map witness_phrases left) more) ∙ said) in
              let no_more = behind_values v.1.values left more (λ none. off_last ws v more (subst (λ l. begins ((witnessed model).goes_on l) more ≡ false) (is ∙ ap (λ l. ws ++ v ∷ l) none) off)) in
              true≢false (sym on ∙ pair_on v.0 v.1 (flat_map witness_phrases left ++ more) ∙ no_more)

          by : (b : Bool) → begins ((witnessed model).goes_on all) more ≡ b → begins ((witnessed model).goes_on all) more ≡ true
          by true f = f
          by false f =
              let starts = head rest in
              let e2 : flat_map witness_phrases all ++ more ≡ flat_map witness_phrases ws ++ (front ++ r ∷ rest) = e ∙ append_assoc (flat_map witness_phrases ws) front (r ∷ rest) in
              let t = pairs_left [] ws all more (front ++ r ∷ rest) h form e2 f (ap (begins (last_on ws)) starts.1 ∙ last_off ws (Phrase.Member m) refl) in
              absurd (ends t.0 t.1 (left_said ws all t.0 more (front ++ r ∷ rest) t.1 e2) f)

      pub more_pairs : (old mid new : Cursor) (p : Point) → IsCursor model new → mid.ahead ≡ Ok (Phrase.Member m) → Comes model (witnessed model) old mid (flat_map witness_phrases ws) → IsReading model (pair model) mid new (read_pair m p)
          → Comes model (witnessed model) old new (flat_map witness_phrases (ws ++ (m, p) ∷ []))
      more_pairs old mid new p c f came read =
          subst (Comes model (witnessed model) old new) (ap (λ l. flat_map witness_phrases ws ++ l) (sym (append-nil (witness_phrases (m, p)))) ∙ sym (flat_map-append witness_phrases ws ((m, p) ∷ [])))
          (comes_more model names (witnessed model) (pair model) (flat_map witness_phrases ws) (Phrase.Member m) right wrong old mid new (read_pair m p) c came f read)

    -- ---- the loop
    pub pairs_start : (old : Cursor) → IsCursor model old → ReadsPairs model old old [] []
    pairs_start old c = record { stands = c; came = comes_start model names (witnessed model) old c; form = no_members model; grown = λ q f. (refl, (no_pairs, refl)) }

    pub pairs_end : (old mid : Cursor) (ms : List Member) (ps : List Point) → ReadsPairs model old mid ms ps → next_in (may_list model Listing.Listed) ms (found (member_of Listing.Listed) mid.ahead) ≡ None → IsRead model (witnessed model) old mid (zip ms ps)
    pairs_end old mid ms ps h none = by mid.ahead refl
      where
        by : (s : Result Phrase ReportStop) → mid.ahead ≡ s → IsRead model (witnessed model) old mid (zip ms ps)
        by (Ok q) f =
            let g = h.grown q f in
            let off : next_in (may_list model Listing.Listed) ms (member_of Listing.Listed q) ≡ None = subst (λ s. next_in (may_list model Listing.Listed) ms (found (member_of Listing.Listed) s) ≡ None) f none in
            record {
              reading = comes_whole model names (witnessed model) old mid (zip ms ps) g.1.0 h.came;
              ended = subst (λ s. IsEnded (witnessed model) (zip ms ps) s) (sym f)
                  (or_from _ (last_on (zip ms ps) q) (ap (λ l. is_there (next_in (may_list model Listing.Listed) l (member_of Listing.Listed q))) (zip_first ms ps g.0) ∙ ap is_there off) g.1.1);
            }
        by (Err stop) f = record { reading = comes_stopped model names (witnessed model) old mid (flat_map witness_phrases (zip ms ps)) (zip ms ps) stop f h.came; ended = subst (λ s. IsEnded (witnessed model) (zip ms ps) s) (sym f) tt }

    pair_follows : Follows (one Member Phrase.Member (IsNamedMember model)) (point model)
    pair_follows = record { alone = λ a b m n ha hb e na nb. (let p : Phrase.Member a ≡ Phrase.Member b = cc in cc); some = (tt, point_of model []); form = (tt, point_taken model [] (no_values model)); apart = λ x y. refl }

    -- a pair more
    pub pairs_more : (old mid next new : Cursor) (ms : List Member) (ps : List Point) (m : Member) (p : Point) → ReadsPairs model old mid ms ps → next_in (may_list model Listing.Listed) ms (found (member_of Listing.Listed) mid.ahead) ≡ Some m
        → Passes model true mid next → IsCursor model next → IsRead model (point model) next new (tt, p) → IsCursor model new → ReadsPairs model old new (ms ++ m ∷ []) (ps ++ p ∷ [])
    pairs_more old mid next new ms ps m p h e passes c read d =
        let n = next_is model names Member Phrase.Member (member_of Listing.Listed) (may_list model Listing.Listed) (AreMembers model) (member_finds Listing.Listed) ms mid.ahead m e in
        let g = h.grown (Phrase.Member m) n.0 in
        let named = (subst (λ s. IsCursorAt model s mid) n.0 h.stands.at).0 in
        let first = one_read model names Member Phrase.Member (member_of Listing.Listed) (IsNamedMember model) (member_finds Listing.Listed) (λ x. refl) (λ x k. k) m named (Some m) mid next m m (sym (ap (found (member_of Listing.Listed)) n.0)) h.stands passes refl in
        let both = both_read model names (one Member Phrase.Member (IsNamedMember model)) (point model) pair_follows mid next new m (tt, p) first c read d in
        let may : may_list model Listing.Listed (map (λ w. w.0) (zip ms ps)) m ≡ true = ap (λ l. may_list model Listing.Listed l m) (zip_first ms ps g.0) ∙ n.1 in
        let came = more_pairs (zip ms ps) m g.1.0 may old mid new p d n.0 h.came both.reading in
        let zipped = zip_push ms ps m p g.0 in
        record {
          stands = d;
          came = subst (λ l. Comes model (witnessed model) old new (flat_map witness_phrases l)) (sym zipped) came;
          form = member_taken model ms m h.form named n.1;
          grown = λ q f. (
              let outcome = subst (λ s. IsReadingFrom model (pair model) s mid new (read_pair m p)) n.0 both.reading in
              let passed = subst (λ s. IsOutcome model (pair model) (lines_from model (Phrase.Member m) mid.rest.now) mid.number (read_pair m p) s new) f outcome in (
                (let a = length-append ps (p ∷ []) in let b = length-append ms (m ∷ []) in let l = g.0 in omega arith),
                (
                  subst (AreWitnessed model) (sym zipped) (pair_taken (zip ms ps) m p g.1.0 named passed.form.1.1 may),
                  ap (λ l. last_on l q) zipped ∙ last_pair (zip ms ps) (m, p) q ∙ sym (or_none (more_values p.values q)) ∙ subst (λ s. IsEnded (pair model) (read_pair m p) s) f both.ended,
                ),
              )
              );
        }

    pairs_stopped : (old any : Cursor) (ms : List Member) (ps : List Point) (q : Phrase) → old.ahead ≡ Ok q → AreMembers model ms → ReadsPairs model old (record any { ahead = Err Memory }) ms ps
    pairs_stopped old any ms ps q f h = record {
      stands = record { names = names; at = tt };
      came = subst (λ s. ComesFrom model (witnessed model) s old (record any { ahead = Err Memory }) (flat_map witness_phrases (zip ms ps))) (sym f) tt;
      form = h;
      grown = λ r e. absurd (cc);
    }

    -- both are pushed, or memory is refused
    pub pairs_pushed : (old mid next one two : Cursor) (ms ns : List Member) (ps qs : List Point) (m : Member) (p : Point) → ReadsPairs model old mid ms ps → next_in (may_list model Listing.Listed) ms (found (member_of Listing.Listed) mid.ahead) ≡ Some m
        → ReadsPairs model old next (ms ++ m ∷ []) (ps ++ p ∷ []) → Pushes next ms m one ns → Pushes one ps p two qs → ReadsPairs model old two ns qs
    pairs_pushed old mid next one two ms ns ps qs m p h e more first second =
        let n = next_is model names Member Phrase.Member (member_of Listing.Listed) (may_list model Listing.Listed) (AreMembers model) (member_finds Listing.Listed) ms mid.ahead m e in
        let start = comes_before model names (witnessed model) old mid (flat_map witness_phrases (zip ms ps)) (Phrase.Member m) n.0 h.came in
        elim first [
          | inl a ↦ elim second [
            | inl b ↦ subst (λ (z : Cursor). ReadsPairs model old z ns qs) (sym (b.0 ∙ a.0)) (subst (λ l. ReadsPairs model old next l qs) (sym a.1) (subst (λ l. ReadsPairs model old next (ms ++ m ∷ []) l) (sym b.1) more))
            | inr b ↦ subst (λ (z : Cursor). ReadsPairs model old z ns qs) (sym b.0) (pairs_stopped old one ns qs start.0 start.1 (subst (AreMembers model) (sym a.1) more.form))
          ]
          | inr a ↦ elim second [
            | inl b ↦ subst (λ (z : Cursor). ReadsPairs model old z ns qs) (sym (b.0 ∙ a.0)) (pairs_stopped old next ns qs start.0 start.1 (subst (AreMembers model) (sym a.1) h.form))
            | inr b ↦ subst (λ (z : Cursor). ReadsPairs model old z ns qs) (sym b.0) (pairs_stopped old one ns qs start.0 start.1 (subst (AreMembers model) (sym a.1) h.form))
          ]
        ]

    pub pairs_smaller : (mid next new one two : Cursor) (ms ns : List Member) (ps qs : List Point) (m : Member) (p : Point) → IsCursor model mid → next_in (may_list model Listing.Listed) ms (found (member_of Listing.Listed) mid.ahead) ≡ Some m
        → Passes model true mid next → IsCursor model next → IsRead model (point model) next new (tt, p) → IsCursor model new → Pushes new ms m one ns → Pushes one ps p two qs → room two.ahead two.number < room mid.ahead mid.number
    pairs_smaller mid next new one_ two ms ns ps qs m p stands e passes c read d first second =
        let n = next_is model names Member Phrase.Member (member_of Listing.Listed) (may_list model Listing.Listed) (AreMembers model) (member_finds Listing.Listed) ms mid.ahead m e in
        let named = (subst (λ s. IsCursorAt model s mid) n.0 stands.at).0 in
        let taken = one_read model names Member Phrase.Member (member_of Listing.Listed) (IsNamedMember model) (member_finds Listing.Listed) (λ x. refl) (λ x k. k) m named (Some m) mid next m m (sym (ap (found (member_of Listing.Listed)) n.0)) stands passes refl in
        let both = both_read model names (one Member Phrase.Member (IsNamedMember model)) (point model) pair_follows mid next new m (tt, p) taken c read d in
        let less = room_read model names (pair model) mid new (read_pair m p) (Phrase.Member m) n.0 stands d (omega arith) both.reading in
        let none = room_some model names mid (Phrase.Member m) n.0 stands in
        elim second [
          | inl b ↦ elim first [
            | inl a ↦ subst (λ (z : Cursor). room z.ahead z.number < room mid.ahead mid.number) (sym (b.0 ∙ a.0)) less
            | inr a ↦ subst (λ (z : Cursor). room z.ahead z.number < room mid.ahead mid.number) (sym (b.0 ∙ a.0)) none
          ]
          | inr b ↦ subst (λ (z : Cursor). room z.ahead z.number < room mid.ahead mid.number) (sym b.0) none
        ]
