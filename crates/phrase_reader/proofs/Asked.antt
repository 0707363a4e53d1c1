-- What command words are.
use Rattle.std.proofs.Common.{sym, subst, ◌≡◌, ◌≢◌, ℕ, Bool, true, false, cond, List, [], ◌∷◌, Option, Some, None, refl, ap, ◌∙◌}
use Rattle.std.specs.Prelude.{codes, option_map}
use Rattle.std.specs.Option.{option_and_then}
use Rattle.std.specs.Str.{bytes_eq}
use Rattle.std.proofs.lemmas.Option.{same_Some, option_and_then_some}
use Rattle.std.proofs.lemmas.Slice.Eq.{bytes_eq-Decides}
use Rattle.rational.specs.Rational.{ℚ}
use Rattle.lp_model.specs.declared.members.Side.{Side}
use Rattle.lp_model.specs.declared.members.Side.TheVariants.{Lo, Up}
use Rattle.report_text.specs.declared.report.Command.{Command}
use Rattle.report_text.specs.declared.report.Command.TheVariants.{Check, Iis, Unbounded, Relax, Reduce, Edit, Undo, Pivots, Nodes}
use Rattle.report_text.specs.declared.report.Method.TheVariants.{Deletion, Additive, Sensitivity, Elastic, Alternative}
use Rattle.report_text.specs.declared.report.TargetKind.{TargetKind}
use Rattle.report_text.specs.declared.report.TargetKind.TheVariants.{Row, RowLo, RowUp, Lower, Upper, Whole}
use Rattle.report_text.specs.declared.report.EditKind.{EditKind}
use Rattle.report_text.specs.declared.report.EditKind.TheVariants.{Drop, Keep, Weigh, SetSide, SetBound, SetMark}
use Rattle.report_text.specs.Form.{is_word, IsCommand, IsEditKind}
use Rattle.report_text.specs.Grammar.{method_word, target_word, side_word, limit_word, weight_word, mark_word, edit_words, command_words, command_text, lone_commands}
use Rattle.phrase_reader.specs.Numerals.{budget_of, limit_in, weight_in}
use Rattle.phrase_reader.specs.Commands.{lone_command, method_of, weighed_target, target_in, side_in, mark_in, moving, weighing, set_of, setting, edit_of, iis_command, budget_behind, three_command, command_said}
use Rattle.phrase_reader.proofs.Named.{told, told_if, split_if, found_of, found_spelled}
use Rattle.phrase_reader.proofs.Budgets.{budget_within, own_number}
use Rattle.phrase_reader.proofs.Values.{own_limit, limit_built, own_weight, weight_built}

-- ---- the command that words are
-- each word is the edit's, but that the number may be written otherwise
unfoldable pub AreAsked : List (List ℕ) → List ℕ → EditKind → Type 0
AreAsked words name (Weigh t w) = (number : List ℕ) × ((words ≡ codes "weight" ∷ target_word t ∷ name ∷ number ∷ []) × ((t ≢ Whole) × (weight_in number ≡ Some w)))
AreAsked words name (SetSide side v) = (number : List ℕ) × ((words ≡ codes "set" ∷ codes "row" ∷ name ∷ side_word side ∷ number ∷ []) × (limit_in number ≡ Some v))
AreAsked words name (SetBound side v) = (number : List ℕ) × ((words ≡ codes "set" ∷ codes "column" ∷ name ∷ side_word side ∷ number ∷ []) × (limit_in number ≡ Some v))
AreAsked words name (Drop t) = words ≡ edit_words name (Drop t)
AreAsked words name (Keep t) = words ≡ edit_words name (Keep t)
AreAsked words name (SetMark whole) = words ≡ edit_words name (SetMark whole)

-- each word is the command's, but that the number may be written otherwise
unfoldable pub AreSaid : List (List ℕ) → Command → Type 0
AreSaid words (Edit e) = (is_word e.name ≡ true) × AreAsked words e.name e.kind
AreSaid words (Pivots n) = (number : List ℕ) × ((words ≡ codes "budget" ∷ codes "pivots" ∷ number ∷ []) × (budget_of number ≡ Some n))
AreSaid words (Nodes n) = (number : List ℕ) × ((words ≡ codes "budget" ∷ codes "nodes" ∷ number ∷ []) × (budget_of number ≡ Some n))
AreSaid words c = words ≡ command_words c

nothing : {X : Type 0} (P : Type 0) (x : X) → ◌≡◌ {A = Option X} None (Some x) → P
nothing P x e = absurd (let s : None ≡ Some x = e in cc)

-- ---- edits
-- the parts of an edit that is told
edit_told : (kind : Option EditKind) (name : List ℕ) (c : Command) → edit_of kind name ≡ Some c
    → (k : EditKind) × ((kind ≡ Some k) × ((is_word name ≡ true) × (Edit (record { name = name; kind = k }) ≡ c)))
edit_told kind name c e =
    let t = told_if (is_word name) (option_map (λ (k : EditKind). Edit (record { name = name; kind = k })) kind) c e in
    let m = told (λ (k : EditKind). Edit (record { name = name; kind = k })) kind c t.1 in
    (m.0, (m.1.0, (t.0, m.1.1)))

edit_said : (words : List (List ℕ)) (kind : Option EditKind) (name : List ℕ) (c : Command) → ((k : EditKind) → kind ≡ Some k → AreAsked words name k) → edit_of kind name ≡ Some c → AreSaid words c
unfolding AreSaid
edit_said words kind name c asked e = let t = edit_told kind name c e in subst (AreSaid words) t.1.1.1 (t.1.1.0, asked t.0 t.1.0)

pub no_edit_of : (name : List ℕ) → edit_of None name ≡ None
no_edit_of name = by (is_word name)
  where
    by : (b : Bool) → ◌≡◌ {A = Option Command} (cond b None None) None
    by true = refl
    by false = refl

targets : List TargetKind
targets = Row ∷ RowLo ∷ RowUp ∷ Lower ∷ Upper ∷ Whole ∷ []

moving_asked : (a b name : List ℕ) (k : EditKind) → moving a b ≡ Some k → AreAsked (a ∷ b ∷ name ∷ []) name k
unfolding AreAsked targets
moving_asked a b name k e =
    split_if (AreAsked (a ∷ b ∷ name ∷ []) name k) a (codes "drop") (option_map Drop (target_in b)) (cond (bytes_eq a (codes "keep")) (option_map Keep (target_in b)) None) k e
    (λ first g. let m = told Drop (target_in b) k g in subst (AreAsked (a ∷ b ∷ name ∷ []) name) m.1.1 (spell (codes "drop") m.0 first m.1.0))
    (λ g. split_if (AreAsked (a ∷ b ∷ name ∷ []) name k) a (codes "keep") (option_map Keep (target_in b)) None k g
    (λ first h. let m = told Keep (target_in b) k h in subst (AreAsked (a ∷ b ∷ name ∷ []) name) m.1.1 (spell (codes "keep") m.0 first m.1.0))
    (nothing (AreAsked (a ∷ b ∷ name ∷ []) name k) k))
  where
    spell : (word : List ℕ) (t : TargetKind) → a ≡ word → target_in b ≡ Some t → a ∷ b ∷ name ∷ [] ≡ word ∷ target_word t ∷ name ∷ []
    spell word t first g = ap (λ w. w ∷ b ∷ name ∷ []) first ∙ ap (λ w. word ∷ w ∷ name ∷ []) (found_spelled target_word targets b t g)

mark_asked : (a name c : List ℕ) (k : EditKind) → a ≡ codes "mark" → option_map SetMark (mark_in c) ≡ Some k → AreAsked (a ∷ name ∷ c ∷ []) name k
unfolding AreAsked
mark_asked a name c k first e =
    let m = told SetMark (mark_in c) k e in
    subst (AreAsked (a ∷ name ∷ c ∷ []) name) m.1.1 (ap (λ w. w ∷ name ∷ c ∷ []) first ∙ ap (λ w. codes "mark" ∷ name ∷ w ∷ []) (found_spelled mark_word (true ∷ false ∷ []) c m.0 m.1.0))

-- a mark is not weighed
no_mark_weighed : (word : List ℕ) (t : TargetKind) → weighed_target word ≡ Some t → word ≡ target_word t → t ≢ Whole
no_mark_weighed word t e spelled whole = nothing ⊥ t (sym (ap weighed_target (spelled ∙ ap target_word whole)) ∙ e)

weighing_asked : (a b name d : List ℕ) (k : EditKind) → weighing a b d ≡ Some k → AreAsked (a ∷ b ∷ name ∷ d ∷ []) name k
unfolding AreAsked
weighing_asked a b name d k e =
    split_if (AreAsked words name k) a (codes "weight") (option_and_then (λ (t : TargetKind). option_map (Weigh t) (weight_in d)) (weighed_target b)) None k e
    (λ first g. option_and_then_some (λ (t : TargetKind). option_map (Weigh t) (weight_in d)) (weighed_target b) k g (λ t h f. by first t h f)) (nothing (AreAsked words name k) k)
  where
    words : List (List ℕ)
    words = a ∷ b ∷ name ∷ d ∷ []

    by : a ≡ codes "weight" → (t : TargetKind) → weighed_target b ≡ Some t → option_map (Weigh t) (weight_in d) ≡ Some k → AreAsked (a ∷ b ∷ name ∷ d ∷ []) name k
    by first t h f =
        let m = told (Weigh t) (weight_in d) k f in
        let spelled = found_spelled target_word (Row ∷ RowLo ∷ RowUp ∷ Lower ∷ Upper ∷ []) b t h in
        subst (AreAsked (a ∷ b ∷ name ∷ d ∷ []) name) m.1.1
        (d, (ap (λ w. w ∷ b ∷ name ∷ d ∷ []) first ∙ ap (λ w. codes "weight" ∷ w ∷ name ∷ d ∷ []) spelled, (no_mark_weighed b t h spelled, m.1.0)))

set_asked : (a b name d last : List ℕ) (side : Side) (v : Option ℚ) (k : EditKind) → a ≡ codes "set" → d ≡ side_word side → limit_in last ≡ Some v → set_of b side v ≡ Some k → AreAsked (a ∷ b ∷ name ∷ d ∷ last ∷ []) name k
unfolding AreAsked
set_asked a b name d last side v k first third number e =
    split_if (AreAsked words name k) b (codes "row") (Some (SetSide side v)) (cond (bytes_eq b (codes "column")) (Some (SetBound side v)) None) k e
    (λ second g. subst (AreAsked words name) (same_Some (SetSide side v) k g) (last, (spell (codes "row") second, number)))
    (λ g. split_if (AreAsked words name k) b (codes "column") (Some (SetBound side v)) None k g
    (λ second h. subst (AreAsked words name) (same_Some (SetBound side v) k h) (last, (spell (codes "column") second, number)))
    (nothing (AreAsked words name k) k))
  where
    words : List (List ℕ)
    words = a ∷ b ∷ name ∷ d ∷ last ∷ []

    spell : (what : List ℕ) → b ≡ what → a ∷ b ∷ name ∷ d ∷ last ∷ [] ≡ codes "set" ∷ what ∷ name ∷ side_word side ∷ last ∷ []
    spell what second =
        ap (λ w. w ∷ b ∷ name ∷ d ∷ last ∷ []) first ∙ ap (λ w. codes "set" ∷ w ∷ name ∷ d ∷ last ∷ []) second
        ∙ ap (λ w. codes "set" ∷ what ∷ name ∷ w ∷ last ∷ []) third

setting_asked : (a b name d last : List ℕ) (k : EditKind) → setting a b d last ≡ Some k → AreAsked (a ∷ b ∷ name ∷ d ∷ last ∷ []) name k
setting_asked a b name d last k e =
    split_if (AreAsked words name k) a (codes "set") (option_and_then (λ (s : Side). option_and_then (set_of b s) (limit_in last)) (side_in d)) None k e
    (λ first g. option_and_then_some (λ (s : Side). option_and_then (set_of b s) (limit_in last)) (side_in d) k g
    (λ side h f. option_and_then_some (set_of b side) (limit_in last) k f (λ v number j. set_asked a b name d last side v k first (found_spelled side_word (Lo ∷ Up ∷ []) d side h) number j)))
    (nothing (AreAsked words name k) k)
  where
    words : List (List ℕ)
    words = a ∷ b ∷ name ∷ d ∷ last ∷ []

-- ---- commands
-- one word is the text of a command of one word
lone_said : (a : List ℕ) (c : Command) → lone_command a ≡ Some c → AreSaid (a ∷ []) c
unfolding AreSaid
lone_said a c e =
    subst (λ w. AreSaid (w ∷ []) c) (sym (found_spelled command_text lone_commands a c e))
    (found_of (λ k. AreSaid (command_text k ∷ []) k) (λ k. bytes_eq a (command_text k)) lone_commands c (refl, (refl, (refl, (refl, (refl, tt))))) e)

search_said : (a b : List ℕ) (c : Command) → iis_command a b ≡ Some c → AreSaid (a ∷ b ∷ []) c
unfolding AreSaid
search_said a b c e =
    let t = told_if (bytes_eq a (codes "iis")) (option_map Iis (method_of b)) c e in
    let m = told Iis (method_of b) c t.1 in
    subst (AreSaid (a ∷ b ∷ [])) m.1.1
    (ap (λ w. w ∷ b ∷ []) ((bytes_eq-Decides a (codes "iis")).0 t.0) ∙ ap (λ w. codes "iis" ∷ w ∷ []) (found_spelled method_word (Deletion ∷ Additive ∷ Sensitivity ∷ Elastic ∷ Alternative ∷ []) b m.0 m.1.0))

-- what stands behind `budget`
behind_said : (b number : List ℕ) (c : Command) → budget_behind b number ≡ Some c → AreSaid (codes "budget" ∷ b ∷ number ∷ []) c
unfolding AreSaid
behind_said b number c e =
    split_if (AreSaid words c) b (codes "pivots") (option_map Pivots (budget_of number)) (cond (bytes_eq b (codes "nodes")) (option_map Nodes (budget_of number)) None) c e
    (λ w g. let n = told Pivots (budget_of number) c g in subst (AreSaid words) n.1.1 (number, (ap (λ v. codes "budget" ∷ v ∷ number ∷ []) w, n.1.0)))
    (λ g. split_if (AreSaid words c) b (codes "nodes") (option_map Nodes (budget_of number)) None c g
    (λ w h. let n = told Nodes (budget_of number) c h in subst (AreSaid words) n.1.1 (number, (ap (λ v. codes "budget" ∷ v ∷ number ∷ []) w, n.1.0)))
    (nothing (AreSaid words c) c))
  where
    words : List (List ℕ)
    words = codes "budget" ∷ b ∷ number ∷ []

three_said : (a b d : List ℕ) (c : Command) → three_command a b d ≡ Some c → AreSaid (a ∷ b ∷ d ∷ []) c
three_said a b d c e =
    split_if (AreSaid words c) a (codes "budget") (budget_behind b d) (cond (bytes_eq a (codes "mark")) (edit_of (option_map SetMark (mark_in d)) b) (edit_of (moving a b) d)) c e
    (λ w g. subst (λ v. AreSaid (v ∷ b ∷ d ∷ []) c) (sym w) (behind_said b d c g))
    (λ g. split_if (AreSaid words c) a (codes "mark") (edit_of (option_map SetMark (mark_in d)) b) (edit_of (moving a b) d) c g
    (λ w h. edit_said words (option_map SetMark (mark_in d)) b c (λ k f. mark_asked a b d k w f) h)
    (λ h. edit_said words (moving a b) d c (moving_asked a b d) h))
  where
    words : List (List ℕ)
    words = a ∷ b ∷ d ∷ []

pub words_said : (words : List (List ℕ)) (c : Command) → command_said words ≡ Some c → AreSaid words c
words_said [] c e = nothing (AreSaid [] c) c e
words_said (a ∷ []) c e = lone_said a c e
words_said (a ∷ b ∷ []) c e = search_said a b c e
words_said (a ∷ b ∷ d ∷ []) c e = three_said a b d c e
words_said (a ∷ b ∷ name ∷ d ∷ []) c e = edit_said (a ∷ b ∷ name ∷ d ∷ []) (weighing a b d) name c (weighing_asked a b name d) e
words_said (a ∷ b ∷ name ∷ d ∷ last ∷ []) c e = edit_said (a ∷ b ∷ name ∷ d ∷ last ∷ []) (setting a b d last) name c (setting_asked a b name d last) e
words_said (a ∷ b ∷ name ∷ d ∷ last ∷ sixth ∷ words) c e = nothing (AreSaid (a ∷ b ∷ name ∷ d ∷ last ∷ sixth ∷ words) c) c e

-- it is one of a script
asked_built : (words : List (List ℕ)) (name : List ℕ) (k : EditKind) → AreAsked words name k → IsEditKind k
unfolding AreAsked
asked_built words name (Drop t) s = tt
asked_built words name (Keep t) s = tt
asked_built words name (Weigh t w) s = (s.1.1.0, weight_built s.0 w s.1.1.1)
asked_built words name (SetSide side v) s = limit_built s.0 v s.1.1
asked_built words name (SetBound side v) s = limit_built s.0 v s.1.1
asked_built words name (SetMark whole) s = tt

pub said_built : (words : List (List ℕ)) (c : Command) → command_said words ≡ Some c → IsCommand c
unfolding AreSaid
said_built words (Edit n) e = let s = words_said words (Edit n) e in record { word = s.0; kind = asked_built words n.name n.kind s.1 }
said_built words (Pivots n) e = let s = words_said words (Pivots n) e in budget_within s.0 n s.1.1
said_built words (Nodes n) e = let s = words_said words (Nodes n) e in budget_within s.0 n s.1.1
said_built words c e = tt

-- ---- a command's own words
own_target : (t : TargetKind) → target_in (target_word t) ≡ Some t
own_target Row = refl
own_target RowLo = refl
own_target RowUp = refl
own_target Lower = refl
own_target Upper = refl
own_target Whole = refl

own_weighed : (t : TargetKind) → t ≢ Whole → weighed_target (target_word t) ≡ Some t
own_weighed Row h = refl
own_weighed RowLo h = refl
own_weighed RowUp h = refl
own_weighed Lower h = refl
own_weighed Upper h = refl
own_weighed Whole h = absurd (h refl)

own_side : (side : Side) → side_in (side_word side) ≡ Some side
own_side Lo = refl
own_side Up = refl

own_mark : (whole : Bool) → mark_in (mark_word whole) ≡ Some whole
own_mark true = refl
own_mark false = refl

named : (kind : Option EditKind) (name : List ℕ) (k : EditKind) → is_word name ≡ true → kind ≡ Some k → edit_of kind name ≡ Some (Edit (record { name = name; kind = k }))
named kind name k w e =
    ap (λ (b : Bool). cond b (option_map (λ (l : EditKind). Edit (record { name = name; kind = l })) kind) None) w
    ∙ ap (option_map (λ (l : EditKind). Edit (record { name = name; kind = l }))) e

own_edit : (name : List ℕ) (k : EditKind) → is_word name ≡ true → IsEditKind k → command_said (edit_words name k) ≡ Some (Edit (record { name = name; kind = k }))
own_edit name (Drop t) w h = named (moving (codes "drop") (target_word t)) name (Drop t) w (ap (option_map Drop) (own_target t))
own_edit name (Keep t) w h = named (moving (codes "keep") (target_word t)) name (Keep t) w (ap (option_map Keep) (own_target t))
own_edit name (Weigh t weight) w h =
    named (weighing (codes "weight") (target_word t) (weight_word weight)) name (Weigh t weight) w
    (ap (option_and_then (λ (u : TargetKind). option_map (Weigh u) (weight_in (weight_word weight)))) (own_weighed t h.0) ∙ ap (option_map (Weigh t)) (own_weight weight h.1))
own_edit name (SetSide side v) w h =
    named (setting (codes "set") (codes "row") (side_word side) (limit_word v)) name (SetSide side v) w
    (ap (option_and_then (λ (s : Side). option_and_then (set_of (codes "row") s) (limit_in (limit_word v)))) (own_side side) ∙ ap (option_and_then (set_of (codes "row") side)) (own_limit v h))
own_edit name (SetBound side v) w h =
    named (setting (codes "set") (codes "column") (side_word side) (limit_word v)) name (SetBound side v) w
    (ap (option_and_then (λ (s : Side). option_and_then (set_of (codes "column") s) (limit_in (limit_word v)))) (own_side side) ∙ ap (option_and_then (set_of (codes "column") side)) (own_limit v h))
own_edit name (SetMark whole) w h = named (option_map SetMark (mark_in (mark_word whole))) name (SetMark whole) w (ap (option_map SetMark) (own_mark whole))

pub own_words : (c : Command) → IsCommand c → command_said (command_words c) ≡ Some c
own_words (Iis Deletion) h = refl
own_words (Iis Additive) h = refl
own_words (Iis Sensitivity) h = refl
own_words (Iis Elastic) h = refl
own_words (Iis Alternative) h = refl
own_words (Edit e) h = own_edit e.name e.kind h.word h.kind
own_words (Pivots n) h = ap (option_map Pivots) (own_number n h)
own_words (Nodes n) h = ap (option_map Nodes) (own_number n h)
own_words c h = refl
