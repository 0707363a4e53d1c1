-- How many lines there are.
use Rattle.std.proofs.Common.{◌≡◌, ◌≤◌, ◌<◌, ◌+◌, refl, sym, ◌∙◌, ap, ℕ, zero, suc, List, [], ◌∷◌, ◌++◌, length, map, take, drop, get_or, flat_map, length-append, arith}
use Rattle.std.proofs.lemmas.List.{at_drop_more, length-map}
use Rattle.lp_model.specs.Program.{Program}
use Rattle.lp_model.specs.MemberSets.{SetValue}
use Rattle.certs.specs.declared.evidence.Proof.{Proof}
use Rattle.report_text.specs.declared.report.Core.{Core}
use Rattle.report_text.specs.declared.report.Command.{Command}
use Rattle.report_text.specs.declared.report.Entry.{Entry}
use Rattle.report_text.specs.Turns.{after}
use Rattle.report_text.specs.declared.report.Report.{Report}
use Rattle.report_text.specs.declared.report.Answer.TheVariants.{Infeasible, Irreducible, RigidInfeasible}
use Rattle.report_text.specs.declared.phrases.Phrase.{Phrase}
use Rattle.report_text.specs.Grammar.{Line, text_of, phrase_line, node_phrases, witness_phrases, price_phrases, proof_phrases, rounds_phrases, answer_phrases, entry_phrases, entries_phrases, report_phrases, report_lines}
use Rattle.report_text.specs.Form.{AreNumbered}
use Rattle.cert_check.specs.Trials.{witnesses_of}
use Rattle.cert_check.specs.Uses.{AreShort}

-- ---- the lines of a list of parts
module _ {A : Type 0} (lines : A → List Phrase) where
  -- those of one part and of the rest
  pub next_lines : (list : List A) (i : ℕ) (a : A) → i < length list → a ≡ get_or list i a → length (flat_map lines (drop i list)) ≡ length (lines a) + length (flat_map lines (drop (i + 1) list))
  next_lines list i a l is =
      at_drop_more (λ (z : List A). length (flat_map lines z)) list i a l
      ∙ (length-append (lines (get_or list i a)) (flat_map lines (drop (i + 1) list))
      ∙ ap (λ (x : A). length (lines x) + length (flat_map lines (drop (i + 1) list))) (sym is))

  -- those of the first parts are no more than all
  pub front_lines : (n : ℕ) (list : List A) → length (flat_map lines (take n list)) ≤ length (flat_map lines list)
  front_lines zero list = omega arith
  front_lines (suc n) [] = omega arith
  front_lines (suc n) (a ∷ list) =
      let front = length-append (lines a) (flat_map lines (take n list)) in
      let all = length-append (lines a) (flat_map lines list) in
      let rest : length (flat_map lines (take n list)) ≤ length (flat_map lines list) = front_lines n list in
      omega (arith, front, all, rest)

-- ---- the lines of an answer
-- the members and the nodes are fewer than the lines
pub members_fit : (model : Program) (set : SetValue) (proof : Proof) → length set.members + length (flat_map node_phrases proof.nodes) ≤ length (answer_phrases model (Infeasible set proof))
members_fit model set proof =
    let members = map Phrase.Member set.members in
    let front = members ++ proof_phrases proof in
    let a : length front ≡ length members + length (proof_phrases proof) = length-append members (proof_phrases proof) in
    let b : length members ≡ length set.members = length-map set.members Phrase.Member in
    let c : length (answer_phrases model (Infeasible set proof)) ≡ suc (length (front ++ Phrase.End ∷ [])) = refl in
    let d : length (front ++ Phrase.End ∷ []) ≡ length front + 1 = length-append front (Phrase.End ∷ []) in
    let e : length (proof_phrases proof) ≡ suc (length (flat_map node_phrases proof.nodes)) = refl in
    omega (arith, a, b, c, d, e)

-- and so are rigid members and the nodes
pub rigid_fit : (model : Program) (set : SetValue) (proof : Proof) → length set.members + length (flat_map node_phrases proof.nodes) ≤ length (answer_phrases model (RigidInfeasible set proof))
rigid_fit model set proof = members_fit model set proof

-- and so are those of members with witnesses, and the nodes
pub witnesses_fit : (model : Program) (core : Core) → length (flat_map witness_phrases (witnesses_of core)) + length (flat_map node_phrases core.proof.nodes) ≤ length (answer_phrases model (Irreducible core))
witnesses_fit model core =
    let witnesses = flat_map witness_phrases (witnesses_of core) in
    let behind = rounds_phrases core.rounds ++ price_phrases core.price in
    let rest = proof_phrases core.proof ++ behind in
    let front = witnesses ++ rest in
    let a : length front ≡ length witnesses + length rest = length-append witnesses rest in
    let b : length rest ≡ length (proof_phrases core.proof) + length behind = length-append (proof_phrases core.proof) behind in
    let c : length (answer_phrases model (Irreducible core)) ≡ suc (length (front ++ Phrase.End ∷ [])) = refl in
    let d : length (front ++ Phrase.End ∷ []) ≡ length front + 1 = length-append front (Phrase.End ∷ []) in
    let e : length (proof_phrases core.proof) ≡ suc (length (flat_map node_phrases core.proof.nodes)) = refl in
    omega (arith, a, b, c, d, e)

-- ---- the lines of entries, where line number n is that of the first
entries_short : (model : Program) (before : List Command) (n : ℕ) (entries : List Entry) → AreNumbered model before n entries → n + length (entries_phrases model before entries) ≤ 2147483648 → AreShort model before entries
entries_short model before n [] h l = tt
entries_short model before n (e ∷ entries) h l =
    let next = before ++ e.command ∷ [] in
    let own = entry_phrases (after model before) e in
    let others = entries_phrases model next entries in
    let a : length (entries_phrases model before (e ∷ entries)) ≡ length own + length others = length-append own others in
    let line : e.line ≡ n = h.0 in
    let first : e.line + length own < 4294967280 = omega (arith, a, l, line) in
    let rest : (n + length own) + length others ≤ 2147483648 = omega (arith, a, l) in
    (first, entries_short model next (n + length own) entries h.1 rest)

-- of a report: before the first entry stand the head and the notes, and after the last the foot
pub report_short : (model : Program) (report : Report) → AreNumbered model [] (2 + length report.notes) report.entries → length (report_lines model report) < 2147483648 → AreShort model [] report.entries
report_short model report h l =
    let notes = map Phrase.Note report.notes in
    let entries = entries_phrases model [] report.entries in
    let phrases = report_phrases model report in
    let a : length phrases ≡ suc (length ((notes ++ entries) ++ Phrase.Foot ∷ [])) = refl in
    let b : length ((notes ++ entries) ++ Phrase.Foot ∷ []) ≡ length (notes ++ entries) + 1 = length-append (notes ++ entries) (Phrase.Foot ∷ []) in
    let c : length (notes ++ entries) ≡ length notes + length entries = length-append notes entries in
    let d : length notes ≡ length report.notes = length-map report.notes Phrase.Note in
    let lines : length (report_lines model report) ≡ length phrases = length-map phrases (phrase_line model) in
    let within : (2 + length report.notes) + length entries ≤ 2147483648 = omega (arith, a, b, c, d, lines, l) in
    entries_short model [] (2 + length report.notes) report.entries h within

-- ---- for callers
-- lines are no more than the bytes of their text
pub lines_fit : (lines : List Line) → length lines ≤ length (text_of lines)
lines_fit [] = omega arith
lines_fit (line ∷ lines) =
    let a : length (text_of (line ∷ lines)) ≡ length (line ++ 10 ∷ []) + length (text_of lines) = length-append (line ++ 10 ∷ []) (text_of lines) in
    let b : length (line ++ 10 ∷ []) ≡ length line + 1 = length-append line (10 ∷ []) in
    let rest : length lines ≤ length (text_of lines) = lines_fit lines in
    let one : length (line ∷ lines) ≡ suc (length lines) = refl in
    omega (arith, a, b, rest, one)
