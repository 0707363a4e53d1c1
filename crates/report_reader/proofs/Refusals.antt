-- Where no answer to the command begins with the next line, reading stops there.
use Rattle.std.proofs.Common.{◌≡◌, refl, sym, ap, subst, ◌∙◌, Bool, true, false, ◌&&◌, ◌||◌, List, [], ◌∷◌, ◌++◌, cond, Option, Some, None, arith}
use Rattle.std.specs.Prelude.{Result, Ok, Err, is_some}
use Rattle.std.proofs.lemmas.List.Elements.{All-nil}
use Rattle.lp_model.specs.Program.{Program, IsWellFormed}
use Rattle.report_text.specs.declared.report.Command.{Command}
use Rattle.report_text.specs.declared.report.Method.{Method}
use Rattle.report_text.specs.declared.report.Core.{Core}
use Rattle.report_text.specs.declared.report.Answer.{Answer}
use Rattle.report_text.specs.declared.report.ToldStop.{ToldStop}
use Rattle.report_text.specs.declared.phrases.Phrase.{Phrase}
use Rattle.report_text.specs.declared.phrases.StopPhrase.{StopPhrase}
use Rattle.report_text.specs.Grammar.{answer_phrases}
use Rattle.report_text.specs.Form.{IsCount, IsStepFor, is_one_leaf, is_kept, asks_of, can_answer}
use Rattle.report_reader.specs.declared.answers.Opening.{Opening}
use Rattle.report_reader.specs.declared.cursor.Cursor.{Cursor}
use Rattle.report_reader.specs.declared.reader.ReportStop.{ReportStop}
use Rattle.report_reader.specs.Kinds.{next_in, lines_from, IsWrong, IsOutcome, IsReadingFrom, IsEnded, IsRead, IsCursor, IsCursorAt, Passes, PassesFrom}
use Rattle.report_reader.specs.Things.{found, answer, opening, opening_phrase, may_begin}
use Rattle.report_reader.proofs.Passing.{refused, come_start, next_is}

-- what an answer begins with
abbrev opening_of : Answer → Opening
opening_of (Answer.Feasible p) = Opening.Feasible
opening_of (Answer.Infeasible set proof) = Opening.Infeasible
opening_of (Answer.Irreducible core) = Opening.Irreducible
opening_of (Answer.Unbounded p ray) = Opening.Unbounded
opening_of (Answer.Bounded b) = Opening.Bounded
opening_of (Answer.Least p dual) = Opening.Least
opening_of (Answer.RigidInfeasible set proof) = Opening.RigidInfeasible
opening_of (Answer.Reduced r) = Opening.Reduced
opening_of Answer.Done = Opening.Done
opening_of (Answer.Refused r) = Opening.Refused r
opening_of (Answer.NotLinear j) = Opening.NotLinear j
opening_of (Answer.Stopped (ToldStop.Wide s k o)) = Opening.Wide
opening_of (Answer.Stopped (ToldStop.Pivots s)) = Opening.Spent
opening_of (Answer.Stopped (ToldStop.Nodes s)) = Opening.Nodes
opening_of (Answer.Stopped (ToldStop.Large n)) = Opening.Large n

and_first : (a b : Bool) → (a && b) ≡ true → a ≡ true
and_first true b h = refl
and_first false b h = h

kept_some : (s : Option Method) (core : Core) → is_kept s core ≡ true → is_some s ≡ true
kept_some (Some method) core h = refl
kept_some None core h = h

may_open : (c : Command) (a : Answer) → can_answer c a ≡ true → may_begin c (opening_of a) ≡ true
may_open c (Answer.Infeasible set proof) h = and_first (asks_of c).infeasible ((asks_of c).splits || is_one_leaf proof.nodes) h
may_open c (Answer.RigidInfeasible set proof) h = and_first (asks_of c).least ((asks_of c).splits || is_one_leaf proof.nodes) h
may_open c (Answer.Irreducible core) h = kept_some (asks_of c).search core h
may_open c (Answer.Stopped (ToldStop.Wide s k o)) h = h
may_open c (Answer.Stopped (ToldStop.Pivots s)) h = h
may_open c (Answer.Stopped (ToldStop.Nodes s)) h = h
may_open c (Answer.Stopped (ToldStop.Large n)) h = h
may_open c (Answer.Feasible p) h = h
may_open c (Answer.Unbounded p ray) h = h
may_open c (Answer.Bounded b) h = h
may_open c (Answer.Least p dual) h = h
may_open c (Answer.Reduced r) h = h
may_open c Answer.Done h = h
may_open c (Answer.Refused r) h = h
may_open c (Answer.NotLinear j) h = h

-- an answer that each command may have
pub some_answer : Command → Answer
some_answer Command.Reduce = Answer.Reduced (record { steps = []; rows = 0; columns = 0 })
some_answer (Command.Edit e) = Answer.Done
some_answer Command.Undo = Answer.Done
some_answer (Command.Pivots n) = Answer.Done
some_answer (Command.Nodes n) = Answer.Done
some_answer c = Answer.Stopped (ToldStop.Large 0)

module _ (model : Program) where
  pub some_form : (c : Command) → (answer model c).IsFor (some_answer c)
  unfolding some_answer
  some_form Command.Reduce = (record { steps = All-nil (IsStepFor model); rows = omega arith; columns = omega arith }, refl)
  some_form (Command.Edit e) = (tt, refl)
  some_form Command.Undo = (tt, refl)
  some_form (Command.Pivots n) = (tt, refl)
  some_form (Command.Nodes n) = (tt, refl)
  some_form Command.Check = ((let e : IsCount 0 = omega arith in e), refl)
  some_form (Command.Iis method) = ((let e : IsCount 0 = omega arith in e), refl)
  some_form Command.Unbounded = ((let e : IsCount 0 = omega arith in e), refl)
  some_form Command.Relax = ((let e : IsCount 0 = omega arith in e), refl)

  opens : (a : Answer) (more rest : List Phrase) (q : Phrase) → answer_phrases model a ++ more ≡ q ∷ rest → opening q ≡ Some (opening_of a)
  opens (Answer.Stopped (ToldStop.Wide s k o)) more rest q e = let t : q ≡ Phrase.Stop StopPhrase.Wide = cc in ap opening t
  opens (Answer.Stopped (ToldStop.Pivots s)) more rest q e = let t : q ≡ Phrase.Stop StopPhrase.Spent = cc in ap opening t
  opens (Answer.Stopped (ToldStop.Nodes s)) more rest q e = let t : q ≡ Phrase.Stop StopPhrase.Nodes = cc in ap opening t
  opens (Answer.Stopped (ToldStop.Large n)) more rest q e = let t : q ≡ Phrase.Stop (StopPhrase.Large n) = cc in ap opening t
  opens a more rest q e = let t : q ≡ opening_phrase (opening_of a) = cc in ap opening t

  -- no answer to the command begins with what does not begin one
  none_begins : (c : Command) (q : Phrase) → next_in (λ none o. may_begin c o) [] (opening q) ≡ None → IsWrong (answer model c) [] q
  none_begins c q none a more rest form e =
      let t : next_in (λ none o. may_begin c o) [] (opening q) ≡ Some (opening_of a) =
      ap (λ o. next_in (λ none o. may_begin c o) [] o) (opens a more rest q e) ∙ ap (λ b. cond b (Some (opening_of a)) None) (may_open c a form.1) in
      let u : None ≡ Some (opening_of a) = sym none ∙ t in absurd (cc)

module _ (model : Program) (names : IsWellFormed model) (c : Command) (old new : Cursor) where
  from : (s : Result Phrase ReportStop) (a : Answer) → IsCursorAt model s old → next_in (λ none o. may_begin c o) [] (found opening s) ≡ None → PassesFrom model s false old new → IsReadingFrom model (answer model c) s old new a
  from (Err stop) a h none passes = passes
  from (Ok q) a h none passes =
      let bad = refused model names (answer model c) (lines_from model q old.rest.now) old.number [] q old.rest.now old.number (come_start model names q old.rest.now old.number h.0)
      (record { value = some_answer c; form = some_form model c; more = (answer model c).said (some_answer c); is = refl }) (none_begins model c q none) in
      subst (λ (z : Cursor). IsOutcome model (answer model c) (lines_from model q old.rest.now) old.number a z.ahead z) (sym passes) bad

  ended_so : (s : Result Phrase ReportStop) (a : Answer) → IsEnded (answer model c) a s
  ended_so (Ok q) a = refl
  ended_so (Err stop) a = tt

  pub none_read : (a : Answer) → IsCursor model old → next_in (λ none o. may_begin c o) [] (found opening old.ahead) ≡ None → Passes model false old new → IsRead model (answer model c) old new a
  none_read a h none passes = record { reading = from old.ahead a h.at none passes; ended = ended_so new.ahead a }

pub opening_finds : (q : Phrase) (o : Opening) → opening q ≡ Some o → q ≡ opening_phrase o
opening_finds Phrase.Feasible o h = let same : Opening.Feasible ≡ o = cc in ap opening_phrase same
opening_finds Phrase.Infeasible o h = let same : Opening.Infeasible ≡ o = cc in ap opening_phrase same
opening_finds Phrase.Irreducible o h = let same : Opening.Irreducible ≡ o = cc in ap opening_phrase same
opening_finds Phrase.Unbounded o h = let same : Opening.Unbounded ≡ o = cc in ap opening_phrase same
opening_finds Phrase.Bounded o h = let same : Opening.Bounded ≡ o = cc in ap opening_phrase same
opening_finds Phrase.Least o h = let same : Opening.Least ≡ o = cc in ap opening_phrase same
opening_finds Phrase.RigidInfeasible o h = let same : Opening.RigidInfeasible ≡ o = cc in ap opening_phrase same
opening_finds Phrase.Reduced o h = let same : Opening.Reduced ≡ o = cc in ap opening_phrase same
opening_finds Phrase.Done o h = let same : Opening.Done ≡ o = cc in ap opening_phrase same
opening_finds (Phrase.Refused r) o h = let same : Opening.Refused r ≡ o = cc in ap opening_phrase same
opening_finds (Phrase.NotLinear j) o h = let same : Opening.NotLinear j ≡ o = cc in ap opening_phrase same
opening_finds (Phrase.Stop StopPhrase.Wide) o h = let same : Opening.Wide ≡ o = cc in ap opening_phrase same
opening_finds (Phrase.Stop StopPhrase.Spent) o h = let same : Opening.Spent ≡ o = cc in ap opening_phrase same
opening_finds (Phrase.Stop StopPhrase.Nodes) o h = let same : Opening.Nodes ≡ o = cc in ap opening_phrase same
opening_finds (Phrase.Stop (StopPhrase.Large n)) o h = let same : Opening.Large n ≡ o = cc in ap opening_phrase same
opening_finds (Phrase.Stop s) o h = absurd (cc)
opening_finds q o h = absurd (cc)

-- what comes next begins an answer to the command
pub next_begins : (model : Program) (names : IsWellFormed model) (c : Command) (s : Result Phrase ReportStop) (o : Opening) → next_in (λ none o. may_begin c o) [] (found opening s) ≡ Some o → (s ≡ Ok (opening_phrase o)) × (may_begin c o ≡ true)
next_begins model names c s o e = next_is model names Opening opening_phrase opening (λ none o. may_begin c o) (λ os. Unit {0}) opening_finds [] s o e
