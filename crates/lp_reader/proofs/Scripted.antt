-- The statements of a text, one after another.
use Rattle.std.proofs.Common.{◌≡◌, ℕ, zero, suc, ◌<◌, ◌≤◌, false, List, [], ◌∷◌, ◌++◌, Option, Some, None, length, refl, sym, ap, ◌∙◌, subst, arith, append_assoc}
use Rattle.std.specs.Option.{option_or}
use Rattle.std.proofs.lemmas.List.Elements.{All-nil}
use Rattle.text_fields.specs.declared.faults.ReadFault.{ReadFault}
use Rattle.text_fields.specs.declared.faults.ReadFault.TheVariants.{Stop, Memory}
use Rattle.name_map.specs.Names.{names_of}
use Rattle.lp_statements.specs.declared.parts.Section.{Section}
use Rattle.lp_statements.specs.Items.{Piece, pieces_of}
use Rattle.lp_statements.specs.Statements.{Statement}
use Rattle.lp_statements.specs.Grammar.{Parsed, Whole, Fails, statement_of}
use Rattle.lp_statements.specs.Script.{Script, section_after, with_statement, goes_on, script_by, script, script_of}
use Rattle.lp_statements.specs.Cursor.{Reads, IsRefusal}
use Rattle.lp_statements.proofs.Spelled.{statement_fewer}
use Rattle.lp_statements.proofs.Ended.{Ends, text_ends, ends_there, statement_ends}
use Rattle.lp_model.specs.Shown.{most_entries}
use Rattle.lp_reader.specs.declared.reader.Reader.{Reader}
use Rattle.lp_reader.specs.Names.{terms_of, with_names, names_from}
use Rattle.lp_reader.specs.Bounds.{lower_of, upper_of, whole_of, is_lower_set}
use Rattle.lp_reader.specs.Program.{form_from}
use Rattle.lp_reader.specs.Faults.{statement_fault, first_fault}
use Rattle.lp_reader.specs.Meaning.{lp_fault, IsLpStop}
use Rattle.lp_reader.specs.Held.{Holds, HasRead}
use Rattle.text_fields.specs.Faults.{IsFaultOf}
use Rattle.lp_reader.proofs.Kept.{kept_fault, kept_same}

-- ---- nothing is read
pub holds_nothing : (reader : Reader) → names_of reader.rows.names ≡ [] → reader.rows.items.items ≡ [] → names_of reader.columns.names ≡ [] → reader.columns.bounds.items ≡ [] → reader.columns.entries ≡ 0 → reader.objective ≡ [] → reader.maximise ≡ false → Holds reader []
unfolding terms_of with_names names_from lower_of upper_of whole_of is_lower_set form_from
holds_nothing reader a b d e f g h = record {
  named = a;
  rows = b;
  columns = d;
  entries = f;
  bounds = e;
  objective = g;
  maximise = h;
  quiet = λ name absent. refl;
  few_columns = omega arith;
  few_rows = omega arith;
  short_columns = All-nil (λ (name : List ℕ). length name ≤ 255);
  short_rows = All-nil (λ (name : List ℕ). length name ≤ 255);
}

-- ---- what is left
-- the script of the text is that of the front and what is left
pub record Left (bytes : List ℕ) (front : List Statement) (pieces : List Piece) (section : Section) : Type 0 where
  pub most : ℕ
  pub enough : length pieces ≤ most
  pub found : (script_of bytes).found ≡ front ++ (script most section pieces).found
  pub fault : lp_fault bytes ≡ option_or (first_fault front (script most section pieces).found) (script most section pieces).fault

-- or nothing is left
pub record Done (bytes : List ℕ) (front : List Statement) : Type 0 where
  pub found : (script_of bytes).found ≡ front
  pub fault : lp_fault bytes ≡ None

abbrev pub Remains : List ℕ → List Statement → List Piece → Option Section → Type 0
Remains bytes front pieces (Some section) = Left bytes front pieces section
Remains bytes front pieces None = Done bytes front

-- the statements so far
pub record Reading (bytes : List ℕ) (reader : Reader) (pieces : List Piece) (section : Option Section) : Type 0 where
  pub front : List Statement
  pub holds : Holds reader front
  pub ends : Ends pieces
  pub remains : Remains bytes front pieces section

pub reading-init : (bytes : List ℕ) (reader : Reader) (pieces : List Piece) → Holds reader [] → pieces ≡ pieces_of bytes → Reading bytes reader pieces (Some Section.Begin)
unfolding lp_fault script_of
reading-init bytes reader pieces holds is = record {
  front = [];
  holds = holds;
  ends = subst Ends (sym is) (text_ends bytes);
  remains = record {
    most = length (pieces_of bytes);
    enough = subst (λ ps. length ps ≤ length (pieces_of bytes)) (sym is) (omega arith);
    found = ap (λ ps. (script (length (pieces_of bytes)) Section.Begin ps).found) (sym is);
    fault = ap (λ ps. option_or (first_fault [] (script (length (pieces_of bytes)) Section.Begin ps).found) (script (length (pieces_of bytes)) Section.Begin ps).fault) (sym is);
  };
}

module _ (bytes : List ℕ) (reader : Reader) (pieces : List Piece) (section : Section) (so_far : Reading bytes reader pieces (Some section)) where
  abbrev left : Left bytes so_far.front pieces section
  left = so_far.remains

  some_most : (n : ℕ) → left.most ≡ n → (m : ℕ) × (left.most ≡ suc m)
  some_most zero e = absurd (let a = left.enough in let b = ends_there pieces so_far.ends in omega arith)
  some_most (suc m) e = (m, e)

  script_is : (m : ℕ) (parsed : Parsed Statement) → left.most ≡ suc m → statement_of section pieces ≡ parsed → script left.most section pieces ≡ script_by section parsed (script m)
  unfolding script
  script_is m parsed e is = ap (λ (n : ℕ). script n section pieces) e ∙ ap (λ p. script_by section p (script m)) is

  -- the form of a statement fails
  pub form_fails : (fault : ReadFault) → IsRefusal (statement_of section pieces) fault → IsLpStop bytes fault
  unfolding first_fault
  form_fails (Stop stop) refused =
      let m = some_most left.most refl in
      left.fault ∙ ap (λ (s : Script). option_or (first_fault so_far.front s.found) s.fault) (script_is m.0 (Fails stop) m.1 refused)
  form_fails Memory refused = tt

  module _ (statement : Statement) (next : List Piece) (whole : statement_of section pieces ≡ Whole statement next) where
    -- the script that begins with a statement
    abbrev script_from : ℕ → Option Section → Script
    script_from m after = goes_on statement after (λ section. script m section next)

    from_here : (m : ℕ) → left.most ≡ suc m → script left.most section pieces ≡ script_from m (section_after section statement)
    from_here m e = script_is m (Whole statement next) e whole

    -- a statement has a fault
    pub meaning_fails : (fault : ReadFault) → IsFaultOf (statement_fault so_far.front statement) fault → IsLpStop bytes fault
    unfolding first_fault
    meaning_fails (Stop stop) told =
        let m = some_most left.most refl in
        left.fault ∙ (ap (λ (s : Script). option_or (first_fault so_far.front s.found) s.fault) (from_here m.0 m.1) ∙ by m.0 (section_after section statement))
      where
        by : (m : ℕ) (after : Option Section) → option_or (first_fault so_far.front (script_from m after).found) (script_from m after).fault ≡ Some stop
        by m (Some after) = ap (λ o. option_or (option_or o (first_fault (so_far.front ++ statement ∷ []) (script m after next).found)) (script m after next).fault) told
        by m None = ap (λ o. option_or (option_or o None) None) told
    meaning_fails Memory told = tt

    -- or has none
    pub reading_on : (new : Reader) (after : Option Section) → after ≡ section_after section statement → (statement_fault so_far.front statement ≡ None) × Holds new (so_far.front ++ statement ∷ []) → Reading bytes new next after
    unfolding first_fault
    reading_on new after is done = record {
      front = so_far.front ++ statement ∷ [];
      holds = done.1;
      ends = statement_ends section pieces statement next whole so_far.ends;
      remains = subst (Remains bytes (so_far.front ++ statement ∷ []) next) (sym is) (by (some_most left.most refl) (section_after section statement) refl);
    }
      where
        some : (after : Section) (m : ℕ) → left.most ≡ suc m → section_after section statement ≡ Some after → Left bytes (so_far.front ++ statement ∷ []) next after
        some after m e is =
            let here : script left.most section pieces ≡ with_statement statement (script m after next) = from_here m e ∙ ap (script_from m) is in
            record {
              most = m;
              enough = let a = left.enough in let b = statement_fewer section pieces statement next whole in omega arith;
              found = left.found ∙ (ap (λ (s : Script). so_far.front ++ s.found) here ∙ sym (append_assoc so_far.front (statement ∷ []) (script m after next).found));
              fault = left.fault ∙ (ap (λ (s : Script). option_or (first_fault so_far.front s.found) s.fault) here
                  ∙ ap (λ o. option_or (option_or o (first_fault (so_far.front ++ statement ∷ []) (script m after next).found)) (script m after next).fault) done.0);
            }

        none : (m : ℕ) → left.most ≡ suc m → section_after section statement ≡ None → Done bytes (so_far.front ++ statement ∷ [])
        none m e is =
            let here : script left.most section pieces ≡ record { found = statement ∷ []; fault = None } = from_here m e ∙ ap (script_from m) is in
            record {
              found = left.found ∙ ap (λ (s : Script). so_far.front ++ s.found) here;
              fault = left.fault ∙ (ap (λ (s : Script). option_or (first_fault so_far.front s.found) s.fault) here ∙ ap (λ o. option_or (option_or o None) None) done.0);
            }

        by : (m : ℕ) × (left.most ≡ suc m) → (after : Option Section) → section_after section statement ≡ after → Remains bytes (so_far.front ++ statement ∷ []) next after
        by m (Some after) is = some after m.0 m.1 is
        by m None is = none m.0 m.1 is

  -- the same where terms past the limit are not kept
  module _ (n : ℕ) (past : most_entries < n) (kept : Statement) (next : List Piece) (reads : Reads n (statement_of section pieces) next kept) where
    pub kept_fails : (fault : ReadFault) → IsFaultOf (statement_fault so_far.front kept) fault → IsLpStop bytes fault
    kept_fails fault told = meaning_fails reads.statement next reads.whole fault (subst (λ o. IsFaultOf o fault) (kept_fault n so_far.front past reads.statement kept reads.keeps) told)

    pub kept_on : (new : Reader) (after : Option Section) → after ≡ section_after section kept → (statement_fault so_far.front kept ≡ None) × Holds new (so_far.front ++ kept ∷ []) → Reading bytes new next after
    kept_on new after is done =
        let same : kept ≡ reads.statement = kept_same n so_far.front past reads.statement kept reads.keeps done.0 in
        reading_on reads.statement next reads.whole new after (is ∙ ap (section_after section) same)
        (subst (λ (s : Statement). (statement_fault so_far.front s ≡ None) × Holds new (so_far.front ++ s ∷ [])) same done)

-- less is left after a statement
pub fewer_left : (n : ℕ) (section : Section) (pieces next : List Piece) (kept : Statement) → Reads n (statement_of section pieces) next kept → length next < length pieces
fewer_left n section pieces next kept reads = statement_fewer section pieces reads.statement next reads.whole

-- all is read
pub all_read : (bytes : List ℕ) (reader : Reader) (pieces : List Piece) → Reading bytes reader pieces None → HasRead bytes reader
all_read bytes reader pieces so_far = record { no_fault = so_far.remains.fault; holds = subst (Holds reader) (sym so_far.remains.found) so_far.holds }
