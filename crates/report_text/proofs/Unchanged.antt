-- No edit changes the names of rows and columns, the forms, the objective or the notes.
use Rattle.std.proofs.Common.{◌≡◌, refl, sym, ◌∙◌, ap, ℕ, Bool, true, false, List, [], ◌∷◌, ◌++◌, length, get_or, option_map}
use Rattle.std.specs.Prelude.{position, bytes_eq, flat_map}
use Rattle.std.proofs.Math.ListN.{get_or-map}
use Rattle.std.proofs.Math.Seq.{map-set_same}
use Rattle.std.proofs.lemmas.Bool.{cond_both}
use Rattle.std.proofs.lemmas.List.{length-map}
use Rattle.rational.specs.Linear.{Term}
use Rattle.lp_model.specs.declared.parts.Weight.{Weight}
use Rattle.lp_model.specs.Program.{Program, NamedRow, NamedColumn, empty_row, empty_column, row_at, column_at}
use Rattle.lp_model.specs.declared.members.Member.{Member}
use Rattle.lp_model.specs.declared.members.Member.TheVariants.{RowLo, RowUp, Lower, Upper, Whole}
use Rattle.lp_model.specs.declared.members.Side.TheVariants.{Lo, Up}
use Rattle.lp_model.specs.Members.{exists}
use Rattle.lp_model.specs.declared.edits.Target.{Target}
use Rattle.lp_model.specs.declared.edits.Target.TheVariants.{OneMember, BothSides}
use Rattle.lp_model.specs.declared.edits.Edit.{Edit}
use Rattle.lp_model.specs.declared.edits.Edit.TheVariants.{Drop, Keep, SetSide, SetBound, SetMark, Weigh}
use Rattle.lp_model.specs.Edits.{with_row, with_column, with_flag, with_weight, where_there, on_target, edited}
use Rattle.certs.specs.declared.evidence.Source.{Source}
use Rattle.certs.specs.declared.evidence.Source.TheVariants.{Member as Of, Below, Above}
use Rattle.report_text.specs.History.{after_edits}
use Rattle.report_text.specs.declared.report.Command.{Command}
use Rattle.report_text.specs.declared.report.NamedEdit.{NamedEdit}
use Rattle.report_text.specs.declared.phrases.Keyword.{Keyword}
use Rattle.report_text.specs.declared.phrases.Phrase.{Phrase}
use Rattle.report_text.specs.declared.table.Kind.{Kind}
use Rattle.report_text.specs.declared.table.Given.{Given}
use Rattle.report_text.specs.declared.phrases.StopPhrase.{StopPhrase}
use Rattle.report_text.specs.Edits.{edit_at, names_row, place_of, named_edit}
use Rattle.report_text.specs.Turns.{after, edits_after}
use Rattle.report_text.specs.Grammar.{column_name, name_of, source_name, kind_word, source_word, words_at, kinds_of, stop_given, given_of, details, keyword_text, keyword_of, spelled, phrase_line, lines_of, text_of, phrases_text}
use Rattle.report_text.specs.Session.{SameNames, NamesStandLaw}

-- ---- an edit
same_self : (model : Program) → SameNames model model
same_self model = record { rows = refl; forms = refl; columns = refl; objective = refl; maximise = refl; notes = refl }

same_then : (first model next : Program) → SameNames first model → SameNames model next → SameNames first next
same_then first model next h k = record {
  rows = k.rows ∙ h.rows;
  forms = k.forms ∙ h.forms;
  columns = k.columns ∙ h.columns;
  objective = k.objective ∙ h.objective;
  maximise = k.maximise ∙ h.maximise;
  notes = k.notes ∙ h.notes;
}

same_row : (model : Program) (i : ℕ) (row : NamedRow) → row.name ≡ (row_at model i).name → row.terms ≡ (row_at model i).terms → SameNames model (with_row model i row)
same_row model i row named formed = record {
  rows = map-set_same (λ (r : NamedRow). r.name) model.rows i row empty_row named;
  forms = map-set_same (λ (r : NamedRow). r.terms) model.rows i row empty_row formed;
  columns = refl;
  objective = refl;
  maximise = refl;
  notes = refl;
}

same_column : (model : Program) (j : ℕ) (c : NamedColumn) → c.name ≡ (column_at model j).name → SameNames model (with_column model j c)
same_column model j c named = record {
  rows = refl;
  forms = refl;
  columns = map-set_same (λ (c : NamedColumn). c.name) model.columns j c empty_column named;
  objective = refl;
  maximise = refl;
  notes = refl;
}

same_flag : (model : Program) (m : Member) (on : Bool) → SameNames model (with_flag model m on)
same_flag model (RowLo i) on = same_row model i _ refl refl
same_flag model (RowUp i) on = same_row model i _ refl refl
same_flag model (Lower j) on = same_column model j _ refl
same_flag model (Upper j) on = same_column model j _ refl
same_flag model (Whole j) on = same_column model j _ refl

same_weight : (model : Program) (m : Member) (w : Weight) → SameNames model (with_weight model m w)
same_weight model (RowLo i) w = same_row model i _ refl refl
same_weight model (RowUp i) w = same_row model i _ refl refl
same_weight model (Lower j) w = same_column model j _ refl
same_weight model (Upper j) w = same_column model j _ refl
same_weight model (Whole j) w = same_self model

module _ (change : Program → Member → Program) (same : (model : Program) (m : Member) → SameNames model (change model m)) where
  same_there : (model : Program) (m : Member) → SameNames model (where_there change model m)
  same_there model m = cond_both (exists model m) (change model m) model (SameNames model) (λ e. same model m) (λ e. same_self model)

  same_target : (model : Program) (target : Target) → SameNames model (on_target change model target)
  same_target model (OneMember m) = same_there model m
  same_target model (BothSides i) =
      let lower : Program = where_there change model (RowLo i) in
      same_then model lower (where_there change lower (RowUp i)) (same_there model (RowLo i)) (same_there lower (RowUp i))

pub same_edited : (model : Program) (edit : Edit) → SameNames model (edited model edit)
same_edited model (Drop target) = same_target (λ p m. with_flag p m false) (λ p m. same_flag p m false) model target
same_edited model (Keep target) = same_target (λ p m. with_flag p m true) (λ p m. same_flag p m true) model target
same_edited model (Weigh target w) = same_target (λ p m. with_weight p m w) (λ p m. same_weight p m w) model target
same_edited model (SetSide i Lo number) = same_row model i _ refl refl
same_edited model (SetSide i Up number) = same_row model i _ refl refl
same_edited model (SetBound j Lo number) = same_column model j _ refl
same_edited model (SetBound j Up number) = same_column model j _ refl
same_edited model (SetMark j whole) = same_column model j _ refl

-- ---- edits one after another, and commands
pub same_after_edits : (first : Program) (edits : List Edit) → SameNames first (after_edits first edits)
same_after_edits first [] = same_self first
same_after_edits first (edit ∷ edits) = same_then first (after_edits first edits) (edited (after_edits first edits) edit) (same_after_edits first edits) (same_edited (after_edits first edits) edit)

pub same_names : (first : Program) (before : List Command) → SameNames first (after first before)
same_names first before = same_after_edits first (edits_after first before)

-- ---- what goes by names is the same
module _ (first model : Program) (same : SameNames first model) where
  pub rows_same : length model.rows ≡ length first.rows
  rows_same = sym (length-map model.rows (λ (r : NamedRow). r.name)) ∙ ap length same.rows ∙ length-map first.rows (λ (r : NamedRow). r.name)

  pub columns_same : length model.columns ≡ length first.columns
  columns_same = sym (length-map model.columns (λ (c : NamedColumn). c.name)) ∙ ap length same.columns ∙ length-map first.columns (λ (c : NamedColumn). c.name)

  pub row_name_same : (i : ℕ) → (row_at model i).name ≡ (row_at first i).name
  row_name_same i =
      sym (get_or-map (λ (r : NamedRow). r.name) model.rows i empty_row)
      ∙ ap (λ (names : List (List ℕ)). get_or names i []) same.rows
      ∙ get_or-map (λ (r : NamedRow). r.name) first.rows i empty_row

  pub form_same : (i : ℕ) → (row_at model i).terms ≡ (row_at first i).terms
  form_same i =
      sym (get_or-map (λ (r : NamedRow). r.terms) model.rows i empty_row)
      ∙ ap (λ (forms : List (List Term)). get_or forms i []) same.forms
      ∙ get_or-map (λ (r : NamedRow). r.terms) first.rows i empty_row

  pub column_name_same : (j : ℕ) → column_name model j ≡ column_name first j
  column_name_same j =
      sym (get_or-map (λ (c : NamedColumn). c.name) model.columns j empty_column)
      ∙ ap (λ (names : List (List ℕ)). get_or names j []) same.columns
      ∙ get_or-map (λ (c : NamedColumn). c.name) first.columns j empty_column

  pub name_of_same : (m : Member) → name_of model m ≡ name_of first m
  name_of_same (RowLo i) = row_name_same i
  name_of_same (RowUp i) = row_name_same i
  name_of_same (Lower j) = column_name_same j
  name_of_same (Upper j) = column_name_same j
  name_of_same (Whole j) = column_name_same j

  pub source_name_same : (source : Source) → source_name model source ≡ source_name first source
  source_name_same (Of m) = name_of_same m
  source_name_same (Below j) = column_name_same j
  source_name_same (Above j) = column_name_same j

  -- the place of a name, and the edit of it
  pub place_same : (of_row : Bool) (name : List ℕ) → place_of model of_row name ≡ place_of first of_row name
  place_same true name = ap (position (bytes_eq name)) same.rows
  place_same false name = ap (position (bytes_eq name)) same.columns

  pub named_edit_same : (e : NamedEdit) → named_edit model e ≡ named_edit first e
  named_edit_same e = ap (option_map (edit_at e.kind)) (place_same (names_row e.kind) e.name)

  -- the words of what is given
  words_same : (g : Given) (kind : Kind) → words_at model g kind ≡ words_at first g kind
  words_same g Kind.Row = ap (λ w. w ∷ []) (row_name_same g.row)
  words_same g Kind.Column = ap (λ w. w ∷ []) (column_name_same g.column)
  words_same g Kind.Member = ap (λ w. kind_word g.member ∷ w ∷ []) (name_of_same g.member)
  words_same g Kind.Source = ap (λ w. source_word g.source ∷ w ∷ []) (source_name_same g.source)
  words_same g kind = refl

  kinds_same : (g : Given) (kinds : List Kind) → flat_map (words_at model g) kinds ≡ flat_map (words_at first g) kinds
  kinds_same g [] = refl
  kinds_same g (kind ∷ kinds) = ap (λ ws. ws ++ flat_map (words_at model g) kinds) (words_same g kind) ∙ ap (λ ws. words_at first g kind ++ ws) (kinds_same g kinds)

  -- lines
  pub details_same : (p : Phrase) → details model p ≡ details first p
  details_same (Phrase.Command command) = refl
  details_same (Phrase.Stop (StopPhrase.Branch b)) = kinds_same (stop_given (StopPhrase.Branch b)) (kinds_of Keyword.BranchBelow)
  details_same p = kinds_same (given_of p) (kinds_of (keyword_of p))

  pub phrase_line_same : (p : Phrase) → phrase_line model p ≡ phrase_line first p
  phrase_line_same p = ap (spelled (keyword_text (keyword_of p))) (details_same p)

  pub lines_of_same : (phrases : List Phrase) → lines_of model phrases ≡ lines_of first phrases
  lines_of_same [] = refl
  lines_of_same (p ∷ phrases) = ap (λ l. l ∷ lines_of model phrases) (phrase_line_same p) ∙ ap (λ ls. phrase_line first p ∷ ls) (lines_of_same phrases)

  pub phrases_text_same : (phrases : List Phrase) → phrases_text model phrases ≡ phrases_text first phrases
  phrases_text_same phrases = ap text_of (lines_of_same phrases)

-- so each phrase has the line that it has by the first program
pub names_stand_law : NamesStandLaw
names_stand_law = record {
  same = same_names;
  lines = λ first before p. phrase_line_same first (after first before) (same_names first before) p;
}
