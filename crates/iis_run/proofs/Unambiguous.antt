-- Told files call for one ending.
use Rattle.std.proofs.Common.{◌≡◌, ◌<◌, ◌≤◌, refl, sym, ap, subst, ◌∙◌, ℕ, List, Option, Some, None, IfSome, true≢false, arith}
use Rattle.lp_model.specs.Program.{Program}
use Rattle.text_fields.specs.declared.faults.ReadStop.{ReadStop}
use Rattle.model_files.specs.Formats.{Declares, format_of, model_fault}
use Rattle.model_files.proofs.Meaning.{one_model, not_both, declared_well_formed}
use Rattle.report_text.specs.declared.report.Report.{Report as Entries}
use Rattle.report_reader.specs.Reading.{Reads}
use Rattle.report_reader.proofs.OneReport.{one_report}
use Rattle.report_reader.proofs.OneEnding as endings
use Rattle.cert_check.specs.declared.outcome.Outcome.{Outcome}
use Rattle.cert_check.specs.Trials.{trials, outcome_of}
use Rattle.lp_model.specs.Program.{IsWellFormed}
use Rattle.iis_run.specs.declared.endings.Which.TheVariants.{Model, Report, Script}
use Rattle.iis_run.specs.declared.endings.Ending.{Ending}
use Rattle.iis_run.specs.declared.endings.Ending.TheVariants.{Usage, ReadFault, TooLong, Memory, ModelRefused, BadReport, CutReport, BadScript, Checked}
use Rattle.report_text.specs.declared.report.Command.{Command}
use Rattle.iis_run.specs.Causes.{IsModel, IsNoModel, IsModelOf, IsReported, IsReportEnding, CallsFor, IsToldFor}
use Rattle.iis_run.specs.Scripts.{IsCommands, IsBadScript, CallsForScript, OneEndingLaw}

-- a length is not past a limit and within it
apart : (n most : ℕ) → most < n → n ≤ most → ⊥
apart n most past within = omega arith

-- a refused model has one fault
one_stop : (f : Option ReadStop) (stop other : ReadStop) → f ≡ Some stop → f ≡ Some other → stop ≡ other
one_stop f stop other a b = one_of (sym a ∙ b)
  where
    one_of : Some stop ≡ Some other → stop ≡ other
    one_of e = cc

-- what a report comes to, for one program
module _ (p : Program) (f : IsWellFormed p) (bytes : List ℕ) where
  one_outcome : (v w : Outcome) → IsReportEnding p bytes (Checked v) → IsReportEnding p bytes (Checked w) → v ≡ w
  one_outcome v w a b =
      let same : a.1.report ≡ b.1.report = one_report p bytes a.1.report b.1.report f a.1.reads b.1.reads in
      a.1.found ∙ ap (λ (r : Entries). outcome_of r.entries (trials p r)) same ∙ sym b.1.found

  one_of_report : (e g : Ending) → IsReportEnding p bytes e → IsReportEnding p bytes g → e ≡ g
  one_of_report (BadReport n) (BadReport m) a b = ap BadReport (endings.one_bad_line p bytes n m a b)
  one_of_report (BadReport n) CutReport a b = absurd (endings.bad_is_not_truncated p bytes n a b)
  one_of_report (BadReport n) (Checked w) a b = absurd (endings.read_has_no_bad_line p bytes b.1.report n b.1.reads a)
  one_of_report CutReport (BadReport m) a b = absurd (endings.bad_is_not_truncated p bytes m b a)
  one_of_report CutReport CutReport a b = refl
  one_of_report CutReport (Checked w) a b = absurd (endings.read_is_not_truncated p bytes b.1.report b.1.reads a)
  one_of_report (Checked v) (BadReport m) a b = absurd (endings.read_has_no_bad_line p bytes a.1.report m a.1.reads b)
  one_of_report (Checked v) CutReport a b = absurd (endings.read_is_not_truncated p bytes a.1.report a.1.reads b)
  one_of_report (Checked v) (Checked w) a b = ap Checked (one_outcome v w a b)
  one_of_report (BadReport n) _ a b = absurd b
  one_of_report CutReport _ a b = absurd b
  one_of_report (Checked v) _ a b = absurd b
  one_of_report Usage g a b = absurd a
  one_of_report (ReadFault which) g a b = absurd a
  one_of_report (TooLong which) g a b = absurd a
  one_of_report Memory g a b = absurd a
  one_of_report (ModelRefused stop) g a b = absurd a
  one_of_report (BadScript n) g a b = absurd a

module _ (name : List ℕ) where
  -- bytes that declare a program are not bytes that declare none
  model_or_none : (m : List ℕ) (stop : ReadStop) → IsModel name m → IsNoModel name m stop → ⊥
  model_or_none m stop is none = not_both name m is.program stop is.declares none.fault

  -- a told report comes to one ending
  reported_once : (m r : List ℕ) (e g : Ending) → IsReported name m r e → IsReported name m r g → e ≡ g
  reported_once m r e g a b =
      let same = one_model name m b.program a.program b.declares a.declares in
      one_of_report a.program (declared_well_formed name m a.program a.declares) r e g a.comes (subst (λ (p : Program). IsReportEnding p r g) same b.comes)

  -- the model is told
  with_model : (m : List ℕ) (report : Option (List ℕ)) (e f : Ending) → IsToldFor (Some m) report e → CallsFor name (Some m) report e → CallsFor name (Some m) report f → e ≡ f
  with_model m report Usage f t a b = absurd a
  with_model m report (ReadFault which) f t a b = absurd a
  with_model m report Memory f t a b = absurd a
  with_model m report (TooLong Script) f t a b = absurd a
  with_model m report (BadScript n) f t a b = absurd a
  with_model m report (TooLong Model) Usage t a b = absurd b
  with_model m report (TooLong Model) (TooLong Script) t a b = absurd b
  with_model m report (TooLong Model) (BadScript k) t a b = absurd b
  with_model m report (TooLong Model) (ReadFault which) t a b = absurd b
  with_model m report (TooLong Model) Memory t a b = absurd b
  with_model m report (TooLong Model) (TooLong Model) t a b = refl
  with_model m report (TooLong Model) (TooLong Report) t a b = absurd (apart _ _ a b.0.short)
  with_model m report (TooLong Model) (ModelRefused stop) t a b = absurd (apart _ _ a b.short)
  with_model m report (TooLong Model) (BadReport k) t a b = absurd (apart _ _ a b.0.short)
  with_model m report (TooLong Model) CutReport t a b = absurd (apart _ _ a b.0.short)
  with_model m report (TooLong Model) (Checked w) t a b = absurd (apart _ _ a b.1.0.short)
  with_model m report (ModelRefused stop) Usage t a b = absurd b
  with_model m report (ModelRefused stop) (TooLong Script) t a b = absurd b
  with_model m report (ModelRefused stop) (BadScript k) t a b = absurd b
  with_model m report (ModelRefused stop) (ReadFault which) t a b = absurd b
  with_model m report (ModelRefused stop) Memory t a b = absurd b
  with_model m report (ModelRefused stop) (TooLong Model) t a b = absurd (apart _ _ b a.short)
  with_model m report (ModelRefused stop) (TooLong Report) t a b = absurd (model_or_none m stop b.0 a)
  with_model m report (ModelRefused stop) (ModelRefused other) t a b = ap ModelRefused (one_stop (model_fault (format_of name) m) stop other a.fault b.fault)
  with_model m report (ModelRefused stop) (BadReport k) t a b = absurd (model_or_none m stop b.0 a)
  with_model m report (ModelRefused stop) CutReport t a b = absurd (model_or_none m stop b.0 a)
  with_model m report (ModelRefused stop) (Checked w) t a b = absurd (model_or_none m stop b.1.0 a)
  with_model m (Some r) (TooLong Report) Usage t a b = absurd b
  with_model m (Some r) (TooLong Report) (TooLong Script) t a b = absurd b
  with_model m (Some r) (TooLong Report) (BadScript k) t a b = absurd b
  with_model m (Some r) (TooLong Report) (ReadFault which) t a b = absurd b
  with_model m (Some r) (TooLong Report) Memory t a b = absurd b
  with_model m (Some r) (TooLong Report) (TooLong Model) t a b = absurd (apart _ _ b a.0.short)
  with_model m (Some r) (TooLong Report) (TooLong Report) t a b = refl
  with_model m (Some r) (TooLong Report) (ModelRefused stop) t a b = absurd (model_or_none m stop a.0 b)
  with_model m (Some r) (TooLong Report) (BadReport k) t a b = absurd (apart _ _ a.1 b.1.short)
  with_model m (Some r) (TooLong Report) CutReport t a b = absurd (apart _ _ a.1 b.1.short)
  with_model m (Some r) (TooLong Report) (Checked w) t a b = absurd (apart _ _ a.1 b.1.1.short)
  with_model m None (TooLong Report) f t a b = absurd (true≢false (sym t.1))
  with_model m (Some r) (BadReport n) Usage t a b = absurd b
  with_model m (Some r) (BadReport n) (TooLong Script) t a b = absurd b
  with_model m (Some r) (BadReport n) (BadScript k) t a b = absurd b
  with_model m (Some r) (BadReport n) (ReadFault which) t a b = absurd b
  with_model m (Some r) (BadReport n) Memory t a b = absurd b
  with_model m (Some r) (BadReport n) (TooLong Model) t a b = absurd (apart _ _ b a.0.short)
  with_model m (Some r) (BadReport n) (TooLong Report) t a b = absurd (apart _ _ b.1 a.1.short)
  with_model m (Some r) (BadReport n) (ModelRefused stop) t a b = absurd (model_or_none m stop a.0 b)
  with_model m (Some r) (BadReport n) (BadReport k) t a b = reported_once m r (BadReport n) (BadReport k) a.1 b.1
  with_model m (Some r) (BadReport n) CutReport t a b = reported_once m r (BadReport n) CutReport a.1 b.1
  with_model m (Some r) (BadReport n) (Checked w) t a b = reported_once m r (BadReport n) (Checked w) a.1 b.1.1
  with_model m None (BadReport n) f t a b = absurd (true≢false (sym t.1))
  with_model m (Some r) CutReport Usage t a b = absurd b
  with_model m (Some r) CutReport (TooLong Script) t a b = absurd b
  with_model m (Some r) CutReport (BadScript k) t a b = absurd b
  with_model m (Some r) CutReport (ReadFault which) t a b = absurd b
  with_model m (Some r) CutReport Memory t a b = absurd b
  with_model m (Some r) CutReport (TooLong Model) t a b = absurd (apart _ _ b a.0.short)
  with_model m (Some r) CutReport (TooLong Report) t a b = absurd (apart _ _ b.1 a.1.short)
  with_model m (Some r) CutReport (ModelRefused stop) t a b = absurd (model_or_none m stop a.0 b)
  with_model m (Some r) CutReport (BadReport k) t a b = reported_once m r CutReport (BadReport k) a.1 b.1
  with_model m (Some r) CutReport CutReport t a b = reported_once m r CutReport CutReport a.1 b.1
  with_model m (Some r) CutReport (Checked w) t a b = reported_once m r CutReport (Checked w) a.1 b.1.1
  with_model m None CutReport f t a b = absurd (true≢false (sym t.1))
  with_model m (Some r) (Checked v) Usage t a b = absurd b
  with_model m (Some r) (Checked v) (TooLong Script) t a b = absurd b
  with_model m (Some r) (Checked v) (BadScript k) t a b = absurd b
  with_model m (Some r) (Checked v) (ReadFault which) t a b = absurd b
  with_model m (Some r) (Checked v) Memory t a b = absurd b
  with_model m (Some r) (Checked v) (TooLong Model) t a b = absurd (apart _ _ b a.1.0.short)
  with_model m (Some r) (Checked v) (TooLong Report) t a b = absurd (apart _ _ b.1 a.1.1.short)
  with_model m (Some r) (Checked v) (ModelRefused stop) t a b = absurd (model_or_none m stop a.1.0 b)
  with_model m (Some r) (Checked v) (BadReport k) t a b = reported_once m r (Checked v) (BadReport k) a.1.1 b.1
  with_model m (Some r) (Checked v) CutReport t a b = reported_once m r (Checked v) CutReport a.1.1 b.1
  with_model m (Some r) (Checked v) (Checked w) t a b = reported_once m r (Checked v) (Checked w) a.1.1 b.1.1
  with_model m None (Checked v) f t a b = absurd (true≢false (sym t.1))

  checked : (model report : Option (List ℕ)) (e f : Ending) → IsToldFor model report e → CallsFor name model report e → CallsFor name model report f → e ≡ f
  checked (Some m) report e f told a b = with_model m report e f told a b
  checked None report Usage f told a b = absurd a
  checked None report (ReadFault which) f told a b = absurd a
  checked None report Memory f told a b = absurd a
  checked None report (TooLong Model) f told a b = absurd (true≢false (sym told))
  checked None report (ModelRefused stop) f told a b = absurd (true≢false (sym told))
  checked None report (TooLong Report) f told a b = absurd (true≢false (sym told.0))
  checked None report (TooLong Script) f told a b = absurd a
  checked None report (BadReport n) f told a b = absurd (true≢false (sym told.0))
  checked None report CutReport f told a b = absurd (true≢false (sym told.0))
  checked None report (BadScript n) f told a b = absurd a
  checked None report (Checked v) f told a b = absurd (true≢false (sym told.0))

  -- ---- scripts
  -- a script has one first bad line
  one_number : (n k : ℕ) → Some n ≡ Some k → n ≡ k
  one_number n k e = cc

  none_bad : (n : ℕ) → None ≡ Some n → ⊥
  none_bad n e = absurd (cc)

  one_bad_line : (s : List ℕ) (n k : ℕ) → IsBadScript s n → IsBadScript s k → BadScript n ≡ BadScript k
  one_bad_line s n k a b = ap BadScript (one_number n k (sym a.bad ∙ b.bad))

  -- the model is told
  with_script : (m : List ℕ) (script : Option (List ℕ)) (e f : Ending) → IsToldFor (Some m) script e → CallsForScript name (Some m) script e → CallsForScript name (Some m) script f → e ≡ f
  with_script m script Usage f t a b = absurd a
  with_script m script (ReadFault which) f t a b = absurd a
  with_script m script Memory f t a b = absurd a
  with_script m script (TooLong Report) f t a b = absurd a
  with_script m script (BadReport n) f t a b = absurd a
  with_script m script CutReport f t a b = absurd a
  with_script m script (Checked v) f t a b = absurd a
  with_script m script (TooLong Model) Usage t a b = absurd b
  with_script m script (TooLong Model) (ReadFault which) t a b = absurd b
  with_script m script (TooLong Model) Memory t a b = absurd b
  with_script m script (TooLong Model) (TooLong Model) t a b = refl
  with_script m script (TooLong Model) (TooLong Report) t a b = absurd b
  with_script m script (TooLong Model) (TooLong Script) t a b = absurd (apart _ _ a b.0.short)
  with_script m script (TooLong Model) (ModelRefused stop) t a b = absurd (apart _ _ a b.short)
  with_script m script (TooLong Model) (BadReport k) t a b = absurd b
  with_script m script (TooLong Model) CutReport t a b = absurd b
  with_script m script (TooLong Model) (BadScript k) t a b = absurd (apart _ _ a b.0.short)
  with_script m script (TooLong Model) (Checked w) t a b = absurd b
  with_script m script (ModelRefused stop) Usage t a b = absurd b
  with_script m script (ModelRefused stop) (ReadFault which) t a b = absurd b
  with_script m script (ModelRefused stop) Memory t a b = absurd b
  with_script m script (ModelRefused stop) (TooLong Model) t a b = absurd (apart _ _ b a.short)
  with_script m script (ModelRefused stop) (TooLong Report) t a b = absurd b
  with_script m script (ModelRefused stop) (TooLong Script) t a b = absurd (model_or_none m stop b.0 a)
  with_script m script (ModelRefused stop) (ModelRefused other) t a b = ap ModelRefused (one_stop (model_fault (format_of name) m) stop other a.fault b.fault)
  with_script m script (ModelRefused stop) (BadReport k) t a b = absurd b
  with_script m script (ModelRefused stop) CutReport t a b = absurd b
  with_script m script (ModelRefused stop) (BadScript k) t a b = absurd (model_or_none m stop b.0 a)
  with_script m script (ModelRefused stop) (Checked w) t a b = absurd b
  with_script m (Some s) (TooLong Script) Usage t a b = absurd b
  with_script m (Some s) (TooLong Script) (ReadFault which) t a b = absurd b
  with_script m (Some s) (TooLong Script) Memory t a b = absurd b
  with_script m (Some s) (TooLong Script) (TooLong Model) t a b = absurd (apart _ _ b a.0.short)
  with_script m (Some s) (TooLong Script) (TooLong Report) t a b = absurd b
  with_script m (Some s) (TooLong Script) (TooLong Script) t a b = refl
  with_script m (Some s) (TooLong Script) (ModelRefused stop) t a b = absurd (model_or_none m stop a.0 b)
  with_script m (Some s) (TooLong Script) (BadReport k) t a b = absurd b
  with_script m (Some s) (TooLong Script) CutReport t a b = absurd b
  with_script m (Some s) (TooLong Script) (BadScript k) t a b = absurd (apart _ _ a.1 b.1.short)
  with_script m (Some s) (TooLong Script) (Checked w) t a b = absurd b
  with_script m None (TooLong Script) f t a b = absurd (true≢false (sym t.1))
  with_script m (Some s) (BadScript n) Usage t a b = absurd b
  with_script m (Some s) (BadScript n) (ReadFault which) t a b = absurd b
  with_script m (Some s) (BadScript n) Memory t a b = absurd b
  with_script m (Some s) (BadScript n) (TooLong Model) t a b = absurd (apart _ _ b a.0.short)
  with_script m (Some s) (BadScript n) (TooLong Report) t a b = absurd b
  with_script m (Some s) (BadScript n) (TooLong Script) t a b = absurd (apart _ _ b.1 a.1.short)
  with_script m (Some s) (BadScript n) (ModelRefused stop) t a b = absurd (model_or_none m stop a.0 b)
  with_script m (Some s) (BadScript n) (BadReport k) t a b = absurd b
  with_script m (Some s) (BadScript n) CutReport t a b = absurd b
  with_script m (Some s) (BadScript n) (BadScript k) t a b = one_bad_line s n k a.1 b.1
  with_script m (Some s) (BadScript n) (Checked w) t a b = absurd b
  with_script m None (BadScript n) f t a b = absurd (true≢false (sym t.1))

  analysed : (model script : Option (List ℕ)) (e f : Ending) → IsToldFor model script e → CallsForScript name model script e → CallsForScript name model script f → e ≡ f
  analysed (Some m) script e f told a b = with_script m script e f told a b
  analysed None script Usage f told a b = absurd a
  analysed None script (ReadFault which) f told a b = absurd a
  analysed None script Memory f told a b = absurd a
  analysed None script (TooLong Model) f told a b = absurd (true≢false (sym told))
  analysed None script (TooLong Report) f told a b = absurd a
  analysed None script (TooLong Script) f told a b = absurd (true≢false (sym told.0))
  analysed None script (ModelRefused stop) f told a b = absurd (true≢false (sym told))
  analysed None script (BadReport n) f told a b = absurd a
  analysed None script CutReport f told a b = absurd a
  analysed None script (BadScript n) f told a b = absurd (true≢false (sym told.0))
  analysed None script (Checked v) f told a b = absurd a

  -- a model, and a script that reads, call for none
  pub none_called : (m s : List ℕ) (p : Program) (commands : List Command) (e : Ending) → IsModelOf name m p → IsCommands s commands → CallsForScript name (Some m) (Some s) e → ⊥
  none_called m s p commands (TooLong Model) model reads calls = apart _ _ calls model.short
  none_called m s p commands (TooLong Script) model reads calls = apart _ _ calls.1 reads.short
  none_called m s p commands (ModelRefused stop) model reads calls = not_both name m p stop model.declares calls.fault
  none_called m s p commands (BadScript n) model reads calls = none_bad n (sym reads.right ∙ calls.1.bad)
  none_called m s p commands Usage model reads calls = calls
  none_called m s p commands (ReadFault which) model reads calls = calls
  none_called m s p commands Memory model reads calls = calls
  none_called m s p commands (TooLong Report) model reads calls = calls
  none_called m s p commands (BadReport n) model reads calls = calls
  none_called m s p commands CutReport model reads calls = calls
  none_called m s p commands (Checked v) model reads calls = calls

  -- where the files are as far as told a model and a script that reads, no ending that speaks of told files is called for
  pub none_called_as_told : (m s : Option (List ℕ)) (p : Program) (commands : List Command) (e : Ending) → IfSome m (λ b. IsModelOf name b p) → IfSome s (λ b. IsCommands b commands) → IsToldFor m s e → CallsForScript name m s e → ⊥
  none_called_as_told (Some m) (Some s) p commands e model reads told calls = none_called m s p commands e model reads calls
  none_called_as_told (Some m) None p commands (TooLong Model) model reads told calls = apart _ _ calls model.short
  none_called_as_told (Some m) None p commands (ModelRefused stop) model reads told calls = not_both name m p stop model.declares calls.fault
  none_called_as_told (Some m) None p commands (TooLong Script) model reads told calls = true≢false (sym told.1)
  none_called_as_told (Some m) None p commands (BadScript n) model reads told calls = true≢false (sym told.1)
  none_called_as_told (Some m) None p commands Usage model reads told calls = calls
  none_called_as_told (Some m) None p commands (ReadFault which) model reads told calls = calls
  none_called_as_told (Some m) None p commands Memory model reads told calls = calls
  none_called_as_told (Some m) None p commands (TooLong Report) model reads told calls = calls
  none_called_as_told (Some m) None p commands (BadReport n) model reads told calls = calls
  none_called_as_told (Some m) None p commands CutReport model reads told calls = calls
  none_called_as_told (Some m) None p commands (Checked v) model reads told calls = calls
  none_called_as_told None s p commands (TooLong Model) model reads told calls = true≢false (sym told)
  none_called_as_told None s p commands (ModelRefused stop) model reads told calls = true≢false (sym told)
  none_called_as_told None s p commands (TooLong Script) model reads told calls = true≢false (sym told.0)
  none_called_as_told None s p commands (BadScript n) model reads told calls = true≢false (sym told.0)
  none_called_as_told None s p commands Usage model reads told calls = calls
  none_called_as_told None s p commands (ReadFault which) model reads told calls = calls
  none_called_as_told None s p commands Memory model reads told calls = calls
  none_called_as_told None s p commands (TooLong Report) model reads told calls = calls
  none_called_as_told None s p commands (BadReport n) model reads told calls = calls
  none_called_as_told None s p commands CutReport model reads told calls = calls
  none_called_as_told None s p commands (Checked v) model reads told calls = calls

  -- told files are one program and one script
  pub one_session : (m s : List ℕ) (p q : Program) (a b : List Command) → IsModelOf name m p → IsModelOf name m q → IsCommands s a → IsCommands s b → (p ≡ q) × (a ≡ b)
  one_session m s p q a b model other reads again = (one_model name m p q model.declares other.declares, reads.said ∙ sym again.said)

  -- a report that is accepted is the one that the bytes are
  pub the_report : (m r : List ℕ) (p q : Program) (s t : Entries) → Declares name m p → Declares name m q → Reads p r s → Reads q r t → (p ≡ q) × (s ≡ t)
  the_report m r p q s t a b h k =
      let same = one_model name m p q a b in
      (same, one_report q r s t (declared_well_formed name m q b) (subst (λ (x : Program). Reads x r s) same h) k)

-- told files call for one ending
pub one_ending : OneEndingLaw
one_ending = record {
  checked = checked;
  analysed = analysed;
  readable = λ name m s commands e model reads calls. none_called name m s model.program commands e (record { short = model.short; declares = model.declares }) reads calls;
}
