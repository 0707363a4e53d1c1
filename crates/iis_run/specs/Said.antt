-- What an ending writes, and the status that it gives.
use Rattle.std.specs.Prelude.{◌≡◌, ◌⊎◌, ℕ, ◌==◌, cond, List, [], Option}
use Rattle.analysis.specs.Puts.{PutWhole, PutFailed, PutsNothing}
use Rattle.cert_check.specs.declared.outcome.Outcome.TheVariants.{Accepted, Rejected, Wide, Memory as Want}
use Rattle.iis_run.specs.Lines.{usage_line, read_fault_line, too_long_line, model_refused_line, bad_report_line, cut_report_line, bad_script_line, accepted_line, rejected_line, wide_line}
use Rattle.iis_run.specs.declared.endings.Ending.{Ending}
use Rattle.iis_run.specs.declared.endings.Ending.TheVariants.{Usage, ReadFault, TooLong, Memory, ModelRefused, BadReport, CutReport, BadScript, Checked}

-- the text was put whole; or a put failed, and a front of it was put
abbrev pub Puts : {K : Type 0} → (K → ℕ) → (K → Option (List ℕ)) → K → K → List ℕ → Type 0
Puts faults taken old new text = PutWhole faults taken old new text ⊎ PutFailed faults taken old new text

-- the line of an ending, and the status that it gives
abbrev pub line_of : Ending → List ℕ
line_of Usage = usage_line
line_of (ReadFault which) = read_fault_line which
line_of (TooLong which) = too_long_line which
line_of Memory = []
line_of (ModelRefused stop) = model_refused_line stop
line_of (BadReport n) = bad_report_line n
line_of CutReport = cut_report_line
line_of (BadScript n) = bad_script_line n
line_of (Checked (Accepted settled unsettled)) = accepted_line settled unsettled
line_of (Checked (Rejected n)) = rejected_line n
line_of (Checked (Wide n w)) = wide_line n w
line_of (Checked Want) = []

abbrev pub status_of : Ending → ℕ
status_of Usage = 2
status_of (ReadFault which) = 3
status_of (TooLong which) = 3
status_of Memory = 7
status_of (ModelRefused stop) = 5
status_of (BadReport n) = 6
status_of CutReport = 6
status_of (BadScript n) = 6
status_of (Checked (Accepted settled unsettled)) = cond (unsettled == 0) 0 1
status_of (Checked (Rejected n)) = 8
status_of (Checked (Wide n w)) = 8
status_of (Checked Want) = 7

-- the status where the put of the line fails: that of a refusal stays, but an accepted report is not said to be one
abbrev pub status_after_fault : Ending → ℕ
status_after_fault (Checked (Accepted settled unsettled)) = 4
status_after_fault ending = status_of ending

-- the line is put
abbrev pub IsSaid : {K : Type 0} → (K → ℕ) → (K → Option (List ℕ)) → K → K → Ending → ℕ → Type 0
IsSaid faults taken old new ending status =
    ((status ≡ status_of ending) × PutWhole faults taken old new (line_of ending))
    ⊎ ((status ≡ status_after_fault ending) × PutFailed faults taken old new (line_of ending))

-- want of memory: status 7, and nothing is written
abbrev pub EndsInWant : {K : Type 0} → (K → ℕ) → (K → Option (List ℕ)) → K → K → ℕ → Type 0
EndsInWant faults taken old new status = (status ≡ 7) × PutsNothing faults taken old new

-- what an ending writes, and its status; a line with numbers takes memory
abbrev pub Ends : {K : Type 0} → (K → ℕ) → (K → Option (List ℕ)) → K → K → Ending → ℕ → Type 0
Ends faults taken old new Memory status = EndsInWant faults taken old new status
Ends faults taken old new (ModelRefused stop) status = IsSaid faults taken old new (ModelRefused stop) status ⊎ EndsInWant faults taken old new status
Ends faults taken old new (BadReport n) status = IsSaid faults taken old new (BadReport n) status ⊎ EndsInWant faults taken old new status
Ends faults taken old new (BadScript n) status = IsSaid faults taken old new (BadScript n) status ⊎ EndsInWant faults taken old new status
Ends faults taken old new (Checked outcome) status = IsSaid faults taken old new (Checked outcome) status ⊎ EndsInWant faults taken old new status
Ends faults taken old new ending status = IsSaid faults taken old new ending status
