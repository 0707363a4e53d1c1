use Rattle.std.proofs.Common.{◌≡◌, ◌∙◌, [], ◌++◌, ℕ, List, Result, Ok, Err, ap}
use Rattle.std.specs.Prelude.{⊤, OnOk}
use Rattle.std.specs.declared.alloc.AllocError.{AllocError}
use Rattle.report_printer.proofs.entries.print_entry.Goals as goal

-- lines that are some text behind nothing are appended as that text
told : (old new lines start text : List ℕ) (result : Result ⊤ AllocError) → OnOk result (new ≡ old ++ lines) → start ≡ [] → lines ≡ start ++ text → OnOk result (new ≡ old ++ text)
told old new lines start text (Ok done) appended none is = appended ∙ ap (λ t. old ++ t) (is ∙ ap (λ s. s ++ text) none)
told old new lines start text (Err refused) appended none is = tt

pub returns-clause-text : goal.returns-clause-text
returns-clause-text c = λ line. told _ _ _ _ _ c.append.result c.append.ensures.text c.new-lines.ensures.items (c.as_slice.ensures.value ∙ c.in_ok-put_entry.ensures.text line)
