-- The lines that are printed.
use Rattle.std.specs.Prelude.{ℕ, List, ◌++◌, codes, decimal}
use Rattle.frac128.specs.Printed.{printed}
use Rattle.frac128.specs.declared.Wide.{Wide as Operation}
use Rattle.report_text.specs.Grammar.{op_word}
use Rattle.text_fields.specs.declared.faults.TextKind.{TextKind}
use Rattle.text_fields.specs.declared.faults.TextKind.TheVariants.{ForeignByte, LongLine, BadNumber, NumberWide}
use Rattle.text_fields.specs.declared.faults.ReadKind.{ReadKind}
use Rattle.text_fields.specs.declared.faults.ReadKind.TheVariants.{Text, Order, UnknownName, DuplicateName, DuplicateEntry, Unsupported, BadField, Truncated, Limit, SumWide}
use Rattle.text_fields.specs.declared.faults.ReadStop.{ReadStop}
use Rattle.iis_run.specs.declared.endings.Which.{Which}
use Rattle.iis_run.specs.declared.endings.Which.TheVariants.{Model, Report, Script}

abbrev pub usage_line : List ℕ
usage_line = codes "usage: iisan analyse MODEL SCRIPT | verify MODEL REPORT | make N\n"

abbrev pub read_fault_line : Which → List ℕ
read_fault_line Model = codes "read fault model\n"
read_fault_line Report = codes "read fault report\n"
read_fault_line Script = codes "read fault script\n"

abbrev pub too_long_line : Which → List ℕ
too_long_line Model = codes "too long model\n"
too_long_line Report = codes "too long report\n"
too_long_line Script = codes "too long script\n"

-- the word of a fault of a text
abbrev pub text_word : TextKind → List ℕ
text_word ForeignByte = codes "foreign byte"
text_word LongLine = codes "long line"
text_word BadNumber = codes "bad number"
text_word NumberWide = codes "number wide"

-- the word of a fault of a model
abbrev pub kind_word : ReadKind → List ℕ
kind_word (Text kind) = text_word kind
kind_word Order = codes "order"
kind_word UnknownName = codes "unknown name"
kind_word DuplicateName = codes "duplicate name"
kind_word DuplicateEntry = codes "duplicate entry"
kind_word Unsupported = codes "unsupported"
kind_word BadField = codes "bad field"
kind_word Truncated = codes "truncated"
kind_word Limit = codes "limit"
kind_word SumWide = codes "sum wide"

-- the line and the kind of a model's first fault
abbrev pub model_refused_line : ReadStop → List ℕ
model_refused_line stop = codes "model refused line " ++ (decimal stop.line ++ (codes " " ++ (kind_word stop.kind ++ codes "\n")))

-- a whole line of the report with which no report goes on
abbrev pub bad_report_line : ℕ → List ℕ
bad_report_line n = codes "report refused line " ++ (decimal n ++ codes "\n")

-- the report ends too soon
abbrev pub cut_report_line : List ℕ
cut_report_line = codes "report refused truncated\n"

-- the first bad line of a script
abbrev pub bad_script_line : ℕ → List ℕ
bad_script_line n = codes "script refused line " ++ (decimal n ++ codes "\n")

-- how many entries were checked and hold, and how many were not checked
abbrev pub accepted_line : ℕ → ℕ → List ℕ
accepted_line settled unsettled = codes "accepted settled " ++ (decimal settled ++ (codes " unsettled " ++ (decimal unsettled ++ codes "\n")))

-- the line of the report that fails
abbrev pub rejected_line : ℕ → List ℕ
rejected_line n = codes "rejected line " ++ (decimal n ++ codes "\n")

-- the line of the report on which an operation is too wide, and the operation with its operands
abbrev pub wide_line : ℕ → Operation → List ℕ
wide_line n w = codes "wide line " ++ (decimal n ++ (codes " " ++ (op_word w.op ++ (codes " " ++ (printed w.left ++ (codes " " ++ (printed w.right ++ codes "\n")))))))
