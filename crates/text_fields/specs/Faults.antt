-- What a fault of a text is to a reader, and why a text is not read.
use Rattle.std.specs.Prelude.{◌≡◌, ⊤, Option, Some}
use Rattle.text_fields.specs.declared.faults.TextFault.{TextFault}
use Rattle.text_fields.specs.declared.faults.FieldStop.{FieldStop}
use Rattle.text_fields.specs.declared.faults.FieldStop.TheVariants.{Text as FieldText, Memory as FieldMemory}
use Rattle.text_fields.specs.declared.faults.ReadKind.TheVariants.{Text as ReadText}
use Rattle.text_fields.specs.declared.faults.ReadStop.{ReadStop}
use Rattle.text_fields.specs.declared.faults.ReadFault.{ReadFault}
use Rattle.text_fields.specs.declared.faults.ReadFault.TheVariants.{Stop, Memory as ReadMemory}

-- a fault of the text, at its line
abbrev pub fault_of_text : TextFault → ReadFault
fault_of_text fault = Stop (record { line = fault.line; kind = ReadText fault.kind })

-- the same of a line's fields, or want of memory
abbrev pub fault_of_fields : FieldStop → ReadFault
fault_of_fields (FieldText fault) = fault_of_text fault
fault_of_fields FieldMemory = ReadMemory

-- why what has this fault, or none, was not read: just that fault; want of memory may come at any time
abbrev pub IsFaultOf : Option ReadStop → ReadFault → Type 0
IsFaultOf found (Stop stop) = found ≡ Some stop
IsFaultOf found ReadMemory = ⊤
