use Rattle.std.proofs.Common.{◌≡◌, List, ℕ, None, Result, Ok, Err}
use Rattle.std.specs.Prelude.{IfErr, IfOk, MatchResult}
use Rattle.lp_model.specs.Program.{Program}
use Rattle.text_fields.specs.declared.faults.ReadFault.{ReadFault}
use Rattle.text_fields.specs.Faults.{IsFaultOf}
use Rattle.model_files.specs.Formats.{Declares, Format, IsRefusal, format_of, format_program, model_fault}
use Rattle.model_files.proofs.Meaning.{refused, declared}
use Rattle.model_files.proofs.formats.read_model.Goals as goal

-- what is read in the format of its name is what the file declares
of_file : (name bytes : List ℕ) (format : Format) → format ≡ format_of name → (result : Result Program ReadFault)
    → MatchResult result (λ p. (model_fault format bytes ≡ None) × (p ≡ format_program format bytes)) (IsFaultOf (model_fault format bytes))
    → IfOk result (Declares name bytes) × IfErr result (IsRefusal name bytes)
of_file name bytes format named (Ok p) h = (declared name bytes format named p h.0 h.1, tt)
of_file name bytes format named (Err fault) h = (tt, refused name bytes format named fault h)

pub returns : goal.returns
returns c =
    let both = of_file c.args.name.now c.args.bytes.now c.format_named.result c.format_named.ensures c.read_format.result c.read_format.ensures in
    record { declared = both.0; refused = both.1 }
