-- Which fault a file has, and which program it declares.
use Rattle.std.proofs.Common.{◌≡◌, ℕ, List, sym, ap, ◌∙◌, subst}
use Rattle.std.specs.Prelude.{Some, None}
use Rattle.std.proofs.lemmas.Option.{none-some}
use Rattle.text_fields.specs.declared.faults.ReadStop.{ReadStop}
use Rattle.text_fields.specs.declared.faults.ReadFault.{ReadFault}
use Rattle.text_fields.specs.declared.faults.ReadFault.TheVariants.{Stop, Memory}
use Rattle.lp_model.specs.Program.{Program, IsWellFormed}
use Rattle.model_files.proofs.MpsFormed.{mps-formed}
use Rattle.model_files.proofs.LpFormed.{lp-formed}
use Rattle.model_files.specs.declared.formats.Format.TheVariants.{Mps, Lp}
use Rattle.model_files.specs.Formats.{Format, Declares, IsRefusal, OneMeaningLaw, format_of, format_program, model_fault}
use Rattle.text_fields.specs.Faults.{IsFaultOf}

module _ (name bytes : List ℕ) (format : Format) (named : format ≡ format_of name) where
  -- a fault of the format is that of the file
  pub refused : (fault : ReadFault) → IsFaultOf (model_fault format bytes) fault → IsRefusal name bytes fault
  refused (Stop stop) h = subst (λ f. model_fault f bytes ≡ Some stop) named h
  refused Memory h = tt

  -- and what the format declares the file does
  pub declared : (program : Program) → model_fault format bytes ≡ None → program ≡ format_program format bytes → Declares name bytes program
  declared program none same = record {
    no_fault = subst (λ f. model_fault f bytes ≡ None) named none;
    same = same ∙ ap (λ f. format_program f bytes) named;
  }

-- a file declares one program
pub one_model : (name bytes : List ℕ) (p q : Program) → Declares name bytes p → Declares name bytes q → p ≡ q
one_model name bytes p q a b = a.same ∙ sym b.same

-- and then it has no fault
pub not_both : (name bytes : List ℕ) (p : Program) (stop : ReadStop) → Declares name bytes p → model_fault (format_of name) bytes ≡ Some stop → ⊥
not_both name bytes p stop a b = none-some stop (sym a.no_fault ∙ b)

-- what a format declares is well formed
format-formed : (format : Format) (bytes : List ℕ) → model_fault format bytes ≡ None → IsWellFormed (format_program format bytes)
format-formed Mps bytes e = mps-formed bytes e
format-formed Lp bytes e = lp-formed bytes e

-- and so is what a file declares
pub declared_well_formed : (name bytes : List ℕ) (p : Program) → Declares name bytes p → IsWellFormed p
declared_well_formed name bytes p h = subst IsWellFormed (sym h.same) (format-formed (format_of name) bytes h.no_fault)

pub meaning : OneMeaningLaw
meaning = record { one = one_model; no_fault = not_both; well_formed = declared_well_formed }
