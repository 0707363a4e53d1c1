-- The names of a model that was read are words.
use Rattle.std.proofs.Common.{ℕ, List, sym, subst}
use Rattle.lp_model.specs.Program.{Program}
use Rattle.model_files.specs.declared.formats.Format.{Format}
use Rattle.model_files.specs.declared.formats.Format.TheVariants.{Mps, Lp}
use Rattle.model_files.specs.Formats.{Declares, format_of, format_program}
use Rattle.analysis.specs.NamesAreWords.{HasWords}
use Rattle.iis_run.proofs.LpNames.{lp_words}
use Rattle.iis_run.proofs.MpsNames.{mps_words}

format_words : (format : Format) (bytes : List ℕ) → HasWords (format_program format bytes)
format_words Mps bytes = mps_words bytes
format_words Lp bytes = lp_words bytes

-- each name of a model that a file declares
pub declared_names_are_words : (name bytes : List ℕ) (program : Program) → Declares name bytes program → HasWords program
declared_names_are_words name bytes program d = subst HasWords (sym d.same) (format_words (format_of name) bytes)
