-- The limits of files.
use Rattle.std.specs.Prelude.{ℕ}
use Rattle.iis_run.specs.declared.endings.Which.{Which}
use Rattle.iis_run.specs.declared.endings.Which.TheVariants.{Model, Report, Script}

-- the most bytes of a file that is read
abbrev pub limit_of : Which → ℕ
limit_of Model = 16777216
limit_of Report = 67108864
limit_of Script = 16777216
