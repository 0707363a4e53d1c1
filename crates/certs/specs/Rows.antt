-- The rows of linear systems in code.
use Rattle.lp_model.specs.declared.parts.Row.{Row}
use Rattle.certs.specs.System.{SystemRow}

-- its terms and sides
abbrev pub row_of : Row → SystemRow
row_of r = record { terms = r.terms; limits = record { lower = r.lo; upper = r.up } }
