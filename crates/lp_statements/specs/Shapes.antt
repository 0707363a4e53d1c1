-- Terms, constants and begins of rows in the code's types.
use Rattle.std.specs.Prelude.{◌≡◌, ℕ, List, ◌++◌, map, take}
use Rattle.std.specs.Option.{option_map}
use Rattle.lp_statements.specs.declared.parts.Term.{Term as CodeTerm}
use Rattle.lp_statements.specs.declared.grammar.Element.{Element as CodeElement}
use Rattle.lp_statements.specs.declared.grammar.Opening.{Opening as CodeOpening}
use Rattle.lp_statements.specs.Statements.{Term, shown_constant, shown_term}
use Rattle.lp_statements.specs.Grammar.{Parsed, Whole, Element, OfTerm, OfConstant, Opening}
use Rattle.lp_statements.specs.Items.{Piece}

-- a term or a constant
abbrev pub shown_element : CodeElement → Element
shown_element (CodeElement.OfTerm term) = OfTerm (shown_term term)
shown_element (CodeElement.OfConstant constant) = OfConstant (shown_constant constant)

-- the begin of a row
abbrev pub shown_opening : CodeOpening → Opening
shown_opening o = record { left = option_map shown_constant o.left; before = o.before; first = shown_term o.first }

-- the terms of a part are put after those that were there; no more than n are kept
pub record AddsTerms (n : ℕ) (parsed : Parsed (List Term)) (new : List Piece) (old_terms new_terms : List CodeTerm) : Type 0 where
  pub terms : List Term
  pub whole : parsed ≡ Whole terms new
  pub items : map shown_term new_terms ≡ take n (map shown_term old_terms ++ terms)
