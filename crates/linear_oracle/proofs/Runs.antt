-- The variables of a dictionary.
use Rattle.std.proofs.Common.{◌≡◌, ◌+◌, ◌-◌, ◌≤◌, ◌∙◌, ap, Bool, true, false, cond, length, is_some, refl, arith}
use Rattle.certs.specs.System.{LinearSystem}
use Rattle.certs.specs.Tableau.{IsTableauOf}
use Rattle.certs.specs.Turns.{limited}
use Rattle.dictionary.specs.Value.{DictionaryValue, tableau_of}

-- the columns are among the variables with limits
pub columns_within : (system : LinearSystem) (now : DictionaryValue) → IsTableauOf system (tableau_of now) → now.columns ≡ length system.columns → now.columns ≤ limited (tableau_of now)
columns_within system now of columns = by (is_some system.objective) refl
  where
    by : (b : Bool) → is_some system.objective ≡ b → now.columns ≤ limited (tableau_of now)
    by true e =
        let o = ap (λ b. cond b (length now.basis - 1) (length now.basis)) (of.objective ∙ e) in
        let s = of.size ∙ ap (λ b. length system.columns + length system.rows + cond b 1 0) e in
        omega (arith, o, s, columns)
    by false e =
        let o = ap (λ b. cond b (length now.basis - 1) (length now.basis)) (of.objective ∙ e) in
        let s = of.size ∙ ap (λ b. length system.columns + length system.rows + cond b 1 0) e in
        omega (arith, o, s, columns)
