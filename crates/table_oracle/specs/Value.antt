-- What contracts see of an oracle that answers from a list, and what it answers.
use Rattle.std.specs.Prelude.{◌≡◌, ◌==◌, Bool, true, false, ◌&&◌, List, [], ◌∷◌, length, Result, Ok, Err, ⊤}
use Rattle.lp_model.specs.declared.members.Member.{Member}
use Rattle.lp_model.specs.MemberSets.{SetValue}
use Rattle.lp_model.specs.Program.{Program}
use Rattle.lp_model.specs.Satisfaction.{values_at}
use Rattle.certs.specs.declared.evidence.Checked.{Checked}
use Rattle.certs.specs.declared.evidence.Checked.TheVariants.{Yes, No, Wide as TooWide}
use Rattle.certs.specs.declared.evidence.Node.TheVariants.{Leaf as LeafNode}
use Rattle.certs.specs.declared.evidence.Combo.{Combo}
use Rattle.certs.specs.declared.evidence.Point.{Point as OnePoint}
use Rattle.certs.specs.declared.evidence.Proof.{Proof}
use Rattle.certs.specs.declared.solving.Site.{Site}
use Rattle.certs.specs.declared.solving.SiteKind.TheVariants.{Settle}
use Rattle.certs.specs.declared.solving.Stop.{Stop}
use Rattle.certs.specs.declared.solving.Stop.TheVariants.{Wide, Pivots, Nodes, Large, Memory}
use Rattle.certs.specs.declared.solving.Verdict.{Verdict}
use Rattle.certs.specs.declared.solving.Verdict.TheVariants.{Feasible, Infeasible}
use Rattle.certs.specs.Checks.{outcome, point_steps, combination_steps}
use Rattle.certs.specs.Order.{are_in_order}
use Rattle.certs.specs.Tales.{OracleState, TaleValue}
use Rattle.table_oracle.specs.declared.answers.TableAnswer.{TableAnswer}
use Rattle.table_oracle.specs.declared.answers.TableAnswer.TheVariants.{Point, Leaf, Spent}

-- the program, the answers that are left, and what it tells of its calls
pub record TableValue : Type 0 where
  pub model : Program
  pub answers : List TableAnswer
  pub tale : TaleValue

-- what callers see: it serves every set, and spends nothing
abbrev pub state_of : TableValue → OracleState
state_of o = record { model = o.model; budgets = record { pivots = 0; nodes = 0 }; serves = λ set. true; tale = o.tale }

-- the site of just the set
abbrev pub own_site : SetValue → Site
own_site set = record { kind = Settle; set = set; enforced = record set { members = [] }; path = [] }

-- whether a check says yes
abbrev pub is_yes : Checked → Bool
is_yes Yes = true
is_yes No = false
is_yes (TooWide operation) = false

-- whether a point has a value for each column, and the check of the point says yes
abbrev pub is_point : Program → List Member → OnePoint → Bool
is_point model set point = (length point.values == length model.columns) && is_yes (outcome (point_steps model set (values_at point.values)))

-- whether the check of the combination says yes, and its shares stand in order
abbrev pub is_leaf : Program → List Member → Combo → Bool
is_leaf model set combo = is_yes (outcome (combination_steps model set [] combo.shares)) && are_in_order combo.shares

-- whether the first answer that is left is right for a set
abbrev pub is_right : Program → List Member → List TableAnswer → Bool
is_right model set [] = false
is_right model set (Point point ∷ answers) = is_point model set point
is_right model set (Leaf combo ∷ answers) = is_leaf model set combo
is_right model set (Spent ∷ answers) = false

-- the verdict that an answer gives
pub data Gives : List TableAnswer → Verdict → Type 0 where
  point : {p : OnePoint} {answers : List TableAnswer} → Gives (Point p ∷ answers) (Feasible p)
  leaf : {combo : Combo} {answers : List TableAnswer} {proof : Proof} → proof.nodes ≡ LeafNode combo ∷ [] → Gives (Leaf combo ∷ answers) (Infeasible proof)

-- The verdict is that of the first answer that is left, where it is right for the set; and else the stop of just the set. Want of memory may come at any time.
abbrev pub IsNext : Program → SetValue → List TableAnswer → Result Verdict Stop → Type 0
IsNext model set answers (Ok verdict) = (is_right model set.members answers ≡ true) × Gives answers verdict
IsNext model set answers (Err (Pivots site)) = (is_right model set.members answers ≡ false) × (site ≡ own_site set)
IsNext model set answers (Err (Wide site step operation)) = ⊥
IsNext model set answers (Err (Nodes site)) = ⊥
IsNext model set answers (Err (Large size)) = ⊥
IsNext model set answers (Err Memory) = ⊤
