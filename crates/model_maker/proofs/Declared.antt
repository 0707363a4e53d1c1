-- The text of a plan declares its program.
use Rattle.std.proofs.Common.{◌≡◌, ℕ, ◌^◌, ◌<◌, List, length, is_some, refl, sym, ap, ◌∙◌, subst, true≢false}
use Rattle.std.proofs.lemmas.Bool.{ltb-true}
use Rattle.text_fields.specs.declared.faults.ReadFault.{ReadFault}
use Rattle.text_fields.specs.declared.faults.ReadFault.TheVariants.{Stop, Memory}
use Rattle.lp_model.specs.Program.{Program}
use Rattle.lp_reader.specs.Meaning.{DeclaresLp, IsLpStop}
use Rattle.model_maker.specs.PlanText.{plan_text}
use Rattle.model_maker.specs.PlanProgram.{plan_program}
use Rattle.model_maker.specs.PlanLaws.{DeclaredLaw, ReadLaw}
use Rattle.model_maker.proofs.Evaluated.{Outcome, evaluated}

pub declared : DeclaredLaw
declared n size = record { no_fault = ap (λ (o : Outcome). o.0) (evaluated n size); same = sym (ap (λ (o : Outcome). o.1) (evaluated n size)) }

-- a text without a fault has no first fault
no_stop : (bytes : List ℕ) (program : Program) (fault : ReadFault) → DeclaresLp bytes program → IsLpStop bytes fault → fault ≡ Memory
no_stop bytes program (Stop stop) declares told = absurd (true≢false (ap is_some (sym told ∙ declares.no_fault)))
no_stop bytes program Memory declares told = refl

pub read : ReadLaw
read n bytes text =
    let declares : DeclaresLp bytes (plan_program n) = subst (λ (bs : List ℕ). DeclaresLp bs (plan_program n)) (sym text.same) (declared n text.size) in
    record {
      few = subst (λ (bs : List ℕ). length bs < 2 ^ 31) (sym text.same) (ltb-true (length (plan_text n)) (2 ^ 31) (ap (λ (o : Outcome). o.2) (evaluated n text.size)));
      declares = declares;
      alone = λ other other_declared. other_declared.same ∙ sym declares.same;
      never_refused = λ fault told. no_stop bytes (plan_program n) fault declares told;
    }
