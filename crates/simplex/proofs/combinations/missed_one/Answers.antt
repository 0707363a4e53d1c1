use Rattle.std.proofs.Common.{◌≡◌, ◌<◌, ℕ, Bool, true, false, not, cond, Some, None, sym, ◌∙◌, ap}
use Rattle.frac128.specs.Limit.{limit}
use Rattle.lp_model.specs.declared.members.Side.{Side}
use Rattle.lp_model.specs.declared.members.Side.TheVariants.{Lo, Up}
use Rattle.certs.specs.System.{is_basic}
use Rattle.certs.specs.Tableau.{Tableau, basic_value, limits_at}
use Rattle.certs.specs.Turns.{is_outside, is_over, is_under, limited, limited_basics, settle_choice}
use Rattle.certs.specs.Turns.Choice.{Blocked}
use Rattle.certs.proofs.Choices.{below_all, blocked_parts, found_is}
use Rattle.certs.proofs.Tableaus.{basic_below}
use Rattle.dictionary.specs.Layouts.{side_of}
use Rattle.dictionary.specs.Value.{tableau_of}
use Rattle.simplex.proofs.Narrow.{narrow_found}
use Rattle.simplex.proofs.combinations.missed_one.Goals as goal

-- the variable outside is basic
basic : (t : Tableau) (i : ℕ) (side : Side) → settle_choice t ≡ Blocked i side → is_basic t.basis i ≡ true
basic t i side e = (found_is (is_outside t) (λ k. (k < limited t) × (is_basic t.basis k ≡ true)) (limited_basics t) i (below_all (is_basic t.basis) (limited t)) (blocked_parts t i side e).first).0.1

-- and it misses its lower limit where it is below that
missed : (a b : Bool) (side : Side) → cond a (Some Lo) (cond b (Some Up) None) ≡ Some side → side ≡ side_of (not a)
missed true b side e = cc e
missed false true side e = cc e
missed false false side e = absurd (cc e)

pub narrow_value-value-requires : goal.narrow_value-value-requires
narrow_value-value-requires c =
    let t = tableau_of c.args.dictionary.now in
    let b = basic t c.args.row c.requires.blocked.0 c.requires.blocked.1 in
    record {
      usable = c.requires.usable;
      known = basic_below t.basis c.args.row b;
      basic = b;
      narrow = narrow_found limit t (limited_basics t) c.args.row (blocked_parts t c.args.row c.requires.blocked.0 c.requires.blocked.1).first c.requires.narrow;
    }

pub lower-requires : goal.lower-requires
lower-requires c = record { known = basic_below c.args.dictionary.now.basis c.args.row (basic (tableau_of c.args.dictionary.now) c.args.row c.requires.blocked.0 c.requires.blocked.1) }

pub returns-clause-is : goal.returns-clause-is
returns-clause-is c =
    let t = tableau_of c.args.dictionary.now in
    let i = c.args.row in
    let limits = limits_at t i in
    let side = c.requires.blocked.0 in
    let short : is_under limits.lower (basic_value t i) ≡ c.falls_short.result = ap (is_under limits.lower) (sym c.narrow_value-value.ensures) ∙ ap (λ l. is_under l c.narrow_value-value.result) (sym c.lower.ensures) ∙ sym c.falls_short.ensures in
    c.requires.blocked.1 ∙ ap (Blocked i) (missed (is_under limits.lower (basic_value t i)) (is_over limits.upper (basic_value t i)) side (blocked_parts t i side c.requires.blocked.1).missed ∙ ap (λ b. side_of (not b)) short)

pub returns-clause-basic : goal.returns-clause-basic
returns-clause-basic c = basic (tableau_of c.args.dictionary.now) c.args.row c.requires.blocked.0 c.requires.blocked.1
