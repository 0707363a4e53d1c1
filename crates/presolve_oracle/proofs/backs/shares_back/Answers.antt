use Rattle.std.proofs.Common.{sym, subst}
use Rattle.certs.specs.Ended.{blocked_shares}
use Rattle.dictionary.specs.Value.{tableau_of}
use Rattle.presolve_oracle.specs.Easing.{IsEasing}
use Rattle.presolve_oracle.proofs.Returning.{blocked_back, blocked_limits, blocks_with}
use Rattle.presolve_oracle.proofs.backs.shares_back.Goals as goal

pub cut_back-requires-clause-shares : goal.cut_back-requires-clause-shares
cut_back-requires-clause-shares c =
    let (last, (leads, (reduced, (pivots, ended)))) = c.requires.reduced in
    let (side, blocked) = c.requires.blocked in
    let now = c.args.dictionary.now in (
      blocked_shares last.system (tableau_of now) c.args.variable side,
      blocked_limits c.args.model.now c.args.set.now.members c.args.trace.now last leads pivots now c.args.variable side c.in_ok-combo.combo.shares c.requires.formed ended blocked
          (c.in_ok-combo.ensures.shares last.system (sym ended.columns) ended.is_of side blocked),
    )

pub returns : goal.returns
returns c = λ pivots last leads reduced ended.
    (let model = c.args.model.now in
    let set = c.args.set.now.members in
    let trace = c.args.trace.now in
    let (side, blocked) = c.requires.blocked in
    let now = c.args.dictionary.now in
    let of = blocked_shares last.system (tableau_of now) c.args.variable side in
    let limits = blocked_limits model set trace last leads pivots now c.args.variable side c.in_ok-combo.combo.shares c.requires.formed ended blocked
    (c.in_ok-combo.ensures.shares last.system (sym ended.columns) ended.is_of side blocked) in
    subst (IsEasing model set pivots) (sym c.infeasible.ensures)
    (blocked_back model set pivots trace.steps last leads.reduces reduced of (blocks_with last.system pivots now c.args.variable side ended blocked) c.in_ok-proof.proof (c.in_ok-proof.ensures of limits)))
