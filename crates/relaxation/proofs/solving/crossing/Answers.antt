use Rattle.std.proofs.Common.{◌≡◌, sym, ◌∙◌, ap, subst, map, length}
use Rattle.certs.specs.Named.{named}
use Rattle.certs.specs.Order.{AreSharesInOrder}
use Rattle.certs.specs.Plain.{crossing_shares}
use Rattle.certs.proofs.PlainCuts.{crossing_combination}
use Rattle.relaxation.proofs.Shares.{crossing_in_order}
use Rattle.relaxation.proofs.solving.crossing.Goals as goal

pub returns-clause-solved : goal.returns-clause-solved
returns-clause-solved c =
    let s = c.args.system.now in
    let d = c.system.inside in
    let v = c.args.variable in
    let columns : c.len-columns.result ≡ length s.columns = c.len-columns.ensures ∙ d.columns.ok.0 ∙ ap (λ z. length z.columns) c.system.view_is in
    let shares : c.in-Ok.combo.shares ≡ map (named (length s.columns)) (crossing_shares v) = c.in-Ok.ensures ∙ ap (λ n. map (named n) (crossing_shares v)) columns in (
      record { of = crossing_shares v; combination = crossing_combination s v c.requires.crosses; same = shares },
      subst AreSharesInOrder (sym shares) (crossing_in_order (length s.columns) v),
    )
