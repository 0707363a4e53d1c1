use Rattle.std.proofs.Common.{◌≡◌, ◌∙◌, ap, refl, map, inl, length}
use Rattle.certs.specs.Named.{named, program_shares}
use Rattle.certs.specs.Plain.{crossing_shares}
use Rattle.linear_oracle.proofs.Shares.{crossing_named, of_plain}
use Rattle.linear_oracle.proofs.ends.crossing_end.Goals as goal

pub node_combo-requires-clause-of_system : goal.node_combo-requires-clause-of_system
node_combo-requires-clause-of_system c =
    let model = c.args.model.now in
    let set = c.args.set.now.members in
    let path = c.args.path.now in
    let shares : c.in-Ok.combo.shares ≡ map (named (length model.columns)) (crossing_shares c.args.variable) = c.in-Ok.ensures ∙ ap (λ n. map (named n) (crossing_shares c.args.variable)) c.column_count.ensures.count in
    of_plain model set path c.in-Ok.combo.shares (crossing_named model set path c.args.variable c.in-Ok.combo.shares c.requires.crosses shares)

pub returns-in-Ok-node_combo : goal.returns-in-Ok-node_combo
returns-in-Ok-node_combo c = λ pivots.
    (let model = c.args.model.now in
    let set = c.args.set.now.members in
    let path = c.args.path.now in
    let shares : c.in-Ok.combo.shares ≡ map (named (length model.columns)) (crossing_shares c.args.variable) = c.in-Ok.ensures ∙ ap (λ n. map (named n) (crossing_shares c.args.variable)) c.column_count.ensures.count in
    record {
      of = crossing_shares c.args.variable;
      given = inl (record { variable = c.args.variable; crosses = c.requires.crosses; shares_are = refl });
      shares_are = c.in-Ok-node_combo.ensures.shares ∙ ap (program_shares model set path) shares;
    })
