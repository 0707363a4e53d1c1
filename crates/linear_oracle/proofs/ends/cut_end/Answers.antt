use Rattle.std.proofs.Common.{◌≡◌, ◌∙◌, sym, ap, refl, map, false, inr}
use Rattle.certs.specs.Ended.{blocked_shares}
use Rattle.certs.specs.Named.{named, program_shares}
use Rattle.certs.specs.Plain.{plain_system}
use Rattle.dictionary.specs.Value.{tableau_of}
use Rattle.linear_oracle.proofs.Shares.{columns_are, of_plain}
use Rattle.linear_oracle.proofs.ends.cut_end.Goals as goal

pub node_combo-requires-clause-of_system : goal.node_combo-requires-clause-of_system
node_combo-requires-clause-of_system c =
    let model = c.args.model.now in
    let set = c.args.set.now.members in
    let path = c.args.path.now in
    of_plain model set path c.in-Ok.combo.shares (c.in-Ok.ensures.combination (plain_system model set path false) c.requires.formed (columns_are model set path ∙ sym c.requires.count) c.requires.is_of)

pub returns-in-Ok-node_combo : goal.returns-in-Ok-node_combo
returns-in-Ok-node_combo c = λ pivots h.
    (let model = c.args.model.now in
    let set = c.args.set.now.members in
    let path = c.args.path.now in
    let system = plain_system model set path false in
    let t = tableau_of c.args.dictionary.now in
    let side = c.requires.blocked.0 in
    let of = blocked_shares system t c.args.variable side in
    let shares : c.in-Ok.combo.shares ≡ map (named c.args.dictionary.now.columns) of = c.in-Ok.ensures.shares system (columns_are model set path ∙ sym c.requires.count) c.requires.is_of side c.requires.blocked.1 in
    record {
      of = of;
      given = inr (record {
        last = c.args.dictionary.now.basis;
        variable = c.args.variable;
        run = h.run;
        here = record { tableau = t; is_of = h.is_of; at = refl };
        side = side;
        blocked = c.requires.blocked.1;
        shares_are = refl;
      });
      shares_are = c.in-Ok-node_combo.ensures.shares ∙ ap (program_shares model set path) (shares ∙ ap (λ n. map (named n) of) c.requires.count);
    })
