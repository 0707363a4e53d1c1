use Rattle.std.proofs.Common.{ap, ◌∙◌, List, slice_index_or, []}
use Rattle.std.proofs.lemmas.List.{map-set, get_or-set_other}
use Rattle.rational.specs.Linear.{Term}
use Rattle.std.specs.Global.{Vec}
use Rattle.mps_reader.proofs.program.taken.Goals as goal

pub returns-clause-others : goal.returns-clause-others
returns-clause-others c = λ i apart.
    let show : Vec Term → List Term = λ v. v.items in
    ap (λ xs. slice_index_or xs i []) (map-set show c.args.lists.now.items c.args.place c.replace.new.dest)
    ∙ get_or-set_other _ c.args.place i (show c.replace.new.dest) [] apart
