use Rattle.std.proofs.Common.{◌≡◌, sym, subst, false}
use Rattle.std.specs.List.{list_any}
use Rattle.std.specs.Str.{bytes_eq}
use Rattle.name_map.specs.Names.{names_of}
use Rattle.lp_model.proofs.Copied.{next_entry, fresh_name}
use Rattle.lp_model.proofs.additions.copied.Goals as goal

pub push-requires : goal.push-requires
push-requires g c =
    subst (λ es. list_any (bytes_eq c.name.result.now) (names_of es) ≡ false) (sym c.loop-index.invariant)
    (fresh_name c.args.map.now c.loop-index.index c.name.result.now c.len-index-end.ensures.distinct c.name.ensures)

pub loop-index-preserved : goal.loop-index-preserved
loop-index-preserved g c =
    next_entry c.args.map.now c.loop-index.copy c.push.new.self c.loop-index.index c.name.result.now c.value.result.now c.in_ok-value.value c.name.ensures c.value.ensures
    (c.requires c.value.result.now c.in_ok-value.value c.in_ok-value.ensures.cases) c.loop-index.invariant c.in_ok-push.ensures.ok
