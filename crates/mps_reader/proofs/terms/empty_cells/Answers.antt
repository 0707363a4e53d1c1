use Rattle.std.proofs.Common.{length, [], ap, map, arith, length-append, ◌∷◌}
use Rattle.mps_reader.specs.Gathered.{cell_shown}
use Rattle.mps_reader.proofs.Spread.{more_empty}
use Rattle.mps_reader.proofs.terms.empty_cells.Goals as goal

pub loop-preserved : goal.loop-preserved
loop-preserved c = record {
  len = omega (arith, ap length c.in_ok-push.ensures.items, length-append c.loop.lists.items (c.new.result ∷ []));
  each = more_empty (λ v. map cell_shown v.items) c.loop.lists.items c.push.new.self.items c.new.result c.in_ok-push.ensures.items (ap (map cell_shown) c.new.ensures.items) c.loop.invariant.each;
}
