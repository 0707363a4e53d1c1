use Rattle.std.proofs.Common.{◌<◌, ◌^◌, sym, ◌∙◌, arith}
use Rattle.lp_reader.specs.State.{kept}
use Rattle.lp_reader.proofs.Forms.{entry_holds, kept_more, kept_all}
use Rattle.lp_reader.proofs.columns.list_terms.Goals as goal

pub returns : goal.returns
returns c = c.new-2.ensures ∙ kept_all c.loop-place.list.items c.args.sums.now.entries c.loop-place.place (kept c.args.sums.now.entries) c.loop-place.invariant (omega (arith, c.len-place-end.ensures.len))

pub put_term-requires : goal.put_term-requires
put_term-requires c = entry_holds (λ e. e.0 < 2 ^ 32) c.args.sums.now.entries c.loop-place.place (c.in-Some.column.now, c.in-Some.sum.now) (sym c.in-Some.ensures.entry) c.requires

pub loop-place-preserved : goal.loop-place-preserved
loop-place-preserved c = kept_more c.loop-place.list.items c.args.sums.now.entries c.loop-place.place (c.in-Some.column.now, c.in-Some.sum.now) c.put_term.new.list.items (kept c.args.sums.now.entries) c.loop-place.invariant (sym c.in-Some.ensures.entry) c.in_ok-put_term.ensures
