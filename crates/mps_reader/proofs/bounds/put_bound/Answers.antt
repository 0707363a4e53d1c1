use Rattle.std.proofs.Common.{◌∙◌}
use Rattle.mps_reader.specs.Held.{put_where}
use Rattle.mps_reader.proofs.Limited.{bound_taken}
use Rattle.mps_reader.proofs.bounds.put_bound.Goals as goal

pub returns : goal.returns
returns c = λ steps b h at kind number absent.
    let old = c.args.reader.now in
    bound_taken old (record old { lowers = c.put_if.new.table; uppers = c.put_if-2.new.table; wholes = c.put_if-3.new.table }) steps b c.args.column c.args.kind c.args.number.now h at kind number absent
    (c.in_ok-put_if.ensures ∙ (λ i. put_where (c.is_lower.ensures i) old.lowers.entries c.args.column (c.least.ensures i)))
    (c.in_ok-put_if-2.ensures ∙ (λ i. put_where (c.is_upper.ensures i) old.uppers.entries c.args.column (c.greatest.ensures i)))
    (c.in_ok-put_if-3.ensures ∙ (λ i. put_where (c.is_whole.ensures i) old.wholes.entries c.args.column tt))
