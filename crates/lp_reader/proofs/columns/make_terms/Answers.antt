use Rattle.std.proofs.Common.{◌<◌, ◌^◌, map}
use Rattle.std.proofs.lemmas.List.Sorted.{All-permutation}
use Rattle.lp_reader.proofs.Forms.{forms_are, strictly}
use Rattle.lp_reader.proofs.columns.make_terms.Goals as goal

pub list_terms-requires : goal.list_terms-requires
list_terms-requires c = All-permutation (λ e. e.0 < 2 ^ 32) c.args.sums.now.entries c.sort_keys.new.self.entries c.in_ok-sort_keys.ensures.reordered.0 c.requires

pub returns : goal.returns
returns c =
    forms_are c.args.sums.now.entries c.sort_keys.new.self.entries c.list_terms.result
    (strictly (map (λ e. e.0) c.sort_keys.new.self.entries) c.in_ok-sort_keys.ensures.sorted c.in_ok-sort_keys.ensures.unique)
    (λ n. All-permutation (λ e. e.0 < n) c.args.sums.now.entries c.sort_keys.new.self.entries c.in_ok-sort_keys.ensures.reordered.0)
    c.in_ok-sort_keys.ensures.reordered.2
    c.list_terms.ensures
