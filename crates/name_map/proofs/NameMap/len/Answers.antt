use Rattle.std.proofs.Common.{refl, sym, subst}
use Rattle.std.specs.List.{IsDistinct}
use Rattle.std.specs.Str.{bytes_eq}
use Rattle.name_map.proofs.NameLists.{distinct_moves, names_shown}
use Rattle.name_map.proofs.NameMap.len.Goals as goal

pub returns-clause-distinct : goal.returns-clause-distinct
returns-clause-distinct g c =
    let es = c.self.inside.held.entries in
    rw (← c.self.view_is)
    (subst (IsDistinct bytes_eq) (sym (names_shown (λ k. k.items) es))
    (distinct_moves (λ e. e.0) (λ e. e.0.items) (λ a b. bytes_eq a.items b.items) bytes_eq (λ a b. refl) es c.len.ensures.unique))
