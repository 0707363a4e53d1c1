use Rattle.std.proofs.Common.{sym, ap, ◌∙◌, ◌++◌, ◌∷◌, [], map}
use Rattle.std.specs.List.{list_any}
use Rattle.std.specs.Str.{bytes_eq}
use Rattle.name_map.specs.Names.{names_of}
use Rattle.name_map.proofs.NameLists.{added, names_shown}
use Rattle.name_map.proofs.NameMap.push.Goals as goal

pub returns-clause-ok : goal.returns-clause-ok
returns-clause-ok g c =
    let es = c.self.inside.held.entries in
    let key = c.in_ok-key.key in
    let same = c.in_ok-key.ensures.items in
    let new =
    ap (λ n. list_any (bytes_eq n) (map (λ e. e.0.items) es)) same
    ∙ ap (list_any (bytes_eq c.args.name.now)) (sym (names_shown (λ k. k.items) es))
    ∙ ap (λ m. list_any (bytes_eq c.args.name.now) (names_of m)) c.self.view_is
    ∙ c.requires in
    rw (← c.self.view_is)
    (ap (map (λ e. (e.0.items, e.1))) c.in_ok-insert.ensures.entries
    ∙ added (λ k. k.items) (λ e. (e.0.items, e.1)) es key c.args.value new
    ∙ ap (λ n. map (λ e. (e.0.items, e.1)) es ++ (n, c.args.value) ∷ []) same)
