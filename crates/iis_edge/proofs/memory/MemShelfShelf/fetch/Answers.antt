use Rattle.std.proofs.Common.{rules, ◌≡◌, ◌++◌, ◌∷◌, [], List, ℕ, map, ap, ◌∙◌}
use Rattle.iis_edge.specs.Files.{times_named}
use Rattle.iis_edge.proofs.Names.{other_names}
use Rattle.iis_edge.proofs.memory.MemShelfShelf.fetch.Goals as goal

pub returns-then-contains-clause-others : goal.returns-then-contains-clause-others
returns-then-contains-clause-others c = λ n differ.
    let kept : map (λ v. v.items) c.add_name.new.names.items ≡ c.args.self.now.failed ++ c.args.name.now ∷ [] = search rules in
    ap (λ (l : List (List ℕ)). times_named l n) kept ∙ other_names c.args.self.now.failed c.args.name.now n differ

pub returns-in_default-find_file-clause-others : goal.returns-in_default-find_file-clause-others
returns-in_default-find_file-clause-others c = λ n differ.
    let kept : map (λ v. v.items) c.add_name-in_default-find_file.new.names.items ≡ c.args.self.now.failed ++ c.args.name.now ∷ [] = search rules in
    ap (λ (l : List (List ℕ)). times_named l n) kept ∙ other_names c.args.self.now.failed c.args.name.now n differ
