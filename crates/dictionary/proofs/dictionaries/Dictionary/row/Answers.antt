use Rattle.std.proofs.Common.{◌≡◌, ◌<◌, true, [], length, sym, ◌∙◌, ap, subst, arith}
use Rattle.std.specs.Prelude.{slice_index_or}
use Rattle.certs.specs.System.{is_basic}
use Rattle.certs.proofs.Tableaus.{basic_below}
use Rattle.dictionary.specs.Layouts.{basis_of}
use Rattle.dictionary.specs.Rows.{terms_of, rows_of, IsSparse}
use Rattle.dictionary.proofs.Tables.{rows_at, rows-length}
use Rattle.dictionary.proofs.dictionaries.Dictionary.row.Goals as goal

pub index-requires : goal.index-requires
index-requires g c =
    let v = g.N.Exact.value in
    let d = c.self.inside in
    let i = c.args.basic in
    let b : is_basic (basis_of d.places.items) i ≡ true = subst (λ d. is_basic d.basis i ≡ true) (sym c.self.view_is) c.requires.basic in
    let u : d.usable ≡ true = subst (λ d. d.usable ≡ true) (sym c.self.view_is) c.requires.usable in
    let s = c.self.invariant.0.sparse u in
    let l : i < length d.rows.items = subst (λ n. i < n) (sym s.long ∙ rows-length v d.rows.items) (basic_below (basis_of d.places.items) i b) in
    let n = d.rows.ok.0 in
    omega (arith, l, n)

pub returns-clause-row : goal.returns-clause-row
returns-clause-row g c =
    let v = g.N.Exact.value in
    let d = c.self.inside in
    let i = c.args.basic in
    let b : is_basic (basis_of d.places.items) i ≡ true = subst (λ d. is_basic d.basis i ≡ true) (sym c.self.view_is) c.requires.basic in
    let u : d.usable ≡ true = subst (λ d. d.usable ≡ true) (sym c.self.view_is) c.requires.usable in
    let s = c.self.invariant.0.sparse u in
    let l : i < length d.rows.items = subst (λ n. i < n) (sym s.long ∙ rows-length v d.rows.items) (basic_below (basis_of d.places.items) i b) in
    let e : terms_of v c.as_slice.result.now ≡ slice_index_or (rows_of v d.rows.items) i [] = ap (terms_of v) (c.as_slice.ensures.value ∙ ap (λ r. r.items) c.index.ensures) ∙ sym (rows_at v d.rows.items i c.index.result.now l) in
    subst (λ d. terms_of v c.as_slice.result.now ≡ slice_index_or d.rows i []) c.self.view_is e

pub returns-clause-sparse : goal.returns-clause-sparse
returns-clause-sparse g c =
    let v = g.N.Exact.value in
    let d = c.self.inside in
    let i = c.args.basic in
    let b : is_basic (basis_of d.places.items) i ≡ true = subst (λ d. is_basic d.basis i ≡ true) (sym c.self.view_is) c.requires.basic in
    let u : d.usable ≡ true = subst (λ d. d.usable ≡ true) (sym c.self.view_is) c.requires.usable in
    let s = c.self.invariant.0.sparse u in
    let l : i < length d.rows.items = subst (λ n. i < n) (sym s.long ∙ rows-length v d.rows.items) (basic_below (basis_of d.places.items) i b) in
    let e : terms_of v c.as_slice.result.now ≡ slice_index_or (rows_of v d.rows.items) i [] = ap (terms_of v) (c.as_slice.ensures.value ∙ ap (λ r. r.items) c.index.ensures) ∙ sym (rows_at v d.rows.items i c.index.result.now l) in
    subst (λ d. IsSparse d.basis (terms_of v c.as_slice.result.now)) c.self.view_is (subst (IsSparse (basis_of d.places.items)) (sym e) (s.sparse i b))
