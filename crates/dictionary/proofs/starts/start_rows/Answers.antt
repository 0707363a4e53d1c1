use Rattle.std.proofs.Common.{◌≡◌, [], ◌∷◌, ◌++◌, List, take, map, replicate, sym, ◌∙◌, ap, subst, append_assoc, arith}
use Rattle.std.specs.Prelude.{Vec}
use Rattle.std.proofs.lemmas.List.{map_push, map_more, take_all, append-nil, replicate_more}
use Rattle.rational.specs.Rational.{ℚ}
use Rattle.rational.specs.Linear.{Term}
use Rattle.lp_model.specs.declared.parts.Row.{Row}
use Rattle.certs.specs.Tableau.{forms_of}
use Rattle.dictionary.specs.declared.entries.Entry.{Entry}
use Rattle.dictionary.specs.Rows.{terms_of, rows_of}
use Rattle.dictionary.specs.Starts.{FitForm}
use Rattle.dictionary.proofs.starts.start_rows.Goals as goal

-- one row more
one_more : {N A : Type 0} (v : N → ℚ) (xs ys : List (Vec (Entry N) A)) (x : Vec (Entry N) A) (row : List Term) (list : List (List Term)) → ys ≡ xs ++ x ∷ [] → terms_of v x.items ≡ row → rows_of v xs ≡ list → rows_of v ys ≡ list ++ row ∷ []
one_more v xs ys x row list e h k = ap (rows_of v) e ∙ map_push (λ r. terms_of v r.items) xs x ∙ ap (λ z. z ++ terms_of v x.items ∷ []) k ∙ ap (λ z. list ++ z ∷ []) h

pub loop-init : goal.loop-init
loop-init g c = ap (rows_of g.N.Exact.value) c.new-forms.ensures.items

pub loop-preserved : goal.loop-preserved
loop-preserved g c =
    let v = g.N.Exact.value in
    one_more v c.loop.forms.items c.push.new.self.items c.new.result [] (replicate c.loop.counter []) c.in_ok-push.ensures.items (ap (terms_of v) c.new.ensures.items) c.loop.invariant ∙ replicate_more c.loop.counter []

pub loop-row-init : goal.loop-row-init
loop-row-init g c =
    let e : c.loop.counter ≡ c.args.columns = (let a = c.loop-test.false in let b = c.loop.auto in omega arith) in
    c.loop.invariant ∙ ap (λ k. replicate k []) e ∙ sym (append-nil (replicate c.args.columns []))

pub loop-row-preserved : goal.loop-row-preserved
loop-row-preserved g c =
    let v = g.N.Exact.value in
    let i = c.loop-row.row-index in
    let f : Row → List Term = λ r. r.terms in
    let x = c.row-item.result in
    one_more v c.loop-row.forms.items c.push-in-loop-row.new.self.items c.in_ok-narrowed_row.field-0 (f x) (replicate c.args.columns [] ++ map f (take i c.args.rows.now)) c.in_ok-push-2.ensures.items (c.in_ok-narrowed_row.ensures ∙ c.as_slice.ensures) c.loop-row.invariant
    ∙ append_assoc (replicate c.args.columns []) (map f (take i c.args.rows.now)) (f x ∷ [])
    ∙ ap (λ z. replicate c.args.columns [] ++ (map f (take i c.args.rows.now) ++ f z ∷ [])) c.row-item.is
    ∙ ap (λ z. replicate c.args.columns [] ++ z) (sym (map_more f c.args.rows.now i x c.loop-row-test.true))

pub narrowed_row-requires : goal.narrowed_row-requires
narrowed_row-requires g c =
    subst (FitForm g.N.Exact.most) (ap (λ (r : Row). r.terms) (sym c.row-item.is) ∙ sym c.as_slice.ensures) (c.requires.fits c.loop-row.row-index c.row-item.result c.loop-row-test.true)

pub returns-in_default : goal.returns-in_default
returns-in_default g c =
    let f : Row → List Term = λ r. r.terms in
    c.loop-row.invariant
    ∙ ap (λ z. replicate c.args.columns [] ++ map f z) (take_all c.loop-row.row-index c.args.rows.now c.loop-row-test.false)
    ∙ ap (λ z. replicate c.args.columns [] ++ z) (sym (append-nil (map f c.args.rows.now)))
    ∙ ap (λ o. replicate c.args.columns [] ++ (map f c.args.rows.now ++ forms_of o)) (sym c.in_default.is)

pub returns : goal.returns
returns g c =
    let v = g.N.Exact.value in
    let f : Row → List Term = λ r. r.terms in
    let whole = c.loop-row.invariant ∙ ap (λ z. replicate c.args.columns [] ++ map f z) (take_all c.loop-row.row-index c.args.rows.now c.loop-row-test.false) in
    one_more v c.loop-row.forms.items c.push-2.new.self.items c.in_ok-narrowed_row-2.field-0 _ (replicate c.args.columns [] ++ map f c.args.rows.now) c.in_ok-push-3.ensures.items (c.in_ok-narrowed_row-2.ensures ∙ c.as_slice-2.ensures) whole
    ∙ append_assoc (replicate c.args.columns []) (map f c.args.rows.now) (_ ∷ [])
    ∙ ap (λ o. replicate c.args.columns [] ++ (map f c.args.rows.now ++ forms_of o)) (sym c.in-Some.is)
