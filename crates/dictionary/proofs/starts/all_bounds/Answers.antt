use Rattle.std.proofs.Common.{◌≡◌, List, [], ◌∷◌, ◌++◌, take, map, refl, sym, ◌∙◌, ap, cond, append_assoc, Option, arith}
use Rattle.std.proofs.lemmas.Grind.{common_steps}
use Rattle.std.specs.Option.{option_map}
use Rattle.std.proofs.lemmas.List.{map_push, map_more, take_more, take_all, append-nil}
use Rattle.rational.specs.Rational.{ℚ}
use Rattle.lp_model.specs.declared.parts.Row.{Row}
use Rattle.certs.specs.Rows.{row_of}
use Rattle.certs.specs.System.{Limits, no_limits}
use Rattle.dictionary.specs.declared.places.Bounds.{Bounds}
use Rattle.dictionary.proofs.starts.all_bounds.Goals as goal

limits_by : {N : Type 0} → (N → ℚ) → Bounds N → Limits
limits_by v b = record { lower = option_map v b.lower; upper = option_map v b.upper }

-- one more at the end
pushed : {X : Type 0} (f : X → Limits) (xs ys : List X) (x : X) (l : Limits) (list : List Limits) → ys ≡ xs ++ x ∷ [] → f x ≡ l → map f xs ≡ list → map f ys ≡ list ++ l ∷ []
pushed f xs ys x l list e h k = ap (map f) e ∙ map_push f xs x ∙ ap (λ z. z ++ f x ∷ []) k ∙ ap (λ z. list ++ z ∷ []) h

both : (a b c d : Option ℚ) → a ≡ b → c ≡ d → let r : Limits = record { lower = a; upper = c } in let s : Limits = record { lower = b; upper = d } in r ≡ s
both a b c d e f = λ i. record { lower = e i; upper = f i }

pub loop-limits-init : goal.loop-limits-init
loop-limits-init g c = ap (map (λ b. record { lower = option_map g.N.Exact.value b.lower; upper = option_map g.N.Exact.value b.upper })) c.new-bounds.ensures.items

pub loop-limits-preserved : goal.loop-limits-preserved
loop-limits-preserved g c =
    let v = g.N.Exact.value in
    let i = c.loop-limits.limits-index in
    pushed (λ b. record { lower = option_map v b.lower; upper = option_map v b.upper }) c.loop-limits.bounds.items c.push.new.self.items _ c.limits-item.result (take i c.args.columns.now) c.in_ok-push.ensures.items
    (both _ _ _ _ c.narrowed_limit.ensures c.narrowed_limit-in-loop-limits.ensures ∙ c.limits.view_is) c.loop-limits.invariant
    ∙ ap (λ z. take i c.args.columns.now ++ z ∷ []) c.limits-item.is ∙ sym (take_more c.args.columns.now i c.limits-item.result c.loop-limits-test.true)

pub loop-row-init : goal.loop-row-init
loop-row-init g c = c.loop-limits.invariant ∙ take_all c.loop-limits.limits-index c.args.columns.now c.loop-limits-test.false ∙ sym (append-nil c.args.columns.now)

pub loop-row-preserved : goal.loop-row-preserved
loop-row-preserved g c =
    let v = g.N.Exact.value in
    let i = c.loop-row.row-index in
    let f : Row → Limits = λ r. (row_of r).limits in
    let done = map f (take i c.args.rows.now) in
    pushed (λ b. record { lower = option_map v b.lower; upper = option_map v b.upper }) c.loop-row.bounds.items c.push-in-loop-row.new.self.items _ (f c.row-item.result) (c.args.columns.now ++ done) c.in_ok-push-2.ensures.items
    (both _ _ _ _ c.narrowed_limit-in-loop-row.ensures c.narrowed_limit-in-loop-row-2.ensures) c.loop-row.invariant
    ∙ append_assoc c.args.columns.now done (f c.row-item.result ∷ [])
    ∙ ap (λ z. c.args.columns.now ++ (done ++ f z ∷ [])) c.row-item.is
    ∙ ap (λ z. c.args.columns.now ++ z) (sym (map_more f c.args.rows.now i c.row-item.result c.loop-row-test.true))

pub returns-then-not-objective : goal.returns-then-not-objective
returns-then-not-objective g c =
    let f : Row → Limits = λ r. (row_of r).limits in
    c.loop-row.invariant
    ∙ ap (λ z. c.args.columns.now ++ map f z) (take_all c.loop-row.row-index c.args.rows.now c.loop-row-test.false)
    ∙ ap (λ z. c.args.columns.now ++ z) (sym (append-nil (map f c.args.rows.now)))
    ∙ ap (λ b. c.args.columns.now ++ (map f c.args.rows.now ++ cond b (no_limits ∷ []) [])) (sym c.if-not-objective.true)

pub returns : goal.returns
returns g c =
    let v = g.N.Exact.value in
    let f : Row → Limits = λ r. (row_of r).limits in
    let whole = c.loop-row.invariant ∙ ap (λ z. c.args.columns.now ++ map f z) (take_all c.loop-row.row-index c.args.rows.now c.loop-row-test.false) in
    pushed (λ b. record { lower = option_map v b.lower; upper = option_map v b.upper }) c.loop-row.bounds.items c.push-2.new.self.items _ no_limits (c.args.columns.now ++ map f c.args.rows.now) c.in_ok-push-3.ensures.items refl whole
    ∙ append_assoc c.args.columns.now (map f c.args.rows.now) (no_limits ∷ [])
    ∙ ap (λ b. c.args.columns.now ++ (map f c.args.rows.now ++ cond b (no_limits ∷ []) [])) (sym c.if-not-objective.false)

pub narrowed_limit-requires : goal.narrowed_limit-requires
narrowed_limit-requires g c = grind (arith, common_steps)

pub narrowed_limit-requires-in-loop-limits : goal.narrowed_limit-requires-in-loop-limits
narrowed_limit-requires-in-loop-limits g c = grind (arith, common_steps)

pub narrowed_limit-requires-in-loop-row : goal.narrowed_limit-requires-in-loop-row
narrowed_limit-requires-in-loop-row g c = grind (arith, common_steps)

pub narrowed_limit-requires-in-loop-row-2 : goal.narrowed_limit-requires-in-loop-row-2
narrowed_limit-requires-in-loop-row-2 g c = grind (arith, common_steps)
