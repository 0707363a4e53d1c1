-- Shares that stand in order, or come from the end of an improve run, take no limit twice.
use Rattle.std.proofs.Common.{◌≡◌, ◌==◌, ◌<◌, refl, sym, ◌∙◌, subst, ℕ, Bool, true, false, true≢false, ◌&&◌, List, length, map, get_or, arith}
use Rattle.std.specs.Prelude.{IsTrue}
use Rattle.std.proofs.lemmas.Bool.{and_parts, eqb-true}
use Rattle.std.proofs.lemmas.List.{get_or-map, length-map}
use Rattle.lp_model.specs.declared.members.Side.{Side}
use Rattle.lp_model.proofs.Orders.{not_itself}
use Rattle.certs.specs.Named.{member_of, named}
use Rattle.certs.specs.Order.{source_before, AreSharesInOrder}
use Rattle.certs.specs.System.{VariableShare}
use Rattle.certs.specs.declared.evidence.Share.{Share}
use Rattle.reductions.specs.Limited.{is_side}
use Rattle.reductions.proofs.WeightSides.{side_same}
use Rattle.trace_back.specs.Ends.{AreApart, AreOnce}

-- of two shares one of which stands before the other
before_apart : (columns : ℕ) (s t : VariableShare) → IsTrue (source_before (named columns s).source (named columns t).source) → AreApart s t
before_apart columns s t h = by (is_side s.side t.side && (s.variable == t.variable)) refl
  where
    by : (b : Bool) → (is_side s.side t.side && (s.variable == t.variable)) ≡ b → b ≡ false
    by false e = refl
    by true e =
        let both = and_parts (is_side s.side t.side) (s.variable == t.variable) e in
        let side = side_same s.side t.side both.0 in
        let variable = eqb-true s.variable t.variable both.1 in
        let Before = λ (v : ℕ) (k : Side). IsTrue (source_before (named columns (record { variable = v; side = k; weight = s.weight })).source (named columns t).source) in
        absurd (true≢false (sym (subst (λ k. Before t.variable k) side (subst (λ v. Before v s.side) variable h)) ∙ not_itself (member_of columns t.variable t.side)))

pub ordered_once : (columns : ℕ) (of : List VariableShare) → AreSharesInOrder (map (named columns) of) → AreOnce of
ordered_once columns of h = λ i j d l m.
    (let at = λ (k : ℕ) (r : k < length of). get_or-map (named columns) of k d (named columns d) r in
    let first = at i (omega (arith, l, m)) in
    let second = at j m in
    before_apart columns (get_or of i d) (get_or of j d)
    (subst (λ (t : Share). IsTrue (source_before (named columns (get_or of i d)).source t.source)) second
    (subst (λ (s : Share). IsTrue (source_before s.source (get_or (map (named columns) of) j (named columns d)).source)) first
    (h i j (named columns d) l (subst (λ n. j < n) (sym (length-map of (named columns))) m)))))
