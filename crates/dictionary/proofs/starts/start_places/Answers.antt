use Rattle.std.proofs.Common.{◌≡◌, ◌+◌, ◌-◌, ◌<◌, ◌≤◌, ℕ, List, [], ◌∷◌, ◌++◌, length, get_or, take, map, replicate, refl, sym, ◌∙◌, ap, append_assoc, arith}
use Rattle.std.specs.Option.{option_map}
use Rattle.std.proofs.lemmas.List.{map_push, map_more, append-nil, take-map, replicate_more}
use Rattle.certs.specs.System.{Limits, Place}
use Rattle.certs.specs.System.Place.{Basic}
use Rattle.certs.specs.Tableau.{start_place}
use Rattle.dictionary.specs.declared.places.Place.{Place as Code}
use Rattle.dictionary.specs.declared.places.Place.TheVariants.{Basic as IsBasic}
use Rattle.dictionary.specs.declared.places.Bounds.{Bounds}
use Rattle.dictionary.specs.Layouts.{basis_of, place_of_code}
use Rattle.dictionary.proofs.starts.start_places.Goals as goal

module _ {N : Type 0} (view : N → Limits) where
  -- one more column
  one_more : (bounds : List N) (i : ℕ) (b : N) (xs ys : List Code) (p : Code) → i < length bounds → b ≡ get_or bounds i b → place_of_code p ≡ start_place (view b) → ys ≡ xs ++ p ∷ []
      → basis_of xs ≡ map (λ l. start_place l) (take i (map view bounds)) → basis_of ys ≡ map (λ l. start_place l) (take (i + 1) (map view bounds))
  one_more bounds i b xs ys p l is e q h =
      ap basis_of q ∙ map_push place_of_code xs p ∙ ap (λ z. z ++ place_of_code p ∷ []) h
      ∙ ap (λ z. map (λ l. start_place l) z ++ place_of_code p ∷ []) (take-map view i bounds)
      ∙ ap (λ z. map (λ l. start_place l) (map view (take i bounds)) ++ z ∷ []) e
      ∙ ap (λ z. map (λ l. start_place l) (map view (take i bounds)) ++ start_place (view z) ∷ []) is
      ∙ ap (λ z. z ++ start_place (view (get_or bounds i b)) ∷ []) (twice (take i bounds))
      ∙ sym (map_more (λ n. start_place (view n)) bounds i b l)
      ∙ sym (twice (take (i + 1) bounds))
      ∙ ap (map (λ l. start_place l)) (sym (take-map view (i + 1) bounds))
    where
      twice : (ns : List N) → map (λ l. start_place l) (map view ns) ≡ map (λ n. start_place (view n)) ns
      twice [] = refl
      twice (n ∷ ns) = ap (λ z. start_place (view n) ∷ z) (twice ns)

-- one more variable in the basis
one_basic : (front : List Place) (xs ys : List Code) (n m : ℕ) → m ≤ n → ys ≡ xs ++ IsBasic ∷ [] → basis_of xs ≡ front ++ replicate (n - m) Basic → basis_of ys ≡ front ++ replicate (n + 1 - m) Basic
one_basic front xs ys n m l q h =
    ap basis_of q ∙ map_push place_of_code xs IsBasic ∙ ap (λ z. z ++ Basic ∷ []) h ∙ append_assoc front (replicate (n - m) Basic) (Basic ∷ [])
    ∙ ap (λ z. front ++ z) (replicate_more (n - m) Basic)
    ∙ (let e : n - m + 1 ≡ n + 1 - m = omega arith in ap (λ k. front ++ replicate k Basic) e)

pub loop-variable-init : goal.loop-variable-init
loop-variable-init g c = ap basis_of c.new-places.ensures.items

pub loop-variable-preserved : goal.loop-variable-preserved
loop-variable-preserved g c =
    let v = g.N.Exact.value in
    let view : Bounds _ → Limits = λ b. record { lower = option_map v b.lower; upper = option_map v b.upper } in
    one_more view c.args.bounds.now c.loop-variable.variable c.index-bounds-variable.result c.loop-variable.places.items c.push.new.self.items c.start_place.result
    (let l = c.loop-variable-test.true in let r = c.requires in omega arith) c.index-bounds-variable.is c.start_place.ensures c.in_ok-push.ensures.items c.loop-variable.invariant

pub loop-init : goal.loop-init
loop-init g c =
    let v = g.N.Exact.value in
    let limits : List Limits = map (λ b. record { lower = option_map v b.lower; upper = option_map v b.upper }) c.args.bounds.now in
    let front = map (λ l. start_place l) (take c.args.columns limits) in
    let e : c.loop-variable.variable ≡ c.args.columns = (let a = c.loop-variable-test.false in let b = c.loop-variable.auto in omega arith) in
    let z : c.args.columns - c.args.columns ≡ 0 = omega arith in
    c.loop-variable.invariant ∙ ap (λ n. map (λ l. start_place l) (take n limits)) e ∙ sym (append-nil front) ∙ ap (λ k. front ++ replicate k Basic) (sym z)

pub loop-preserved : goal.loop-preserved
loop-preserved g c =
    let v = g.N.Exact.value in
    let limits : List Limits = map (λ b. record { lower = option_map v b.lower; upper = option_map v b.upper }) c.args.bounds.now in
    one_basic (map (λ l. start_place l) (take c.args.columns limits)) c.loop.places.items c.push-in-loop.new.self.items c.loop.counter c.args.columns c.loop.auto.counter c.in_ok-push-2.ensures.items c.loop.invariant

pub returns : goal.returns
returns g c =
    let v = g.N.Exact.value in
    let limits : List Limits = map (λ b. record { lower = option_map v b.lower; upper = option_map v b.upper }) c.args.bounds.now in
    let e : c.loop.counter ≡ length c.args.bounds.now = (let a = c.loop-test.false in let b = c.loop.auto in let r = c.requires in omega arith) in
    c.loop.invariant ∙ ap (λ n. map (λ l. start_place l) (take c.args.columns limits) ++ replicate (n - c.args.columns) Basic) e
