-- What may stand behind what: each kind begins with phrases that do not go on with the one before it.
use Rattle.std.proofs.Common.{◌≡◌, refl, sym, ap, subst, ◌∙◌, ℕ, Bool, true, false, true≢false, List, [], ◌∷◌, Option, Some, None, arith}
use Rattle.std.proofs.lemmas.Bool.{or_from}
use Rattle.std.proofs.lemmas.List.Elements.{All-nil, All-cons}
use Rattle.rational.specs.Rational.{ℚ, zero_ℚ}
use Rattle.lp_model.specs.Program.{Program, IsWellFormed}
use Rattle.lp_model.specs.declared.members.Member.{Member}
use Rattle.certs.specs.declared.evidence.Branch.{Branch}
use Rattle.certs.specs.declared.evidence.Point.{Point}
use Rattle.certs.specs.declared.evidence.Node.{Node}
use Rattle.certs.specs.declared.evidence.Node.TheVariants.{Split, Leaf}
use Rattle.certs.specs.declared.solving.SiteKind.{SiteKind}
use Rattle.certs.specs.Proof.{Tip}
use Rattle.report_text.specs.declared.report.Method.{Method}
use Rattle.report_text.specs.declared.report.Method.TheVariants.{Deletion, Additive, Sensitivity, Elastic, Alternative}
use Rattle.report_text.specs.declared.phrases.Phrase.{Phrase}
use Rattle.report_text.specs.declared.phrases.StopPhrase.{StopPhrase}
use Rattle.report_text.specs.Form.{IsPointFor, IsNodeFor, IsNamedBranch, IsStepFor, IsCount}
use Rattle.report_reader.specs.declared.cursor.Word.{Word}
use Rattle.report_reader.specs.declared.lists.Listing.{Listing}
use Rattle.report_reader.specs.declared.numbers.Number.{Number}
use Rattle.report_reader.specs.Kinds.{Kind, word, both, begins}
use Rattle.report_reader.specs.Things.{phrase_of, number, turn, left, operation, site_kind, uses, members, branches, steps, nodes_on, share_of, values, point, tree, proof, witnessed, tail, objective, dual, site, no_leaf, feasible, refuted, irreducible, unbounded, bounded, least, reduced, too_wide, spent, ended}
use Rattle.report_reader.proofs.Both.{Alone, Follows, Ends, both_alone, behind_ends}
use Rattle.report_reader.proofs.Found.{zeros, zeros_fit, number_one}
use Rattle.report_reader.proofs.Passing.{word_alone}
use Rattle.report_reader.proofs.Points.{point_of, no_values, point_taken, zero_fits, values_alone}
use Rattle.report_reader.proofs.Sorted.{no_uses, none_listed, no_members, uses_alone, members_alone, branches_alone, steps_alone}
use Rattle.report_reader.proofs.Proofs.{tree_alone}
use Rattle.report_reader.proofs.Tails.{tail_alone}
use Rattle.report_reader.proofs.Witnesses.{witnessed_alone, no_pairs, last_off}

-- nothing goes on with it
pub never_on : (l : List Phrase) → begins (λ q. false) l ≡ false
never_on [] = refl
never_on (q ∷ l) = refl

-- no phrase but a share goes on with nodes
pub nodes_off : (ns : List Node) (q : Phrase) → share_of q ≡ None → nodes_on ns q ≡ false
nodes_off [] q h = refl
nodes_off (Split j k ∷ []) q h = refl
nodes_off (Leaf combo ∷ []) q h = rw h refl
nodes_off (n ∷ o ∷ ns) q h = nodes_off (o ∷ ns) q h

module _ (model : Program) (names : IsWellFormed model) where
  -- ---- some of each kind
  pub zero_point : Point
  zero_point = point_of model []

  pub zero_form : IsPointFor model zero_point
  unfolding zero_point
  zero_form = point_taken model [] (no_values model)

  leaf_form : (splits : Bool) → (proof model splits).IsFor (tt, no_leaf.nodes)
  leaf_form splits = (tt, (record { one = record { tree = Tip []; listed = refl }; each = All-cons (IsNodeFor model) (Leaf (record { shares = [] })) [] (no_uses model) (All-nil (IsNodeFor model)) }, λ e. refl))

  some_tail : (method : Method) → (t : (tail model method).Value) × (tail model method).IsFor t
  some_tail Deletion = ((None, None), (refl, (tt, tt)))
  some_tail Additive = ((None, None), (refl, (tt, tt)))
  some_tail Sensitivity = ((None, None), (refl, (tt, tt)))
  some_tail Elastic = ((Some 0, None), (refl, ((let e : IsCount 0 = omega arith in e), tt)))
  some_tail Alternative = ((None, Some (zero_ℚ, zero_point)), (refl, (tt, (zero_fits, zero_form))))

  -- ---- behind a phrase
  pub behind_word : (p : Phrase) (Y : Kind) (y : Y.Value) → Y.IsFor y → Follows (word p) Y
  behind_word p Y y form = record { alone = word_alone model names p; some = y; form = form; apart = λ x z. never_on (Y.said z) }

  pub behind_number : (n : Number) (Y : Kind) (y : Y.Value) → Y.IsFor y → Follows (number n) Y
  behind_number n Y y form = record { alone = λ a b m l ha hb e na nb. number_one n a b m l e; some = y; form = form; apart = λ x z. never_on (Y.said z) }

  -- ---- points
  pub values_behind : (p : Phrase) → Follows (word p) (values model)
  values_behind p = behind_word p (values model) zero_point zero_form

  pub point_alone : Alone (point model)
  point_alone = both_alone model names (word Phrase.Point) (values model) (values_behind Phrase.Point) (values_alone model names)

  pub end_behind_point : Follows (point model) (word Phrase.End)
  end_behind_point = record { alone = point_alone; some = tt; form = tt; apart = λ x y. refl }

  pub end_behind_values : Follows (values model) (word Phrase.End)
  end_behind_values = record { alone = values_alone model names; some = tt; form = tt; apart = λ x y. refl }

  pub ray_behind : Follows (word Phrase.Ray) (both (values model) (word Phrase.End))
  ray_behind = behind_word Phrase.Ray (both (values model) (word Phrase.End)) (zero_point, tt) (zero_form, tt)

  pub ray_behind_point : Follows (point model) (both (word Phrase.Ray) (both (values model) (word Phrase.End)))
  ray_behind_point = record { alone = point_alone; some = (tt, (zero_point, tt)); form = (tt, (zero_form, tt)); apart = λ x y. refl }

  pub price_behind : Follows (number Number.Total) (both (word Phrase.Price) (values model))
  price_behind = behind_number Number.Total (both (word Phrase.Price) (values model)) (tt, zero_point) (tt, zero_form)

  -- ---- bounds
  pub end_behind_uses : Follows (uses model) (word Phrase.End)
  end_behind_uses = record { alone = uses_alone model names; some = tt; form = tt; apart = λ x y. refl }

  pub uses_behind : Follows (word Phrase.Dual) (both (uses model) (word Phrase.End))
  uses_behind = behind_word Phrase.Dual (both (uses model) (word Phrase.End)) ([], tt) (no_uses model, tt)

  some_dual : (dual model).Value
  some_dual = (tt, ([], tt))

  dual_form : (dual model).IsFor some_dual
  unfolding some_dual
  dual_form = (tt, (no_uses model, tt))

  pub dual_behind_bound : Follows (number Number.Bound) (dual model)
  dual_behind_bound = behind_number Number.Bound (dual model) some_dual dual_form

  pub dual_behind_point : Follows (point model) (dual model)
  dual_behind_point = record { alone = point_alone; some = some_dual; form = dual_form; apart = λ x y. refl }

  pub point_behind_total : Follows (number Number.Total) (both (point model) (dual model))
  point_behind_total = behind_number Number.Total (both (point model) (dual model)) ((tt, zero_point), some_dual) ((tt, zero_form), dual_form)

  objective_alone : Alone objective
  objective_alone None None m n ha hb e na nb = refl
  objective_alone None (Some w) m n ha hb e na nb = absurd (let f : begins (λ q. objective.goes_on None q) (Phrase.Objective w ∷ n) ≡ false = subst (λ l. begins (λ q. objective.goes_on None q) l ≡ false) e na in true≢false f)
  objective_alone (Some v) None m n ha hb e na nb = absurd (let f : begins (λ q. objective.goes_on None q) (Phrase.Objective v ∷ m) ≡ false = subst (λ l. begins (λ q. objective.goes_on None q) l ≡ false) (sym e) nb in true≢false f)
  objective_alone (Some v) (Some w) m n ha hb e na nb = let same : v ≡ w = cc in ap Some same

  objective_apart : (x : Option ℚ) (y : (both (number Number.Bound) (dual model)).Value) → begins (objective.goes_on x) ((both (number Number.Bound) (dual model)).said y) ≡ false
  objective_apart None y = refl
  objective_apart (Some v) y = refl

  pub bound_behind : Follows objective (both (number Number.Bound) (dual model))
  bound_behind = record { alone = objective_alone; some = (zero_ℚ, some_dual); form = (zero_fits, dual_form); apart = objective_apart }

  bounded_apart : (x : (point model).Value) (y : (both objective (both (number Number.Bound) (dual model))).Value) → begins ((point model).goes_on x) ((both objective (both (number Number.Bound) (dual model))).said y) ≡ false
  bounded_apart x (None, y) = refl
  bounded_apart x (Some v, y) = refl

  pub objective_behind : Follows (point model) (both objective (both (number Number.Bound) (dual model)))
  objective_behind = record { alone = point_alone; some = (None, (zero_ℚ, some_dual)); form = (tt, (zero_fits, dual_form)); apart = bounded_apart }

  -- ---- proofs
  module _ (splits : Bool) where
    pub tree_behind : Follows (word Phrase.Proof) (tree model splits)
    tree_behind = behind_word Phrase.Proof (tree model splits) no_leaf.nodes (leaf_form splits).1

    pub proof_alone : Alone (proof model splits)
    proof_alone = both_alone model names (word Phrase.Proof) (tree model splits) tree_behind (tree_alone model names splits)

    proof_off : (x : (proof model splits).Value) (q : Phrase) → share_of q ≡ None → (proof model splits).goes_on x q ≡ false
    proof_off x q h = or_from (nodes_on x.1 q) false (nodes_off x.1 q h) refl

    pub end_behind_proof : Follows (proof model splits) (word Phrase.End)
    end_behind_proof = record { alone = proof_alone; some = tt; form = tt; apart = λ x y. proof_off x Phrase.End refl }

    pub proof_behind_members : Follows (members model Listing.Listed) (both (proof model splits) (word Phrase.End))
    proof_behind_members = record { alone = members_alone model names Listing.Listed; some = ((tt, no_leaf.nodes), tt); form = (leaf_form splits, tt); apart = λ x y. refl }

  -- ---- irreducible sets
  module _ (method : Method) where
    priced_apart : (told : Option ℕ) (priced : Option (ℚ × Point)) → begins ((tail model method).goes_on (told, priced)) (Phrase.End ∷ []) ≡ false
    priced_apart told None = refl
    priced_apart told (Some p) = refl

    pub end_behind_tail : Follows (tail model method) (word Phrase.End)
    end_behind_tail = record { alone = tail_alone model names method; some = tt; form = tt; apart = λ x y. priced_apart x.0 x.1 }

    proof_apart : (x : (proof model true).Value) (told : Option ℕ) (priced : Option (ℚ × Point)) → begins ((proof model true).goes_on x) ((both (tail model method) (word Phrase.End)).said ((told, priced), tt)) ≡ false
    proof_apart x None None = proof_off true x Phrase.End refl
    proof_apart x None (Some p) = proof_off true x (Phrase.Total p.0) refl
    proof_apart x (Some n) priced = proof_off true x (Phrase.Rounds n) refl

    pub tail_behind : Follows (proof model true) (both (tail model method) (word Phrase.End))
    tail_behind = record { alone = proof_alone true; some = ((some_tail method).0, tt); form = ((some_tail method).1, tt); apart = λ x y. proof_apart x y.0.0 y.0.1 }

    pub proof_behind_witnessed : Follows (witnessed model) (both (proof model true) (both (tail model method) (word Phrase.End)))
    proof_behind_witnessed = record {
      alone = witnessed_alone model names;
      some = ((tt, no_leaf.nodes), ((some_tail method).0, tt));
      form = (leaf_form true, ((some_tail method).1, tt));
      apart = λ x y. last_off x Phrase.Proof refl;
    }

    pub witnessed_behind : Follows (word Phrase.Irreducible) (both (witnessed model) (both (proof model true) (both (tail model method) (word Phrase.End))))
    witnessed_behind = behind_word Phrase.Irreducible _ ([], ((tt, no_leaf.nodes), ((some_tail method).0, tt))) (no_pairs model, (leaf_form true, ((some_tail method).1, tt)))

  -- ---- reductions and stops
  pub end_behind_left : Follows left (word Phrase.End)
  end_behind_left = record { alone = λ a b m n ha hb e na nb. left_one a b m n e; some = tt; form = tt; apart = λ x y. refl }
    where
      left_one : (a b : ℕ × ℕ) (m n : List Phrase) → Phrase.Left a.0 a.1 ∷ m ≡ Phrase.Left b.0 b.1 ∷ n → a ≡ b
      left_one a b m n e = let p : Phrase.Left a.0 a.1 ≡ Phrase.Left b.0 b.1 = cc in let r : a.0 ≡ b.0 = cc in let s : a.1 ≡ b.1 = cc in ap (λ x. (x, a.1)) r ∙ ap (λ x. (b.0, x)) s

  pub left_behind : Follows (steps model) (both left (word Phrase.End))
  left_behind = record { alone = steps_alone model names; some = ((0, 0), tt); form = (((let e : IsCount 0 = omega arith in e), (let e : IsCount 0 = omega arith in e)), tt); apart = λ x y. refl }

  branches_apart : (x : List Member) (y : List Branch) → begins ((members model Listing.Enforced).goes_on x) ((branches model).said y) ≡ false
  branches_apart x [] = refl
  branches_apart x (b ∷ y) = refl

  pub branches_behind : Follows (members model Listing.Enforced) (branches model)
  branches_behind = record { alone = members_alone model names Listing.Enforced; some = []; form = All-nil (IsNamedBranch model); apart = branches_apart }

  enforced_apart : (x : List Member) (y : (both (members model Listing.Enforced) (branches model)).Value) → begins ((members model Listing.LeftOut).goes_on x) ((both (members model Listing.Enforced) (branches model)).said y) ≡ false
  enforced_apart x ([], []) = refl
  enforced_apart x ([], b ∷ y) = refl
  enforced_apart x (m ∷ ms, y) = refl

  pub enforced_behind : Follows (members model Listing.LeftOut) (both (members model Listing.Enforced) (branches model))
  enforced_behind = record { alone = members_alone model names Listing.LeftOut; some = ([], []); form = (none_listed model Listing.Enforced, All-nil (IsNamedBranch model)); apart = enforced_apart }

  site_kind_alone : Alone site_kind
  site_kind_alone a b m n ha hb e na nb = let p : StopPhrase.Site a ≡ StopPhrase.Site b = cc in cc

  pub left_out_behind : Follows site_kind (both (members model Listing.LeftOut) (both (members model Listing.Enforced) (branches model)))
  left_out_behind = record {
    alone = site_kind_alone;
    some = ([], ([], []));
    form = (none_listed model Listing.LeftOut, (none_listed model Listing.Enforced, All-nil (IsNamedBranch model)));
    apart = λ x y. never_on ((both (members model Listing.LeftOut) (both (members model Listing.Enforced) (branches model))).said y);
  }

  pub site_alone : Alone (site model)
  site_alone =
      both_alone model names _ _ left_out_behind (both_alone model names _ _ enforced_behind (both_alone model names _ _ branches_behind (branches_alone model names)))

  some_site : (site model).Value
  some_site = (SiteKind.Settle, ([], ([], [])))

  site_form : (site model).IsFor some_site
  unfolding some_site
  site_form = (tt, (none_listed model Listing.LeftOut, (none_listed model Listing.Enforced, All-nil (IsNamedBranch model))))

  pub end_behind_site : Follows (site model) (word Phrase.End)
  end_behind_site = record { alone = site_alone; some = tt; form = tt; apart = λ x y. refl }

  pub end_behind_operation : Follows operation (word Phrase.End)
  end_behind_operation = record { alone = λ a b m n ha hb e na nb. (let p : StopPhrase.Operation a ≡ StopPhrase.Operation b = cc in cc); some = tt; form = tt; apart = λ x y. refl }

  pub operation_behind : Follows turn (both operation (word Phrase.End))
  operation_behind = record { alone = λ a b m n ha hb e na nb. (let p : StopPhrase.Step a ≡ StopPhrase.Step b = cc in cc); some = (zeros, tt); form = (zeros_fit, tt); apart = λ x y. refl }

  pub turn_behind : Follows (site model) (both turn (both operation (word Phrase.End)))
  turn_behind = record { alone = site_alone; some = (0, (zeros, tt)); form = ((let e : IsCount 0 = omega arith in e), (zeros_fit, tt)); apart = λ x y. refl }

  pub site_behind : (p : Phrase) → Follows (word p) (both (site model) (word Phrase.End))
  site_behind p = behind_word p (both (site model) (word Phrase.End)) (some_site, tt) (site_form, tt)

  pub wide_behind : Follows (word (Phrase.Stop StopPhrase.Wide)) (both (site model) (both turn (both operation (word Phrase.End))))
  wide_behind = behind_word (Phrase.Stop StopPhrase.Wide) _ (some_site, (0, (zeros, tt))) (site_form, ((let e : IsCount 0 = omega arith in e), (zeros_fit, tt)))

  -- ---- behind the words that answers begin with
  pub feasible_behind : Follows (word Phrase.Feasible) (both (point model) (word Phrase.End))
  feasible_behind = behind_word Phrase.Feasible _ ((tt, zero_point), tt) ((tt, zero_form), tt)

  pub unbounded_behind : Follows (word Phrase.Unbounded) (both (point model) (both (word Phrase.Ray) (both (values model) (word Phrase.End))))
  unbounded_behind = behind_word Phrase.Unbounded _ ((tt, zero_point), (tt, (zero_point, tt))) ((tt, zero_form), (tt, (zero_form, tt)))

  pub bounded_behind : Follows (word Phrase.Bounded) (both (point model) (both objective (both (number Number.Bound) (dual model))))
  bounded_behind = behind_word Phrase.Bounded _ ((tt, zero_point), (None, (zero_ℚ, some_dual))) ((tt, zero_form), (tt, (zero_fits, dual_form)))

  pub least_behind : Follows (word Phrase.Least) (both (number Number.Total) (both (point model) (dual model)))
  least_behind = behind_word Phrase.Least _ (zero_ℚ, ((tt, zero_point), some_dual)) (zero_fits, ((tt, zero_form), dual_form))

  pub reduced_behind : Follows (word Phrase.Reduced) (both (steps model) (both left (word Phrase.End)))
  reduced_behind = behind_word Phrase.Reduced _ ([], ((0, 0), tt)) (All-nil (IsStepFor model), (((let e : IsCount 0 = omega arith in e), (let e : IsCount 0 = omega arith in e)), tt))

  pub refuted_behind : (p : Phrase) (splits : Bool) → Follows (word p) (both (members model Listing.Listed) (both (proof model splits) (word Phrase.End)))
  refuted_behind p splits = behind_word p _ ([], ((tt, no_leaf.nodes), tt)) (no_members model, (leaf_form splits, tt))

  -- ---- answers end with a known phrase
  pub word_ends : (p : Phrase) → Ends (word p)
  word_ends p = record { alone = word_alone model names p; off = λ v q. refl; some = λ v. refl }

  -- what stands behind a thing, up to the end
  behind : (X Y : Kind) → Follows X Y → Ends Y → Ends (both X Y)
  behind = behind_ends model names

  the_end : Ends (word Phrase.End)
  the_end = word_ends Phrase.End

  pub ended_ends : (p : Phrase) → Ends (ended p)
  ended_ends p = behind _ _ (behind_word p (word Phrase.End) tt tt) the_end

  pub feasible_ends : Ends (feasible model)
  feasible_ends = behind _ _ feasible_behind (behind _ _ end_behind_point the_end)

  pub refuted_ends : (w : Word) (splits : Bool) → Ends (refuted model w splits)
  refuted_ends w splits = behind _ _ (refuted_behind (phrase_of w) splits) (behind _ _ (proof_behind_members splits) (behind _ _ (end_behind_proof splits) the_end))

  pub irreducible_ends : (method : Method) → Ends (irreducible model method)
  irreducible_ends method = behind _ _ (witnessed_behind method) (behind _ _ (proof_behind_witnessed method) (behind _ _ (tail_behind method) (behind _ _ (end_behind_tail method) the_end)))

  pub unbounded_ends : Ends (unbounded model)
  unbounded_ends = behind _ _ unbounded_behind (behind _ _ ray_behind_point (behind _ _ ray_behind (behind _ _ end_behind_values the_end)))

  dual_ends : Ends (dual model)
  dual_ends = behind _ _ uses_behind (behind _ _ end_behind_uses the_end)

  pub bounded_ends : Ends (bounded model)
  bounded_ends = behind _ _ bounded_behind (behind _ _ objective_behind (behind _ _ bound_behind (behind _ _ dual_behind_bound dual_ends)))

  pub least_ends : Ends (least model)
  least_ends = behind _ _ least_behind (behind _ _ point_behind_total (behind _ _ dual_behind_point dual_ends))

  pub reduced_ends : Ends (reduced model)
  reduced_ends = behind _ _ reduced_behind (behind _ _ left_behind (behind _ _ end_behind_left the_end))

  pub wide_ends : Ends (too_wide model)
  wide_ends = behind _ _ wide_behind (behind _ _ turn_behind (behind _ _ operation_behind (behind _ _ end_behind_operation the_end)))

  pub spent_ends : (w : Word) → Ends (spent model w)
  spent_ends w = behind _ _ (site_behind (phrase_of w)) (behind _ _ end_behind_site the_end)
