-- Members with their witnesses: where the trials of those that are left stop the check, and how many lines they have.
use Rattle.std.proofs.Common.{◌≡◌, ◌<◌, ◌+◌, sym, ◌∙◌, ap, ℕ, suc, List, [], ◌∷◌, length, drop, get_or, zip, flat_map, length-append, None, arith}
use Rattle.std.proofs.lemmas.List.{at_drop_more}
use Rattle.lp_model.specs.declared.members.Member.{Member}
use Rattle.lp_model.specs.Program.{Program}
use Rattle.certs.specs.declared.evidence.Point.{Point}
use Rattle.report_text.specs.Grammar.{witness_phrases}
use Rattle.cert_check.specs.declared.outcome.Stop.{Stop}
use Rattle.cert_check.specs.Trials.{witness_trials}
use Rattle.cert_check.specs.Stops.{first_stop, IsStop}
use Rattle.cert_check.proofs.Firsts.{passed_over, stop_first, stop_of}

module _ (model : Program) (witnesses : List Point) (i : ℕ) (members others : List Member) (m : Member) (w : Point) (next : members ≡ m ∷ others) (within : i < length witnesses) (is : w ≡ get_or witnesses i w) where
  stands : {B : Type 0} (F : List (Member × Point) → B) → F (zip members (drop i witnesses)) ≡ F ((m, w) ∷ zip others (drop (i + 1) witnesses))
  stands F =
      ap (λ (l : List Member). F (zip l (drop i witnesses))) next
      ∙ (at_drop_more (λ (l : List Point). F (zip (m ∷ others) l)) witnesses i w within
      ∙ ap (λ (p : Point). F ((m, p) ∷ zip others (drop (i + 1) witnesses))) (sym is))

  pub witness_stops : (all : List Member) (n : ℕ) (s : Stop) → IsStop (first_stop (witness_trials model all n ((m, w) ∷ []))) s → IsStop (first_stop (witness_trials model all n (zip members (drop i witnesses)))) s
  witness_stops all n s h =
      stop_of _ _ s (sym (stands (λ l. first_stop (witness_trials model all n l))))
      (stop_first (witness_trials model all n ((m, w) ∷ [])) (witness_trials model all (n + length (witness_phrases (m, w))) (zip others (drop (i + 1) witnesses))) s h)

  pub witness_passes : (all : List Member) (n k : ℕ) → first_stop (witness_trials model all n ((m, w) ∷ [])) ≡ None → k ≡ length (witness_phrases (m, w))
      → first_stop (witness_trials model all (n + k) (zip others (drop (i + 1) witnesses))) ≡ first_stop (witness_trials model all n (zip members (drop i witnesses)))
  witness_passes all n k e count =
      ap (λ (j : ℕ). first_stop (witness_trials model all (n + j) (zip others (drop (i + 1) witnesses)))) count
      ∙ sym (stands (λ l. first_stop (witness_trials model all n l))
      ∙ passed_over (witness_trials model all n ((m, w) ∷ [])) (witness_trials model all (n + length (witness_phrases (m, w))) (zip others (drop (i + 1) witnesses))) e)

  pub lines_step : length (flat_map witness_phrases (zip members (drop i witnesses))) ≡ length (witness_phrases (m, w)) + length (flat_map witness_phrases (zip others (drop (i + 1) witnesses)))
  lines_step =
      stands (λ l. length (flat_map witness_phrases l))
      ∙ length-append (witness_phrases (m, w)) (flat_map witness_phrases (zip others (drop (i + 1) witnesses)))

  pub each_step : length (drop i witnesses) ≡ length members → length (drop (i + 1) witnesses) ≡ length others
  each_step e =
      let a : length (drop i witnesses) ≡ suc (length (drop (i + 1) witnesses)) = at_drop_more length witnesses i w within in
      let b : length members ≡ suc (length others) = ap length next in
      omega (arith, a, b, e)

-- a witness that is left has a member
pub member_left : (members : List Member) (witnesses : List Point) (i : ℕ) (w : Point) → i < length witnesses → length (drop i witnesses) ≡ length members → members ≡ [] → ⊥
member_left members witnesses i w within e none =
    let a : length (drop i witnesses) ≡ suc (length (drop (i + 1) witnesses)) = at_drop_more length witnesses i w within in
    let b : length members ≡ 0 = ap length none in
    omega (arith, a, b, e)
