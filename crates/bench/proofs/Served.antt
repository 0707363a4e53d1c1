-- Which sets are served.
use Rattle.std.proofs.Common.{◌≡◌, true, false, not, List}
use Rattle.std.proofs.lemmas.Bool.{not-true}
use Rattle.std.proofs.lemmas.List.Elements.{All-weaker, filter_passes}
use Rattle.lp_model.specs.declared.members.Member.{Member}
use Rattle.lp_model.specs.Members.{is_mark}
use Rattle.certs.specs.Answers.{is_linear}
use Rattle.certs.specs.Bound.{without_marks}
use Rattle.certs.proofs.PlainAnswers.{linear_of}

-- every set is served by an oracle by trees over one for sets without marks
pub plain_served : (set : List Member) → is_linear (without_marks set) ≡ true
plain_served set =
    linear_of (without_marks set)
    (All-weaker (λ m. not (is_mark m) ≡ true) (λ m. is_mark m ≡ false) (λ m e. not-true (is_mark m) e) (without_marks set) (filter_passes (λ m. not (is_mark m)) set))
