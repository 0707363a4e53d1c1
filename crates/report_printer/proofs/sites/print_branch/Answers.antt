use Rattle.std.proofs.Common.{◌≡◌, ◌<◌, refl, ap, ◌++◌, ◌∙◌, Bool, true, false, length}
use Rattle.lp_model.specs.Program.{Program}
use Rattle.certs.specs.declared.evidence.Branch.{Branch}
use Rattle.report_text.specs.Grammar.{branch_keyword, keyword_text, kinds_of, words_at, given_of, details, spelled, branch_phrase}
use Rattle.std.specs.Prelude.{flat_map}
use Rattle.report_printer.specs.Evidence.{ended}
use Rattle.report_printer.specs.Rows.{AreThere}
use Rattle.report_printer.proofs.sites.print_branch.Goals as goal

known : (model : Program) (b : Branch) (upper : Bool) → b.column < length model.columns → AreThere model (given_of (branch_phrase b)) (kinds_of (branch_keyword upper))
known model b true h = (h, (tt, tt))
known model b false h = (h, (tt, tt))

words : (model : Program) (b : Branch) (upper : Bool) → flat_map (words_at model (given_of (branch_phrase b))) (kinds_of (branch_keyword upper)) ≡ details model (branch_phrase b)
words model b true = refl
words model b false = refl

pub print_phrase-requires : goal.print_phrase-requires
print_phrase-requires c = known c.args.model.now c.args.branch c.args.branch.upper c.requires

pub returns : goal.returns
returns c =
    let b = c.args.branch in
    c.in_ok-print_phrase.ensures.text ∙ ap (λ ws. c.args.into.now.items ++ ended (spelled (keyword_text (branch_keyword b.upper)) ws)) (words c.args.model.now b b.upper)
