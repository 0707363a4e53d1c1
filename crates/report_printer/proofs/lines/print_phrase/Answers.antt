use Rattle.std.proofs.Common.{◌++◌, ◌∙◌, ap, flat_map}
use Rattle.report_text.specs.declared.phrases.Keyword.{Keyword}
use Rattle.report_text.specs.declared.table.Given.{Given}
use Rattle.report_text.specs.Grammar.{spelled, keyword_text, kinds_of, words_at}
use Rattle.report_printer.specs.Evidence.{ended}
use Rattle.report_printer.proofs.Rows.{row_text}
use Rattle.report_printer.proofs.lines.print_phrase.Goals as goal

pub returns-clause-text : goal.returns-clause-text
returns-clause-text c =
    let model = c.args.model.now in
    let start = c.args.into.now.items in
    let keyword = c.row-keyword.result.0 in
    let words = words_at model c.row-keyword.result.1 in
    row_text words c.kinds.result.now (keyword_text keyword) start c.extend_from_slice.new.self.items c.push_kinds.new.into.items _
    (c.in_ok-extend_from_slice.ensures.items ∙ ap (λ t. start ++ t) (c.as_bytes.ensures.value ∙ c.spelling.ensures))
    c.in_ok-push_kinds.ensures
    c.in_ok-push.ensures.items
    ∙ ap (λ kinds. start ++ ended (spelled (keyword_text keyword) (flat_map words kinds))) c.kinds.ensures
    ∙ ap (λ (r : Keyword × Given). start ++ ended (spelled (keyword_text r.0) (flat_map (words_at model r.1) (kinds_of r.0)))) c.row-keyword.ensures
