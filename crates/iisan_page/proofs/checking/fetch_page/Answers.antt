use Rattle.std.proofs.Common.{◌≡◌, ◌≤◌, ℕ, List, length, Option, subst}
use Rattle.std.specs.Prelude.{IfSome, IfOk, IfErr}
use Rattle.iis_run.specs.Causes.{ComesTo}
use Rattle.iisan_page.specs.Paged.{IsPageOf}
use Rattle.iis_run.specs.Limits.{limit_of}
use Rattle.iis_run.specs.declared.endings.Which.TheVariants.{Report}
use Rattle.iisan_page.proofs.Refused.{page_or_refusal}
use Rattle.iisan_page.proofs.checking.fetch_page.Goals as goal

pub returns-clause-refused : goal.returns-clause-refused
returns-clause-refused g c =
    let faults = g.S.Shelf.faults in
    let bytes = c.in-Ok-fetch_file.bytes.items in
    let fetched = subst (λ (f : Option (List ℕ)). IfSome f (λ (b : List ℕ). (bytes ≡ b) × (length b ≤ limit_of Report))) (c.fetch_model.ensures.files c.args.report.now) c.in-Ok-fetch_file.ensures.bytes in
    let program = c.in-Ok.program in
    let page = subst (λ (b : List ℕ). IfOk c.check_page.result (IsPageOf program b)) c.as_slice.ensures.value c.check_page.ensures.page in
    let comes = subst (λ (b : List ℕ). IfErr c.check_page.result (ComesTo program b)) c.as_slice.ensures.value c.check_page.ensures.comes in
    let both = page_or_refusal (g.S.Shelf.file c.args.shelf.now) (faults c.args.shelf.now) (faults c.fetch_model.new.shelf) (faults c.fetch_file.new.shelf) c.args.model.now c.args.report.now program c.in-Ok.ensures.read bytes fetched
    c.check_page.result (c.fetch_model.ensures.counts c.args.report.now) page comes c.check_page.ensures.unaccepted in
    both.1
