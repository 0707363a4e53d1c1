use Rattle.std.proofs.Common.{subst}
use Rattle.std.specs.Prelude.{IfOk}
use Rattle.analysis.specs.Right.{IsFound, Settings}
use Rattle.analysis.proofs.Known.{known_search}
use Rattle.analysis.proofs.once.search_once.Goals as goal

pub returns-clause-right : goal.returns-clause-right
returns-clause-right c = subst (λ (s : Settings). IfOk c.search.result (IsFound c.args.method c.args.model.now s.budgets)) c.first_settings.ensures c.search.ensures

pub returns-clause-known : goal.returns-clause-known
returns-clause-known c = known_search c.args.method c.args.model.now _ c.search.result c.search.ensures
