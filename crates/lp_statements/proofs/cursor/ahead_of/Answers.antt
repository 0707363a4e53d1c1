use Rattle.std.proofs.Common.{sym, ap, ◌∙◌}
use Rattle.std.specs.Prelude.{Ok}
use Rattle.lp_statements.specs.Items.{token_in}
use Rattle.lp_statements.proofs.Pieces.{fault_looked, end_looked, piece_looked}
use Rattle.lp_statements.proofs.cursor.ahead_of.Goals as goal

pub returns-in-Err-clause-stands : goal.returns-in-Err-clause-stands
returns-in-Err-clause-stands c = record { after = c.requires; stands = rw c.stop_of.ensures (fault_looked c.args.bytes.now c.args.look c.in-Err.fault c.requires c.in-Err.is) }

pub returns-in_default-clause-stands : goal.returns-in_default-clause-stands
returns-in_default-clause-stands c = record { after = c.requires; stands = end_looked c.args.bytes.now c.args.look c.requires (c.in-Ok.is ∙ ap Ok c.in_default.is) }

pub returns-in-Ok-seen_in-clause-left : goal.returns-in-Ok-seen_in-clause-left
returns-in-Ok-seen_in-clause-left c =
    sym (piece_looked c.args.bytes.now c.args.look c.in-Some.token c.in-Some.past c.look_at.result.place c.requires (sym (ap token_in (c.in-Ok.is ∙ ap Ok c.in-Some.is))) c.look_at.ensures.place ∙ c.in-Ok-seen_in.ensures.0)

pub returns-in-Err-seen_in-clause-stands : goal.returns-in-Err-seen_in-clause-stands
returns-in-Err-seen_in-clause-stands c =
    let same = piece_looked c.args.bytes.now c.args.look c.in-Some.token c.in-Some.past c.look_at.result.place c.requires (sym (ap token_in (c.in-Ok.is ∙ ap Ok c.in-Some.is))) c.look_at.ensures.place in
    record {
      after = c.requires;
      stands = record { rest = c.in-Err-seen_in.ensures.rest; is = same ∙ c.in-Err-seen_in.ensures.is };
    }
