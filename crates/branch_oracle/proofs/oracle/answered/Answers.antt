use Rattle.std.proofs.Common.{◌≡◌, sym, ◌∙◌, subst, true, List}
use Rattle.lp_model.specs.declared.members.Member.{Member}
use Rattle.branch_oracle.proofs.Answering.{no_marks}
use Rattle.branch_oracle.proofs.oracle.answered.Goals as goal

pub ask-requires-clause-served : goal.ask-requires-clause-served
ask-requires-clause-served g c =
    subst (λ (l : List Member). (g.B.Oracle.state c.args.inner.now).serves l ≡ true) (no_marks c.args.set.now.members (sym c.has_mark.ensures ∙ c.if-has_mark.false)) c.requires.served
