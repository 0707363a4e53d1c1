use Rattle.std.proofs.Common.{map}
use Rattle.std.specs.Char.{to_ascii_lowercase}
use Rattle.lp_statements.specs.Words.{is_word}
use Rattle.lp_statements.proofs.Tests.{test_is}
use Rattle.lp_statements.proofs.words.says.Goals as goal

pub returns : goal.returns
unfolding is_word
returns c = test_is c.eq_ignore_ascii_case.result (map to_ascii_lowercase c.args.text.now) (map to_ascii_lowercase c.args.word.now) c.eq_ignore_ascii_case.ensures.test
