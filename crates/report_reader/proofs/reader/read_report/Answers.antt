use Rattle.report_reader.proofs.Replayed.{rewound}
use Rattle.report_reader.proofs.reader.read_report.Goals as goal

pub returns-clause-back : goal.returns-clause-back
returns-clause-back c = rewound _ _ _ c.requires.fresh c.read_lines-read.ensures.stays c.rewind.ensures
