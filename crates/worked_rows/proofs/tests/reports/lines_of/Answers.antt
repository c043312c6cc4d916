use Rattle.report_text.proofs.PrintableLaws.{IsPrintable-certificate}
use Rattle.worked_rows.proofs.tests.reports.lines_of.Goals as goal

pub entry-requires : goal.entry-requires
entry-requires c = IsPrintable-certificate c.args.net.now c.in-Some.cert c.in-Some.ensures
