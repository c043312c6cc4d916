use Rattle.std.proofs.Common.{get_or}
use Rattle.std.proofs.lemmas.Option.{slice_get-get_or}
use Rattle.report_text.proofs.PrintableLaws.{IsPrintable-certificate}
use Rattle.top_tools.proofs.reporting.report_of.Goals as goal

pub with_entries-requires-clause-printable : goal.with_entries-requires-clause-printable
with_entries-requires-clause-printable g c κs met = λ place none within.
    let certs = c.args.certs.now in
    let cert = get_or certs place none in
    IsPrintable-certificate c.args.net.now cert (c.requires.certificates.are.at place cert (slice_get-get_or certs place none within)).0
