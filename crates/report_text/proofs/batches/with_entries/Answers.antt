use Rattle.std.proofs.Common.{◌<◌, ◌∙◌, sym, arith}
use Rattle.report_text.specs.Report.{entry_text}
use Rattle.report_text.proofs.BatchLaws.{joined_batches}
use Rattle.report_text.proofs.batches.with_entries.Goals as goal

pub returns : goal.returns
returns g c =
    let some : 0 < c.batch_size-size.result = c.batch_size-size.ensures.some in
    let batches = c.in_ok-batches.batches in
    joined_batches (entry_text c.args.net.now) c.batch_size-size.result c.args.certs.now batches.items c.args.text.items c.join.result some (sym batches.ok.0 ∙ c.in_ok-batches.ensures.len)
    (λ n d within. let given = (c.in_ok-batches.ensures.each n d within).1 in (given.argument.now, given.argument_is, grind arith)) c.join.ensures
