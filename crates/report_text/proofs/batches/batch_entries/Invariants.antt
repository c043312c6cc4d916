use Rattle.std.proofs.Common.{◌≡◌, take}
use Rattle.std.specs.List.{flat_map}
use Rattle.report_text.specs.Report.{entry_text}
use Rattle.report_text.proofs.batches.batch_entries.Given as goal

abbrev pub invariant-loop-cert : goal.invariant-loop-cert
invariant-loop-cert l = l.text.items ≡ flat_map (entry_text l.net) (take l.cert-index l.certs)
