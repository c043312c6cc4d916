use Rattle.std.proofs.Common.{◌<◌, ◌^◌, length, arith}
use Rattle.cut_witness.proofs.CertificateLaws.{few_cut}
use Rattle.cut_witness.proofs.batches.certify_from.Goals as goal

pub overflow_cast-value : goal.overflow_cast-value
overflow_cast-value g c =
    let few : length c.in_ok-cut.cut < 2 ^ 32 = few_cut c.args.net.now c.args.demand c.in_ok-paths.field-0.side c.in_ok-cut.cut c.in_ok-cut.ensures in
    omega arith
