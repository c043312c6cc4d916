use Rattle.std.proofs.Common.{rules}
use Rattle.system_files.proofs.Filling.{written_more}
use Rattle.system_files.proofs.pieces.write_full.Goals as goal

pub loop-written-preserved : goal.loop-written-preserved
loop-written-preserved g c =
    let written = c.loop-written.invariant in
    record { within = search rules; front = written_more _ _ _ _ _ _ written.front c.in_ok-count.ensures.bytes }
