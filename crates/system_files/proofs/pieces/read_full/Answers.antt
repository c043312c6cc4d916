use Rattle.std.proofs.Common.{rules}
use Rattle.system_files.proofs.Filling.{rest_kept, filled_more}
use Rattle.system_files.proofs.pieces.read_full.Goals as goal

pub loop-filled-preserved : goal.loop-filled-preserved
loop-filled-preserved g c =
    let filled = c.loop-filled.invariant in
    let piece = c.in_ok-count.ensures in
    record {
      within = search rules;
      rest = rest_kept _ _ _ _ _ filled.within filled.rest piece.rest;
      bytes = filled_more _ _ _ _ _ _ _ filled.within filled.bytes piece.bytes;
    }
