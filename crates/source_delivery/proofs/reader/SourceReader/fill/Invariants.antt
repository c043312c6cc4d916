use Rattle.std.proofs.Common.{◌≡◌, ◌<◌, length, true}
use Rattle.lif_outside.specs.Calls.{MakesCalls}
use Rattle.source_delivery.proofs.ReadingLaws.{left_to_read}
use Rattle.source_delivery.specs.Reading.{IsSameReader, ReadsOn}
use Rattle.source_delivery.proofs.reader.SourceReader.fill.Given as goal

-- what was read so far is held behind what was held
abbrev pub invariant-loop-self : goal.invariant-loop-self
invariant-loop-self g l = record {
  same : IsSameReader l.fn.self l.self;
  room : l.self.ended ≡ true → l.self.held < length l.self.bytes.items;
  over : l.fn.self.ended ≡ true → l.self.ended ≡ true;
  reads : MakesCalls g.S.Store l.fn.store l.store (ReadsOn l.limit l.fn.self l.self);
}

abbrev pub decreases-loop-self : goal.decreases-loop-self
decreases-loop-self g l = left_to_read l.self
