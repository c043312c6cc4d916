use Rattle.std.proofs.Common.{◌≡◌, [], drop, length}
use Rattle.code_items.specs.Reading.{each_after_at, shared_decoder_at}
use Rattle.code_items.specs.Gives.{left_of}
use Rattle.code_items.specs.Parts.{front_seen}
use Rattle.code_items.specs.Shared.{AreFirsts, AreTexts}
use Rattle.code_items.proofs.shared_decoders.shared_decoders.Given as goal

abbrev pub invariant-loop-sink : goal.invariant-loop-sink
invariant-loop-sink l = record {
  so_far : each_after_at (shared_decoder_at (front_seen l.fn.front) l.fn.sinks) l.decoders.items (drop l.sink-index l.sinks) (left_of l.rest) ≡ each_after_at (shared_decoder_at (front_seen l.fn.front) l.fn.sinks) [] l.fn.sinks (left_of l.fn.start);
  firsts : AreFirsts l.firsts.items l.decoders.items;
  texts : AreTexts l.fn.front.field l.fn.front.rate l.texts l.decoders.items;
  placed : length l.decoders.items ≡ l.sink-index;
}
