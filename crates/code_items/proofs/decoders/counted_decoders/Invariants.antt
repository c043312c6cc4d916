use Rattle.std.proofs.Common.{◌≡◌, [], drop}
use Rattle.code_items.specs.Reading.{each_after_at, decoder_at}
use Rattle.code_items.specs.Gives.{left_of}
use Rattle.code_items.specs.Parts.{front_seen}
use Rattle.code_items.proofs.decoders.counted_decoders.Given as goal

abbrev pub invariant-loop-sink : goal.invariant-loop-sink
invariant-loop-sink l = each_after_at (λ _. decoder_at (front_seen l.fn.front)) l.decoders.items (drop l.sink-index l.sinks) (left_of l.rest) ≡ each_after_at (λ _. decoder_at (front_seen l.fn.front)) [] l.fn.sinks (left_of l.fn.start)
