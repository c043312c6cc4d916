use Rattle.std.proofs.Common.{◌≡◌, ◌<◌, ℕ, length, slice_index}
use Rattle.lif_compiler.proofs.planning.inverse.Given as goal

-- the numbers of the new links before this one stand at their old links
abbrev pub invariant-loop-new : goal.invariant-loop-new
invariant-loop-new l = record {
  whole : length l.new_numbers.items ≡ length l.order;
  each : (new : ℕ) → new < l.new → slice_index l.new_numbers.items (slice_index l.order new) ≡ new;
}
