use Rattle.std.proofs.Common.{◌≡◌, ◌<◌, ℕ, true}
use Rattle.link_streams.specs.Streams.{has_place}
use Rattle.link_streams.proofs.stream.Stream.first_missing.Given as goal

abbrev pub invariant-loop-place : goal.invariant-loop-place
invariant-loop-place l = (one : ℕ) → one < l.place → has_place l.self.packets one ≡ true
