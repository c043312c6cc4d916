use Rattle.std.proofs.Common.{◌≤◌, All, take}
use Rattle.lif_outside.specs.Calls.{MakesCalls}
use Rattle.link_streams.specs.Streams.{IsStream}
use Rattle.top_nodes.specs.Files.{stream_limit}
use Rattle.top_nodes.proofs.ReadingLaws.{HasRead}
use Rattle.top_nodes.proofs.reading.read_streams.Given as goal

-- the links before are read, and these are streams of theirs
abbrev pub invariant-loop-link : goal.invariant-loop-link
invariant-loop-link g l = record {
  within : l.left ≤ stream_limit;
  streams : All IsStream l.streams.items;
  reads : MakesCalls g.S.Store l.initial.store l.store (HasRead l.prefix l.net (take l.link-index l.links) l.streams.items l.left);
}
