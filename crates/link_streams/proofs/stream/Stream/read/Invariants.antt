use Rattle.std.proofs.Common.{◌≡◌, ◌*◌, [], drop}
use Rattle.link_streams.specs.Reading.{frame_bytes, frames_in, reads}
use Rattle.link_streams.proofs.stream.Stream.read.Given as goal

abbrev pub invariant-reading : goal.invariant-reading
invariant-reading l =
    record {
      link : l.stream.link ≡ l.link;
      frames : reads l.link 0 [] (frames_in l.bytes) ≡ reads l.link (l.number * frame_bytes) l.stream.packets (drop l.number (frames_in l.bytes));
    }
