use Rattle.std.proofs.Common.{map, take}
use Rattle.net_reader.specs.State.{bundle_seen}
use Rattle.net_reader.specs.Words.{texts_of}
use Rattle.net_reader.proofs.Gathering.{AreGathered}
use Rattle.net_reader.proofs.bundles.numbers_of_words.Given as goal

-- the numbers so far are gathered from the words so far
abbrev pub invariant-loop-place : goal.invariant-loop-place
invariant-loop-place l = AreGathered l.links (map bundle_seen l.bundles.links.items) (texts_of (take l.place l.words)) l.numbers.items
