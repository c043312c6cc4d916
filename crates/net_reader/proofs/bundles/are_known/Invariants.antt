use Rattle.std.proofs.Common.{◌≡◌, All, Bor, List, ℕ, false, length, map, take}
use Rattle.std.specs.List.{list_any}
use Rattle.net_reader.specs.Bundles.{names_none}
use Rattle.net_reader.specs.State.{bundle_seen}
use Rattle.net_reader.specs.Words.{texts_of}
use Rattle.net_reader.proofs.bundles.are_known.Given as goal

-- the words so far are known, and those that are kept, one for each byte
abbrev pub invariant-loop-word : goal.invariant-loop-word
invariant-loop-word l = record {
  so_far : list_any (names_none l.links (map bundle_seen l.bundles.links.items)) (texts_of (take l.word-index l.words)) ≡ false;
  kept : All (λ (word : Bor (List ℕ)). names_none l.links (map bundle_seen l.bundles.links.items) word.now ≡ false) l.known;
  size : length l.known ≡ 256;
}
