use Rattle.std.proofs.Common.{◌≡◌, ◌++◌, ◌∷◌, [], codes, length}
use Rattle.std.specs.Vec.Iter.{into_iter_items, into_iter_len}
use Rattle.net_reader.proofs.parts.pattern_list.Given as goal

-- behind the pattern without links stand those so far, and so many of the listed ones are left
abbrev pub invariant-loop-pattern : goal.invariant-loop-pattern
invariant-loop-pattern l = record {
  parts : l.fn.listed.items ≡ l.yielded ++ into_iter_items l.pattern-iterator;
  count : length (into_iter_items l.pattern-iterator) ≡ into_iter_len l.pattern-iterator;
  pushed : l.patterns.items ≡ record { name = codes "none"; links = [] } ∷ l.yielded;
}
