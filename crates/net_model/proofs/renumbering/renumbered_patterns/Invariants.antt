use Rattle.std.proofs.Common.{◌≡◌, length, map, take}
use Rattle.net_model.specs.Renumbering.{renumbered_pattern, AreUnmarked}
use Rattle.net_model.proofs.renumbering.renumbered_patterns.Given as goal

abbrev pub invariant-loop-pattern : goal.invariant-loop-pattern
invariant-loop-pattern l = record {
  made : l.renumbered.items ≡ map (renumbered_pattern l.order) (take l.pattern-index l.patterns);
  size : length l.marks.items ≡ length l.order;
  unmarked : AreUnmarked l.marks.items;
}
