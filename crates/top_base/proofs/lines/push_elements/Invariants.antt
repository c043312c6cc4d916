use Rattle.std.proofs.Common.{◌≡◌, ◌≤◌, ◌+◌, ◌*◌, ◌++◌, ◌∷◌, decimal, flat_map, length, take}
use Rattle.top_base.proofs.lines.push_elements.Given as goal

-- the elements so far were added
abbrev pub invariant-loop-element : goal.invariant-loop-element
invariant-loop-element l = record {
  text : l.text.items ≡ l.initial.text.items ++ flat_map (λ x. 32 ∷ decimal x) (take l.element-index l.elements);
  grown : length l.text.items ≤ length l.initial.text.items + 21 * l.element-index;
}
