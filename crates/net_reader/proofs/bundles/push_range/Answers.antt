use Rattle.std.proofs.Common.{◌≡◌, ◌≤◌, ◌+◌, ◌-◌, ◌++◌, ◌∷◌, [], ℕ, List, ap, sym, ◌∙◌, append_assoc, arith}
use Rattle.std.specs.List.{range_with_len}
use Rattle.net_reader.proofs.RisingOrder.{range_with_len-more}
use Rattle.net_reader.proofs.bundles.push_range.Goals as goal

-- one number more
with_one : (before numbers more : List ℕ) (first number : ℕ) → numbers ≡ before ++ range_with_len first (number - first) → first ≤ number → more ≡ numbers ++ number ∷ [] → more ≡ before ++ range_with_len first (number + 1 - first)
with_one before numbers more first number so_far from pushed =
    pushed ∙ ap (λ (list : List ℕ). list ++ number ∷ []) so_far ∙ append_assoc before (range_with_len first (number - first)) (number ∷ [])
    ∙ ap (λ (list : List ℕ). before ++ list) (sym (range_with_len-more first (number - first) number (omega arith)) ∙ ap (range_with_len first) (omega arith))

pub loop-number-preserved : goal.loop-number-preserved
loop-number-preserved c = (with_one c.args.numbers.now.items c.loop-number.numbers.items _ c.args.first c.loop-number.number c.loop-number.invariant.0 c.loop-number.invariant.1 c.in_ok-push.ensures.items, omega arith)
