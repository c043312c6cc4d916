use Rattle.std.proofs.Common.{◌≡◌, ℕ, ◌+◌, ◌-◌, ◌<◌, ◌≤◌, length, get_or, drop}
use Rattle.std.specs.Slice.Iter.{windows_size, windows_rest}
use Rattle.net_reader.proofs.bundles.in_rising_order.Given as goal

-- the numbers so far rise
abbrev pub invariant-loop-pair : goal.invariant-loop-pair
invariant-loop-pair l =
    let rest = windows_rest l.pair-iterator in
    let numbers = windows_rest l.initial.pair-iterator in
    let i = length numbers - length rest in
    (windows_size l.pair-iterator ≡ 2) × (length rest ≤ length numbers) × (rest ≡ drop i numbers) × ((k : ℕ) → k < i → get_or numbers k 0 < get_or numbers (k + 1) 0)
