-- What is looked for among the numbers below one, and among the pieces of a block's rows.
use Rattle.std.specs.Prelude.{◌≡◌, ◌<◌, ℕ, Bool, true, false}
use Rattle.std.specs.List.{list_any, range_with_len}
use Rattle.std.proofs.Common.{arith, ap, ◌∙◌, get_or}
use Rattle.std.proofs.lemmas.Bool.{both_ways, false_from_ne_true}
use Rattle.std.proofs.lemmas.List.Folds.{list_any_at, list_any_none}
use Rattle.std.proofs.lemmas.List.FromFn.{get_or-range_with_len, length-range_with_len}
use Rattle.generation_frame.specs.Blocks.{pieces}
use Rattle.relay_node.specs.Relay.{Relay, has_input, has_rows}

-- a test that a number below passes, and one that none does
pub any_below : (test : ℕ → Bool) (n k : ℕ) → k < n → test k ≡ true → list_any test (range_with_len 0 n) ≡ true
any_below test n k below passes =
    let number : get_or (range_with_len 0 n) k 0 ≡ k = get_or-range_with_len 0 n k 0 below ∙ omega arith in
    list_any_at test (range_with_len 0 n) k 0 (omega (arith, below, length-range_with_len 0 n)) (ap test number ∙ passes)

pub none_below : (test : ℕ → Bool) (n : ℕ) → ((k : ℕ) → k < n → test k ≡ false) → list_any test (range_with_len 0 n) ≡ false
none_below test n each =
    list_any_none test (range_with_len 0 n) (λ k d inside.
    let below : k < n = omega (arith, inside, length-range_with_len 0 n) in
    ap test (get_or-range_with_len 0 n k d below ∙ omega arith) ∙ each k below)

pub fails_each : (test : ℕ → Bool) (n k : ℕ) → list_any test (range_with_len 0 n) ≡ false → k < n → test k ≡ false
fails_each test n k none below = false_from_ne_true (test k) (λ passes. both_ways _ none (any_below test n k below passes))

-- where no piece of a row has come none has
pub unfed : (relay : Relay) (generation : ℕ) → has_rows relay generation ≡ false
    → (row piece : ℕ) → row < relay.plan.rate → piece < pieces → has_input relay generation row piece ≡ false
unfed relay generation none row piece below low =
    fails_each (λ piece. has_input relay generation row piece) pieces piece
    (fails_each (λ row. list_any (λ piece. has_input relay generation row piece) (range_with_len 0 pieces)) relay.plan.rate row none below) low
