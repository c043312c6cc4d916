-- One more number goes through a test.
use Rattle.std.specs.Prelude.{◌≡◌, ℕ, ◌+◌, Bool, true, false, cond, List, [], ◌∷◌, ◌++◌, filter}
use Rattle.std.specs.List.{range_with_len}
use Rattle.std.proofs.Common.{sym, ◌∙◌, ap, append-nil}
use Rattle.item_list.proofs.Ranges.{filter-range_more}

-- it passes
pub passes_more : (test : ℕ → Bool) (number : ℕ) (passed : List ℕ) → test number ≡ true → passed ≡ filter test (range_with_len 0 number) → passed ++ number ∷ [] ≡ filter test (range_with_len 0 (number + 1))
passes_more test number passed passes are =
    ap (λ some. some ++ number ∷ []) are ∙ ap (λ b. filter test (range_with_len 0 number) ++ cond b (number ∷ []) []) (sym passes) ∙ sym (filter-range_more test number)

-- it doesn't
pub fails_more : (test : ℕ → Bool) (number : ℕ) (passed : List ℕ) → test number ≡ false → passed ≡ filter test (range_with_len 0 number) → passed ≡ filter test (range_with_len 0 (number + 1))
fails_more test number passed fails are =
    are ∙ sym (append-nil (filter test (range_with_len 0 number))) ∙ ap (λ b. filter test (range_with_len 0 number) ++ cond b (number ∷ []) []) (sym fails) ∙ sym (filter-range_more test number)
