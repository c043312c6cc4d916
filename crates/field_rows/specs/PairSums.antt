-- Products of a pair of octets with the pairs of a row's bytes, byte by byte.
use Rattle.std.specs.Prelude.{◌+◌, ◌-◌, ◌%◌, ◌==◌, ℕ, List, slice_index, bit_xor, if◌then◌else◌}
use Rattle.gf_tables.specs.Product.{octet_product, octet_polynomial, pair_constant}

-- What a pair's product has at a place, from four functions of bytes: at a high byte, which is the first of two, `both` of it and
-- `high` of the low one, and at a low byte `low` of it and `wrapped` of the high one
abbrev pub pair_sum : (ℕ → ℕ) → (ℕ → ℕ) → (ℕ → ℕ) → (ℕ → ℕ) → List ℕ → ℕ → ℕ
pair_sum low high both wrapped from k =
    if k % 2 == 0 then bit_xor (both (slice_index from k)) (high (slice_index from (k + 1)))
    else bit_xor (low (slice_index from k)) (wrapped (slice_index from (k - 1)))

-- the product of two octets
abbrev pub times : ℕ → ℕ → ℕ
times = octet_product octet_polynomial

-- the same of the pair of the octets `low` and `high`
abbrev pub pair_sum_of : ℕ → ℕ → List ℕ → ℕ → ℕ
pair_sum_of low high = pair_sum (times low) (times high) (times (bit_xor low high)) (times (times pair_constant high))
