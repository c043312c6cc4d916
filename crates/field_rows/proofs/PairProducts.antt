-- Products of pairs of octets, by the products of their octets.
use Rattle.std.proofs.Common.{◌≡◌, ℕ, ◌+◌, ◌-◌, ◌*◌, ◌/◌, ◌%◌, ◌<◌, List, length, get_or, refl, ap, sym, ◌∙◌, arith, bit_xor}
use Rattle.std.specs.Int.Bits.{xor_assoc, xor_self, xor_zero_r}
use Rattle.std.proofs.lemmas.List.{get_or-map, length-map, ext_get_or}
use Rattle.std.proofs.lemmas.Nat.{xor_comm, xor_lt}
use Rattle.std.proofs.lemmas.Simd.{length-zip2, get_or-zip2}
use Rattle.gf_tables.proofs.KindField.{octic}
use Rattle.gf_tables.specs.Product.{octet_polynomial, pair_constant, pair_product, product}
use Rattle.gf_tables.specs.ProductLaws.{product_lt, product_assoc}
use Rattle.gf_tables.specs.declared.kind.FieldKind.TheVariants.{Eight, Sixteen}
use Rattle.linear_algebra.proofs.ElementsLaws.{xor_of_pairs}
use Rattle.linear_algebra.proofs.FieldLaws.{product-xor}
use Rattle.linear_algebra.specs.Rows.{add_rows, scale_row}
use Rattle.field_rows.specs.Added.{IsAddedBelow}
use Rattle.field_rows.specs.Bytes.{pairs_of}
use Rattle.field_rows.proofs.BytesLaws.{length-pairs_of, get_or-pairs_of}
use Rattle.field_rows.specs.PairSums.{times, pair_sum_of}

-- a product of octets is an octet
pub times-lt : (a b : ℕ) → a < 256 → times a b < 256
times-lt = product_lt octet_polynomial octic

-- a sum of octets times an octet
times-xor : (a b x : ℕ) → a < 256 → b < 256 → x < 256 → times (bit_xor a b) x ≡ bit_xor (times a x) (times b x)
unfolding product
times-xor a b x below_a below_b below = product-xor Eight a b x below_a below_b below

-- the high octet of a product
high_of_product : (a b c d : ℕ) → a < 256 → b < 256 → d < 256
    → bit_xor (bit_xor (times a d) (times b c)) (times b d) ≡ bit_xor (times (bit_xor a b) d) (times b c)
high_of_product a b c d below_a below_b below_d =
    rw (times-xor a b d below_a below_b below_d, xor_assoc (times a d) (times b c) (times b d), xor_comm (times b c) (times b d))
    (sym (xor_assoc (times a d) (times b d) (times b c)))

-- its low octet
low_of_product : (a b c d : ℕ) → b < 256 → d < 256
    → bit_xor (times a c) (times pair_constant (times b d)) ≡ bit_xor (times a c) (times (times pair_constant b) d)
low_of_product a b c d below_b below_d =
    ap (bit_xor (times a c)) (sym (product_assoc octet_polynomial octic pair_constant b d (omega arith) below_b below_d))

-- the product of an element with the pair of two octets
product_of_pair : (by d c : ℕ) → by < 65536 → d < 256 → c < 256
    → product Sixteen by (256 * d + c)
    ≡ 256 * bit_xor (times (bit_xor (by % 256) (by / 256)) d) (times (by / 256) c) + bit_xor (times (by % 256) c) (times (times pair_constant (by / 256)) d)
unfolding product pair_product
product_of_pair by d c below below_d below_c =
    let a = by % 256 in
    let b = by / 256 in
    let low : (256 * d + c) % 256 ≡ c = omega arith in
    let high : (256 * d + c) / 256 ≡ d = omega arith in
    rw (low, high, high_of_product a b c d (omega arith) (omega arith) below_d, low_of_product a b c d (omega arith) below_d) (omega arith)

-- a byte to which a byte was added, and which is one again, was one
pub byte_before : (old new low : ℕ) → new ≡ bit_xor old low → new < 256 → low < 256 → old < 256
byte_before old new low is below_new below_low =
    let back : bit_xor new low ≡ old = rw (is, xor_assoc old low low, xor_self low, xor_zero_r old) refl in
    rw back at (xor_lt 8 new low below_new below_low)

-- what is added at a high byte
pair_sum_of-high : (a b : ℕ) (from : List ℕ) (j : ℕ) → pair_sum_of a b from (2 * j) ≡ bit_xor (times (bit_xor a b) (get_or from (2 * j) 0)) (times b (get_or from (2 * j + 1) 0))
pair_sum_of-high a b from j = let even : 2 * j % 2 ≡ 0 = omega arith in rw even refl

-- what is added at a low byte
pair_sum_of-low : (a b : ℕ) (from : List ℕ) (j : ℕ) → pair_sum_of a b from (2 * j + 1) ≡ bit_xor (times a (get_or from (2 * j + 1) 0)) (times (times pair_constant b) (get_or from (2 * j) 0))
pair_sum_of-low a b from j =
    let odd : (2 * j + 1) % 2 ≡ 1 = omega arith in
    let back : 2 * j + 1 - 1 ≡ 2 * j = omega arith in
    rw (odd, back) refl

-- where the sums have been added to all bytes, the products have been added to all pairs
pub pairs_added : (by n : ℕ) (old from new : List ℕ) → by < 65536 → ((k : ℕ) → get_or from k 0 < 256) → ((k : ℕ) → get_or new k 0 < 256) → length old ≡ length from → length from ≡ 2 * n
    → IsAddedBelow (pair_sum_of (by % 256) (by / 256) from) (length from) old new
    → pairs_of new ≡ add_rows (pairs_of old) (scale_row Sixteen by (pairs_of from))
pairs_added by n old from new below bytes new_bytes same even h =
    let a = by % 256 in
    let b = by / 256 in
    let scaled = scale_row Sixteen by (pairs_of from) in
    let long_old : length (pairs_of old) ≡ n = length-pairs_of n old (omega arith) in
    let long_from : length (pairs_of from) ≡ n = length-pairs_of n from even in
    let long_new : length (pairs_of new) ≡ n = length-pairs_of n new (omega (arith, h.count)) in
    let long_scaled : length scaled ≡ n = length-map (pairs_of from) (product Sixteen by) ∙ long_from in
    let long_sum : length (add_rows (pairs_of old) scaled) ≡ n = length-zip2 bit_xor (pairs_of old) scaled (long_old ∙ sym long_scaled) ∙ long_old in
    ext_get_or 0 _ _ (long_new ∙ sym long_sum) (λ j l.
    let within : j < n = omega arith in
    let d = get_or from (2 * j) 0 in
    let c = get_or from (2 * j + 1) 0 in
    let high = bit_xor (times (bit_xor a b) d) (times b c) in
    let low = bit_xor (times a c) (times (times pair_constant b) d) in
    let is_new : get_or (pairs_of new) j 0 ≡ 256 * bit_xor (get_or old (2 * j) 0) high + bit_xor (get_or old (2 * j + 1) 0) low =
    get_or-pairs_of n j new (omega (arith, h.count)) ∙ rw (h.below (2 * j) (omega arith), h.below (2 * j + 1) (omega arith), pair_sum_of-high a b from j, pair_sum_of-low a b from j) refl
    in
    let is_scaled : get_or scaled j 0 ≡ 256 * high + low =
    get_or-map (product Sixteen by) (pairs_of from) j 0 0 (omega arith) ∙ ap (product Sixteen by) (get_or-pairs_of n j from even)
    ∙ product_of_pair by d c below (bytes (2 * j)) (bytes (2 * j + 1))
    in
    let is_sum : get_or (add_rows (pairs_of old) scaled) j 0 ≡ bit_xor (get_or (pairs_of old) j 0) (get_or scaled j 0) =
    get_or-zip2 bit_xor (pairs_of old) scaled j 0 0 0 (omega arith) (omega arith)
    in
    let below_low : low < 256 =
    xor_lt 8 (times a c) (times (times pair_constant b) d) (times-lt a c (omega arith)) (times-lt (times pair_constant b) d (times-lt pair_constant b (omega arith)))
    in
    let below_old : get_or old (2 * j + 1) 0 < 256 = byte_before _ _ low (h.below (2 * j + 1) (omega arith) ∙ ap (bit_xor (get_or old (2 * j + 1) 0)) (pair_sum_of-low a b from j)) (new_bytes (2 * j + 1)) below_low in
    is_new ∙ xor_of_pairs (get_or old (2 * j) 0) (get_or old (2 * j + 1) 0) high low below_old below_low
    ∙ sym (is_sum ∙ rw (is_scaled, get_or-pairs_of n j old (omega arith)) refl))
