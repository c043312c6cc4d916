-- A product is the sum of what the tables have at the halves of a byte.
use Rattle.std.proofs.Common.{arith, ◌≡◌, ◌<◌, ◌*◌, ◌+◌, ◌/◌, ◌%◌, ◌∙◌, sym, ap, ℕ, List, bit_xor}
use Rattle.std.specs.Int.Bits.{xor_zero_r}
use Rattle.std.proofs.lemmas.Nat.{xor_block}
use Rattle.field_rows.specs.Halves.{by_halves}
use Rattle.field_rows.specs.Nibbles.{AreProducts}
use Rattle.gf_tables.specs.Product.{IsOctic, octet_product}
use Rattle.gf_tables.specs.ProductLaws.{product_xor_right}

-- a byte is the sum of its low half and a multiple of 16
xor_halves : (byte : ℕ) → bit_xor (byte % 16) (byte / 16 * 16) ≡ byte
xor_halves byte =
    let r = byte % 16 in
    let q = byte / 16 in
    let low : 0 * 16 + r ≡ r = omega arith in
    let high : q * 16 + 0 ≡ q * 16 = omega arith in
    let e : bit_xor r (q * 16) ≡ q * 16 + r = rw (low, high, xor_zero_r r) at (xor_block 4 0 q r 0 (omega arith) (omega arith)) in
    e ∙ omega arith

-- tables of products give the product
pub product_by_halves : (poly a : ℕ) → IsOctic poly → (low high : List ℕ) → AreProducts poly a 1 low → AreProducts poly a 16 high → (byte : ℕ) → byte < 256
    → by_halves low high byte ≡ octet_product poly a byte
product_by_halves poly a d low high p q byte l =
    let one : byte % 16 * 1 ≡ byte % 16 = omega arith in
    rw (p.at (byte % 16) (omega arith), q.at (byte / 16) (omega arith), one)
    (sym (product_xor_right poly d a (byte % 16) (byte / 16 * 16)) ∙ ap (octet_product poly a) (xor_halves byte))
