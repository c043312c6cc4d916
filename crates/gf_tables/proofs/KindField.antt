-- Each kind of field is a field, on the numbers of its elements.
use Rattle.std.specs.Prelude.{◌≡◌, ◌≢◌, ◌<◌, ◌/◌, ◌%◌, ◌==◌, ◌&&◌, ℕ, List, true, refl, bit_xor}
use Rattle.std.proofs.Common.{lit<}
use Rattle.gf_tables.specs.Field.{IsField}
use Rattle.gf_tables.specs.Inverse.{pair_inverse, inverse}
use Rattle.gf_tables.specs.NumberField.{own_numbering, number_field}
use Rattle.gf_tables.specs.OctetField.{octets_field, equal_octets}
use Rattle.gf_tables.specs.PairLaws.{pair_field}
use Rattle.gf_tables.specs.PairNumbers.{pairs_numbering}
use Rattle.gf_tables.specs.Poly11B.{poly11B-tables}
use Rattle.gf_tables.specs.Poly11D.{poly11D-tables, poly11D-no_root}
use Rattle.gf_tables.specs.Powers.{octet_inverse, AreTables}
use Rattle.gf_tables.specs.Product.{IsOctic, octet_product, octet_polynomial, aes_polynomial, pair_product, pair_constant, product, size_of}
use Rattle.gf_tables.specs.ProductLaws.{product_zero_left, product_zero_right}
use Rattle.gf_tables.specs.declared.kind.FieldKind.{FieldKind}
use Rattle.gf_tables.specs.declared.kind.FieldKind.TheVariants.{Eight, Nine, Sixteen}

-- the numbers of pairs of octets are a field, where t*t + t + c has no root
pub octet_pairs_field : {poly gen c : ℕ} {exp log : List ℕ} → AreTables poly gen exp log → c < 256 → ((t : ℕ) → t < 256 → bit_xor (bit_xor (octet_product poly t t) t) c ≢ 0)
    → IsField (λ n. n < 65536) 0 1 bit_xor (pair_product (octet_product poly) 256 c) (pair_inverse (octet_product poly) (octet_inverse poly gen log) 256 c)
unfolding pair_inverse
octet_pairs_field {poly} t small no_root =
    let octets = octets_field t in
    let numbering = own_numbering 256 (octet_product poly) in
    number_field (pair_field octets (λ x y. x == y && true) equal_octets small no_root) (pairs_numbering octets numbering refl refl small)

-- the numbers of a kind's elements are a field
pub kind_field : (kind : FieldKind) → IsField (λ n. n < size_of kind) 0 1 bit_xor (product kind) (inverse kind)
unfolding product inverse
kind_field Eight = octets_field poly11D-tables
kind_field Nine = octets_field poly11B-tables
kind_field Sixteen = octet_pairs_field poly11D-tables (lit< tt) poly11D-no_root

-- 0 times a number is 0 over pairs of octets
pair_product-zero : {poly : ℕ} → IsOctic poly → (c n : ℕ) → pair_product (octet_product poly) 256 c 0 n ≡ 0
unfolding pair_product
pair_product-zero {poly} d c n = rw (product_zero_left poly d (n / 256), product_zero_left poly d (n % 256), product_zero_right poly d c) refl

-- the polynomial has degree 8
pub octic : IsOctic octet_polynomial
octic = poly11D-tables.degree

-- 0 times any number is 0, whether it is an element's or not
pub product_zero : (kind : FieldKind) (n : ℕ) → product kind 0 n ≡ 0
unfolding product
product_zero Eight = product_zero_left octet_polynomial octic
product_zero Nine = product_zero_left aes_polynomial poly11B-tables.degree
product_zero Sixteen = pair_product-zero octic pair_constant
