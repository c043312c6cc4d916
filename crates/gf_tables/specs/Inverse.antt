-- The inverses of the fields, on the numbers of their elements.
use Rattle.std.specs.Prelude.{ℕ, bit_xor}
use Rattle.gf_tables.specs.Pairs.{pair_number, pair_of_number, pair_inv}
use Rattle.gf_tables.specs.Powers.{octet_inverse}
use Rattle.gf_tables.specs.Product.{octet_product, octet_polynomial, aes_polynomial, pair_constant}
use Rattle.gf_tables.specs.declared.kind.FieldKind.{FieldKind}
use Rattle.gf_tables.specs.declared.kind.FieldKind.TheVariants.{Eight, Nine, Sixteen}
use Rattle.gf_tables.specs.declared.poly_11b.TheConstants.{LOG_11B}
use Rattle.gf_tables.specs.declared.poly_11d.TheConstants.{LOG_11D}

-- the number of the inverse of the pair with a number, not that of zero, from the product and the inverse of its parts' field
unfoldable pub pair_inverse : (ℕ → ℕ → ℕ) → (ℕ → ℕ) → ℕ → ℕ → ℕ → ℕ
pair_inverse product inv size root n =
    pair_number (λ a. a) size (pair_inv bit_xor product root inv (pair_of_number (λ a. a) size n))

-- the number of the inverse of the element with a number, not that of zero, in a kind of field
unfoldable pub inverse : FieldKind → ℕ → ℕ
inverse Eight = octet_inverse octet_polynomial 2 LOG_11D
inverse Nine = octet_inverse aes_polynomial 3 LOG_11B
inverse Sixteen = pair_inverse (octet_product octet_polynomial) (octet_inverse octet_polynomial 2 LOG_11D) 256 pair_constant
