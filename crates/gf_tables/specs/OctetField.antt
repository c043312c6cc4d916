-- The octets are a field, by the tables of a generator.
use Rattle.std.specs.Prelude.{◌≡◌, ◌<◌, ◌-◌, ◌==◌, ◌↔◌, ◌&&◌, ℕ, List, true, IsTrue, refl, bit_xor, slice_index}
use Rattle.std.specs.Int.Bits.{xor_assoc, xor_self, xor_zero_l}
use Rattle.std.proofs.Common.{lit<}
use Rattle.std.proofs.lemmas.Bool.{eqb-true, eq-eqb, and_parts, and_from}
use Rattle.std.proofs.lemmas.Nat.{xor_comm, xor_lt}
use Rattle.gf_tables.specs.Field.{IsField}
use Rattle.gf_tables.specs.Product.{octet_product}
use Rattle.gf_tables.specs.ProductLaws.{product_lt, product_xor_right, product_one_left, product_comm, product_assoc}
use Rattle.gf_tables.specs.Powers.{octet_inverse, AreTables}
use Rattle.gf_tables.specs.PowersLaws.{power_lt, product_inverse, product_nonzero}

-- bytes are equal where the test of their octets tells so
pub equal_octets : (x y : ℕ) → IsTrue (x == y && true) ↔ (x ≡ y)
equal_octets x y = (λ t. eqb-true x y (and_parts (x == y) true t).0, λ e. and_from (x == y) true (eq-eqb x y e) refl)

-- the bytes are a field
pub octets_field : {poly gen : ℕ} {exp log : List ℕ} → AreTables poly gen exp log
    → IsField (λ x. x < 256) 0 1 bit_xor (octet_product poly) (octet_inverse poly gen log)
octets_field {poly} {gen} {exp} {log} t = record {
  zero_element = lit< tt;
  one_element = lit< tt;
  add_element = xor_lt 8;
  mul_element = λ x y h _. product_lt poly t.degree x y h;
  inv_element = λ x _ _. power_lt poly gen (255 - slice_index log x) t.degree;
  add_comm = λ x y _ _. xor_comm x y;
  add_assoc = λ x y z _ _ _. xor_assoc x y z;
  zero_add = λ x _. xor_zero_l x;
  add_self = λ x _. xor_self x;
  mul_comm = product_comm poly t.degree;
  mul_assoc = product_assoc poly t.degree;
  one_mul = product_one_left poly t.degree;
  mul_add = λ x y z _ _ _. product_xor_right poly t.degree x y z;
  mul_nonzero = λ x y h k l m. product_nonzero poly gen exp log t x y l m h k;
  mul_inv = λ x h k. product_inverse poly gen exp log t x k h;
}
