-- The products of the fields, on the numbers of their elements.
use Rattle.std.specs.Prelude.{ℕ, Option, Some, None, zero, suc, ◌<◌, ◌≤◌, ◌+◌, ◌*◌, ◌/◌, ◌%◌, ◌==◌, nat_lt, bit_xor, if◌then◌else◌}
use Rattle.std.specs.Int.{bit_at}
use Rattle.gf_tables.specs.declared.kind.FieldKind.{FieldKind}
use Rattle.gf_tables.specs.declared.kind.FieldKind.TheVariants.{Eight, Nine, Sixteen}
use Rattle.gf_tables.specs.declared.kind.Width.{Width}
use Rattle.gf_tables.specs.declared.kind.Width.TheVariants.{One, Two}

-- a polynomial of degree 8
abbrev pub IsOctic : ℕ → Type 0
IsOctic poly = (256 ≤ poly) × (poly < 512)

-- twice a, reduced by the polynomial where it doesn't fit a byte
unfoldable pub shift : ℕ → ℕ → ℕ
shift poly a = if nat_lt (2 * a) 256 then 2 * a else bit_xor (2 * a) poly

-- `shift`, k times
unfoldable pub repeated_shift : ℕ → ℕ → ℕ → ℕ
repeated_shift poly zero a = a
repeated_shift poly (suc k) a = shift poly (repeated_shift poly k a)

-- x where the bit is 1, and 0 where it is 0
abbrev pub bit_times : ℕ → ℕ → ℕ
bit_times bit x = if bit == 1 then x else 0

-- over the bits below k that are set in b, the exclusive or of the shifts of a, each as often as the bit's place
unfoldable pub sum_of_shifts : ℕ → ℕ → ℕ → ℕ → ℕ
sum_of_shifts poly a b zero = 0
sum_of_shifts poly a b (suc k) = bit_xor (sum_of_shifts poly a b k) (bit_times (bit_at b k) (repeated_shift poly k a))

-- the product of two octets, modulo a polynomial of degree 8
unfoldable pub octet_product : ℕ → ℕ → ℕ → ℕ
octet_product poly a b = sum_of_shifts poly a b 8

-- The product of two pairs (a + b*y) * (c + d*y) where y*y = y + C. The number of a + b*y is a + size * b.
unfoldable pub pair_product : (ℕ → ℕ → ℕ) → ℕ → ℕ → ℕ → ℕ → ℕ
pair_product product size root n m =
    let a = n % size in
    let b = n / size in
    let c = m % size in
    let d = m / size in
    let low = bit_xor (product a c) (product root (product b d)) in
    let high = bit_xor (bit_xor (product a d) (product b c)) (product b d) in
    low + size * high

-- the polynomial of the field of 256 elements, x^8 + x^4 + x^3 + x^2 + 1
abbrev pub octet_polynomial : ℕ
octet_polynomial = 0x11D

-- the polynomial of the field of 256 elements of FIPS 197, x^8 + x^4 + x^3 + x + 1
abbrev pub aes_polynomial : ℕ
aes_polynomial = 0x11B

-- C of the field of 65,536 elements, over that of 256
abbrev pub pair_constant : ℕ
pair_constant = 0x20

-- the product of a kind of field
unfoldable pub product : FieldKind → ℕ → ℕ → ℕ
product Eight = octet_product octet_polynomial
product Nine = octet_product aes_polynomial
product Sixteen = pair_product (octet_product octet_polynomial) 256 pair_constant

-- whether an element takes one byte or two
abbrev pub width_of : FieldKind → Width
width_of Eight = One
width_of Nine = One
width_of Sixteen = Two

-- so many numbers have so many bytes
abbrev pub size_of_width : Width → ℕ
size_of_width One = 256
size_of_width Two = 65536

abbrev pub bytes_of_width : Width → ℕ
bytes_of_width One = 1
bytes_of_width Two = 2

-- how many elements a kind of field has
abbrev pub size_of : FieldKind → ℕ
size_of kind = size_of_width (width_of kind)

-- how many bytes an element takes
abbrev pub bytes_of_element : FieldKind → ℕ
bytes_of_element kind = bytes_of_width (width_of kind)

-- the number of a kind of field in code files
abbrev pub mark_of : FieldKind → ℕ
mark_of Eight = 8
mark_of Nine = 9
mark_of Sixteen = 16

-- the kind of field that has this number in code files, if one has
abbrev pub kind_of_mark : ℕ → Option FieldKind
kind_of_mark mark =
    if mark == 8 then Some Eight
    else (if mark == 9 then Some Nine else (if mark == 16 then Some Sixteen else None))
