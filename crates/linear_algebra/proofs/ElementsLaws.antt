-- Laws of rows of elements as bytes. Bytes and elements stand for each other, and sums, parts and joined rows go along.
use Rattle.std.specs.Prelude.{◌≡◌, ℕ, zero, suc, ◌<◌, ◌+◌, ◌*◌, ◌/◌, ◌%◌, ◌^◌, bit_xor, List, [], ◌∷◌, ◌++◌, All, length, take, drop}
use Rattle.std.proofs.Common.{arith, refl, sym, ap, ◌∙◌}
use Rattle.std.proofs.lemmas.List.Elements.{All-nil, All-cons, All-head, All-tail, All-map}
use Rattle.std.proofs.lemmas.Nat.{xor_shr, xor_mod, xor_block}
use Rattle.gf_tables.specs.Product.{size_of, bytes_of_element, width_of, size_of_width, bytes_of_width}
use Rattle.gf_tables.specs.declared.kind.FieldKind.{FieldKind}
use Rattle.gf_tables.specs.declared.kind.FieldKind.TheVariants.{Sixteen}
use Rattle.gf_tables.specs.declared.kind.Width.TheVariants.{One, Two}
use Rattle.linear_algebra.specs.Elements.{numbers, AreBytes, pairs_of_bytes, bytes_of_pairs, numbers_of_bytes, bytes_of_numbers, elements_of, bytes_of_row}
use Rattle.linear_algebra.specs.Rows.{add_rows, zero_row, AreElements, IsRow}

-- the numbers of elements are below the size where each number is
pub numbers-AreElements : {F : Type 0} (field : FieldKind) (number : F → ℕ) (elements : List F) → All (λ element. number element < size_of field) elements
    → AreElements field (numbers number elements)
numbers-AreElements field number elements h = All-map (λ n. n < size_of field) number elements h

-- the first byte
AreBytes-head : (x : ℕ) (xs : List ℕ) → AreBytes (x ∷ xs) → x < 256
AreBytes-head x xs h = All-head (λ byte. byte < 256) x xs h

-- the bytes after the first
AreBytes-tail : (x : ℕ) (xs : List ℕ) → AreBytes (x ∷ xs) → AreBytes xs
AreBytes-tail x xs h = All-tail (λ byte. byte < 256) x xs h

-- a number from its two bytes
whole : (n : ℕ) → 256 * (n / 256) + n % 256 ≡ n
whole n = omega arith

-- the more significant byte of a number
high_byte : (high low : ℕ) → low < 256 → (256 * high + low) / 256 ≡ high
high_byte high low below = omega arith

-- the less significant byte of a number
low_byte : (high low : ℕ) → low < 256 → (256 * high + low) % 256 ≡ low
low_byte high low below = omega arith

-- a step of two bytes
two_more : (n : ℕ) → 2 * suc n ≡ suc (suc (2 * n))
two_more n = omega arith

-- the numbers of numbers' bytes are the numbers
pairs_of_bytes-bytes_of_pairs : (row : List ℕ) → pairs_of_bytes (bytes_of_pairs row) ≡ row
pairs_of_bytes-bytes_of_pairs [] = refl
pairs_of_bytes-bytes_of_pairs (n ∷ row) = rw (whole n, pairs_of_bytes-bytes_of_pairs row) refl

-- the bytes of a row give back the row
pub elements_of-bytes_of_row : (field : FieldKind) (row : List ℕ) → elements_of field (bytes_of_row field row) ≡ row
elements_of-bytes_of_row field =
    elim (width_of field) as (λ width. (row : List ℕ) → numbers_of_bytes width (bytes_of_numbers width row) ≡ row) [
      | One ↦ λ row. refl
      | Two ↦ pairs_of_bytes-bytes_of_pairs
    ]

-- the bytes of the numbers of two bytes each are the bytes
bytes_of_pairs-pairs_of_bytes : (n : ℕ) (bytes : List ℕ) → AreBytes bytes → length bytes ≡ 2 * n → bytes_of_pairs (pairs_of_bytes bytes) ≡ bytes
bytes_of_pairs-pairs_of_bytes n [] h even = refl
bytes_of_pairs-pairs_of_bytes n (high ∷ []) h even = absurd (omega arith)
bytes_of_pairs-pairs_of_bytes zero (high ∷ low ∷ bytes) h even = absurd (omega arith)
bytes_of_pairs-pairs_of_bytes (suc n) (high ∷ low ∷ bytes) h even =
    let rest = AreBytes-tail high (low ∷ bytes) h in
    let below = AreBytes-head low bytes rest in
    rw (high_byte high low below, low_byte high low below, bytes_of_pairs-pairs_of_bytes n bytes (AreBytes-tail low bytes rest) (omega arith)) refl

-- the elements of whole elements' bytes give back the bytes
pub bytes_of_row-elements_of : (field : FieldKind) (n : ℕ) (bytes : List ℕ) → AreBytes bytes → length bytes ≡ bytes_of_element field * n
    → bytes_of_row field (elements_of field bytes) ≡ bytes
bytes_of_row-elements_of field =
    elim (width_of field) as (λ width. (n : ℕ) (bytes : List ℕ) → AreBytes bytes → length bytes ≡ bytes_of_width width * n → bytes_of_numbers width (numbers_of_bytes width bytes) ≡ bytes) [
      | One ↦ λ n bytes h even. refl
      | Two ↦ bytes_of_pairs-pairs_of_bytes
    ]

-- as many numbers as there are pairs of bytes
length-pairs_of_bytes : (n : ℕ) (bytes : List ℕ) → length bytes ≡ 2 * n → length (pairs_of_bytes bytes) ≡ n
length-pairs_of_bytes n [] even = omega arith
length-pairs_of_bytes n (high ∷ []) even = absurd (omega arith)
length-pairs_of_bytes zero (high ∷ low ∷ bytes) even = absurd (omega arith)
length-pairs_of_bytes (suc n) (high ∷ low ∷ bytes) even = ap suc (length-pairs_of_bytes n bytes (omega arith))

-- the number of elements of whole elements' bytes
pub length-elements_of : (field : FieldKind) (n : ℕ) (bytes : List ℕ) → length bytes ≡ bytes_of_element field * n → length (elements_of field bytes) ≡ n
length-elements_of field =
    elim (width_of field) as (λ width. (n : ℕ) (bytes : List ℕ) → length bytes ≡ bytes_of_width width * n → length (numbers_of_bytes width bytes) ≡ n) [
      | One ↦ λ n bytes even. omega arith
      | Two ↦ length-pairs_of_bytes
    ]

-- two bytes for each number
length-bytes_of_pairs : (row : List ℕ) → length (bytes_of_pairs row) ≡ 2 * length row
length-bytes_of_pairs [] = refl
length-bytes_of_pairs (n ∷ row) = ap (λ k. suc (suc k)) (length-bytes_of_pairs row) ∙ sym (two_more (length row))

-- the number of bytes of a row
pub length-bytes_of_row : (field : FieldKind) (row : List ℕ) → length (bytes_of_row field row) ≡ bytes_of_element field * length row
length-bytes_of_row field =
    elim (width_of field) as (λ width. (row : List ℕ) → length (bytes_of_numbers width row) ≡ bytes_of_width width * length row) [
      | One ↦ λ row. omega arith
      | Two ↦ length-bytes_of_pairs
    ]

-- two bytes are an element
pairs_of_bytes-elements : (bytes : List ℕ) → AreBytes bytes → AreElements Sixteen (pairs_of_bytes bytes)
pairs_of_bytes-elements [] h = All-nil (λ element. element < 65536)
pairs_of_bytes-elements (high ∷ []) h = All-nil (λ element. element < 65536)
pairs_of_bytes-elements (high ∷ low ∷ bytes) h =
    let rest = AreBytes-tail high (low ∷ bytes) h in
    let below_high = AreBytes-head high (low ∷ bytes) h in
    let below_low = AreBytes-head low bytes rest in
    All-cons (λ element. element < 65536) (256 * high + low) (pairs_of_bytes bytes) (omega arith) (pairs_of_bytes-elements bytes (AreBytes-tail low bytes rest))

-- the elements of bytes are elements
pub elements_of-AreElements : (field : FieldKind) (bytes : List ℕ) → AreBytes bytes → AreElements field (elements_of field bytes)
elements_of-AreElements field =
    elim (width_of field) as (λ width. (bytes : List ℕ) → AreBytes bytes → All (λ n. n < size_of_width width) (numbers_of_bytes width bytes)) [
      | One ↦ λ bytes h. h
      | Two ↦ pairs_of_bytes-elements
    ]

-- as many elements as there are places, of their bytes, are a row
pub elements_of-IsRow : (field : FieldKind) (width : ℕ) (bytes : List ℕ) → AreBytes bytes → length bytes ≡ bytes_of_element field * width
    → IsRow field width (elements_of field bytes)
elements_of-IsRow field width bytes h even = record {
  width = length-elements_of field width bytes even;
  elements = elements_of-AreElements field bytes h;
}

-- the two parts of an element are bytes
bytes_of_pairs-bytes : (row : List ℕ) → AreElements Sixteen row → AreBytes (bytes_of_pairs row)
bytes_of_pairs-bytes [] h = All-nil (λ byte. byte < 256)
bytes_of_pairs-bytes (n ∷ row) h =
    let below = All-head (λ element. element < 65536) n row h in
    All-cons (λ byte. byte < 256) (n / 256) (n % 256 ∷ bytes_of_pairs row) (omega arith)
    (All-cons (λ byte. byte < 256) (n % 256) (bytes_of_pairs row) (omega arith) (bytes_of_pairs-bytes row (All-tail (λ element. element < 65536) n row h)))

-- the bytes of elements are bytes
pub bytes_of_row-AreBytes : (field : FieldKind) (row : List ℕ) → AreElements field row → AreBytes (bytes_of_row field row)
bytes_of_row-AreBytes field =
    elim (width_of field) as (λ width. (row : List ℕ) → All (λ n. n < size_of_width width) row → AreBytes (bytes_of_numbers width row)) [
      | One ↦ λ row h. h
      | Two ↦ bytes_of_pairs-bytes
    ]

-- the exclusive or of two numbers goes by their bytes
pub xor_of_pairs : (a b c d : ℕ) → b < 256 → d < 256 → 256 * bit_xor a c + bit_xor b d ≡ bit_xor (256 * a + b) (256 * c + d)
xor_of_pairs a b c d below_b below_d =
    let first : 256 * a + b ≡ a * 2 ^ 8 + b = omega arith in
    let second : 256 * c + d ≡ c * 2 ^ 8 + d = omega arith in
    let both : 256 * bit_xor a c + bit_xor b d ≡ bit_xor a c * 2 ^ 8 + bit_xor b d = omega arith in
    rw (first, second, both) (sym (xor_block 8 a c b d below_b below_d))

-- the numbers of the exclusive or of bytes are the sum of the numbers
pairs_of_bytes-add_rows : (xs ys : List ℕ) → AreBytes xs → AreBytes ys → pairs_of_bytes (add_rows xs ys) ≡ add_rows (pairs_of_bytes xs) (pairs_of_bytes ys)
pairs_of_bytes-add_rows [] ys h k = refl
pairs_of_bytes-add_rows (a ∷ []) [] h k = refl
pairs_of_bytes-add_rows (a ∷ []) (c ∷ []) h k = refl
pairs_of_bytes-add_rows (a ∷ []) (c ∷ d ∷ ys) h k = refl
pairs_of_bytes-add_rows (a ∷ b ∷ xs) [] h k = refl
pairs_of_bytes-add_rows (a ∷ b ∷ xs) (c ∷ []) h k = refl
pairs_of_bytes-add_rows (a ∷ b ∷ xs) (c ∷ d ∷ ys) h k =
    let rest_x = AreBytes-tail a (b ∷ xs) h in
    let rest_y = AreBytes-tail c (d ∷ ys) k in
    rw (
      xor_of_pairs a b c d (AreBytes-head b xs rest_x) (AreBytes-head d ys rest_y),
      pairs_of_bytes-add_rows xs ys (AreBytes-tail b xs rest_x) (AreBytes-tail d ys rest_y),
    ) refl

-- the elements of the exclusive or of bytes are the sum of the elements
pub elements_of-add_rows : (field : FieldKind) (xs ys : List ℕ) → AreBytes xs → AreBytes ys
    → elements_of field (add_rows xs ys) ≡ add_rows (elements_of field xs) (elements_of field ys)
elements_of-add_rows field =
    elim (width_of field) as (λ width. (xs ys : List ℕ) → AreBytes xs → AreBytes ys → numbers_of_bytes width (add_rows xs ys) ≡ add_rows (numbers_of_bytes width xs) (numbers_of_bytes width ys)) [
      | One ↦ λ xs ys h k. refl
      | Two ↦ pairs_of_bytes-add_rows
    ]

-- the bytes of a sum of numbers are the exclusive or of their bytes
bytes_of_pairs-add_rows : (xs ys : List ℕ) → bytes_of_pairs (add_rows xs ys) ≡ add_rows (bytes_of_pairs xs) (bytes_of_pairs ys)
bytes_of_pairs-add_rows [] ys = refl
bytes_of_pairs-add_rows (x ∷ xs) [] = refl
bytes_of_pairs-add_rows (x ∷ xs) (y ∷ ys) = rw (xor_shr x y 8, xor_mod x y 8, bytes_of_pairs-add_rows xs ys) refl

-- the bytes of a sum of rows are the exclusive or of their bytes
pub bytes_of_row-add_rows : (field : FieldKind) (xs ys : List ℕ) → bytes_of_row field (add_rows xs ys) ≡ add_rows (bytes_of_row field xs) (bytes_of_row field ys)
bytes_of_row-add_rows field =
    elim (width_of field) as (λ width. (xs ys : List ℕ) → bytes_of_numbers width (add_rows xs ys) ≡ add_rows (bytes_of_numbers width xs) (bytes_of_numbers width ys)) [
      | One ↦ λ xs ys. refl
      | Two ↦ bytes_of_pairs-add_rows
    ]

-- the first numbers are those of their bytes
pairs_of_bytes-take : (k : ℕ) (bytes : List ℕ) → pairs_of_bytes (take (2 * k) bytes) ≡ take k (pairs_of_bytes bytes)
pairs_of_bytes-take zero bytes = refl
pairs_of_bytes-take (suc k) [] = rw (two_more k) refl
pairs_of_bytes-take (suc k) (high ∷ []) = rw (two_more k) refl
pairs_of_bytes-take (suc k) (high ∷ low ∷ bytes) = rw (two_more k, pairs_of_bytes-take k bytes) refl

-- the first elements are those of their bytes
pub elements_of-take : (field : FieldKind) (k : ℕ) (bytes : List ℕ) → elements_of field (take (bytes_of_element field * k) bytes) ≡ take k (elements_of field bytes)
elements_of-take field =
    elim (width_of field) as (λ width. (k : ℕ) (bytes : List ℕ) → numbers_of_bytes width (take (bytes_of_width width * k) bytes) ≡ take k (numbers_of_bytes width bytes)) [
      | One ↦ λ k bytes. let one : 1 * k ≡ k = omega arith in ap (λ n. take n bytes) one
      | Two ↦ pairs_of_bytes-take
    ]

-- the numbers from a place on are those of their bytes
pairs_of_bytes-drop : (k : ℕ) (bytes : List ℕ) → pairs_of_bytes (drop (2 * k) bytes) ≡ drop k (pairs_of_bytes bytes)
pairs_of_bytes-drop zero bytes = refl
pairs_of_bytes-drop (suc k) [] = rw (two_more k) refl
pairs_of_bytes-drop (suc k) (high ∷ []) = rw (two_more k) refl
pairs_of_bytes-drop (suc k) (high ∷ low ∷ bytes) = rw (two_more k) (pairs_of_bytes-drop k bytes)

-- the elements from a place on are those of their bytes
pub elements_of-drop : (field : FieldKind) (k : ℕ) (bytes : List ℕ) → elements_of field (drop (bytes_of_element field * k) bytes) ≡ drop k (elements_of field bytes)
elements_of-drop field =
    elim (width_of field) as (λ width. (k : ℕ) (bytes : List ℕ) → numbers_of_bytes width (drop (bytes_of_width width * k) bytes) ≡ drop k (numbers_of_bytes width bytes)) [
      | One ↦ λ k bytes. let one : 1 * k ≡ k = omega arith in ap (λ n. drop n bytes) one
      | Two ↦ pairs_of_bytes-drop
    ]

-- the numbers of pairs of bytes and then others
pairs_of_bytes-append : (n : ℕ) (xs ys : List ℕ) → length xs ≡ 2 * n → pairs_of_bytes (xs ++ ys) ≡ pairs_of_bytes xs ++ pairs_of_bytes ys
pairs_of_bytes-append n [] ys even = refl
pairs_of_bytes-append n (high ∷ []) ys even = absurd (omega arith)
pairs_of_bytes-append zero (high ∷ low ∷ xs) ys even = absurd (omega arith)
pairs_of_bytes-append (suc n) (high ∷ low ∷ xs) ys even = rw (pairs_of_bytes-append n xs ys (omega arith)) refl

-- the elements of whole elements' bytes and then others
pub elements_of-append : (field : FieldKind) (n : ℕ) (xs ys : List ℕ) → length xs ≡ bytes_of_element field * n
    → elements_of field (xs ++ ys) ≡ elements_of field xs ++ elements_of field ys
elements_of-append field =
    elim (width_of field) as (λ width. (n : ℕ) (xs ys : List ℕ) → length xs ≡ bytes_of_width width * n → numbers_of_bytes width (xs ++ ys) ≡ numbers_of_bytes width xs ++ numbers_of_bytes width ys) [
      | One ↦ λ n xs ys even. refl
      | Two ↦ pairs_of_bytes-append
    ]

-- the bytes of numbers and then others
bytes_of_pairs-append : (xs ys : List ℕ) → bytes_of_pairs (xs ++ ys) ≡ bytes_of_pairs xs ++ bytes_of_pairs ys
bytes_of_pairs-append [] ys = refl
bytes_of_pairs-append (n ∷ xs) ys = rw (bytes_of_pairs-append xs ys) refl

-- the bytes of a row and then another
pub bytes_of_row-append : (field : FieldKind) (xs ys : List ℕ) → bytes_of_row field (xs ++ ys) ≡ bytes_of_row field xs ++ bytes_of_row field ys
bytes_of_row-append field =
    elim (width_of field) as (λ width. (xs ys : List ℕ) → bytes_of_numbers width (xs ++ ys) ≡ bytes_of_numbers width xs ++ bytes_of_numbers width ys) [
      | One ↦ λ xs ys. refl
      | Two ↦ bytes_of_pairs-append
    ]

-- the bytes of the first numbers
bytes_of_pairs-take : (k : ℕ) (row : List ℕ) → bytes_of_pairs (take k row) ≡ take (2 * k) (bytes_of_pairs row)
bytes_of_pairs-take zero row = refl
bytes_of_pairs-take (suc k) [] = rw (two_more k) refl
bytes_of_pairs-take (suc k) (n ∷ row) = rw (two_more k, bytes_of_pairs-take k row) refl

-- the bytes of the first elements
pub bytes_of_row-take : (field : FieldKind) (k : ℕ) (row : List ℕ) → bytes_of_row field (take k row) ≡ take (bytes_of_element field * k) (bytes_of_row field row)
bytes_of_row-take field =
    elim (width_of field) as (λ width. (k : ℕ) (row : List ℕ) → bytes_of_numbers width (take k row) ≡ take (bytes_of_width width * k) (bytes_of_numbers width row)) [
      | One ↦ λ k row. let one : 1 * k ≡ k = omega arith in ap (λ n. take n row) (sym one)
      | Two ↦ bytes_of_pairs-take
    ]

-- the bytes of the numbers from a place on
bytes_of_pairs-drop : (k : ℕ) (row : List ℕ) → bytes_of_pairs (drop k row) ≡ drop (2 * k) (bytes_of_pairs row)
bytes_of_pairs-drop zero row = refl
bytes_of_pairs-drop (suc k) [] = rw (two_more k) refl
bytes_of_pairs-drop (suc k) (n ∷ row) = rw (two_more k) (bytes_of_pairs-drop k row)

-- the bytes of the elements from a place on
pub bytes_of_row-drop : (field : FieldKind) (k : ℕ) (row : List ℕ) → bytes_of_row field (drop k row) ≡ drop (bytes_of_element field * k) (bytes_of_row field row)
bytes_of_row-drop field =
    elim (width_of field) as (λ width. (k : ℕ) (row : List ℕ) → bytes_of_numbers width (drop k row) ≡ drop (bytes_of_width width * k) (bytes_of_numbers width row)) [
      | One ↦ λ k row. let one : 1 * k ≡ k = omega arith in ap (λ n. drop n row) (sym one)
      | Two ↦ bytes_of_pairs-drop
    ]

-- the bytes of zeros are zeros
bytes_of_pairs-zero_row : (width : ℕ) → bytes_of_pairs (zero_row width) ≡ zero_row (2 * width)
bytes_of_pairs-zero_row zero = refl
bytes_of_pairs-zero_row (suc width) = rw (two_more width, bytes_of_pairs-zero_row width) refl

-- the bytes of the row of zeros are zeros
pub bytes_of_row-zero_row : (field : FieldKind) (width : ℕ) → bytes_of_row field (zero_row width) ≡ zero_row (bytes_of_element field * width)
bytes_of_row-zero_row field =
    elim (width_of field) as (λ width. (count : ℕ) → bytes_of_numbers width (zero_row count) ≡ zero_row (bytes_of_width width * count)) [
      | One ↦ λ count. let one : 1 * count ≡ count = omega arith in ap zero_row (sym one)
      | Two ↦ bytes_of_pairs-zero_row
    ]

-- the elements of zeros are zeros
pub elements_of-zero_row : (field : FieldKind) (width : ℕ) → elements_of field (zero_row (bytes_of_element field * width)) ≡ zero_row width
elements_of-zero_row field width = ap (elements_of field) (sym (bytes_of_row-zero_row field width)) ∙ elements_of-bytes_of_row field (zero_row width)
