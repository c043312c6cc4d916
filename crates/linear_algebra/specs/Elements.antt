-- How rows of elements stand for rows of element numbers, and how they stand in bytes.
use Rattle.std.specs.Prelude.{ℕ, ◌<◌, ◌+◌, ◌*◌, ◌/◌, ◌%◌, List, [], ◌∷◌, All, map}
use Rattle.gf_tables.specs.declared.kind.FieldKind.{FieldKind}
use Rattle.gf_tables.specs.Product.{width_of}
use Rattle.gf_tables.specs.declared.kind.Width.{Width}
use Rattle.gf_tables.specs.declared.kind.Width.TheVariants.{One, Two}

-- the numbers of elements
abbrev pub numbers : {F : Type 0} → (F → ℕ) → List F → List ℕ
numbers number elements = map number elements

-- each number of the row is a byte
abbrev pub AreBytes : List ℕ → Type 0
AreBytes bytes = All (λ byte. byte < 256) bytes

-- the numbers of two bytes each, the more significant byte first; a byte left over is none
abbrev pub pairs_of_bytes : List ℕ → List ℕ
pairs_of_bytes [] = []
pairs_of_bytes (high ∷ []) = []
pairs_of_bytes (high ∷ low ∷ bytes) = (256 * high + low) ∷ pairs_of_bytes bytes

-- the two bytes of each number, the more significant byte first
abbrev pub bytes_of_pairs : List ℕ → List ℕ
bytes_of_pairs [] = []
bytes_of_pairs (n ∷ row) = n / 256 ∷ n % 256 ∷ bytes_of_pairs row

-- bytes as numbers of a width
abbrev pub numbers_of_bytes : Width → List ℕ → List ℕ
numbers_of_bytes One bytes = bytes
numbers_of_bytes Two bytes = pairs_of_bytes bytes

-- numbers of a width as bytes
abbrev pub bytes_of_numbers : Width → List ℕ → List ℕ
bytes_of_numbers One row = row
bytes_of_numbers Two row = bytes_of_pairs row

-- bytes as a row of elements, one byte an element or two
abbrev pub elements_of : FieldKind → List ℕ → List ℕ
elements_of field bytes = numbers_of_bytes (width_of field) bytes

-- a row of elements as bytes
abbrev pub bytes_of_row : FieldKind → List ℕ → List ℕ
bytes_of_row field row = bytes_of_numbers (width_of field) row
