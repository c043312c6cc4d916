-- What is written, and that the numbers of elements fit the field.
use Rattle.std.specs.Prelude.{◌≡◌, ◌*◌, ◌&&◌, ◌==◌, ℕ, Bool, length, nat_lt, List, ◌++◌, Vec, Result, OnOk}
use Rattle.std.specs.List.{concat, list_all}
use Rattle.std.specs.Global.{Global}
use Rattle.gf_tables.specs.Product.{size_of}
use Rattle.gf_tables.specs.declared.kind.FieldKind.{FieldKind}
use Rattle.node_program.specs.declared.Operand.{Operand}
use Rattle.node_program.specs.declared.Decoder.{Decoder}
use Rattle.code_items.specs.Items.{Item}

-- unless memory ran out, the bytes of the items were added behind the old bytes
abbrev pub Adds : {X E : Type 0} → Result X E → Vec ℕ Global → Vec ℕ Global → List Item → Type 0
Adds result old new items = OnOk result (new.items ≡ old.items ++ concat items)

-- each coefficient is an element
abbrev pub are_elements : FieldKind → List Operand → Bool
are_elements field operands = list_all (λ operand. nat_lt operand.times (size_of field)) operands

-- the decoder has so many links, the number of each fits two bytes, and so many times so many entries
abbrev pub has_size : ℕ → Decoder → Bool
has_size rate decoder =
    (length decoder.links == rate) && (length decoder.entries == rate * rate)
    && list_all (λ link. nat_lt link 65536) decoder.links

-- each entry is an element
abbrev pub has_elements : FieldKind → Decoder → Bool
has_elements field decoder = list_all (λ entry. nat_lt entry (size_of field)) decoder.entries
