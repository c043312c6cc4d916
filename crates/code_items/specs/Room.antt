-- How much room a file takes, as far as a number of the machine counts.
use Rattle.std.specs.Prelude.{◌≡◌, ℕ, ◌-◌, ◌^◌, min, List, length}
use Rattle.std.specs.List.{concat}
use Rattle.gf_tables.specs.declared.kind.FieldKind.{FieldKind}
use Rattle.net_model.specs.declared.net.Net.{Net}
use Rattle.code_items.specs.Items.{Item, front_items}

-- a number, or the greatest that there is
abbrev pub saturate : ℕ → ℕ
saturate n = min n (2 ^ 64 - 1)

-- how many bytes the items have
unfoldable pub size_of_items : List Item → ℕ
size_of_items items = length (concat items)

-- how much room the items take
abbrev pub room_of : List Item → ℕ
room_of items = saturate (size_of_items items)

-- so much room all up to the operands takes, behind a mark of four bytes
abbrev pub IsFrontRoom : Net → ℕ → Type 0
IsFrontRoom net room =
    (mark : Item) (version rate : ℕ) (field : FieldKind) → length mark ≡ 4
    → room ≡ room_of (front_items mark version net rate field)
