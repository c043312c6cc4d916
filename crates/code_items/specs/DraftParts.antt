-- What stands in a code file before the decoders, and is all of the file of a draft: the mark, the version, the front and the
-- operands.
use Rattle.std.specs.Prelude.{◌≡◌, ℕ, List, ◌∷◌, ◌++◌, length, Ok}
use Rattle.gf_tables.specs.declared.kind.FieldKind.{FieldKind}
use Rattle.net_model.specs.declared.net.Net.{Net}
use Rattle.node_program.specs.declared.Operand.{Operand}
use Rattle.code_items.specs.Items.{Item, byte_item, front_items, operand_table_items}
use Rattle.code_items.specs.Reading.{Front, Rest, Reading, ◌>>=◌, mark_at, front_at, operand_table_at}
use Rattle.code_items.specs.Room.{room_of}
use Rattle.code_items.specs.Spelling.{front_of, front_items_in}

-- the items of a network, a rate, a field and the operands of each link, behind a mark and a version
unfoldable pub draft_items :
    Item → ℕ → Net → ℕ → FieldKind → List (List Operand) → List Item
draft_items mark version net rate field operands =
    front_items mark version net rate field ++ operand_table_items field operands

-- so much room they take, behind a mark of four bytes
abbrev pub IsDraftRoom : Net → ℕ → FieldKind → List (List Operand) → ℕ → Type 0
IsDraftRoom net rate field operands room =
    (mark : Item) (version : ℕ) → length mark ≡ 4
    → room ≡ room_of (draft_items mark version net rate field operands)

-- what these items say
pub record DraftParts : Type 0 where
  pub version : ℕ
  pub front : Front
  pub operands : List (List Operand)

-- what they say of a network, a rate, a field and the operands of each link, in a version
abbrev pub draft_parts_in : ℕ → Net → ℕ → FieldKind → List (List Operand) → DraftParts
draft_parts_in version net rate field operands = record {
  version = version;
  front = front_of net rate field;
  operands = operands;
}

-- how that is spelled behind a mark
unfoldable pub draft_items_in : Item → DraftParts → List Item
draft_items_in mark parts =
    mark ∷ byte_item parts.version
    ∷ (front_items_in parts.front ++ operand_table_items parts.front.field parts.operands)

-- what stands before the decoders, behind a mark and one of the versions that it allows
unfoldable pub draft_parts_at : List ℕ → List ℕ → Rest → Reading DraftParts
draft_parts_at mark versions rest = do
  version ← mark_at mark versions rest
  front ← front_at version.0 version.1
  operands ← operand_table_at front.0 front.1
  let parts : DraftParts = record {
    version = version.0;
    front = front.0;
    operands = operands.0;
  } in Ok (parts, operands.1)
