-- Code files: the items of a code, one after another.
use Rattle.std.specs.Prelude.{◌≡◌, ℕ, true, List, [], ◌∷◌, ◌++◌, codes}
use Rattle.std.specs.List.{concat}
use Rattle.node_program.specs.declared.code.Code.{Code}
use Rattle.net_model.specs.Lists.{is_among}
use Rattle.code_items.specs.Items.{Item, operand_table_items, decoders_items}
use Rattle.code_items.specs.Reading.{has_field}
-- all up to the operands
unfoldable pub use Rattle.code_items.specs.Items.{front_items}

-- what stands at the front of a code file, and the versions behind it
abbrev pub code_mark : Item
code_mark = codes "LIFC"

abbrev pub code_versions : List ℕ
code_versions = 1 ∷ 2 ∷ []

-- the front, the operands and the decoders, in a version
unfoldable pub items_in : ℕ → Code → List Item
items_in version code =
    front_items code_mark version code.net code.rate code.field
    ++ (operand_table_items code.field code.operands
    ++ decoders_items version code.field code.decoders)

-- the code file of a code in a version
unfoldable pub bytes_in : ℕ → Code → List ℕ
bytes_in version code = concat (items_in version code)

-- the code file of a code: it is written in version 2
abbrev pub bytes_of : Code → List ℕ
bytes_of code = bytes_in 2 code

-- these bytes are a file of this code, in one of the versions, in which a code over its field can stand
pub record IsFileOf (bytes : List ℕ) (code : Code) : Type 0 where
  pub version : ℕ
  pub known : is_among code_versions version ≡ true
  pub says_field : has_field version code.field ≡ true
  pub bytes_are : bytes ≡ bytes_in version code
