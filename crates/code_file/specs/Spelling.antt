-- What a code file says of a code, how that is spelled, and when it's said of a code, or of a draft.
use Rattle.std.specs.Prelude.{◌≡◌, ℕ, None, List, ◌∷◌, ◌++◌}
use Rattle.std.specs.List.{concat}
use Rattle.net_model.specs.Network.{IsNetwork}
use Rattle.net_model.specs.declared.net.Net.{Net}
use Rattle.node_program.specs.Code.{IsCode, IsDraft, choice_of}
use Rattle.node_program.specs.declared.code.Code.{Code}
use Rattle.code_items.specs.DraftParts.{DraftParts}
use Rattle.code_items.specs.Items.{Item, byte_item, operand_table_items, decoders_items}
use Rattle.code_items.specs.Reading.{Front}
use Rattle.code_items.specs.Spelling.{front_of, front_items_in}
use Rattle.code_file.specs.Items.{code_mark}
use Rattle.code_file.specs.Reading.{Contents}

-- what the file of a code in a version says
abbrev pub contents_in : ℕ → Code → Contents
contents_in version code = record {
  version = version;
  front = front_of code.net code.rate code.field;
  operands = code.operands;
  decoders = code.decoders;
}

-- the mark, the version, the front, the operands and the decoders
unfoldable pub items_said : Contents → List Item
items_said contents =
    let field = contents.front.field in
    code_mark ∷ byte_item contents.version
    ∷ (front_items_in contents.front
    ++ (operand_table_items field contents.operands
    ++ decoders_items contents.version field contents.decoders))

-- the file that says this
unfoldable pub spelling_of : Contents → List ℕ
spelling_of contents = concat (items_said contents)

-- the parts are those of a network
abbrev pub IsNetworkFront : Front → Type 0
IsNetworkFront front =
    IsNetwork front.nodes front.links front.source front.sinks front.patterns

-- the network has these parts, names the field, and no wanted rate
pub record IsNetOf (front : Front) (net : Net) : Type 0 where
  pub nodes : net.nodes ≡ front.nodes
  pub links : net.links ≡ front.links
  pub source : net.source ≡ front.source
  pub sinks : net.sinks ≡ front.sinks
  pub patterns : net.patterns ≡ front.patterns
  pub field : net.field ≡ choice_of front.field
  pub wanted : net.wanted ≡ None

-- the parts are those of a network, and with every network that has them they make a draft
pub record AreDraftParts (parts : DraftParts) : Type 0 where
  pub network : IsNetworkFront parts.front
  pub draft : (net : Net) → IsNetOf parts.front net
      → IsDraft net parts.front.rate parts.front.field parts.operands

-- the parts are those of a network, and with every network that has them they make a code
pub record AreContents (contents : Contents) : Type 0 where
  pub network : IsNetworkFront contents.front
  pub code : (net : Net) → IsNetOf contents.front net
      → IsCode net contents.front.rate contents.front.field contents.operands contents.decoders
