-- Fabrics: what the links of a code carry of one block where links fail, as headed frames.
use Rattle.std.specs.Prelude.{◌≡◌, ℕ, ◌<◌, ◌*◌, Bool, Option, Some, None, List, length, take, drop, slice_get}
use Rattle.std.specs.List.{concat}
use Rattle.gf_tables.specs.declared.kind.FieldKind.{FieldKind}
use Rattle.linear_algebra.specs.Elements.{numbers}
use Rattle.net_model.specs.declared.net.Net.{Net}
use Rattle.node_program.specs.LiveTable.{IsFailTable}
use Rattle.node_program.specs.Value.{global_vector, is_live}
use Rattle.node_program.specs.declared.Operand.{Operand}
use Rattle.node_program.specs.declared.code.Code.{Code}
use Rattle.link_rows.specs.LinkRows.{AreLinkRows}
use Rattle.generation_frame.specs.declared.frame.Packet.{Packet}
use Rattle.coded_traffic.specs.CodeBlocks.{block_elements, IsBlockOf}
use Rattle.coded_traffic.specs.Traffic.{payload_where}
use Rattle.vector_headers.specs.Heads.{headed}

-- the number of a generation, and its block
pub record Carried : Type 0 where
  pub generation : ℕ
  pub block : List ℕ

-- a code, the links that fail, and what was carried last, if anything was
pub record Carrying : Type 0 where
  pub code : Code
  pub failed : List ℕ
  pub carried : Option Carried

-- whether a link is live there
abbrev pub is_live_at : Carrying → ℕ → Bool
is_live_at fabric link = is_live fabric.code.net fabric.code.operands fabric.failed link

-- its global coding vector
abbrev pub vector_at : Carrying → ℕ → List ℕ
vector_at fabric link = global_vector fabric.code.net fabric.code.field fabric.code.operands fabric.failed fabric.code.rate link

-- what it carries of a piece
abbrev pub packet_at : Carrying → Carried → ℕ → ℕ → Packet
packet_at fabric carried link piece =
    record {
      link = link;
      generation = carried.generation;
      piece = piece;
      payload = payload_where fabric.code fabric.failed carried.block piece link;
    }

-- the headed frame of that, where elements have so many bytes
abbrev pub frame_at : ℕ → Carrying → Carried → ℕ → ℕ → List ℕ
frame_at bytes fabric carried link piece = headed bytes (vector_at fabric link) (packet_at fabric carried link piece)

-- what was carried, by the number of its generation, if there is one, and the rows of its block
abbrev pub carried_in : Option ℕ → List (List ℕ) → Option Carried
carried_in None rows = None
carried_in (Some generation) rows = Some (record { generation = generation; block = concat rows })

-- the elements of the vectors of the first links where links fail, one vector after another
pub record AreVectorElements {F : Type 0} (number : F → ℕ) (net : Net) (field : FieldKind) (operands : List (List Operand)) (failed : List ℕ) (rate links : ℕ) (elements : List F) : Type 0 where
  pub count : length elements ≡ links * rate
  pub vector : (e : ℕ) → e < links → numbers number (take rate (drop (e * rate) elements)) ≡ global_vector net field operands failed rate e

-- what a fabric holds: which links fail, which are live, the links' vectors, the rows of a block, and those of the links once
-- a block was carried
pub record IsFabric {F : Type 0} (number : F → ℕ) (fabric : Carrying) (fails live : List Bool) (vectors : List F) (block rows : List (List ℕ)) : Type 0 where
  pub fail_count : length fails ≡ length fabric.code.net.links
  pub fail_table : IsFailTable fabric.failed (length fabric.code.net.links) fails
  pub live_count : length live ≡ length fabric.code.net.links
  pub live_table : (e : ℕ) → e < length fabric.code.net.links → slice_get live e ≡ Some (is_live_at fabric e)
  pub vector_elements : AreVectorElements number fabric.code.net fabric.code.field fabric.code.operands fabric.failed fabric.code.rate (length fabric.code.net.links) vectors
  pub block_count : length block ≡ fabric.code.rate
  pub row_count : length rows ≡ length fabric.code.net.links
  pub link_rows : (one : Carried) → fabric.carried ≡ Some one
      → AreLinkRows fabric.code.net fabric.code.field fabric.code.operands fabric.failed (block_elements fabric.code one.block) (length fabric.code.net.links) rows
  pub whole_block : (one : Carried) → fabric.carried ≡ Some one → IsBlockOf fabric.code one.block
