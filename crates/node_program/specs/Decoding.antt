-- What the sinks of a code decode.
use Rattle.std.specs.Prelude.{◌≡◌, ℕ, ◌<◌, ◌*◌, All, IsTrue, List, [], length, map, slice_get}
use Rattle.std.specs.Option.{option_map_or}
use Rattle.net_model.specs.Demands.{demand_count, pattern_of_demand, sink_of_demand}
use Rattle.net_model.specs.Failed.{failed_links}
use Rattle.net_model.specs.Lists.{is_rising}
use Rattle.net_model.specs.declared.net.Net.{Net}
use Rattle.gf_tables.specs.declared.kind.FieldKind.{FieldKind}
use Rattle.gf_tables.specs.Product.{size_of}
use Rattle.linear_algebra.specs.Matrices.{matrix_times, rows_of}
use Rattle.linear_algebra.specs.Rows.{AreElements}
use Rattle.node_program.specs.Code.{leads_into}
use Rattle.node_program.specs.CodeValue.{value_in, vector_in}
use Rattle.node_program.specs.Value.{value, width_of}
use Rattle.node_program.specs.declared.Decoder.{Decoder}
use Rattle.node_program.specs.declared.Operand.{Operand}
use Rattle.node_program.specs.declared.code.Code.{Code}

-- as many rows as the rate, all of one length, of elements
pub record IsBlock (field : FieldKind) (rate : ℕ) (block : List (List ℕ)) : Type 0 where
  pub rows : length block ≡ rate
  pub widths : All (λ row. length row ≡ width_of block) block
  pub elements : All (All (λ element. element < size_of field)) block

-- a demand's decoder times the values on its links
abbrev pub decoding_of : Code → ℕ → List (List ℕ) → List (List ℕ)
decoding_of code demand block =
    option_map_or
    (λ decoder. matrix_times code.field (width_of block) code.rate decoder.entries (map (value_in code (pattern_of_demand code.net demand) block) decoder.links))
    (slice_get code.decoders demand) []

-- a demand's decoder gives back every block
abbrev pub GivesBack : Code → ℕ → Type 0
GivesBack code demand = (block : List (List ℕ)) → IsBlock code.field code.rate block → decoding_of code demand block ≡ block

-- every demand's decoder gives back every block
abbrev pub IsAccepted : Code → Type 0
IsAccepted code = (demand : ℕ) → demand < demand_count code.net → GivesBack code demand

-- as many links as the rate, rising and all into the sink, and a square matrix of elements
pub record IsDecoder (net : Net) (rate : ℕ) (field : FieldKind) (sink : ℕ) (decoder : Decoder) : Type 0 where
  pub link_count : length decoder.links ≡ rate
  pub rising : IsTrue (is_rising decoder.links)
  pub into_sink : All (λ link. IsTrue (leads_into net.links sink link)) decoder.links
  pub entry_count : length decoder.entries ≡ rate * rate
  pub elements : AreElements field decoder.entries

-- the matrix of a demand's decoder
abbrev pub decoder_matrix : Code → ℕ → List (List ℕ)
decoder_matrix code demand = option_map_or (λ decoder. rows_of code.rate code.rate decoder.entries) (slice_get code.decoders demand) []

-- the global coding vectors of the decoder's links under the demand's pattern
abbrev pub decoder_vectors : Code → ℕ → List (List ℕ)
decoder_vectors code demand =
    option_map_or (λ decoder. map (vector_in code (pattern_of_demand code.net demand)) decoder.links) (slice_get code.decoders demand) []

-- two blocks are equal where all links into the demand's sink carry the same on both under its pattern
abbrev pub Decodes : Net → ℕ → FieldKind → List (List Operand) → ℕ → Type 0
Decodes net rate field operands demand =
    (block other : List (List ℕ)) → IsBlock field rate block → IsBlock field rate other → width_of block ≡ width_of other
    → ((link : ℕ) → IsTrue (leads_into net.links (sink_of_demand net demand) link)
    → value net field operands (failed_links net.patterns (pattern_of_demand net demand)) block link
    ≡ value net field operands (failed_links net.patterns (pattern_of_demand net demand)) other link)
    → block ≡ other
