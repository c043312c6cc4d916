-- What came of the traffic of a block, through an accepted code, decodes to the block.
use Rattle.std.specs.Prelude.{◌≡◌, ◌<◌, ℕ, Bool, true, List, [], map, if◌then◌else◌}
use Rattle.std.specs.List.{concat}
use Rattle.std.proofs.Common.{◌∙◌, ap, inl, inr, refl, sym}
use Rattle.std.proofs.lemmas.Bool.{cases_Bool}
use Rattle.coded_traffic.proofs.BlockLaws.{IsBlock-block_elements, bytes_of-block_elements, width_of-block_elements}
use Rattle.coded_traffic.specs.CodeBlocks.{IsBlockOf, block_elements, row_width}
use Rattle.coded_traffic.specs.Traffic.{payload_in}
use Rattle.generation_frame.specs.Blocks.{piece_bytes, piece_of_row, pieces}
use Rattle.generation_frame.specs.declared.frame.Packet.{Packet}
use Rattle.linear_algebra.proofs.ElementsLaws.{elements_of-bytes_of_row}
use Rattle.linear_algebra.proofs.EntryLaws.{concat-rows_of}
use Rattle.linear_algebra.specs.Elements.{bytes_of_row, elements_of}
use Rattle.linear_algebra.specs.Matrices.{matrix_times}
use Rattle.linear_algebra.specs.Rows.{zero_row}
use Rattle.item_list.proofs.Maps.{same_made}
use Rattle.net_model.specs.Demands.{demand_count, pattern_of_demand}
use Rattle.net_model.specs.Failed.{failed_links}
use Rattle.node_program.proofs.DecodingLaws.{decoder_of_demand}
use Rattle.node_program.proofs.ValueLaws.{value-dead}
use Rattle.node_program.specs.CodeValue.{is_live_in, value_in}
use Rattle.node_program.specs.Decoding.{IsAccepted, decoding_of}
use Rattle.node_program.specs.Value.{width_of}
use Rattle.node_program.specs.declared.code.Code.{Code}
use Rattle.node_stations.specs.Decoded.{decoded_of, row_of, value_of}
use Rattle.relay_core.specs.Core.{payload_of}
use Rattle.sink_decoder.proofs.TrafficLaws.{length-value}
use Rattle.sink_decoder.specs.Receiving.{entries_of, links_of}

-- the pieces of live links that came in a generation are those of a block
abbrev pub CameOf : Code → ℕ → List ℕ → List Packet → ℕ → Type 0
CameOf code pattern block came generation =
    (link piece : ℕ) → is_live_in code pattern link ≡ true → piece < pieces
    → payload_of came (record { link = link; generation = generation; piece = piece }) ≡ payload_in code pattern block piece link

module _ (code : Code) (pattern : ℕ) (block : List ℕ) (is : IsBlockOf code block) where
  -- the value of a link
  abbrev value : ℕ → List ℕ
  value link = value_in code pattern (block_elements code block) link

  module _ (came : List Packet) (generation : ℕ) (are : CameOf code pattern block came generation) where
    -- the row that came on a live link is that of its value
    row_of-came : (link : ℕ) → is_live_in code pattern link ≡ true → row_of came generation link ≡ bytes_of_row code.field (value link)
    row_of-came link live =
        let row : List ℕ = bytes_of_row code.field (value link) in
        ap (λ (parts : List (List ℕ)). concat parts)
        (same_made (λ piece. payload_of came (record { link = link; generation = generation; piece = piece })) (piece_of_row row) pieces []
        (λ piece low. are link piece live low))
        ∙ concat-rows_of pieces piece_bytes row (length-value code pattern block is link)

    -- and what counts for a link is its value
    value_of-came : (link : ℕ) → value_of code pattern came generation link ≡ value link
    value_of-came link =
        let counts : Bool → List ℕ =
        λ test. if test then elements_of code.field (row_of came generation link) else zero_row (row_width code.field) in
        elim (cases_Bool (is_live_in code pattern link)) [
          | inl live ↦ ap counts live ∙ ap (elements_of code.field) (row_of-came link live) ∙ elements_of-bytes_of_row code.field (value link)
          | inr dead ↦
              ap counts dead
              ∙ ap zero_row (sym (width_of-block_elements code block is))
              ∙ sym (value-dead code.code.draft (failed_links code.net.patterns pattern) (block_elements code block) link dead)
        ]

-- what is decoded then is the block
pub decoded-block : (code : Code) (demand : ℕ) (block : List ℕ) → IsAccepted code → demand < demand_count code.net → IsBlockOf code block
    → (came : List Packet) (generation : ℕ) → CameOf code (pattern_of_demand code.net demand) block came generation
    → decoded_of code demand came generation ≡ block
decoded-block code demand block accepted within is came generation are =
    let pattern = pattern_of_demand code.net demand in
    let elements = block_elements code block in
    let links = links_of code demand in
    let found = decoder_of_demand code.code demand within in
    let values : map (value_of code pattern came generation) links ≡ map (value_in code pattern elements) links =
    λ i. map (λ (link : ℕ). value_of-came code pattern block is came generation are link i) links in
    let decoding : decoding_of code demand elements
    ≡ matrix_times code.field (width_of elements) code.rate (entries_of code demand) (map (value_in code pattern elements) links) =
    rw found.1 refl in
    let made : matrix_times code.field (row_width code.field) code.rate (entries_of code demand) (map (value_of code pattern came generation) links) ≡ elements =
    ap (λ (rows : List (List ℕ)). matrix_times code.field (row_width code.field) code.rate (entries_of code demand) rows) values
    ∙ ap (λ (n : ℕ). matrix_times code.field n code.rate (entries_of code demand) (map (value_in code pattern elements) links))
    (sym (width_of-block_elements code block is))
    ∙ sym decoding
    ∙ accepted demand within elements (IsBlock-block_elements code block is) in
    ap (λ (rows : List (List ℕ)). concat (map (bytes_of_row code.field) rows)) made ∙ bytes_of-block_elements code block is
