-- Laws of decoding. A decoder gives back every block exactly where its matrix times the vectors of its links is the
-- identity, and then what the links into the sink carry tells the blocks apart.
use Rattle.std.specs.Prelude.{◌≡◌, ℕ, zero, suc, ◌*◌, ◌<◌, ◌≤◌, ◌↔◌, true, nat_lt, Some, List, [], ◌∷◌, IsTrue, length, map, slice_get, slice_index}
use Rattle.std.proofs.Common.{refl, sym, ap, ◌∙◌, subst, arith}
use Rattle.std.proofs.lemmas.Bool.{and_from, and_parts, false≢true, eqb-true, ltb-true}
use Rattle.std.proofs.lemmas.Option.{slice_get_within}
use Rattle.item_list.proofs.Tests.{passes_at}
use Rattle.item_list.proofs.Maps.{map-agree}
use Rattle.gf_tables.specs.Product.{size_of}
use Rattle.gf_tables.specs.declared.kind.FieldKind.{FieldKind}
use Rattle.net_model.specs.Demands.{demand_count, pattern_of_demand, sink_of_demand, sinks_of_demands}
use Rattle.net_model.specs.Failed.{failed_links}
use Rattle.net_model.specs.declared.Link.{Link}
use Rattle.net_model.specs.declared.net.Net.{Net}
use Rattle.failure_patterns.proofs.DemandLaws.{length-sinks_of_demands, slice_index-sinks_of_demands}
use Rattle.linear_algebra.proofs.EntryLaws.{rows_of-AreRows}
use Rattle.linear_algebra.specs.Matrices.{identity, rows_of, times_rows}
use Rattle.linear_algebra.proofs.MatrixLaws.{identity-times_rows, times_rows-AreRows, times_rows-identity, times_rows-times_rows}
use Rattle.linear_algebra.specs.Rows.{AreRows}
use Rattle.node_program.proofs.BlockLaws.{AreRows-block, IsBlock-identity, width_of-identity}
use Rattle.node_program.specs.Code.{IsCode, leads_into, is_decoder, are_decoders}
use Rattle.node_program.specs.CodeValue.{value_in, vector_in}
use Rattle.node_program.specs.Decoding.{IsBlock, IsDecoder, GivesBack, IsAccepted, Decodes, decoding_of, decoder_matrix, decoder_vectors}
use Rattle.node_program.specs.Value.{width_of}
use Rattle.node_program.proofs.VectorLaws.{IsRow-global_vector, value-vector}
use Rattle.node_program.specs.declared.Decoder.{Decoder}
use Rattle.node_program.specs.declared.Operand.{Operand}
use Rattle.node_program.specs.declared.code.Code.{Code}

-- what the test of a decoder says
IsDecoder-from_is_decoder : (net : Net) (rate : ℕ) (field : FieldKind) (sink : ℕ) (decoder : Decoder) → is_decoder net rate field sink decoder ≡ true
    → IsDecoder net rate field sink decoder
IsDecoder-from_is_decoder net rate field sink decoder test =
    let all = and_parts _ _ test in
    let four = and_parts _ _ all.0 in
    let three = and_parts _ _ four.0 in
    let two = and_parts _ _ three.0 in
    record {
      link_count = eqb-true _ _ two.0;
      rising = two.1;
      into_sink = λ k d within. passes_at (leads_into net.links sink) decoder.links k d three.1 within;
      entry_count = eqb-true _ _ four.1;
      elements = λ k d within. ltb-true _ _ (passes_at (λ entry. nat_lt entry (size_of field)) decoder.entries k d all.1 within);
    }

-- the decoder at the place of a sink
decoder_of_sink : (net : Net) (rate : ℕ) (field : FieldKind) (sinks : List ℕ) (decoders : List Decoder) (place : ℕ)
    → are_decoders net rate field sinks decoders ≡ true → place < length sinks
    → (decoder : Decoder) × (slice_get decoders place ≡ Some decoder) × IsDecoder net rate field (slice_index sinks place) decoder
decoder_of_sink net rate field [] decoders place are within = absurd (omega arith)
decoder_of_sink net rate field (sink ∷ sinks) [] place are within = absurd (false≢true are)
decoder_of_sink net rate field (sink ∷ sinks) (decoder ∷ decoders) zero are within =
    (decoder, refl, IsDecoder-from_is_decoder net rate field sink decoder (and_parts _ _ are).0)
decoder_of_sink net rate field (sink ∷ sinks) (decoder ∷ decoders) (suc place) are within =
    decoder_of_sink net rate field sinks decoders place (and_parts _ _ are).1 (omega arith)

-- a link that leads into a node is one of the network's
pub link_within : (links : List Link) (node link : ℕ) → leads_into links node link ≡ true → link < length links
link_within [] node link into = absurd (false≢true into)
link_within (first ∷ links) node zero into = omega arith
link_within (first ∷ links) node (suc link) into = omega (arith, link_within links node link into)

-- each demand of a code has a decoder at its sink
pub decoder_of_demand : {net : Net} {rate : ℕ} {field : FieldKind} {operands : List (List Operand)} {decoders : List Decoder} → IsCode net rate field operands decoders
    → (demand : ℕ) → demand < demand_count net
    → (decoder : Decoder) × (slice_get decoders demand ≡ Some decoder) × IsDecoder net rate field (sink_of_demand net demand) decoder
decoder_of_demand {net} {rate} {field} {operands} {decoders} code demand within =
    let inside : demand < length (sinks_of_demands net) = omega (arith, length-sinks_of_demands net) in
    let found = decoder_of_sink net rate field (sinks_of_demands net) decoders demand code.demand_decoders inside in
    let At : ℕ → Type 0 = λ sink. IsDecoder net rate field sink found.0 in
    (found.0, found.1, subst At (slice_index-sinks_of_demands net demand within) found.2)

-- a decoder for each sink, by their places
are_decoders-each : (net : Net) (rate : ℕ) (field : FieldKind) (sinks : List ℕ) (decoders : List Decoder) → length decoders ≡ length sinks
    → ((place : ℕ) (decoder : Decoder) → slice_get decoders place ≡ Some decoder → is_decoder net rate field (slice_index sinks place) decoder ≡ true)
    → are_decoders net rate field sinks decoders ≡ true
are_decoders-each net rate field [] [] count each = refl
are_decoders-each net rate field [] (decoder ∷ decoders) count each = absurd (omega arith)
are_decoders-each net rate field (sink ∷ sinks) [] count each = absurd (omega arith)
are_decoders-each net rate field (sink ∷ sinks) (decoder ∷ decoders) count each =
    and_from _ _ (each 0 decoder refl) (are_decoders-each net rate field sinks decoders (omega arith) (λ place one at. each (suc place) one at))

-- a decoder for each demand
pub are_decoders-demands : (net : Net) (rate : ℕ) (field : FieldKind) (decoders : List Decoder) → length decoders ≡ demand_count net
    → ((demand : ℕ) (decoder : Decoder) → demand < demand_count net → slice_get decoders demand ≡ Some decoder → is_decoder net rate field (sink_of_demand net demand) decoder ≡ true)
    → are_decoders net rate field (sinks_of_demands net) decoders ≡ true
are_decoders-demands net rate field decoders count each =
    are_decoders-each net rate field (sinks_of_demands net) decoders (count ∙ sym (length-sinks_of_demands net))
    (λ demand decoder at.
    let within : demand < demand_count net = omega (arith, slice_get_within decoders demand decoder at, count) in
    ap (λ sink. is_decoder net rate field sink decoder) (slice_index-sinks_of_demands net demand within) ∙ each demand decoder within at)

-- so the decoder that a code has for a demand is one
pub decoder_shape : (code : Code) (demand : ℕ) (decoder : Decoder) → demand < demand_count code.net → slice_get code.decoders demand ≡ Some decoder
    → IsDecoder code.net code.rate code.field (sink_of_demand code.net demand) decoder
decoder_shape code demand decoder within found =
    let one = decoder_of_demand code.code demand within in
    let first = one.1 in
    let same : one.0 ≡ decoder = cc in
    subst (IsDecoder code.net code.rate code.field (sink_of_demand code.net demand)) same one.2

-- the decoder's matrix is one of elements
pub AreRows-decoder_matrix : (code : Code) (demand : ℕ) → demand < demand_count code.net → AreRows code.field code.rate (decoder_matrix code demand)
AreRows-decoder_matrix code demand within =
    let found = decoder_of_demand code.code demand within in
    let long : code.rate * code.rate ≤ length found.0.entries = omega (arith, found.2.entry_count) in
    rw found.1 (rows_of-AreRows code.field code.rate code.rate found.0.entries long found.2.elements)

-- the vectors of any links are rows of elements
vectors_are_rows : (code : Code) (pattern : ℕ) (links : List ℕ) → AreRows code.field code.rate (map (vector_in code pattern) links)
vectors_are_rows code pattern [] = tt
vectors_are_rows code pattern (link ∷ links) =
    (IsRow-global_vector code.code.draft (failed_links code.net.patterns pattern) link, vectors_are_rows code pattern links)

-- so are the vectors of the decoder's links
pub AreRows-decoder_vectors : (code : Code) (demand : ℕ) → demand < demand_count code.net → AreRows code.field code.rate (decoder_vectors code demand)
AreRows-decoder_vectors code demand within =
    let found = decoder_of_demand code.code demand within in
    rw found.1 (vectors_are_rows code (pattern_of_demand code.net demand) found.0.links)

-- what links carry is their vectors times the block
pub map-value_in : (code : Code) (pattern : ℕ) (block : List (List ℕ)) (links : List ℕ) → IsBlock code.field code.rate block
    → map (value_in code pattern block) links ≡ times_rows code.field (width_of block) (map (vector_in code pattern) links) block
map-value_in code pattern block [] is = refl
map-value_in code pattern block (link ∷ links) is =
    rw (value-vector code.code.draft is (failed_links code.net.patterns pattern) link, map-value_in code pattern block links is) refl

-- a decoding is the decoder's matrix, times the vectors of its links, times the block
pub decoding_of-times_rows : (code : Code) (demand : ℕ) → demand < demand_count code.net → (block : List (List ℕ)) → IsBlock code.field code.rate block
    → decoding_of code demand block
    ≡ times_rows code.field (width_of block) (times_rows code.field code.rate (decoder_matrix code demand) (decoder_vectors code demand)) block
decoding_of-times_rows code demand within block is =
    let found = decoder_of_demand code.code demand within in
    let matrix : decoder_matrix code demand ≡ rows_of code.rate code.rate found.0.entries = rw found.1 refl in
    let vectors : decoder_vectors code demand ≡ map (vector_in code (pattern_of_demand code.net demand)) found.0.links = rw found.1 refl in
    let decoding : decoding_of code demand block
    ≡ times_rows code.field (width_of block) (rows_of code.rate code.rate found.0.entries) (map (value_in code (pattern_of_demand code.net demand) block) found.0.links) =
    rw found.1 refl in
    decoding
    ∙ ap (times_rows code.field (width_of block) (rows_of code.rate code.rate found.0.entries))
    (map-value_in code (pattern_of_demand code.net demand) block found.0.links is)
    ∙ ap (λ (rows : List (List ℕ)). times_rows code.field (width_of block) rows
    (times_rows code.field (width_of block) (map (vector_in code (pattern_of_demand code.net demand)) found.0.links) block)) (sym matrix)
    ∙ ap (λ (rows : List (List ℕ)). times_rows code.field (width_of block) (decoder_matrix code demand) (times_rows code.field (width_of block) rows block)) (sym vectors)
    ∙ times_rows-times_rows code.field (width_of block) code.rate code.rate (decoder_matrix code demand) (decoder_vectors code demand) block
    (AreRows-decoder_matrix code demand within) (AreRows-decoder_vectors code demand within) (AreRows-block is)

-- a decoder gives back every block exactly where its matrix times the vectors of its links is the identity
pub decoding-identity : (code : Code) (demand : ℕ) → demand < demand_count code.net
    → ((block : List (List ℕ)) → IsBlock code.field code.rate block → decoding_of code demand block ≡ block)
    ↔ (times_rows code.field code.rate (decoder_matrix code demand) (decoder_vectors code demand) ≡ identity code.rate)
decoding-identity code demand within =
    let product = times_rows code.field code.rate (decoder_matrix code demand) (decoder_vectors code demand) in
    let square : AreRows code.field code.rate product =
    times_rows-AreRows code.field code.rate code.rate (decoder_matrix code demand) (decoder_vectors code demand)
    (AreRows-decoder_matrix code demand within) (AreRows-decoder_vectors code demand within) in
    let unit = IsBlock-identity code.field code.rate in (
      λ gives.
          sym (times_rows-identity code.field code.rate product square)
          ∙ ap (λ width. times_rows code.field width product (identity code.rate)) (sym (width_of-identity code.rate))
          ∙ sym (decoding_of-times_rows code demand within (identity code.rate) unit)
          ∙ gives (identity code.rate) unit,
      λ same block is.
          decoding_of-times_rows code demand within block is
          ∙ ap (λ (rows : List (List ℕ)). times_rows code.field (width_of block) rows block) same
          ∙ identity-times_rows code.field (width_of block) code.rate block is.rows (AreRows-block is),
    )

-- a code is accepted exactly where each demand's product is the identity
pub IsAccepted-identity : (code : Code)
    → IsAccepted code
    ↔ ((demand : ℕ) → demand < demand_count code.net
    → times_rows code.field code.rate (decoder_matrix code demand) (decoder_vectors code demand) ≡ identity code.rate)
IsAccepted-identity code = (
  λ accepted demand within. (decoding-identity code demand within).0 (accepted demand within),
  λ same demand within. (decoding-identity code demand within).1 (same demand within),
)

-- a demand decodes where its decoder gives back every block
pub GivesBack-decodes : (code : Code) (demand : ℕ) → demand < demand_count code.net → GivesBack code demand
    → Decodes code.net code.rate code.field code.operands demand
GivesBack-decodes code demand within gives block other is is_other wide same =
    let found = decoder_of_demand code.code demand within in
    let pattern = pattern_of_demand code.net demand in
    let Into : ℕ → Type 0 = λ link. IsTrue (leads_into code.net.links (sink_of_demand code.net demand) link) in
    let carried : map (value_in code pattern block) found.0.links ≡ map (value_in code pattern other) found.0.links =
    map-agree (value_in code pattern block) (value_in code pattern other) Into same found.0.links found.2.into_sink in
    let decoding : decoding_of code demand block ≡ decoding_of code demand other =
    rw (found.1, carried, wide) refl in
    sym (gives block is) ∙ decoding ∙ gives other is_other

-- each demand of an accepted code decodes
pub accepted-decodes : (code : Code) → IsAccepted code → (demand : ℕ) → demand < demand_count code.net
    → Decodes code.net code.rate code.field code.operands demand
accepted-decodes code accepted demand within = GivesBack-decodes code demand within (accepted demand within)
