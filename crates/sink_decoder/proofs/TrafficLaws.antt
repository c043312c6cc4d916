-- Where what came to a sink is the traffic of a block through an accepted code, what it decodes is the block.
use Rattle.std.specs.Prelude.{◌≡◌, ◌<◌, ◌*◌, ◌||◌, ℕ, Bool, true, false, not, Some, List, [], length, map, slice_get, if◌then◌else◌}
use Rattle.std.specs.List.{concat, list_all, range_with_len}
use Rattle.std.proofs.Common.{arith, refl, sym, ap, ◌∙◌, subst, get_or, inl, inr}
use Rattle.std.proofs.lemmas.Bool.{cases_Bool}
use Rattle.std.proofs.lemmas.List.{ext_get_or, get_or-map, length-map}
use Rattle.std.proofs.lemmas.List.FromFn.{get_or-map-range_with_len, length-map-range_with_len}
use Rattle.gf_tables.specs.Product.{bytes_of_element}
use Rattle.item_list.proofs.Ranges.{at_below}
use Rattle.linear_algebra.proofs.ElementsLaws.{bytes_of_row-elements_of, elements_of-bytes_of_row, length-bytes_of_row}
use Rattle.linear_algebra.specs.Elements.{AreBytes, bytes_of_row, elements_of}
use Rattle.linear_algebra.specs.Matrices.{matrix_times}
use Rattle.linear_algebra.specs.Rows.{zero_row}
use Rattle.net_model.specs.Demands.{demand_count, pattern_of_demand}
use Rattle.net_model.specs.Failed.{failed_links}
use Rattle.net_model.specs.Lists.{is_rising}
use Rattle.generation_frame.specs.Blocks.{pieces, row_bytes}
use Rattle.held_rows.specs.Held.{Held, is_held, is_whole, payload_of, row_count, row_of}
use Rattle.node_program.proofs.DecodingLaws.{decoder_of_demand}
use Rattle.node_program.proofs.ValueLaws.{IsRow-value, value-dead}
use Rattle.node_program.specs.CodeValue.{is_live_in, value_in}
use Rattle.node_program.specs.Decoding.{IsAccepted, decoding_of}
use Rattle.node_program.specs.Value.{width_of}
use Rattle.node_program.specs.declared.Decoder.{Decoder}
use Rattle.node_program.specs.declared.code.Code.{Code}
use Rattle.coded_traffic.proofs.BlockLaws.{IsBlock-block_elements, bytes_of-block_elements, width_of-block_elements}
use Rattle.coded_traffic.proofs.RowLaws.{row_bytes-row_width}
use Rattle.coded_traffic.specs.CodeBlocks.{IsBlockOf, block_elements, row_width}
use Rattle.coded_traffic.specs.Traffic.{Window, block_at, payload_in}
use Rattle.sink_decoder.proofs.HeldLaws.{is_held-whole, row_of-pieces}
use Rattle.sink_decoder.proofs.PlaceLaws.{place_of-at}
use Rattle.sink_decoder.proofs.SumLaws.{bytes_of_row-concat, whole_rows}
use Rattle.sink_decoder.specs.Receiving as sink
use Rattle.sink_decoder.specs.Receiving.{IsBegun, IsReceiver, Receiver, SinkPlan, TakesTraffic, came_of, decoded, is_live_at, place_of, sink_plan_of, wants}
use Rattle.sink_decoder.specs.Sums.{value_held, values_held}

-- all pieces of the live links of a plan are held
abbrev pub is_whole_by : SinkPlan → Held → Bool
is_whole_by plan held = list_all (λ place. not (is_live_at plan place) || is_whole held place) (range_with_len 0 (length plan.links))

-- what is decoded by a plan
abbrev pub decoded_by : SinkPlan → Held → List ℕ
decoded_by plan held =
    concat (map (bytes_of_row plan.field) (matrix_times plan.field (row_width plan.field) plan.rate plan.entries (values_held plan.field plan.live held)))

-- the pieces of the links that a plan wants are those of a block
abbrev pub HoldsBlock : Code → ℕ → List ℕ → SinkPlan → Held → Type 0
HoldsBlock code pattern block plan held =
    (link piece : ℕ) → wants plan link ≡ true → piece < pieces → is_held held (place_of plan link) piece ≡ true
    → payload_of held (place_of plan link) piece ≡ payload_in code pattern block piece link

-- one of two tests that passes where the first doesn't fail
passes_second : (first second : Bool) → not first || second ≡ true → first ≡ true → second ≡ true
passes_second true second either is = either
passes_second false second either is = absurd (by is)
  where
    by : false ≡ true → ⊥
    by e = cc

-- the bytes of a link's value are a row
pub length-value : (code : Code) (pattern : ℕ) (block : List ℕ) → IsBlockOf code block → (link : ℕ)
    → length (bytes_of_row code.field (value_in code pattern (block_elements code block) link)) ≡ row_bytes
length-value code pattern block is link =
    let row = IsRow-value code.code.draft (IsBlock-block_elements code block is) (failed_links code.net.patterns pattern) link in
    length-bytes_of_row code.field (value_in code pattern (block_elements code block) link)
    ∙ ap (λ (n : ℕ). bytes_of_element code.field * n) (row.width ∙ width_of-block_elements code block is)
    ∙ sym (row_bytes-row_width code.field)

module _ (code : Code) (demand : ℕ) (block : List ℕ) (is : IsBlockOf code block) (held : Held) where
  abbrev pattern : ℕ
  pattern = pattern_of_demand code.net demand

  -- the value of a link
  abbrev value : ℕ → List ℕ
  value link = value_in code pattern (block_elements code block) link

  module _ (decoder : Decoder) (found : slice_get code.decoders demand ≡ Some decoder) (rising : is_rising decoder.links ≡ true) (link_count : length decoder.links ≡ code.rate) where
    abbrev plan : SinkPlan
    plan = record {
      field = code.field;
      rate = code.rate;
      links = decoder.links;
      live = map (is_live_in code pattern) decoder.links;
      entries = decoder.entries;
    }

    module _ (rows : row_count held ≡ code.rate) (whole : is_whole_by plan held ≡ true) (holds : HoldsBlock code pattern block plan held) (place : ℕ) (within : place < length decoder.links) where
      abbrev link : ℕ
      link = get_or decoder.links place 0

      live_at : is_live_at plan place ≡ is_live_in code pattern link
      live_at = get_or-map (is_live_in code pattern) decoder.links place 0 false within

      at : place_of plan link ≡ place
      at = place_of-at plan place rising within

      -- the row of a live link is that of its value
      live_row : is_live_at plan place ≡ true → row_of held place ≡ bytes_of_row code.field (value link)
      live_row live =
          let test = λ (place : ℕ). not (is_live_at plan place) || is_whole held place in
          let each : is_whole held place ≡ true = passes_second (is_live_at plan place) (is_whole held place) (at_below test (length decoder.links) place whole within) live in
          row_of-pieces held place (bytes_of_row code.field (value link)) (length-value code pattern block is link)
          (λ piece low.
          let HeldAt : ℕ → Type 0 = λ p. is_held held p piece ≡ true in
          ap (λ p. payload_of held p piece) (sym at)
          ∙ holds link piece (ap (is_live_at plan) at ∙ live) low
          (subst HeldAt (sym at) (is_held-whole held place piece (omega (arith, within, rows, link_count)) low each)))

      -- what counts for a link is its value
      pub value_held-value : value_held code.field plan.live held place ≡ value link
      value_held-value = elim (cases_Bool (is_live_at plan place)) [
        | inl live ↦
            ap (λ (test : Bool). if test then elements_of code.field (row_of held place) else zero_row (row_width code.field)) live
            ∙ ap (elements_of code.field) (live_row live) ∙ elements_of-bytes_of_row code.field (value link)
        | inr dead ↦
            ap (λ (test : Bool). if test then elements_of code.field (row_of held place) else zero_row (row_width code.field)) dead
            ∙ ap zero_row (sym (width_of-block_elements code block is))
            ∙ sym (value-dead code.code.draft (failed_links code.net.patterns pattern) (block_elements code block) link (sym live_at ∙ dead))
      ]

    -- what the plan decodes is the block
    decoded_by-block : IsAccepted code → demand < demand_count code.net → row_count held ≡ code.rate → is_whole_by plan held ≡ true → HoldsBlock code pattern block plan held
        → decoded_by plan held ≡ block
    decoded_by-block accepted within rows whole holds =
        let elements = block_elements code block in
        let count : length plan.live ≡ length decoder.links = length-map decoder.links (is_live_in code pattern) in
        let values : values_held code.field plan.live held ≡ map value decoder.links =
        ext_get_or [] (values_held code.field plan.live held) (map value decoder.links)
        (length-map-range_with_len (value_held code.field plan.live held) 0 (length plan.live) ∙ count ∙ sym (length-map decoder.links value))
        (λ place inside.
        let low : place < length plan.live = omega (arith, inside, length-map-range_with_len (value_held code.field plan.live held) 0 (length plan.live)) in
        let below : place < length decoder.links = omega (arith, low, count) in
        get_or-map-range_with_len (value_held code.field plan.live held) 0 (length plan.live) place place [] low (omega arith)
        ∙ value_held-value rows whole holds place below
        ∙ sym (get_or-map value decoder.links place 0 [] below)) in
        let decoding : decoding_of code demand elements ≡ matrix_times code.field (width_of elements) code.rate decoder.entries (map value decoder.links) = rw found refl in
        let made : matrix_times code.field (row_width code.field) code.rate decoder.entries (values_held code.field plan.live held) ≡ elements =
        ap (λ (carried : List (List ℕ)). matrix_times code.field (row_width code.field) code.rate decoder.entries carried) values
        ∙ ap (λ (n : ℕ). matrix_times code.field n code.rate decoder.entries (map value decoder.links)) (sym (width_of-block_elements code block is))
        ∙ sym decoding
        ∙ accepted demand within elements (IsBlock-block_elements code block is) in
        ap (λ (rows : List (List ℕ)). concat (map (bytes_of_row code.field) rows)) made ∙ bytes_of-block_elements code block is

-- what a sink decodes of the traffic of a window is the block
pub decoded-traffic : (code : Code) (demand : ℕ) (window : Window) (receiver : Receiver) (generation : ℕ) → IsAccepted code → demand < demand_count code.net
    → row_count (came_of receiver generation) ≡ receiver.plan.rate → IsBegun receiver generation → sink.is_whole receiver generation ≡ true → TakesTraffic code demand window receiver
    → decoded receiver generation ≡ block_at window generation
decoded-traffic code demand window receiver generation accepted within rows begun whole takes =
    let one = decoder_of_demand code.code demand within in
    let decoder = one.0 in
    let held = came_of receiver generation in
    let block = block_at window generation in
    let plan : SinkPlan = record {
      field = code.field;
      rate = code.rate;
      links = decoder.links;
      live = map (is_live_in code (pattern_of_demand code.net demand)) decoder.links;
      entries = decoder.entries;
    } in
    let known : sink_plan_of code demand ≡ plan = rw one.1 refl in
    let same : receiver.plan ≡ plan = takes.plan ∙ known in
    let Whole : SinkPlan → Type 0 = λ p. is_whole_by p held ≡ true in
    let Rows : SinkPlan → Type 0 = λ p. row_count held ≡ p.rate in
    let holds : HoldsBlock code (pattern_of_demand code.net demand) block receiver.plan held = λ link piece wanted low has. takes.came generation link piece begun wanted low has in
    ap (λ (p : SinkPlan). decoded_by p held) same
    ∙ decoded_by-block code demand block (takes.blocks generation begun) held decoder one.1 one.2.rising one.2.link_count
    accepted within (subst Rows same rows) (subst Whole same whole) (subst (λ (p : SinkPlan). HoldsBlock code (pattern_of_demand code.net demand) block p held) same holds)

-- bytes whose elements are the decoder's matrix times what came are what is decoded
pub decoded-elements : (receiver : Receiver) (generation : ℕ) (into : List ℕ) (live : List Bool) (entries : List ℕ) (held : Held) → IsReceiver receiver
    → live ≡ receiver.plan.live → entries ≡ receiver.plan.entries → held ≡ came_of receiver generation → AreBytes into → length into ≡ receiver.plan.rate * row_bytes
    → elements_of receiver.plan.field into
    ≡ concat (matrix_times receiver.plan.field (row_width receiver.plan.field) (length live) entries (values_held receiver.plan.field live held))
    → into ≡ decoded receiver generation
decoded-elements receiver generation into live entries held keeps same_live same_entries same_held bytes size made =
    let field = receiver.plan.field in
    let rate = receiver.plan.rate in
    let rows = λ (rate : ℕ) (entries : List ℕ) (live : List Bool) (held : Held). concat (matrix_times field (row_width field) rate entries (values_held field live held)) in
    let whole : length into ≡ bytes_of_element field * (rate * row_width field) = size ∙ whole_rows field rate in
    let came = came_of receiver generation in
    sym (bytes_of_row-elements_of field (rate * row_width field) into bytes whole)
    ∙ ap (bytes_of_row field)
    (made
    ∙ ap (λ (n : ℕ). rows n entries live held) (ap (length {A = Bool}) same_live ∙ keeps.live_count)
    ∙ ap (λ (e : List ℕ). rows rate e live held) same_entries
    ∙ ap (λ (l : List Bool). rows rate receiver.plan.entries l held) same_live
    ∙ ap (rows rate receiver.plan.entries receiver.plan.live) same_held)
    ∙ bytes_of_row-concat field (matrix_times field (row_width field) rate receiver.plan.entries (values_held field receiver.plan.live came))
