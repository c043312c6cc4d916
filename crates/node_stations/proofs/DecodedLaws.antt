-- What a sink decodes, told by the packets that came.
use Rattle.std.specs.Prelude.{◌≡◌, ◌<◌, ◌≤◌, ◌+◌, ◌*◌, ℕ, zero, suc, Bool, true, false, Contains, List, [], ◌∷◌, ◌++◌, drop, if◌then◌else◌, length, map, take}
use Rattle.std.specs.List.{concat, range_with_len}
use Rattle.std.proofs.Common.{refl, sym, ap, ◌∙◌, add-one, arith, get_or, inl, inr}
use Rattle.std.proofs.lemmas.Bool.{cases_Bool, cases_lt}
use Rattle.std.proofs.lemmas.List.{append-nil, ext_get_or, get_or-drop, get_or-map, get_or_past, length-map, take_all, take_more}
use Rattle.std.proofs.lemmas.List.Elements.{All-contains_itself}
use Rattle.std.proofs.lemmas.List.Folds.{concat-append}
use Rattle.std.proofs.lemmas.List.FromFn.{get_or-map-range_with_len, length-map-range_with_len, map-range_with_len_more}
use Rattle.coded_traffic.specs.CodeBlocks.{row_width}
use Rattle.coded_traffic.specs.Traffic.{Key, Window}
use Rattle.generation_frame.specs.Blocks.{pieces}
use Rattle.generation_frame.specs.declared.frame.Packet.{Packet}
use Rattle.held_rows.specs.Held as rows
use Rattle.held_rows.specs.Held.{Held}
use Rattle.linear_algebra.specs.Elements.{bytes_of_row, elements_of}
use Rattle.linear_algebra.specs.Matrices.{matrix_times}
use Rattle.linear_algebra.specs.Rows.{zero_row}
use Rattle.item_list.proofs.Maps.{map-agree, same_made}
use Rattle.net_model.specs.Demands.{pattern_of_demand}
use Rattle.net_model.specs.Lists.{is_rising}
use Rattle.node_program.specs.CodeValue.{is_live_in}
use Rattle.node_program.specs.declared.code.Code.{Code}
use Rattle.relay_core.specs.Core.{has_key, payload_of}
use Rattle.sink_decoder.proofs.PlaceLaws.{place_of-at}
use Rattle.sink_decoder.proofs.TrafficLaws.{decoded_by}
use Rattle.sink_decoder.specs.Receiving.{Receiver, SinkPlan, came_of, decoded, entries_of, is_live_at, links_of, place_of, sink_plan_of, wants}
use Rattle.sink_decoder.specs.Sums.{value_held, values_held}
use Rattle.node_stations.specs.Decoded.{decoded_of, row_of, value_of}
use Rattle.node_stations.specs.Shown.{IsWanted, ShowsSink}

-- the key of a piece on a link in a generation
abbrev key_at : ℕ → ℕ → ℕ → Key
key_at generation link piece = record { link = link; generation = generation; piece = piece }

-- what counts for a link depends on the row that came there alone, and on that where the link is live
same_value : (code : Code) (pattern : ℕ) (one other : List Packet) (generation link : ℕ)
    → (is_live_in code pattern link ≡ true → row_of one generation link ≡ row_of other generation link)
    → value_of code pattern one generation link ≡ value_of code pattern other generation link
same_value code pattern one other generation link same = elim (cases_Bool (is_live_in code pattern link)) [
  | inl live ↦ rw live (ap (elements_of code.field) (same live))
  | inr dead ↦ rw dead refl
]

-- packets whose payloads on the live links of a decoder are the same decode to the same block
pub decoded-same : (code : Code) (demand : ℕ) (one other : List Packet) (generation : ℕ)
    → ((link piece : ℕ) → Contains (links_of code demand) link → is_live_in code (pattern_of_demand code.net demand) link ≡ true → piece < pieces
    → payload_of one (record { link = link; generation = generation; piece = piece }) ≡ payload_of other (record { link = link; generation = generation; piece = piece }))
    → decoded_of code demand one generation ≡ decoded_of code demand other generation
decoded-same code demand one other generation agree =
    let pattern = pattern_of_demand code.net demand in
    let each : (link : ℕ) → Contains (links_of code demand) link → value_of code pattern one generation link ≡ value_of code pattern other generation link =
    λ link among.
    same_value code pattern one other generation link (λ live. ap (λ (parts : List (List ℕ)). concat parts)
    (same_made (λ piece. payload_of one (key_at generation link piece)) (λ piece. payload_of other (key_at generation link piece)) pieces []
    (λ piece low. agree link piece among live low))) in
    ap (λ (values : List (List ℕ)). concat (map (bytes_of_row code.field) (matrix_times code.field (row_width code.field) code.rate (entries_of code demand) values)))
    (map-agree (value_of code pattern one generation) (value_of code pattern other generation) (Contains (links_of code demand)) each
    (links_of code demand) (All-contains_itself (links_of code demand)))

-- the first parts of a list of parts, one after another, with nothing where the list ends before
parts_more : (n : ℕ) (parts : List (List ℕ)) → concat (take (n + 1) parts) ≡ concat (take n parts) ++ get_or parts n []
parts_more n parts = elim (cases_lt n (length parts)) [
  | inl within ↦
      ap (λ (some : List (List ℕ)). concat some) (take_more parts n [] within)
      ∙ concat-append (take n parts) (get_or parts n [] ∷ [])
      ∙ ap (λ (last : List ℕ). concat (take n parts) ++ last) (append-nil (get_or parts n []))
  | inr past ↦
      ap (λ (some : List (List ℕ)). concat some) (take_all (n + 1) parts (omega (arith, past)) ∙ sym (take_all n parts past))
      ∙ sym (append-nil (concat (take n parts)))
      ∙ ap (λ (last : List ℕ). concat (take n parts) ++ last) (sym (get_or_past parts n [] past))
]

first_parts : (n : ℕ) (parts : List (List ℕ)) → concat (take n parts) ≡ concat (map (λ i. get_or parts i []) (range_with_len 0 n))
first_parts zero parts = refl
first_parts (suc n) parts =
    let at = λ (i : ℕ). get_or parts i [] in
    ap (λ k. concat (take k parts)) (sym (add-one n))
    ∙ parts_more n parts
    ∙ ap (λ (front : List ℕ). front ++ at n) (first_parts n parts)
    ∙ ap (λ (last : List ℕ). concat (map at (range_with_len 0 n)) ++ last) (sym (append-nil (at n)))
    ∙ sym (concat-append (map at (range_with_len 0 n)) (at n ∷ []))
    ∙ ap (λ (some : List (List ℕ)). concat some) (sym (map-range_with_len_more at 0 n n (omega arith)))
    ∙ ap (λ k. concat (map at (range_with_len 0 k))) (add-one n)

-- a row that is held is its pieces, one after another
row_of-each : (held : Held) (row : ℕ) → rows.row_of held row ≡ concat (map (λ piece. rows.payload_of held row piece) (range_with_len 0 pieces))
row_of-each held row =
    let rest = drop (row * 8) held.payloads in
    first_parts 8 rest
    ∙ ap (λ (parts : List (List ℕ)). concat parts)
    (same_made (λ i. get_or rest i []) (λ piece. rows.payload_of held row piece) pieces [] (λ piece low. get_or-drop (row * 8) held.payloads piece []))

module _ (code : Code) (demand : ℕ) (window : Window) (sink : Receiver) (held : List Packet) (generation : ℕ)
    (shows : ShowsSink code demand window sink held) (rising : is_rising (links_of code demand) ≡ true)
    (begun : window.first ≤ generation) (numbered : generation < window.first + length window.blocks)
    (has : (link piece : ℕ) → wants (sink_plan_of code demand) link ≡ true → piece < pieces
    → has_key (record { link = link; generation = generation; piece = piece }) held ≡ true) where
  abbrev pattern : ℕ
  pattern = pattern_of_demand code.net demand

  abbrev plan : SinkPlan
  plan = sink_plan_of code demand

  abbrev came : Held
  came = came_of sink generation

  module _ (place : ℕ) (within : place < length (links_of code demand)) where
    abbrev link : ℕ
    link = get_or (links_of code demand) place 0

    stands : place_of plan link ≡ place
    stands = place_of-at plan place rising within

    live_at : is_live_at plan place ≡ is_live_in code pattern link
    live_at = get_or-map (is_live_in code pattern) (links_of code demand) place 0 false within

    -- the row held of a live link is the one that came there
    row-came : is_live_in code pattern link ≡ true → rows.row_of came place ≡ row_of held generation link
    row-came live =
        let wanted : wants plan link ≡ true = ap (is_live_at plan) stands ∙ live_at ∙ live in
        let there : place_of sink.plan link ≡ place = ap (λ (p : SinkPlan). place_of p link) shows.plan ∙ stands in
        row_of-each came place
        ∙ ap (λ (parts : List (List ℕ)). concat parts)
        (same_made (λ piece. rows.payload_of came place piece) (λ piece. payload_of held (key_at generation link piece)) pieces []
        (λ piece low.
        let is : IsWanted code demand window (key_at generation link piece) =
        record { wanted = wanted; begun = begun; numbered = numbered; of_piece = low } in
        ap (λ at. rows.payload_of came at piece) (sym there) ∙ shows.bytes (key_at generation link piece) is (has link piece wanted low)))

    value-came : value_held code.field plan.live came place ≡ value_of code pattern held generation link
    value-came =
        ap (λ (test : Bool). if test then elements_of code.field (rows.row_of came place) else zero_row (row_width code.field)) live_at
        ∙ elim (cases_Bool (is_live_in code pattern link)) [
          | inl live ↦ rw live (ap (elements_of code.field) (row-came live))
          | inr dead ↦ rw dead refl
        ]

  -- what the sink decodes is decoded of what is held, where that is all that it wants of a generation
  pub decoded-shown : decoded sink generation ≡ decoded_of code demand held generation
  decoded-shown =
      let links = links_of code demand in
      let count : length plan.live ≡ length links = length-map links (is_live_in code pattern) in
      let values : values_held code.field plan.live came ≡ map (value_of code pattern held generation) links =
      ext_get_or [] (values_held code.field plan.live came) (map (value_of code pattern held generation) links)
      (length-map-range_with_len (value_held code.field plan.live came) 0 (length plan.live) ∙ count ∙ sym (length-map links (value_of code pattern held generation)))
      (λ place inside.
      let low : place < length plan.live = omega (arith, inside, length-map-range_with_len (value_held code.field plan.live came) 0 (length plan.live)) in
      let within : place < length links = omega (arith, low, count) in
      get_or-map-range_with_len (value_held code.field plan.live came) 0 (length plan.live) place place [] low (omega arith)
      ∙ value-came place within
      ∙ sym (get_or-map (value_of code pattern held generation) links place 0 [] within)) in
      ap (λ (p : SinkPlan). decoded_by p came) shows.plan
      ∙ ap (λ (values : List (List ℕ)). concat (map (bytes_of_row code.field) (matrix_times code.field (row_width code.field) code.rate (entries_of code demand) values))) values
