-- Where nothing flies each sink has all that it decodes.
use Rattle.std.specs.Prelude.{◌≡◌, ◌<◌, ◌≤◌, ◌+◌, ◌*◌, ◌||◌, ℕ, Bool, true, false, not, All, List, [], length, take, drop}
use Rattle.std.proofs.Common.{refl, sym, ap, ◌∙◌, arith, get_or, inl, inr}
use Rattle.std.proofs.lemmas.Bool.{cases_Bool}
use Rattle.std.proofs.lemmas.List.{get_or-drop, get_or-map, get_or-take, get_or_default, length-map, length-take}
use Rattle.std.proofs.lemmas.List.Sums.{list_all-from_AllPass}
use Rattle.coded_traffic.specs.CodeBlocks.{IsBlockOf}
use Rattle.coded_traffic.specs.Traffic.{IsKey, Key, Window}
use Rattle.failure_patterns.proofs.DemandLaws.{demand_of_number, number_within}
use Rattle.generation_frame.specs.Blocks.{pieces}
use Rattle.held_rows.specs.Held as rows
use Rattle.held_rows.specs.Held.{Held, is_held}
use Rattle.net_model.specs.Demands.{demand_count, pattern_of_demand}
use Rattle.net_model.specs.Lists.{is_rising}
use Rattle.net_model.specs.declared.Demand.{Demand}
use Rattle.node_program.proofs.DecodingLaws.{decoder_of_demand}
use Rattle.node_program.proofs.LiveLaws.{live-below}
use Rattle.node_program.specs.CodeValue.{is_live_in}
use Rattle.node_program.specs.declared.code.Code.{Code}
use Rattle.node_stations.proofs.DecodedLaws.{decoded-shown}
use Rattle.node_stations.specs.Decoded.{decoded_of}
use Rattle.node_stations.specs.Opening.{demand_of}
use Rattle.node_stations.specs.Shown.{IsWanted, ShowsSink}
use Rattle.relay_core.proofs.RunLaws.{run-reaches}
use Rattle.relay_core.specs.Core.{Delivery, IsRun, RelayState, has_key, opening}
use Rattle.relay_core.specs.Runs.{Reaches}
use Rattle.sink_decoder.proofs.HeldLaws.{all_below}
use Rattle.sink_decoder.proofs.PlaceLaws.{at-place_of, place_of-at, wanted-place}
use Rattle.sink_decoder.specs.Receiving.{Receiver, SinkPlan, came_of, decoded, is_live_at, is_whole, links_of, place_of, sink_plan_of, wants}

-- a row is whole of which all pieces have come
whole-pieces : (held : Held) (row : ℕ) → ((piece : ℕ) → piece < pieces → is_held held row piece ≡ true) → rows.is_whole held row ≡ true
whole-pieces held row each =
    let rest = drop (row * 8) held.marks in
    list_all-from_AllPass (λ (mark : Bool). mark) (take 8 rest)
    (λ piece d within.
    let low : piece < 8 = omega (arith, within, length-take 8 rest) in
    get_or_default (take 8 rest) piece d false within
    ∙ get_or-take 8 rest piece false low
    ∙ get_or-drop (row * 8) held.marks piece false
    ∙ each piece low)

module _ (code : Code) (pattern place : ℕ) (here : place < length code.net.sinks) (pattern_is : pattern < length code.net.patterns) where
  -- the demand of a sink is one of the code
  demand-within : demand_of code pattern place < demand_count code.net
  demand-within = number_within code.net (record { sink = place; pattern = pattern }) here pattern_is

  -- and it is of the pattern
  pattern-demand : pattern_of_demand code.net (demand_of code pattern place) ≡ pattern
  pattern-demand = ap (λ (demand : Demand). demand.pattern) (demand_of_number code.net (record { sink = place; pattern = pattern }) pattern_is)

  -- the links of its decoder rise
  rising-links : is_rising (links_of code (demand_of code pattern place)) ≡ true
  rising-links =
      let found = decoder_of_demand code.code (demand_of code pattern place) demand-within in
      rw found.1 found.2.rising

  -- a link that the sink wants is live
  wanted-live : (link : ℕ) → wants (sink_plan_of code (demand_of code pattern place)) link ≡ true → is_live_in code pattern link ≡ true
  wanted-live link wanted =
      let plan = sink_plan_of code (demand_of code pattern place) in
      let live = is_live_in code (pattern_of_demand code.net (demand_of code pattern place)) in
      let within : place_of plan link < length plan.links = omega (arith, wanted-place plan link wanted, length-map plan.links live) in
      ap (λ n. is_live_in code n link) (sym pattern-demand)
      ∙ ap live (sym (at-place_of plan link within))
      ∙ sym (get_or-map live plan.links (place_of plan link) 0 false within)
      ∙ wanted

module _ (code : Code) (pattern : ℕ) (window : Window) (run : List Delivery) (state : RelayState)
    (is : IsRun code pattern run (opening code pattern window) state)
    (quiet : state.flying ≡ []) (place : ℕ) (here : place < length code.net.sinks) (pattern_is : pattern < length code.net.patterns) (sink : Receiver)
    (shows : ShowsSink code (demand_of code pattern place) window sink state.held) (blocks : All (IsBlockOf code) window.blocks) where
  abbrev demand : ℕ
  demand = demand_of code pattern place

  -- what holds in every run
  reaches : Reaches code pattern window run state
  reaches = run-reaches code pattern window run state blocks is

  -- what the sink wants is held
  wanted-held : (key : Key) → IsWanted code demand window key → has_key key state.held ≡ true
  wanted-held key wanted =
      let live = wanted-live code pattern place here pattern_is key.link wanted.wanted in
      let is_key : IsKey code pattern window key =
      record {
        begun = wanted.begun;
        numbered = wanted.numbered;
        of_link = live-below code pattern key.link live;
        live = live;
        of_piece = wanted.of_piece;
      } in
      let none : has_key key state.flying ≡ false = ap (has_key key) quiet in
      sym (reaches.sent_is key ∙ ap (λ b. b || has_key key state.held) none) ∙ reaches.all_sent quiet key is_key

  -- each generation of the window is whole
  pub sink-whole : (generation : ℕ) → window.first ≤ generation → generation < window.first + length window.blocks → is_whole sink generation ≡ true
  sink-whole generation begun numbered =
      all_below (λ place. not (is_live_at sink.plan place) || rows.is_whole (came_of sink generation) place) (length sink.plan.links) each
    where
      rising : is_rising sink.plan.links ≡ true
      rising = ap (λ (plan : SinkPlan). is_rising plan.links) shows.plan ∙ rising-links code pattern place here pattern_is

      -- a live link of the decoder has all of its pieces
      live-whole : (at : ℕ) → at < length sink.plan.links → is_live_at sink.plan at ≡ true → rows.is_whole (came_of sink generation) at ≡ true
      live-whole at within live =
          let link = get_or sink.plan.links at 0 in
          let stands : place_of sink.plan link ≡ at = place_of-at sink.plan at rising within in
          let wanted : wants (sink_plan_of code demand) link ≡ true =
          sym (ap (λ (plan : SinkPlan). wants plan link) shows.plan) ∙ ap (is_live_at sink.plan) stands ∙ live in
          whole-pieces (came_of sink generation) at (λ piece low.
          let key : Key = record { link = link; generation = generation; piece = piece } in
          let is_wanted : IsWanted code demand window key = record { wanted = wanted; begun = begun; numbered = numbered; of_piece = low } in
          ap (λ n. is_held (came_of sink generation) n piece) (sym stands) ∙ shows.has key is_wanted ∙ wanted-held key is_wanted)

      each : (at : ℕ) → at < length sink.plan.links → (not (is_live_at sink.plan at) || rows.is_whole (came_of sink generation) at) ≡ true
      each at within = elim (cases_Bool (is_live_at sink.plan at)) [
        | inl live ↦ rw live (live-whole at within live)
        | inr dead ↦ rw dead refl
      ]

  -- what it decodes of one is decoded of what is held
  pub sink-decoded : (generation : ℕ) → window.first ≤ generation → generation < window.first + length window.blocks
      → decoded sink generation ≡ decoded_of code demand state.held generation
  sink-decoded generation begun numbered =
      decoded-shown code demand window sink state.held generation shows (rising-links code pattern place here pattern_is) begun numbered
      (λ link piece wanted low.
      wanted-held (record { link = link; generation = generation; piece = piece })
      (record { wanted = wanted; begun = begun; numbered = numbered; of_piece = low }))
