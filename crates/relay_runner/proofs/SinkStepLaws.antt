-- All sinks show what is held after a delivery, where the one at the link's head takes the packet.
use Rattle.std.proofs.lemmas.Option.{same_Some}
use Rattle.std.specs.Prelude.{◌≡◌, ◌≢◌, ◌<◌, ◌==◌, ℕ, true, false, Contains, IsTrue, List, [], Option, Some, None, length, slice_get, slice_index}
use Rattle.std.specs.Option.{option_map_or}
use Rattle.std.proofs.Common.{◌∙◌, ap, arith, get_or, inl, inr, refl, subst, sym}
use Rattle.std.proofs.lemmas.Bool.{cases_Bool, eqb-false, eqb-true, false_from_ne_true}
use Rattle.std.proofs.lemmas.List.{length-map}
use Rattle.std.proofs.lemmas.List.Elements.{All-contains, Contains-get_or}
use Rattle.std.proofs.lemmas.List.Quantifiers.{position-Some}
use Rattle.std.proofs.lemmas.Nat.{div-mul-add}
use Rattle.coded_traffic.specs.Traffic.{IsKey, Window, key_of}
use Rattle.failure_patterns.proofs.DemandLaws.{number_within}
use Rattle.generation_frame.specs.declared.frame.Packet.{Packet}
use Rattle.net_model.specs.Demands.{demand_count, pattern_of_demand, sink_of_demand}
use Rattle.net_model.specs.Walks.{head_of}
use Rattle.node_plans.specs.Plans.{place_of}
use Rattle.node_program.proofs.DecodingLaws.{decoder_of_demand}
use Rattle.node_program.proofs.LinkLaws.{head_of-leads_into}
use Rattle.node_program.specs.Code.{leads_into}
use Rattle.node_program.specs.CodeValue.{is_live_in}
use Rattle.node_program.specs.declared.Decoder.{Decoder}
use Rattle.node_program.specs.declared.code.Code.{Code}
use Rattle.node_stations.proofs.SinkLaws.{shows-unwanted}
use Rattle.node_stations.specs.Delivering.{AtSink, SinkTakes}
use Rattle.node_stations.specs.Opening.{IsAt, demand_of}
use Rattle.node_stations.specs.Shown.{IsReplaced, ShowsSink}
use Rattle.relay_core.specs.Core.{Delivery, held_after}
use Rattle.sink_decoder.proofs.PlaceLaws.{at-place_of, wanted-place}
use Rattle.sink_decoder.specs.Receiving as sinks
use Rattle.sink_decoder.specs.Receiving.{Receiver, SinkPlan, links_of, sink_plan_of, wants}
use Rattle.relay_runner.proofs.ReceivingLaws.{received}
use Rattle.relay_runner.specs.Delivered.{packet_given}
use Rattle.relay_runner.specs.Showing.{ShowSinks}

-- a link that a demand's sink wants is one of its decoder's
wanted-among : (code : Code) (demand link : ℕ) → wants (sink_plan_of code demand) link ≡ true → Contains (links_of code demand) link
wanted-among code demand link wanted =
    let plan : SinkPlan = sink_plan_of code demand in
    let links = links_of code demand in
    let place = sinks.place_of plan link in
    let within : place < length links =
    omega (arith, wanted-place plan link wanted, length-map links (is_live_in code (pattern_of_demand code.net demand))) in
    subst (Contains links) (at-place_of plan link within) (Contains-get_or links place 0 within)

-- so it leads into the demand's sink
wanted-into : (code : Code) (demand link : ℕ) → demand < demand_count code.net → wants (sink_plan_of code demand) link ≡ true
    → head_of code.net.links link ≡ sink_of_demand code.net demand
wanted-into code demand link within wanted =
    let found = decoder_of_demand code.code demand within in
    let links : links_of code demand ≡ found.0.links = ap (λ (o : Option Decoder). option_map_or (λ decoder. decoder.links) o []) found.1 in
    let among : Contains found.0.links link = subst (λ (ls : List ℕ). Contains ls link) links (wanted-among code demand link wanted) in
    let sink = sink_of_demand code.net demand in
    head_of-leads_into code.net.links sink link (All-contains (λ l. IsTrue (leads_into code.net.links sink l)) found.0.links link found.2.into_sink among)

-- a sink wants no link that leads elsewhere
unwanted-elsewhere : (code : Code) (pattern node place link : ℕ) → pattern < length code.net.patterns → place_of code node ≡ Some place
    → head_of code.net.links link ≢ node → wants (sink_plan_of code (demand_of code pattern place)) link ≡ false
unwanted-elsewhere code pattern node place link below at elsewhere =
    let stands = position-Some (λ one. one == node) code.net.sinks place 0 at in
    let demand = demand_of code pattern place in
    let within : demand < demand_count code.net = number_within code.net (record { sink = place; pattern = pattern }) stands.0 below in
    let sink : sink_of_demand code.net demand ≡ node =
    ap (slice_index code.net.sinks) (div-mul-add place (length code.net.patterns) pattern below) ∙ eqb-true (get_or code.net.sinks place 0) node stands.1 in
    false_from_ne_true (wants (sink_plan_of code demand) link) (λ wanted. elsewhere (wanted-into code demand link within wanted ∙ sink))

module _ (code : Code) (pattern : ℕ) (window : Window) (delivery : Delivery) (held : List Packet) (below : pattern < length code.net.patterns)
    (is : IsKey code pattern window (key_of delivery.pair)) where
  -- what a sink shows, by its place
  abbrev Showing : List Packet → ℕ → Receiver → Type 0
  Showing packets place sink = ShowsSink code (demand_of code pattern place) window sink packets

  -- the sink at a node that takes the packet
  at-head : (place : Option ℕ) (old new : Option Receiver) → IsAt (Showing held) place old → AtSink (SinkTakes (packet_given delivery)) old new
      → IsAt (Showing (held_after delivery held)) place new
  at-head None old new at takes = subst (λ (o : Option Receiver). AtSink (SinkTakes (packet_given delivery)) o new) at takes
  at-head (Some place) old new at takes =
      let took = subst (λ (o : Option Receiver). AtSink (SinkTakes (packet_given delivery)) o new) at.1 takes in (
        took.0,
        took.1,
        received code (demand_of code pattern place) window delivery held (packet_given delivery) at.0 took.0
            (record { is = refl; begun = is.begun; numbered = is.numbered; of_piece = is.of_piece; shows = at.2 }) took.2,
      )

  -- the sink at another node stays as it was
  at-other : (node : ℕ) (sink : Option Receiver) → head_of code.net.links delivery.pair.link ≢ node → IsAt (Showing held) (place_of code node) sink
      → IsAt (Showing (held_after delivery held)) (place_of code node) sink
  at-other node sink elsewhere = by (place_of code node) refl
    where
      by : (place : Option ℕ) → place_of code node ≡ place → IsAt (Showing held) place sink → IsAt (Showing (held_after delivery held)) place sink
      by None none at = at
      by (Some place) found at = (
        at.0,
        at.1,
        shows-unwanted code (demand_of code pattern place) window delivery held at.0 at.2
            (unwanted-elsewhere code pattern node place delivery.pair.link below found elsewhere),
      )

  -- so all sinks show what is held then
  pub show_sinks-after : (before after : List (Option Receiver)) (old new : Option Receiver) → ShowSinks code pattern window before held
      → slice_get before (head_of code.net.links delivery.pair.link) ≡ Some old → AtSink (SinkTakes (packet_given delivery)) old new
      → IsReplaced (head_of code.net.links delivery.pair.link) new before after
      → ShowSinks code pattern window after (held_after delivery held)
  show_sinks-after before after old new all was takes replaced =
      let head = head_of code.net.links delivery.pair.link in
      record {
        count = replaced.count ∙ all.count;
        at = λ node sink at. elim (cases_Bool (node == head)) [
          | inl same ↦
              let here : node ≡ head = eqb-true node head same in
              let found : new ≡ sink = same_Some new sink (sym replaced.at ∙ ap (slice_get after) (sym here) ∙ at) in
              subst (λ n. IsAt (Showing (held_after delivery held)) (place_of code n) sink) (sym here)
              (subst (IsAt (Showing (held_after delivery held)) (place_of code head)) found (at-head (place_of code head) old new (all.at head old was) takes))
          | inr apart ↦
              let differs : node ≢ head = eqb-false node head apart in
              at-other node sink (λ here. differs (sym here)) (all.at node sink (sym (replaced.others node differs) ∙ at))
        ];
      }
