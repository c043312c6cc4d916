-- A packet that came to a node is passed on as the core says.
use Rattle.std.specs.Prelude.{◌≡◌, ◌≢◌, ◌<◌, ◌≤◌, ◌+◌, ◌++◌, ℕ, true, Contains, List, [], ◌∷◌, length}
use Rattle.std.proofs.Common.{inl, inr, sym, subst, ◌∙◌}
use Rattle.std.proofs.lemmas.Bool.{cases_Bool, or_cases}
use Rattle.coded_traffic.specs.Traffic.{IsKey, Key, Window, is_same_key, key_of}
use Rattle.generation_frame.specs.Blocks.{pieces}
use Rattle.generation_frame.specs.declared.frame.Packet.{Packet}
use Rattle.lif_outside.specs.declared.links.Links.{Ghosts as LinksGhosts}
use Rattle.node_plans.proofs.OrderLaws.{source-no_ins}
use Rattle.node_plans.proofs.PlanLaws.{ins-contains}
use Rattle.node_plans.specs.Plans.{ins_of}
use Rattle.node_program.specs.declared.code.Code.{Code}
use Rattle.node_stations.proofs.DeliveryLaws.{shows-known, shows-new}
use Rattle.node_stations.proofs.GivingLaws.{out_before}
use Rattle.node_stations.proofs.SendingLaws.{given-all, given-each}
use Rattle.node_stations.specs.Delivering.{NodeTakes}
use Rattle.node_stations.specs.Putting.{PutsDue, StopsPutting}
use Rattle.node_stations.specs.Shown.{IsInto, ShowsHeld, ShowsSent}
use Rattle.relay_core.proofs.PacketLaws.{has_key-held_after, same_key}
use Rattle.relay_core.proofs.StepLaws.{operands-are}
use Rattle.relay_core.specs.Core.{Delivery, MaySend, has_key, held_after}
use Rattle.relay_node.specs.Relay.{Relay, has_input}
use Rattle.relay_runner.specs.Passing.{Comes, PassesOn, StopsPassing}

-- its key is of a live link into the node
pub comes-into : (code : Code) (pattern node : ℕ) (window : Window) (delivery : Delivery) (held sent : List Packet) (packet : Packet) (relay : Relay)
    → Comes code pattern node window delivery held sent packet relay → IsInto code pattern node window (key_of delivery.pair)
comes-into code pattern node window delivery held sent packet relay comes = record {
  into = subst (λ n. Contains (ins_of code pattern n) delivery.pair.link) comes.to_node (ins-contains code pattern delivery.pair.link comes.of_traffic.live);
  begun = comes.of_traffic.begun;
  numbered = comes.of_traffic.numbered;
  of_piece = comes.of_traffic.of_piece;
}

module _ (code : Code) (pattern node : ℕ) (window : Window) (delivery : Delivery) (held sent : List Packet) (packet : Packet) (old : Relay) (comes : Comes code pattern node window delivery held sent packet old)
    (mid : Relay) (takes : NodeTakes packet old mid) where
  abbrev now : List Packet
  now = held_after delivery held

  other : node ≢ code.net.source
  other same = source-no_ins code pattern delivery.pair.link comes.of_traffic.live (comes.to_node ∙ same)

  into : IsInto code pattern node window (key_of delivery.pair)
  into = comes-into code pattern node window delivery held sent packet old comes

  taken : NodeTakes (record delivery.pair { payload = delivery.payload }) old mid
  taken = subst (λ (p : Packet). NodeTakes p old mid) comes.is takes

  pub shows-mid : ShowsHeld code pattern node window mid now
  shows-mid = elim (cases_Bool (has_input old delivery.pair.generation delivery.pair.link delivery.pair.piece)) [
    | inl came ↦
        subst (λ (relay : Relay). ShowsHeld code pattern node window relay now) (sym (taken.known came)) (shows-known code pattern node window delivery held into old comes.shows came)
    | inr absent ↦ shows-new code pattern node window delivery held into old mid comes.shows absent (taken.gained absent)
  ]

  pub shown-mid : ShowsSent mid sent
  shown-mid = elim (cases_Bool (has_input old delivery.pair.generation delivery.pair.link delivery.pair.piece)) [
    | inl came ↦ subst (λ (relay : Relay). ShowsSent relay sent) (sym (taken.known came)) comes.shown
    | inr absent ↦ λ key is.
        let gains = taken.gained absent in
        let before = out_before old mid gains.work key is in
        gains.given key before ∙ comes.shown key before
  ]

  -- what is held then is of the traffic, so what may be sent is
  now_are : (key : Key) → has_key key now ≡ true → IsKey code pattern window key
  now_are key has = elim (or_cases (is_same_key (key_of delivery.pair) key) (has_key key held) (sym (has_key-held_after key delivery held) ∙ has)) [
    | inl same ↦ subst (IsKey code pattern window) (same_key (key_of delivery.pair) key same) comes.of_traffic
    | inr there ↦ comes.held_are key there
  ]

  in_window : (key : Key) → MaySend code pattern node now sent key → (window.first ≤ key.generation) × (key.generation < window.first + length window.blocks) × (key.piece < pieces)
  in_window key may =
      let is = operands-are code pattern window now now_are key may.live may.operands in
      (is.begun, is.numbered, is.of_piece)

  module _ {L : Type 0} (g : LinksGhosts L) (before after : L) (new : Relay) where
    pub passes_on : PutsDue g before after mid new → PassesOn g code pattern node window delivery held sent before after new
    passes_on due =
        let each = given-each code pattern node window other now due.puts.packets mid new sent shows-mid shown-mid due.puts.given in
        record {
          more = due.puts.packets;
          sends = given-all code pattern node window other now due.puts.packets mid new sent shows-mid shown-mid due.puts.given due.none in_window;
          shows = each.shows;
          shown = each.sends;
          calls = due.puts.calls;
        }

    pub stops_passing : StopsPutting g before after mid new → StopsPassing g code pattern node delivery held sent before after
    stops_passing stops =
        let each = given-each code pattern node window other now (stops.packets ++ stops.last ∷ []) mid new sent shows-mid shown-mid stops.given in
        record {
          more = stops.packets;
          last = stops.last;
          may = each.may;
          once = each.once;
          payloads = each.payloads;
          calls = stops.calls;
        }
