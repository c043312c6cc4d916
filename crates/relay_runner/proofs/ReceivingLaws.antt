-- A packet that came to a sink is held as the core says.
use Rattle.std.specs.Prelude.{◌≡◌, ℕ, true, false, IfSome, List, Option, Some, None}
use Rattle.std.proofs.Common.{inl, inr, sym, ap, subst, ◌∙◌}
use Rattle.std.proofs.lemmas.Bool.{cases_Bool}
use Rattle.coded_traffic.specs.Traffic.{Window, key_of}
use Rattle.generation_frame.specs.declared.frame.Packet.{Packet}
use Rattle.node_program.specs.declared.code.Code.{Code}
use Rattle.node_stations.proofs.SinkLaws.{shows-unwanted, shows_sink-known, shows_sink-new}
use Rattle.node_stations.specs.Delivering.{AtSink, SinkTakes}
use Rattle.node_stations.specs.Shown.{IsWanted, ShowsSink}
use Rattle.relay_core.specs.Core.{Delivery, held_after}
use Rattle.sink_decoder.specs.Receiving.{Receiver, SinkPlan, has_piece, sink_plan_of, wants}
use Rattle.relay_runner.specs.Passing.{ComesToSink}

module _ (code : Code) (demand : ℕ) (window : Window) (delivery : Delivery) (held : List Packet) (packet : Packet) (old new : Receiver)
    (comes : ComesToSink code demand window delivery held packet old) (takes : SinkTakes packet old new) where
  taken : SinkTakes (record delivery.pair { payload = delivery.payload }) old new
  taken = subst (λ (p : Packet). SinkTakes p old new) comes.is takes

  pub received : ShowsSink code demand window new (held_after delivery held)
  received = elim (cases_Bool (wants (sink_plan_of code demand) delivery.pair.link)) [
    | inl wanted ↦
        let want : wants old.plan delivery.pair.link ≡ true = ap (λ (plan : SinkPlan). wants plan delivery.pair.link) comes.shows.plan ∙ wanted in
        let is : IsWanted code demand window (key_of delivery.pair) =
        record { wanted = wanted; begun = comes.begun; numbered = comes.numbered; of_piece = comes.of_piece } in
        elim (cases_Bool (has_piece old delivery.pair.generation delivery.pair.link delivery.pair.piece)) [
          | inl came ↦
              subst (λ (sink : Receiver). ShowsSink code demand window sink (held_after delivery held)) (sym (taken.known want came))
              (shows_sink-known code demand window delivery held is old comes.shows came)
          | inr absent ↦ shows_sink-new code demand window delivery held is old new comes.shows absent (taken.gained want absent)
        ]
    | inr unwanted ↦
        let leaves : wants old.plan delivery.pair.link ≡ false = ap (λ (plan : SinkPlan). wants plan delivery.pair.link) comes.shows.plan ∙ unwanted in
        subst (λ (sink : Receiver). ShowsSink code demand window sink (held_after delivery held)) (sym (taken.unwanted leaves))
        (shows-unwanted code demand window delivery held old comes.shows unwanted)
  ]

-- and so it is at a node with a sink
module _ (code : Code) (demand : ℕ) (window : Window) (delivery : Delivery) (held : List Packet) (packet : Packet) where
  pub received_at : (old new : Option Receiver) → AtSink (SinkTakes packet) old new → (sink : Receiver) → old ≡ Some sink
      → ComesToSink code demand window delivery held packet sink → IfSome new (λ after. ShowsSink code demand window after (held_after delivery held))
  received_at None new takes sink is comes = cc
  received_at (Some old) new takes sink is comes =
      let same : old ≡ sink = cc in
      subst (λ (after : Option Receiver). IfSome after (λ a. ShowsSink code demand window a (held_after delivery held))) (sym takes.1)
      (received code demand window delivery held packet old takes.0 (subst (ComesToSink code demand window delivery held packet) (sym same) comes) takes.2)
