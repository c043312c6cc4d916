-- What was sent in a run says where it comes from. What is held after a run follows from its deliveries alone.
use Rattle.std.specs.Prelude.{◌≡◌, ◌++◌, ℕ, true, false, List, [], ◌∷◌, All}
use Rattle.std.proofs.Common.{get_or, inl, inr, refl, sym, ap, subst, ◌∙◌}
use Rattle.std.proofs.lemmas.Bool.{both_ways, cases_Bool, or_right}
use Rattle.std.proofs.lemmas.List.Elements.{All-append, All-weaker, filter_passes}
use Rattle.std.proofs.lemmas.List.Folds.{list_any_at}
use Rattle.std.proofs.lemmas.List.Sorted.{All-permutation}
use Rattle.coded_traffic.proofs.SumLaws.{sum_of-agree}
use Rattle.generation_frame.specs.declared.frame.Packet.{Packet}
use Rattle.net_model.proofs.NetworkLaws.{passes_at}
use Rattle.net_model.specs.Walks.{leaves_source}
use Rattle.node_program.specs.declared.Operand.{Operand}
use Rattle.node_program.specs.declared.code.Code.{Code}
use Rattle.coded_traffic.specs.Traffic.{Key, Window, is_same_key, key_of, live_operands, packet_of}
use Rattle.relay_core.specs.Core.{Delivery, IsRun, IsStep, RelayState, has_key, has_operands, held_after, held_of, key_on, opening, packets_of, payload_of, summed}
use Rattle.relay_core.specs.Runs.{AreRelayed}
use Rattle.relay_core.proofs.ListLaws.{all_pass}
use Rattle.relay_core.proofs.OpeningLaws.{opening-faithful}
use Rattle.relay_core.proofs.PacketLaws.{has_key-held_after, itself, same_key}

module _ (delivery : Delivery) (held : List Packet) where
  -- what was held stays held
  has_key-stays : (key : Key) → has_key key held ≡ true → has_key key (held_after delivery held) ≡ true
  has_key-stays key has = has_key-held_after key delivery held ∙ or_right (is_same_key (key_of delivery.pair) key) (has_key key held) has

  -- with the payload that was held first
  payload_of-stays : (key : Key) → has_key key held ≡ true → payload_of (held_after delivery held) key ≡ payload_of held key
  payload_of-stays key has = elim (cases_Bool (has_key (key_of delivery.pair) held)) [
    | inl was ↦ rw was refl
    | inr none ↦ rw none (elim (cases_Bool (is_same_key (key_of delivery.pair) key)) [
      | inl same ↦ absurd (both_ways (has_key key held) (ap (λ other. has_key other held) (sym (same_key (key_of delivery.pair) key same)) ∙ none) has)
      | inr apart ↦ rw apart refl
    ])
  ]

-- what is held after a run
pub first-held : (code : Code) (pattern : ℕ) (run : List Delivery) (old new : RelayState) → IsRun code pattern run old new → new.held ≡ held_of run old.held
first-held code pattern [] old new is = ap (λ (state : RelayState). state.held) is
first-held code pattern (delivery ∷ run) old new is = first-held code pattern run is.0 new is.2 ∙ ap (held_of run) is.1.held

module _ (code : Code) (pattern : ℕ) (window : Window) where
  -- where one packet comes from, with its operands held
  record ComesFrom (held : List Packet) (packet : Packet) : Type 0 where
    from_source : leaves_source code.net packet.link ≡ true → packet ≡ packet_of code pattern window (key_of packet)
    other : leaves_source code.net packet.link ≡ false → packet.payload ≡ summed code pattern held (key_of packet)
    operands : leaves_source code.net packet.link ≡ false → has_operands code pattern held (key_of packet) ≡ true

  module _ (delivery : Delivery) (held : List Packet) (key : Key) (all : has_operands code pattern held key ≡ true) where
    -- the live operands of the key's link
    abbrev live : List Operand
    live = live_operands code pattern key.link

    -- the operands are held, one by one
    each-held : All (λ operand. has_key (key_on operand.from key) held ≡ true) live
    each-held k d within = passes_at (λ operand. has_key (key_on operand.from key) held) live k d all within

    -- operands that are held stay held
    operands-stay : has_operands code pattern (held_after delivery held) key ≡ true
    operands-stay =
        all_pass (λ operand. has_key (key_on operand.from key) held ≡ true)
        (λ operand. has_key (key_on operand.from key) (held_after delivery held)) live
        (λ operand has. has_key-stays delivery held (key_on operand.from key) has) each-held

    -- and so does the sum over them
    summed-stays : summed code pattern held key ≡ summed code pattern (held_after delivery held) key
    summed-stays =
        sum_of-agree code.field live (λ operand. payload_of held (key_on operand.from key))
        (λ operand. payload_of (held_after delivery held) (key_on operand.from key))
        (λ k d within. sym (payload_of-stays delivery held (key_on (get_or live k d).from key) (each-held k d within)))

  -- a packet that was sent still says where it comes from
  comes-stays : (delivery : Delivery) (held : List Packet) (packet : Packet) → ComesFrom held packet → ComesFrom (held_after delivery held) packet
  comes-stays delivery held packet comes = record {
    from_source = comes.from_source;
    other = λ inner. comes.other inner ∙ summed-stays delivery held (key_of packet) (comes.operands inner);
    operands = λ inner. operands-stay delivery held (key_of packet) (comes.operands inner);
  }

  -- each step keeps where what was sent comes from
  step-comes : (delivery : Delivery) (old new : RelayState) → IsStep code pattern delivery old new
      → All (ComesFrom old.held) old.sent → All (ComesFrom new.held) new.sent
  step-comes delivery old new step are =
      All-permutation (ComesFrom new.held) (step.more ++ old.sent) new.sent step.sent (All-append (ComesFrom new.held) step.more old.sent more-come
      (subst (λ (held : List Packet). All (ComesFrom held) old.sent) (sym step.held)
      (All-weaker (ComesFrom old.held) (ComesFrom (held_after delivery old.held)) (comes-stays delivery old.held) old.sent are)))
    where
      more-come : All (ComesFrom new.held) step.more
      more-come k d within =
          let packet = get_or step.more k d in
          let key = key_of packet in
          let may = (step.sends.keys key).0 (list_any_at (λ other. is_same_key (key_of other) key) step.more k d within (itself key)) in
          record {
            from_source = λ leaves. absurd (both_ways (leaves_source code.net packet.link) may.not_source leaves);
            other = λ inner. step.sends.payloads k d within;
            operands = λ inner. may.operands;
          }

  -- and so does a run
  run-comes : (run : List Delivery) (old new : RelayState) → IsRun code pattern run old new
      → All (ComesFrom old.held) old.sent → All (ComesFrom new.held) new.sent
  run-comes [] old new is are = subst (λ (state : RelayState). All (ComesFrom state.held) state.sent) (sym is) are
  run-comes (delivery ∷ run) old new is are = run-comes run is.0 new is.2 (step-comes delivery old is.0 is.1 are)

  -- what is sent first leaves the source and is of the traffic
  opening-comes : All (ComesFrom []) (opening code pattern window).sent
  opening-comes k d within =
      let packet = get_or (opening code pattern window).sent k d in
      let leaves : leaves_source code.net packet.link ≡ true =
      filter_passes (λ packet. leaves_source code.net packet.link) (packets_of code pattern window) k d within in
      record {
        from_source = λ leaves. (opening-faithful code pattern window).sent k d within;
        other = λ inner. absurd (both_ways (leaves_source code.net packet.link) inner leaves);
        operands = λ inner. absurd (both_ways (leaves_source code.net packet.link) inner leaves);
      }

  -- what was sent in a run comes from what is held after it
  sent-comes : (run : List Delivery) (state : RelayState) → IsRun code pattern run (opening code pattern window) state
      → All (ComesFrom state.held) state.sent
  sent-comes run state is = run-comes run (opening code pattern window) state is opening-comes

  -- packets that say where they come from
  come-relayed : (held sent : List Packet) → All (ComesFrom held) sent → AreRelayed code pattern window held sent
  come-relayed held sent come =
      record {
        from_source = λ k d within. (come k d within).from_source;
        others = λ k d within. (come k d within).other;
      }

  -- what was sent in a run says where it comes from
  pub run-relayed : (run : List Delivery) (state : RelayState) → IsRun code pattern run (opening code pattern window) state
      → AreRelayed code pattern window state.held state.sent
  run-relayed run state is = come-relayed state.held state.sent (sent-comes run state is)

  -- and so it does with what is held after one more delivery
  pub relayed-after : (run : List Delivery) (state : RelayState) → IsRun code pattern run (opening code pattern window) state → (delivery : Delivery)
      → AreRelayed code pattern window (held_after delivery state.held) state.sent
  relayed-after run state is delivery =
      let now = held_after delivery state.held in
      come-relayed now state.sent
      (All-weaker (ComesFrom state.held) (ComesFrom now) (comes-stays delivery state.held) state.sent (sent-comes run state is))
