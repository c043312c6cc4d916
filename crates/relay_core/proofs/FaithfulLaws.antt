-- Where each payload is given as it was sent, all packets are those of the traffic.
use Rattle.std.specs.Prelude.{◌≡◌, ◌≤◌, ◌<◌, ◌+◌, ◌-◌, ◌++◌, ◌∷◌, ℕ, Bool, true, false, List, [], All, if◌then◌else◌, length}
use Rattle.std.proofs.Common.{arith, get_or, inl, inr, refl, sym, ap, subst, ◌∙◌}
use Rattle.std.proofs.lemmas.Bool.{cases_Bool}
use Rattle.std.proofs.lemmas.List.Elements.{All-append, All-contains, All-cons, All-get_or, All-tail, All-weaker}
use Rattle.std.proofs.lemmas.List.Folds.{list_any_at}
use Rattle.std.proofs.lemmas.List.Sorted.{All-permutation}
use Rattle.generation_frame.specs.declared.frame.Packet.{Packet}
use Rattle.net_model.proofs.NetworkLaws.{passes_at}
use Rattle.net_model.specs.Walks.{leaves_source}
use Rattle.node_program.specs.declared.code.Code.{Code}
use Rattle.coded_traffic.proofs.SumLaws.{payload-sum, sum_of-agree}
use Rattle.coded_traffic.specs.CodeBlocks.{IsBlockOf}
use Rattle.coded_traffic.specs.Traffic.{IsKey, Key, Window, block_at, is_same_key, key_of, live_operands, operand_payload, packet_of, payload_in}
use Rattle.relay_core.specs.Core.{Delivery, IsStep, RelayState, has_key, has_operands, key_on, payload_of, summed}
use Rattle.relay_core.specs.Runs.{AreOfTraffic, IsOfTraffic}
use Rattle.relay_core.proofs.Kept.{Kept}
use Rattle.relay_core.proofs.PacketLaws.{itself, payload_of-known}
use Rattle.relay_core.proofs.StepLaws.{more-is}

module _ (code : Code) (pattern : ℕ) (window : Window) (blocks : All (IsBlockOf code) window.blocks) where
  abbrev Is : Packet → Type 0
  Is packet = packet ≡ packet_of code pattern window (key_of packet)

  -- the block of a begun generation
  block-is : (generation : ℕ) → window.first ≤ generation → generation < window.first + length window.blocks → IsBlockOf code (block_at window generation)
  block-is generation begun numbered =
      All-get_or (IsBlockOf code) window.blocks (generation - window.first) [] (omega (arith, begun, numbered)) blocks

  -- the sum over what is held is the traffic's payload
  pub summed-is : (held : List Packet) (key : Key) → AreOfTraffic code pattern window held → IsKey code pattern window key → leaves_source code.net key.link ≡ false
      → has_operands code pattern held key ≡ true → summed code pattern held key ≡ (packet_of code pattern window key).payload
  summed-is held key are is inner all =
      let live = live_operands code pattern key.link in
      let block = block_at window key.generation in
      let known : Key → List ℕ = λ key. (packet_of code pattern window key).payload in
      let payloads = All-weaker Is (λ packet. packet.payload ≡ known (key_of packet)) (λ packet same. ap (λ (p : Packet). p.payload) same) held are in
      let agree : All (λ operand. payload_of held (key_on operand.from key) ≡ payload_in code pattern block key.piece operand.from) live =
      λ k d within. payload_of-known known (key_on (get_or live k d).from key) held payloads
      (passes_at (λ operand. has_key (key_on operand.from key) held) live k d all within) in
      sum_of-agree code.field live (λ operand. payload_of held (key_on operand.from key)) (λ operand. payload_in code pattern block key.piece operand.from) agree
      ∙ sym (payload-sum code pattern block (block-is key.generation is.begun is.numbered) key.piece is.of_piece key.link is.live
      ∙ sum_of-agree code.field live (operand_payload code block key.piece (payload_in code pattern block key.piece) key.link)
      (λ operand. payload_in code pattern block key.piece operand.from) (λ k d within. rw inner refl))

  module _ (delivery : Delivery) (old new : RelayState) (step : IsStep code pattern delivery old new) (kept : Kept code pattern window old)
      (faithful : IsOfTraffic code pattern window old) (given : delivery.payload ≡ delivery.pair.payload) where
    held-are : AreOfTraffic code pattern window new.held
    held-are = subst (All Is) (sym step.held) (elim (cases_Bool (has_key (key_of delivery.pair) old.held)) [
      | inl has ↦ rw has faithful.held
      | inr none ↦ rw none (All-cons Is (record delivery.pair { payload = delivery.payload }) old.held
          (ap (λ payload. record delivery.pair { payload = payload }) given ∙ All-contains Is old.flying delivery.pair faithful.flying step.flew) faithful.held)
    ])

    more-are : AreOfTraffic code pattern window step.more
    more-are k d within =
        let packet = get_or step.more k d in
        let key = key_of packet in
        let has : has_key key step.more ≡ true = list_any_at (λ other. is_same_key (key_of other) key) step.more k d within (itself key) in
        let may = (step.sends.keys key).0 has in
        let is = more-is code pattern window delivery old new step kept key has in
        let payload : packet.payload ≡ (packet_of code pattern window key).payload =
        step.sends.payloads k d within ∙ summed-is new.held key held-are is may.not_source may.operands in
        ap (λ payload. record packet { payload = payload }) payload

    pub step-faithful : IsOfTraffic code pattern window new
    step-faithful = record {
      flying = by delivery.stays (All-permutation Is (step.more ++ old.flying) _ step.flying (All-append Is step.more old.flying more-are faithful.flying));
      held = held-are;
      sent = All-permutation Is (step.more ++ old.sent) new.sent step.sent (All-append Is step.more old.sent more-are faithful.sent);
    }
      where
        by : (stays : Bool) → All Is (if stays then new.flying else delivery.pair ∷ new.flying) → All Is new.flying
        by true all = all
        by false all = All-tail Is delivery.pair new.flying all
