-- The opening state.
use Rattle.std.specs.Prelude.{◌≡◌, ◌≤◌, ◌&&◌, ◌||◌, ℕ, Bool, true, false, List, [], All, filter}
use Rattle.std.proofs.Common.{arith, refl, sym, ◌∙◌}
use Rattle.std.proofs.lemmas.Bool.{and_from, and_parts, false≢true}
use Rattle.std.proofs.lemmas.List.Elements.{All-filter, All-map, All-nil}
use Rattle.generation_frame.specs.declared.frame.Packet.{Packet}
use Rattle.net_model.specs.Walks.{leaves_source}
use Rattle.node_program.proofs.LiveLaws.{live-reads}
use Rattle.node_program.specs.CodeValue.{reads_live_in}
use Rattle.node_program.specs.Value.{operands_at}
use Rattle.node_program.specs.declared.code.Code.{Code}
use Rattle.coded_traffic.specs.Traffic.{IsKey, Key, Window, is_same_key, key_of, keys_of, packet_of}
use Rattle.relay_core.specs.Core.{has_key, has_operands, key_on, opening, packets_of, times_of}
use Rattle.relay_core.specs.Runs.{AreOfTraffic, IsOfTraffic}
use Rattle.relay_core.proofs.Kept.{Kept}
use Rattle.relay_core.proofs.ListLaws.{both_pass, count-filter}
use Rattle.relay_core.proofs.PacketLaws.{has_key-passing}
use Rattle.relay_core.proofs.TrafficLaws.{has_key-packets, is_key-packets, once-packets}

module _ (code : Code) (pattern : ℕ) (window : Window) where
  -- what flies first
  abbrev first : List Packet
  first = filter (λ packet. leaves_source code.net packet.link) (packets_of code pattern window)

  pub has_key-first : (key : Key) → has_key key first ≡ (leaves_source code.net key.link && has_key key (packets_of code pattern window))
  has_key-first key = has_key-passing (leaves_source code.net) key (packets_of code pattern window)

  once : (key : Key) → times_of key first ≤ 1
  once key = omega (
    arith,
    once-packets code pattern window key,
    count-filter (λ packet. is_same_key (key_of packet) key) (λ packet. leaves_source code.net packet.link) (packets_of code pattern window),
  )

  either_none : (b : Bool) → b ≡ (b || false)
  either_none true = refl
  either_none false = refl

  -- where nothing is held no live link has all of its operands
  none_held : (key : Key) → IsKey code pattern window key → has_operands code pattern [] key ≡ true → ⊥
  none_held key is all =
      let found = both_pass (reads_live_in code pattern key.link) (λ operand. has_key (key_on operand.from key) [])
      (operands_at code.operands key.link) (live-reads code pattern key.link is.live) all in
      false≢true found.2

  pub opening-kept : Kept code pattern window (opening code pattern window)
  opening-kept = record {
    flying_once = once;
    held_once = λ key. omega arith;
    sent_once = once;
    sent_is = λ key. either_none (has_key key first);
    of_traffic = λ key has. is_key-packets code pattern window key (and_parts _ _ (sym (has_key-first key) ∙ has)).1;
    opened = λ key is leaves. has_key-first key ∙ and_from _ _ leaves (has_key-packets code pattern window key is);
    saturated = λ key is inner all. absurd (none_held key is all);
  }

  pub opening-faithful : IsOfTraffic code pattern window (opening code pattern window)
  opening-faithful =
      let Is : Packet → Type 0 = λ packet. packet ≡ packet_of code pattern window (key_of packet) in
      let all : All Is (packets_of code pattern window) = All-map Is (packet_of code pattern window) (keys_of code pattern window) (λ k d within. refl) in
      let are : AreOfTraffic code pattern window first = All-filter (λ packet. leaves_source code.net packet.link) Is (packets_of code pattern window) all in
      record { flying = are; held = All-nil Is; sent = are }
