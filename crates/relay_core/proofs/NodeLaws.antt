-- What a node may send once a pair is given to it: only of the pair's generation and piece, on links that read the pair's
-- link, and nothing where the pair's key was held.
use Rattle.std.specs.Prelude.{◌≡◌, ℕ, Bool, true, false, Contains, []}
use Rattle.std.proofs.Common.{arith, inl, inr, sym, ap, ◌∙◌}
use Rattle.std.proofs.lemmas.Bool.{both_ways, cases_Bool, false≢true, or_cases}
use Rattle.std.proofs.lemmas.List.Elements.{All-contains_itself, All-nil}
use Rattle.node_program.specs.declared.Operand.{Operand}
use Rattle.node_program.specs.declared.code.Code.{Code}
use Rattle.coded_traffic.specs.Traffic.{Key, Window, is_same_key, key_of, live_operands}
use Rattle.relay_core.specs.Core.{AreSent, Delivery, MaySend, RelayState, has_key, has_operands, held_after, key_on, summed}
use Rattle.relay_core.proofs.Kept.{Kept, held-is}
use Rattle.relay_core.proofs.ListLaws.{both, failing}
use Rattle.relay_core.proofs.PacketLaws.{has_key-held_after, same_key}
use Rattle.relay_core.proofs.StepLaws.{operands-are}

module _ (code : Code) (pattern : ℕ) (window : Window) (state : RelayState) (kept : Kept code pattern window state) (node : ℕ) where
  -- by what is held nothing may be sent any more
  pub none-may : (key : Key) → MaySend code pattern node state.held state.sent key → ⊥
  none-may key may =
      both_ways (has_key key state.sent) may.unsent
      (kept.saturated key (operands-are code pattern window state.held (held-is code pattern window state kept) key may.live may.operands) may.not_source may.operands)

  -- so nothing is sent once a pair is given whose key was held
  pub none-again : (delivery : Delivery) → has_key (key_of delivery.pair) state.held ≡ true
      → AreSent code pattern node (held_after delivery state.held) state.sent []
  none-again delivery has = record {
    once = λ key. omega arith;
    keys = λ key. (λ none. absurd (false≢true none), λ may. absurd (none-may key (rw has at may)));
    payloads = All-nil (λ packet. packet.payload ≡ summed code pattern (held_after delivery state.held) (key_of packet));
  }

  -- what may be sent once a pair is given reads the pair, which wasn't held
  pub may-reads : (delivery : Delivery) (key : Key) → MaySend code pattern node (held_after delivery state.held) state.sent key
      → (operand : Operand) × Contains (live_operands code pattern key.link) operand × (key_of delivery.pair ≡ key_on operand.from key)
      × (has_key (key_of delivery.pair) state.held ≡ false)
  may-reads delivery key may = elim (cases_Bool (has_operands code pattern state.held key)) [
    | inl all ↦ absurd (none-may key (record { live = may.live; from_node = may.from_node; not_source = may.not_source; operands = all; unsent = may.unsent }))
    | inr some ↦
        let live = live_operands code pattern key.link in
        let reads : Operand → Bool = λ operand. has_key (key_on operand.from key) (held_after delivery state.held) in
        let found = failing (λ operand. Contains live operand × (reads operand ≡ true)) (λ operand. has_key (key_on operand.from key) state.held) live some
        (both (Contains live) reads live (All-contains_itself live) may.operands) in
        let other = key_on found.0.from key in
        elim (or_cases (is_same_key (key_of delivery.pair) other) (has_key other state.held) (sym (has_key-held_after other delivery state.held) ∙ found.2.1)) [
          | inl same ↦
              let is = same_key (key_of delivery.pair) other same in
              (found.0, found.2.0, is, ap (λ k. has_key k state.held) is ∙ found.1)
          | inr held ↦ absurd (both_ways (has_key other state.held) found.1 held)
        ]
  ]
