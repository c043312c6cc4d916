-- What was sent, told by what came: the payloads that came first are those held.
use Rattle.std.specs.Prelude.{◌≡◌, ◌++◌, ◌∷◌, ℕ, List, [], map}
use Rattle.std.proofs.Common.{◌∙◌, ap, get_or, refl, sym}
use Rattle.coded_traffic.specs.Traffic.{Key, Window, key_of, live_operands, sum_of}
use Rattle.generation_frame.specs.declared.frame.Packet.{Packet}
use Rattle.node_program.specs.declared.code.Code.{Code}
use Rattle.relay_core.proofs.RelayedLaws.{first-held, run-relayed}
use Rattle.relay_core.specs.Core.{Delivery, IsRun, RelayState, held_after, held_of, key_on, opening, payload_of, summed}
use Rattle.relay_core.specs.Runs.{AreRelayed}
use Rattle.relay_runner.proofs.GivenLaws.{payload-given}
use Rattle.relay_runner.specs.Delivered.{packet_given}

-- what is held after deliveries, and then more
held_of-append : (run later : List Delivery) (held : List Packet) → held_of (run ++ later) held ≡ held_of later (held_of run held)
held_of-append [] later held = refl
held_of-append (delivery ∷ run) later held = held_of-append run later (held_after delivery held)

module _ (code : Code) (pattern : ℕ) (window : Window) where
  -- sums of what is held are sums of what came, where the payloads held are those that came first
  pub relayed-told : (held came sent : List Packet) → ((key : Key) → payload_of held key ≡ payload_of came key)
      → AreRelayed code pattern window held sent → AreRelayed code pattern window came sent
  relayed-told held came sent first relayed =
      let same : (key : Key) → summed code pattern held key ≡ summed code pattern came key =
      λ key i. sum_of code.field (live_operands code pattern key.link) (λ operand. first (key_on operand.from key) i) in
      record {
        from_source = relayed.from_source;
        others = λ k d within inner. relayed.others k d within inner ∙ same (key_of (get_or sent k d));
      }

  module _ (run : List Delivery) (state : RelayState) (is : IsRun code pattern run (opening code pattern window) state) where
    held-is : state.held ≡ held_of run []
    held-is = first-held code pattern run (opening code pattern window) state is

    -- the payloads held after a run, and after one more delivery
    held-came : (key : Key) → payload_of state.held key ≡ payload_of (map packet_given run) key
    held-came key = ap (λ (held : List Packet). payload_of held key) held-is ∙ payload-given run key

    pub after-came : (delivery : Delivery) (key : Key)
        → payload_of (held_after delivery state.held) key ≡ payload_of (map packet_given (run ++ delivery ∷ [])) key
    after-came delivery key =
        ap (λ (held : List Packet). payload_of (held_after delivery held) key) held-is
        ∙ ap (λ (held : List Packet). payload_of held key) (sym (held_of-append run (delivery ∷ []) []))
        ∙ payload-given (run ++ delivery ∷ []) key

    -- what was sent in a run comes from the blocks, or is the sum of what came
    pub sent-told : AreRelayed code pattern window (map packet_given run) state.sent
    sent-told = relayed-told state.held (map packet_given run) state.sent held-came (run-relayed code pattern window run state is)
