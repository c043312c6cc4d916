-- What came first of each key, told by the packets that links gave.
use Rattle.std.specs.Prelude.{◌≡◌, ◌≤◌, ◌+◌, ◌^◌, ◌∷◌, ℕ, Bool, true, false, All, List, [], if◌then◌else◌, length, map}
use Rattle.std.proofs.Common.{◌∙◌, ap, get_or, inl, inr, refl, sym}
use Rattle.std.proofs.lemmas.Bool.{cases_Bool, false≢true, or_left, or_right}
use Rattle.std.proofs.lemmas.List.Elements.{All-cons, All-contains, All-head, All-nil, All-tail, All-weaker}
use Rattle.coded_traffic.specs.Traffic.{IsKey, Key, Window, is_same_key, key_of}
use Rattle.generation_frame.specs.Frames.{Fits}
use Rattle.generation_frame.specs.declared.frame.Packet.{Packet}
use Rattle.lif_outside.specs.declared.links.Flight.{Flight}
use Rattle.node_program.specs.declared.code.Code.{Code}
use Rattle.node_stations.proofs.DeliveryLaws.{payload_of-other}
use Rattle.node_stations.proofs.GivingLaws.{or_none}
use Rattle.node_stations.specs.Putting.{flight_of}
use Rattle.relay_core.proofs.Kept.{Kept}
use Rattle.relay_core.proofs.OpeningLaws.{opening-kept}
use Rattle.relay_core.proofs.PacketLaws.{has_key-held_after, same_key}
use Rattle.relay_core.proofs.StepLaws.{step-kept}
use Rattle.relay_core.specs.Core.{Delivery, IsRun, RelayState, has_key, held_after, held_of, opening, payload_of}
use Rattle.relay_runner.proofs.FlyingLaws.{fits-key, packet_in-frame_of}
use Rattle.relay_runner.proofs.StepLaws.{has_key-at}
use Rattle.relay_runner.specs.Delivered.{packet_given}
use Rattle.relay_runner.specs.Showing.{packets_in}

module _ (key : Key) where
  -- of a key that doesn't stand among packets no payload is found
  pub payload-none : (packets : List Packet) → has_key key packets ≡ false → payload_of packets key ≡ []
  payload-none [] none = refl
  payload-none (packet ∷ packets) none = elim (cases_Bool (is_same_key (key_of packet) key)) [
    | inl same ↦ absurd (false≢true (sym none ∙ or_left (is_same_key (key_of packet) key) (has_key key packets) same))
    | inr apart ↦ rw apart (payload-none packets (or_none (is_same_key (key_of packet) key) (has_key key packets) none))
  ]

  -- what is held after a delivery of the key, where it was held, and where it wasn't
  after-known : (delivery : Delivery) (held : List Packet) → is_same_key (key_of delivery.pair) key ≡ true → has_key key held ≡ true
      → held_after delivery held ≡ held
  after-known delivery held same has =
      ap (λ (known : Bool). if known then held else packet_given delivery ∷ held)
      (ap (λ (k : Key). has_key k held) (same_key (key_of delivery.pair) key same) ∙ has)

  after-new : (delivery : Delivery) (held : List Packet) → is_same_key (key_of delivery.pair) key ≡ true → has_key key held ≡ false
      → held_after delivery held ≡ packet_given delivery ∷ held
  after-new delivery held same none =
      ap (λ (known : Bool). if known then held else packet_given delivery ∷ held)
      (ap (λ (k : Key). has_key k held) (same_key (key_of delivery.pair) key same) ∙ none)

  -- a payload that is held stays
  payload-known : (run : List Delivery) (held : List Packet) → has_key key held ≡ true → payload_of (held_of run held) key ≡ payload_of held key
  payload-known [] held has = refl
  payload-known (delivery ∷ run) held has =
      payload-known run (held_after delivery held)
      (has_key-held_after key delivery held ∙ or_right (is_same_key (key_of delivery.pair) key) (has_key key held) has)
      ∙ elim (cases_Bool (is_same_key (key_of delivery.pair) key)) [
        | inl same ↦ ap (λ (packets : List Packet). payload_of packets key) (after-known delivery held same has)
        | inr apart ↦ payload_of-other key delivery held apart
      ]

  -- and one that isn't held is the first that is given
  payload-new : (run : List Delivery) (held : List Packet) → has_key key held ≡ false
      → payload_of (held_of run held) key ≡ payload_of (map packet_given run) key
  payload-new [] held none = payload-none held none
  payload-new (delivery ∷ run) held none = elim (cases_Bool (is_same_key (key_of delivery.pair) key)) [
    | inl same ↦
        let held_then : has_key key (held_after delivery held) ≡ true =
        has_key-held_after key delivery held ∙ or_left (is_same_key (key_of delivery.pair) key) (has_key key held) same in
        payload-known run (held_after delivery held) held_then
        ∙ ap (λ (packets : List Packet). payload_of packets key) (after-new delivery held same none)
        ∙ rw same refl
    | inr apart ↦
        payload-new run (held_after delivery held) (has_key-held_after key delivery held ∙ rw apart none)
        ∙ rw apart refl
  ]

-- the payload held of a key after a run is the first that was given of it
pub payload-given : (run : List Delivery) (key : Key) → payload_of (held_of run []) key ≡ payload_of (map packet_given run) key
payload-given run key = payload-new key run [] refl

module _ (code : Code) (pattern : ℕ) (window : Window) where
  abbrev OfKey : Packet → Type 0
  OfKey packet = IsKey code pattern window (key_of packet)

  -- the pairs that the steps of a run name are of the traffic
  run-keys : (run : List Delivery) (old new : RelayState) → IsRun code pattern run old new → Kept code pattern window old
      → All (λ delivery. IsKey code pattern window (key_of delivery.pair)) run
  run-keys [] old new is kept = All-nil (λ (d : Delivery). OfKey d.pair)
  run-keys (delivery ∷ run) old new is kept =
      let flying : All OfKey old.flying =
      λ k d within.
      let key = key_of (get_or old.flying k d) in
      kept.of_traffic key (kept.sent_is key ∙ or_left (has_key key old.flying) (has_key key old.held) (has_key-at old.flying k d within)) in
      All-cons (λ (d : Delivery). OfKey d.pair) delivery run (All-contains OfKey old.flying delivery.pair flying is.1.flew)
      (run-keys run is.0 new is.2 (step-kept code pattern window delivery old is.0 is.1 kept))

  -- so the packets given fit into frames
  pub run-fit : (run : List Delivery) (state : RelayState) → window.first + length window.blocks ≤ 2 ^ 32
      → IsRun code pattern run (opening code pattern window) state → All (λ delivery. Fits (packet_given delivery)) run
  run-fit run state short is =
      All-weaker (λ (d : Delivery). OfKey d.pair) (λ (d : Delivery). Fits (packet_given d))
      (λ delivery is_key. fits-key code pattern window (packet_given delivery) short is_key)
      run (run-keys run (opening code pattern window) state is (opening-kept code pattern window))

-- and the frames of packets that fit give them back
pub packets_in-given : (run : List Delivery) → All (λ delivery. Fits (packet_given delivery)) run
    → packets_in (map (λ delivery. flight_of (packet_given delivery)) run) ≡ map packet_given run
packets_in-given [] fit = refl
packets_in-given (delivery ∷ run) fit =
    let FitsGiven : Delivery → Type 0 = λ d. Fits (packet_given d) in
    ap (λ (packet : Packet). packet ∷ packets_in (map (λ d. flight_of (packet_given d)) run))
    (packet_in-frame_of (packet_given delivery) (All-head FitsGiven delivery run fit))
    ∙ ap (λ (packets : List Packet). packet_given delivery ∷ packets) (packets_in-given run (All-tail FitsGiven delivery run fit))

-- the payload held of a key after a run is that of the first packet of the key among the flights that were given
pub payload-flights : (code : Code) (pattern : ℕ) (window : Window) (run : List Delivery) (state : RelayState) (flights : List Flight)
    → window.first + length window.blocks ≤ 2 ^ 32 → IsRun code pattern run (opening code pattern window) state
    → flights ≡ map (λ delivery. flight_of (packet_given delivery)) run
    → (key : Key) → payload_of (held_of run []) key ≡ payload_of (packets_in flights) key
payload-flights code pattern window run state flights short is gives key =
    payload-given run key
    ∙ ap (λ (packets : List Packet). payload_of packets key)
    (sym (ap (λ (all : List Flight). packets_in all) gives ∙ packets_in-given run (run-fit code pattern window run state short is)))
