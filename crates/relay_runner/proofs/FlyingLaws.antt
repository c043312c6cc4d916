-- What flies on links, as packets: what is put flies besides, and a flight that is taken is a delivery of one of the packets.
use Rattle.std.specs.Prelude.{◌≡◌, ◌≤◌, ◌+◌, ◌^◌, ◌++◌, ◌∷◌, ℕ, Bool, true, false, All, Contains, IsPermutation, List, [], drop, if◌then◌else◌, length, take}
use Rattle.std.specs.Int.{from_be_bytes, to_be_bytes, w32}
use Rattle.std.proofs.Common.{◌∙◌, ap, arith, inl, inr, subst, sym}
use Rattle.std.proofs.lemmas.List.{get_or-map, length-map, take-append-drop}
use Rattle.std.proofs.lemmas.List.Elements.{All-contains, All-cons, All-head, All-tail}
use Rattle.std.proofs.lemmas.List.Sorted.{All-permutation, IsPermutation-append_right, IsPermutation-map, IsPermutation-middle, IsPermutation-refl, IsPermutation-sym, IsPermutation-trans}
use Rattle.std.proofs.lemmas.Nat.{from_be_bytes-to_be_bytes_4}
use Rattle.coded_traffic.specs.Traffic.{IsKey, Window, key_of}
use Rattle.generation_frame.specs.Frames.{Fits, frame_of, packet_in}
use Rattle.generation_frame.specs.declared.frame.Packet.{Packet}
use Rattle.lif_outside.specs.Moves.{FollowMoves, InFlight, IsTaken, address_bytes}
use Rattle.lif_outside.specs.declared.links.Flight.{Flight}
use Rattle.node_program.specs.declared.code.Code.{Code}
use Rattle.node_stations.specs.Putting.{flight_of, puts_of}
use Rattle.relay_core.specs.Core.{Delivery}
use Rattle.relay_runner.specs.Delivered.{IsDelivered}
use Rattle.relay_runner.specs.Showing.{IsPair, packets_in}

-- a frame of a packet has the packet's fields
pub packet_in-frame_of : (packet : Packet) → Fits packet → packet_in (frame_of packet) ≡ packet
packet_in-frame_of packet fits =
    ap (λ link. record packet { link = link; generation = from_be_bytes w32 (to_be_bytes w32 packet.generation) }) (from_be_bytes-to_be_bytes_4 packet.link fits.link)
    ∙ ap (λ generation. record packet { generation = generation }) (from_be_bytes-to_be_bytes_4 packet.generation fits.generation)

-- so the pair of a packet is one of a link and its frame
pub pair-of : (packet : Packet) → Fits packet → IsPair (flight_of packet)
pair-of packet fits = ap flight_of (packet_in-frame_of packet fits)

-- packets fly besides what flew
pub record PutsFly (packets : List Packet) (old new : List Flight) : Type 0 where
  pub flies : IsPermutation (packets ++ packets_in old) (packets_in new)
  pub pairs : All IsPair new

-- what flies, as packets, after a permutation
packets_in-permutation : (old new : List Flight) → IsPermutation old new → IsPermutation (packets_in old) (packets_in new)
packets_in-permutation = IsPermutation-map (λ flight. packet_in flight.frame)

-- packets that are put fly
pub puts-fly : (faithful : Bool) (packets : List Packet) (old new : InFlight) → All Fits packets → FollowMoves faithful (puts_of packets) old new
    → All IsPair old.flying → PutsFly packets old.flying new.flying
puts-fly faithful [] old new fit is pairs =
    subst (λ (held : InFlight). PutsFly [] old.flying held.flying) (sym is) (record { flies = IsPermutation-refl (packets_in old.flying); pairs = pairs })
puts-fly faithful (packet ∷ packets) old new fit is pairs =
    let mid : InFlight = is.0 in
    let first : Fits packet = All-head Fits packet packets fit in
    let rest = puts-fly faithful packets mid new (All-tail Fits packet packets fit) is.2
    (All-permutation IsPair (flight_of packet ∷ old.flying) mid.flying is.1.flying
    (All-cons IsPair (flight_of packet) old.flying (pair-of packet first) pairs)) in
    let one : IsPermutation (packet ∷ packets_in old.flying) (packets_in mid.flying) =
    subst (λ (p : Packet). IsPermutation (p ∷ packets_in old.flying) (packets_in mid.flying)) (packet_in-frame_of packet first)
    (packets_in-permutation (flight_of packet ∷ old.flying) mid.flying is.1.flying) in
    let here : IsPermutation (packet ∷ (packets ++ packets_in old.flying)) (packets ++ packet ∷ packets_in old.flying) =
    IsPermutation-sym (packets ++ packet ∷ packets_in old.flying) (packet ∷ (packets ++ packets_in old.flying))
    (IsPermutation-middle packets packet (packets_in old.flying)) in
    let more : IsPermutation (packets ++ packet ∷ packets_in old.flying) (packets ++ packets_in mid.flying) =
    IsPermutation-append_right packets (packet ∷ packets_in old.flying) (packets_in mid.flying) one in
    record {
      flies = IsPermutation-trans (packet ∷ (packets ++ packets_in old.flying)) (packets ++ packet ∷ packets_in old.flying) (packets_in new.flying) here
          (IsPermutation-trans (packets ++ packet ∷ packets_in old.flying) (packets ++ packets_in mid.flying) (packets_in new.flying) more rest.flies);
      pairs = rest.pairs;
    }

-- the packet of a pair that flies is among the packets that do
packets_in-contains : (flying : List Flight) (pair : Flight) → Contains flying pair → Contains (packets_in flying) (packet_in pair.frame)
packets_in-contains flying pair flew =
    let read : Flight → Packet = λ flight. packet_in flight.frame in (
      flew.0,
      omega (arith, flew.1, length-map flying read),
      get_or-map read flying flew.0 pair (packet_in pair.frame) flew.1 ∙ ap read flew.2,
    )

-- a flight that was taken is of a packet that flew
pub taken-delivers : (faithful : Bool) (flight : Flight) (old new : InFlight) → All IsPair old.flying → All Fits (packets_in old.flying)
    → IsTaken faithful flight old new → (delivery : Delivery) × IsDelivered faithful flight delivery old.flying new.flying
taken-delivers faithful flight old new pairs fit taken = elim taken.after [
  | inl leaves ↦ (
    delivery false,
    delivered false (packets_in-permutation old.flying (pair ∷ new.flying) leaves.flying)
        (All-tail IsPair pair new.flying (All-permutation IsPair old.flying (pair ∷ new.flying) leaves.flying pairs)),
  )
  | inr stays ↦ (
    delivery true,
    delivered true
        (subst (λ (flying : List Flight). IsPermutation (packets_in old.flying) (packets_in flying)) (sym stays.same_flying)
        (IsPermutation-refl (packets_in old.flying)))
        (subst (All IsPair) (sym stays.same_flying) pairs),
  )
]
  where
    pair : Flight
    pair = taken.pair

    put : Packet
    put = packet_in pair.frame

    delivery : Bool → Delivery
    delivery stays = record { pair = put; stays = stays; payload = drop address_bytes flight.frame }

    -- the pair is that of its packet
    of_packet : flight_of put ≡ pair
    of_packet = All-contains IsPair old.flying pair pairs taken.flew

    same_link : flight.link ≡ put.link
    same_link = taken.same_link ∙ sym (ap (λ (f : Flight). f.link) of_packet)

    same_frame : flight.frame ≡ frame_of (record put { payload = drop address_bytes flight.frame })
    same_frame =
        sym (take-append-drop 12 flight.frame)
        ∙ ap (λ (head : List ℕ). head ++ drop 12 flight.frame) (taken.same_address ∙ sym (ap (λ (f : Flight). take address_bytes f.frame) of_packet))

    delivered : (stays : Bool) → IsPermutation (packets_in old.flying) (if stays then packets_in new.flying else put ∷ packets_in new.flying)
        → All IsPair new.flying → IsDelivered faithful flight (delivery stays) old.flying new.flying
    delivered stays flies after =
        record {
          given = λ i. record { link = same_link i; frame = same_frame i };
          flew = packets_in-contains old.flying pair taken.flew;
          as_put = λ as_put. ap (λ (f : Flight). drop address_bytes f.frame) (taken.as_put as_put);
          flies = flies;
          pairs = after;
        }

-- a packet of the traffic of generations that can be numbered fits into a frame
pub fits-key : (code : Code) (pattern : ℕ) (window : Window) (packet : Packet) → window.first + length window.blocks ≤ 2 ^ 32
    → IsKey code pattern window (key_of packet) → Fits packet
fits-key code pattern window packet short is =
    record {
      link = omega (arith, is.of_link, code.net.network.few_links);
      generation = omega (arith, is.numbered, short);
      piece = is.of_piece;
    }
