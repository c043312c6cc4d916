-- Packets given and put, one after another.
use Rattle.std.specs.Prelude.{◌≡◌, ◌≤◌, ◌<◌, ◌+◌, ◌-◌, ◌++◌, ℕ, Bool, false, List, [], ◌∷◌, length}
use Rattle.std.specs.List.{list_any}
use Rattle.std.proofs.Common.{refl, ap, subst, ◌∙◌, arith}
use Rattle.std.proofs.lemmas.List.{length-append}
use Rattle.std.proofs.lemmas.List.Sorted.{length_permutation}
use Rattle.generation_frame.specs.Frames.{frame_of}
use Rattle.generation_frame.specs.declared.frame.Packet.{Packet}
use Rattle.lif_outside.specs.Moves.{FollowMoves, InFlight, Move, is_open, put, put_failed}
use Rattle.relay_node.specs.Relay.{Gives, Relay}
use Rattle.node_stations.specs.Putting.{flight_of, puts_of}
use Rattle.node_stations.specs.Shown.{GivesEach}

-- packets given, and then one more
pub gives_more : (packets : List Packet) (packet : Packet) (old mid new : Relay) → GivesEach old packets mid → Gives packet mid new
    → GivesEach old (packets ++ packet ∷ []) new
gives_more [] packet old mid new is gives = (new, subst (λ (r : Relay). Gives packet r new) is gives, refl)
gives_more (first ∷ packets) packet old mid new given gives = (given.0, given.1, gives_more packets packet given.0 mid new given.2 gives)

-- puts, and then one more
pub puts_more : (packets : List Packet) (packet : Packet) → puts_of packets ++ put (flight_of packet) ∷ [] ≡ puts_of (packets ++ packet ∷ [])
puts_more [] packet = refl
puts_more (first ∷ packets) packet = ap (λ (moves : List Move). put (flight_of first) ∷ moves) (puts_more packets packet)

-- puts open nothing
pub puts-closed : (packets : List Packet) → list_any is_open (puts_of packets) ≡ false
puts-closed [] = refl
puts-closed (packet ∷ packets) = puts-closed packets

-- a put of the frame made of a packet, and one that failed
module _ (P : Move → Type 0) (packet : Packet) (frame : List ℕ) (made : frame ≡ frame_of packet) where
  pub put_of : P (put (record { link = packet.link; frame = frame })) → P (put (flight_of packet))
  put_of is = subst (λ (f : List ℕ). P (put (record { link = packet.link; frame = f }))) made is

  pub failed_of : P (put_failed (record { link = packet.link; frame = frame })) → P (put_failed (flight_of packet))
  failed_of is = subst (λ (f : List ℕ). P (put_failed (record { link = packet.link; frame = f }))) made is

-- as many pairs fly more as were put, and the room stays
pub record AddsFlying (count : ℕ) (old new : InFlight) : Type 0 where
  pub flying : length new.flying ≡ length old.flying + count
  pub room : new.room ≡ old.room

pub puts-fly : (faithful : Bool) (packets : List Packet) (old new : InFlight) → FollowMoves faithful (puts_of packets) old new → AddsFlying (length packets) old new
puts-fly faithful [] old new is =
    record {
      flying = omega (arith, ap (λ (held : InFlight). length held.flying) is);
      room = ap (λ (held : InFlight). held.room) is;
    }
puts-fly faithful (packet ∷ packets) old new is =
    let rest = puts-fly faithful packets is.0 new is.2 in
    record {
      flying = omega (arith, rest.flying, length_permutation (flight_of packet ∷ old.flying) is.0.flying is.1.flying);
      room = rest.room ∙ is.1.as_opened.same_room;
    }

-- where there was room for one more, there still is
pub has_room : (faithful : Bool) (packets : List Packet) (packet : Packet) (old new : InFlight) → FollowMoves faithful (puts_of packets) old new
    → length old.flying + length (packets ++ packet ∷ []) ≤ old.room → length new.flying < new.room
has_room faithful packets packet old new follows fits =
    let adds = puts-fly faithful packets old new follows in
    omega (arith, adds.flying, adds.room, fits, length-append packets (packet ∷ []))

-- a put leaves less
pub less_room : (faithful : Bool) (packet : Packet) (old new : InFlight) → FollowMoves faithful (puts_of (packet ∷ [])) old new
    → length old.flying < old.room → new.room - length new.flying < old.room - length old.flying
less_room faithful packet old new follows room =
    let adds = puts-fly faithful (packet ∷ []) old new follows in
    omega (arith, adds.flying, adds.room, room)
