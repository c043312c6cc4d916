-- The core: how the traffic of numbered blocks goes through a network, step by step, whatever the order of delivery. A
-- step uses the payloads at hand and knows no block.
use Rattle.std.specs.Prelude.{◌≡◌, ◌↔◌, ◌≤◌, ◌++◌, ◌∷◌, ℕ, Bool, true, false, Contains, IsPermutation, List, [], All, count_by, filter, if◌then◌else◌, map}
use Rattle.std.specs.List.{list_all, list_any}
use Rattle.generation_frame.specs.declared.frame.Packet.{Packet}
use Rattle.net_model.specs.Walks.{head_of, leaves_source, tail_of}
use Rattle.node_program.specs.CodeValue.{is_live_in}
use Rattle.node_program.specs.declared.code.Code.{Code}
use Rattle.coded_traffic.specs.Traffic.{Key, Window, is_same_key, key_of, keys_of, live_operands, packet_of, sum_of}

-- how often a key stands among packets, and whether it does
abbrev pub times_of : Key → List Packet → ℕ
times_of key packets = count_by (λ packet. is_same_key (key_of packet) key) packets

abbrev pub has_key : Key → List Packet → Bool
has_key key packets = list_any (λ packet. is_same_key (key_of packet) key) packets

-- the payload of the first packet of a key
abbrev pub payload_of : List Packet → Key → List ℕ
payload_of [] key = []
payload_of (packet ∷ packets) key =
    if is_same_key (key_of packet) key then packet.payload else payload_of packets key

-- the packets of the traffic
abbrev pub packets_of : Code → ℕ → Window → List Packet
packets_of code pattern window = map (packet_of code pattern window) (keys_of code pattern window)

-- what flies, what was held by nodes and sinks, and all that was sent
pub record RelayState : Type 0 where
  pub flying : List Packet
  pub held : List Packet
  pub sent : List Packet

-- in the opening state the traffic on links that leave the source flies, and nothing is held
abbrev pub opening : Code → ℕ → Window → RelayState
opening code pattern window =
    let packets = filter (λ packet. leaves_source code.net packet.link) (packets_of code pattern window) in
    record { flying = packets; held = []; sent = packets }

-- the same generation and piece on another link
abbrev pub key_on : ℕ → Key → Key
key_on link key = record { link = link; generation = key.generation; piece = key.piece }

-- all live operands of a link are held, for the generation and the piece of a key
abbrev pub has_operands : Code → ℕ → List Packet → Key → Bool
has_operands code pattern held key =
    list_all (λ operand. has_key (key_on operand.from key) held) (live_operands code pattern key.link)

-- the sum over the live operands of the coefficient times the payload held
abbrev pub summed : Code → ℕ → List Packet → Key → List ℕ
summed code pattern held key =
    sum_of code.field (live_operands code pattern key.link) (λ operand. payload_of held (key_on operand.from key))

-- what a step names: a flying pair, whether it stays, and the payload that is given
pub record Delivery : Type 0 where
  pub pair : Packet
  pub stays : Bool
  pub payload : List ℕ

-- what is held after it: the first payload given of a key stays
abbrev pub held_after : Delivery → List Packet → List Packet
held_after delivery held =
    if has_key (key_of delivery.pair) held then held
    else record delivery.pair { payload = delivery.payload } ∷ held

-- and after some deliveries
abbrev pub held_of : List Delivery → List Packet → List Packet
held_of [] held = held
held_of (delivery ∷ run) held = held_of run (held_after delivery held)

-- A key that a node may send: its link is live and leaves the node but not the source, its operands are held, and it
-- wasn't sent yet.
pub record MaySend (code : Code) (pattern node : ℕ) (held sent : List Packet) (key : Key) : Type 0 where
  pub live : is_live_in code pattern key.link ≡ true
  pub from_node : tail_of code.net.links key.link ≡ node
  pub not_source : leaves_source code.net key.link ≡ false
  pub operands : has_operands code pattern held key ≡ true
  pub unsent : has_key key sent ≡ false

-- the packets that a node sends: one for each key that it may send, with the sum as its payload
pub record AreSent (code : Code) (pattern node : ℕ) (held sent more : List Packet) : Type 0 where
  pub once : (key : Key) → times_of key more ≤ 1
  pub keys : (key : Key) → (has_key key more ≡ true) ↔ MaySend code pattern node held sent key
  pub payloads : All (λ packet. packet.payload ≡ summed code pattern held (key_of packet)) more

-- A step: a flying pair is given to the node at its link's head, which sends what this lets it send. Then what flew and
-- what is sent flies, but for the pair where it doesn't stay.
pub record IsStep (code : Code) (pattern : ℕ) (delivery : Delivery) (old new : RelayState) : Type 0 where
  pub flew : Contains old.flying delivery.pair
  pub held : new.held ≡ held_after delivery old.held
  pub more : List Packet
  pub sends : AreSent code pattern (head_of code.net.links delivery.pair.link) new.held old.sent more
  pub sent : IsPermutation (more ++ old.sent) new.sent
  pub flying : IsPermutation (more ++ old.flying) (if delivery.stays then new.flying else delivery.pair ∷ new.flying)

-- a run is any list of steps
abbrev pub IsRun : Code → ℕ → List Delivery → RelayState → RelayState → Type 0
IsRun code pattern [] old new = new ≡ old
IsRun code pattern (delivery ∷ run) old new =
    (mid : RelayState) × IsStep code pattern delivery old mid × IsRun code pattern run mid new

-- each step gives the payload of the pair that it names
abbrev pub IsFaithful : List Delivery → Type 0
IsFaithful run = All (λ delivery. delivery.payload ≡ delivery.pair.payload) run
