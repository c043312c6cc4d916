-- Keys among packets.
use Rattle.std.specs.Prelude.{◌≡◌, ◌≤◌, ◌+◌, ◌&&◌, ◌||◌, ◌==◌, ℕ, Bool, true, false, cond, IsPermutation, List, [], ◌∷◌, ◌++◌, All, count_by, filter, map}
use Rattle.std.proofs.Common.{inl, inr, refl, sym, ap, ◌∙◌}
use Rattle.std.proofs.lemmas.Bool.{and_from, and_parts, cases_Bool, eq-eqb, eqb-true, false≢true}
use Rattle.std.proofs.lemmas.List.Elements.{All-head, All-tail}
use Rattle.std.proofs.lemmas.List.Folds.{fold-map, list_any-append}
use Rattle.std.proofs.lemmas.List.Sorted.{list_any-IsPermutation}
use Rattle.std.proofs.lemmas.List.Sums.{sum_by-append}
use Rattle.generation_frame.specs.declared.frame.Packet.{Packet}
use Rattle.coded_traffic.specs.Traffic.{Key, is_same_key, key_of}
use Rattle.relay_core.specs.Core.{Delivery, has_key, held_after, payload_of, times_of}
use Rattle.relay_core.proofs.ListLaws.{count-none, count-some}

-- keys that the test finds the same are one
pub same_key : (one other : Key) → is_same_key one other ≡ true → one ≡ other
same_key one other same =
    let parts = and_parts (one.link == other.link && one.generation == other.generation) (one.piece == other.piece) same in
    let firsts = and_parts (one.link == other.link) (one.generation == other.generation) parts.0 in
    let link : one.link ≡ other.link = eqb-true one.link other.link firsts.0 in
    let generation : one.generation ≡ other.generation = eqb-true one.generation other.generation firsts.1 in
    let piece : one.piece ≡ other.piece = eqb-true one.piece other.piece parts.1 in
    λ i. record { link = link i; generation = generation i; piece = piece i }

-- and it finds each the same as itself
pub itself : (key : Key) → is_same_key key key ≡ true
itself key =
    and_from (key.link == key.link && key.generation == key.generation) (key.piece == key.piece)
    (and_from (key.link == key.link) (key.generation == key.generation) (eq-eqb key.link key.link refl) (eq-eqb key.generation key.generation refl))
    (eq-eqb key.piece key.piece refl)

-- how often a key stands among packets, by their keys
pub times_of-map : (key : Key) (packets : List Packet) → times_of key packets ≡ count_by (λ other. is_same_key other key) (map key_of packets)
times_of-map key packets = sym (fold-map (λ (n : ℕ) other. n + cond (is_same_key other key) 1 0) key_of 0 packets)

-- a key that stands among packets at least once, and one that doesn't
pub times-has : (key : Key) (packets : List Packet) → has_key key packets ≡ true → 1 ≤ times_of key packets
times-has key packets has = count-some (λ packet. is_same_key (key_of packet) key) packets has

pub times-none : (key : Key) (packets : List Packet) → has_key key packets ≡ false → times_of key packets ≡ 0
times-none key packets none = count-none (λ packet. is_same_key (key_of packet) key) packets none

-- how often a key stands among two lists
pub times_of-append : (key : Key) (packets others : List Packet) → times_of key (packets ++ others) ≡ times_of key packets + times_of key others
times_of-append key = sum_by-append (λ packet. cond (is_same_key (key_of packet) key) 1 0)

-- whether a key stands among two lists, and after a permutation
pub has_key-append : (key : Key) (packets others : List Packet) → has_key key (packets ++ others) ≡ (has_key key packets || has_key key others)
has_key-append key = list_any-append (λ packet. is_same_key (key_of packet) key)

pub has_key-permutation : (key : Key) (packets others : List Packet) → IsPermutation packets others → has_key key packets ≡ has_key key others
has_key-permutation key = list_any-IsPermutation (λ packet. is_same_key (key_of packet) key)

-- a key among packets of which the first may be left out
has_key-cond : (b : Bool) (key : Key) (packet : Packet) (others : List Packet)
    → has_key key (cond b (packet ∷ others) others) ≡ ((b && is_same_key (key_of packet) key) || has_key key others)
has_key-cond true key packet others = refl
has_key-cond false key packet others = refl

-- a test of one of two things that is the same for both
test_either : (own test same rest : Bool) → (same ≡ true → own ≡ test) → ((own && same) || (test && rest)) ≡ (test && (same || rest))
test_either own true true rest alike = rw (alike refl) refl
test_either own false true rest alike = rw (alike refl) refl
test_either true test false rest alike = refl
test_either false test false rest alike = refl

-- a key among packets that are chosen by their links
pub has_key-passing : (test : ℕ → Bool) (key : Key) (packets : List Packet)
    → has_key key (filter (λ packet. test packet.link) packets) ≡ (test key.link && has_key key packets)
has_key-passing test key [] = elim (cases_Bool (test key.link)) [ inl passes ↦ rw passes refl | inr fails ↦ rw fails refl ]
has_key-passing test key (packet ∷ packets) =
    has_key-cond (test packet.link) key packet (filter (λ other. test other.link) packets)
    ∙ ap (λ b. (test packet.link && is_same_key (key_of packet) key) || b) (has_key-passing test key packets)
    ∙ test_either (test packet.link) (test key.link) (is_same_key (key_of packet) key) (has_key key packets)
    (λ same. ap (λ (k : Key). test k.link) (same_key (key_of packet) key same))

-- what is held after a delivery
pub has_key-held_after : (key : Key) (delivery : Delivery) (held : List Packet)
    → has_key key (held_after delivery held) ≡ (is_same_key (key_of delivery.pair) key || has_key key held)
has_key-held_after key delivery held = elim (cases_Bool (has_key (key_of delivery.pair) held)) [
  | inl has ↦ rw has (elim (cases_Bool (is_same_key (key_of delivery.pair) key)) [
    | inl same ↦ rw same (ap (λ other. has_key other held) (sym (same_key (key_of delivery.pair) key same)) ∙ has)
    | inr apart ↦ rw apart refl
  ])
  | inr none ↦ rw none refl
]

-- where the payload of each packet is known by its key, so is that which is found of a key
pub payload_of-known : (known : Key → List ℕ) (key : Key) (packets : List Packet) → All (λ packet. packet.payload ≡ known (key_of packet)) packets
    → has_key key packets ≡ true → payload_of packets key ≡ known key
payload_of-known known key [] are has = absurd (false≢true has)
payload_of-known known key (packet ∷ packets) are has = elim (cases_Bool (is_same_key (key_of packet) key)) [
  | inl same ↦ rw same (All-head (λ packet. packet.payload ≡ known (key_of packet)) packet packets are ∙ ap known (same_key (key_of packet) key same))
  | inr apart ↦ rw apart (payload_of-known known key packets (All-tail (λ packet. packet.payload ≡ known (key_of packet)) packet packets are) (rw apart at has))
]
