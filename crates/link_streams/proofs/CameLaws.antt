-- What has come of links in a generation, as streams are taken in one after another, and that it is what their packets say.
use Rattle.std.specs.Prelude.{◌≡◌, ◌<◌, ◌≤◌, ◌+◌, ◌*◌, ◌||◌, ℕ, zero, suc, Bool, true, false, All, Contains, List, [], ◌∷◌, ◌++◌, length, map}
use Rattle.std.proofs.Common.{refl, sym, ap, subst, ◌∙◌, arith, get_or, inl, inr}
use Rattle.std.proofs.Math.Bool.{or-true}
use Rattle.std.proofs.lemmas.Bool.{and_parts, cases_Bool, cases_lt, false≢true, true≢false}
use Rattle.std.proofs.lemmas.List.{get_or-map, get_or_read, length-map}
use Rattle.std.proofs.lemmas.List.Elements.{All-contains, All-from_get_or, All-head, All-tail}
use Rattle.std.proofs.lemmas.List.Folds.{list_any_at, list_any_none}
use Rattle.coded_traffic.specs.Traffic.{Key, is_same_key, key_of}
use Rattle.generation_frame.specs.Blocks.{pieces}
use Rattle.generation_frame.specs.Frames.{Fits}
use Rattle.generation_frame.specs.declared.frame.Packet.{Packet}
use Rattle.net_model.proofs.RisingLaws.{rising-below}
use Rattle.net_model.specs.Lists.{is_rising}
use Rattle.relay_core.proofs.PacketLaws.{has_key-append, itself, same_key}
use Rattle.relay_core.specs.Core.{has_key, payload_of}
use Rattle.link_streams.proofs.StreamLaws.{has_place-found}
use Rattle.link_streams.specs.Streams.{HasGeneration, IsStream, Stream, all_packets, has_place, place_of}

-- the key of a piece on a link in a generation
abbrev pub key_at : ℕ → ℕ → ℕ → Key
key_at generation link piece = record { link = link; generation = generation; piece = piece }

-- which pieces of links have come, and their bytes
pub record Came : Type 0 where
  pub has : ℕ → ℕ → Bool
  pub bytes : ℕ → ℕ → List ℕ

-- a piece of a link stays as it was
pub record StaysPiece (old new : Came) (link piece : ℕ) : Type 0 where
  pub has : new.has link piece ≡ old.has link piece
  pub bytes : new.bytes link piece ≡ old.bytes link piece

-- one more piece came
pub record GainsPiece (Among : ℕ → Type 0) (link piece : ℕ) (payload : List ℕ) (old new : Came) : Type 0 where
  pub came : new.has link piece ≡ true
  pub bytes : new.bytes link piece ≡ payload
  pub others : (l p : ℕ) → Among l → p < pieces → ((l ≡ link) × (p ≡ piece) → ⊥) → StaysPiece old new l p

-- the first pieces of a stream came
pub record GainsPieces (Among : ℕ → Type 0) (stream : Stream) (generation count : ℕ) (old new : Came) : Type 0 where
  pub came : (p : ℕ) → p < count → new.has stream.link p ≡ true
  pub bytes : (p : ℕ) → p < count → new.bytes stream.link p ≡ payload_of stream.packets (key_at generation stream.link p)
  pub others : (l p : ℕ) → Among l → p < pieces → ((l ≡ stream.link) × (p < count) → ⊥) → StaysPiece old new l p

module _ (Among : ℕ → Type 0) (stream : Stream) (generation count : ℕ) (payload : List ℕ) (old mid new : Came) (among : Among stream.link) (low : count < pieces)
    (so_far : GainsPieces Among stream generation count old mid) (gains : GainsPiece Among stream.link count payload mid new)
    (same : payload ≡ payload_of stream.packets (key_at generation stream.link count)) where
  pub gained_more : GainsPieces Among stream generation (count + 1) old new
  gained_more = record {
    came = λ p below. elim (cases_lt p count) [
      | inl before ↦ (stays p before).has ∙ so_far.came p before
      | inr here ↦ subst (λ q. new.has stream.link q ≡ true) (at p below here) gains.came
    ];
    bytes = λ p below. elim (cases_lt p count) [
      | inl before ↦ (stays p before).bytes ∙ so_far.bytes p before
      | inr here ↦
          subst (λ q. new.bytes stream.link q ≡ payload_of stream.packets (key_at generation stream.link q)) (at p below here) (gains.bytes ∙ same)
    ];
    others = λ l p is below apart.
        let first = gains.others l p is below (λ equal. apart (equal.0, omega (arith, equal.1))) in
        let before = so_far.others l p is below (λ equal. apart (equal.0, omega (arith, equal.1))) in
        record { has = first.has ∙ before.has; bytes = first.bytes ∙ before.bytes };
  }
    where
      at : (p : ℕ) → p < count + 1 → count ≤ p → count ≡ p
      at p below here = omega arith

      stays : (p : ℕ) → p < count → StaysPiece mid new stream.link p
      stays p before = gains.others stream.link p among (omega arith) (λ equal. omega (arith, equal.1, before))

-- in a stream the payload found of a packet's key is the packet's
payload_of-at : (packets : List Packet) (i : ℕ) (d : Packet) → is_rising (map place_of packets) ≡ true → i < length packets
    → payload_of packets (key_of (get_or packets i d)) ≡ (get_or packets i d).payload
payload_of-at [] i d rising within = absurd (omega arith)
payload_of-at (one ∷ rest) zero d rising within = rw (itself (key_of one)) refl
payload_of-at (one ∷ rest) (suc i) d rising within =
    let found = get_or rest i d in
    let inside : i < length rest = omega arith in
    let below : place_of one < get_or (map place_of rest) i 0 =
    rising-below (map place_of (one ∷ rest)) zero (suc i) rising (omega arith) (omega (arith, inside, length-map rest place_of)) in
    let there : get_or (map place_of rest) i 0 ≡ place_of found = get_or-map place_of rest i d 0 inside in
    let apart : is_same_key (key_of one) (key_of found) ≡ false = elim (cases_Bool (is_same_key (key_of one) (key_of found))) [
      | inl same ↦
          let places : place_of one ≡ place_of found = ap (λ (key : Key). key.generation * pieces + key.piece) (same_key (key_of one) (key_of found) same) in
          absurd (omega (arith, below, there, places))
      | inr other ↦ other
    ] in
    rw apart (payload_of-at rest i d (and_parts _ _ rising).1 inside)

-- the packet that stands in a stream at the place of a piece
module _ (stream : Stream) (generation piece : ℕ) (packet : Packet) (is : IsStream stream) (low : piece < pieces)
    (stands : Contains stream.packets packet) (place : place_of packet ≡ generation * pieces + piece) where
  pub fits-found : Fits packet
  fits-found = All-contains Fits stream.packets packet is.fit stands

  pub link-found : packet.link ≡ stream.link
  link-found = All-contains (λ (one : Packet). one.link ≡ stream.link) stream.packets packet is.of_link stands

  pub piece-found : packet.piece ≡ piece
  piece-found = omega (arith, place, low, fits-found.piece)

  pub generation-found : packet.generation ≡ generation
  generation-found = omega (arith, place, low, fits-found.piece)

  key-found : key_of packet ≡ key_at generation stream.link piece
  key-found = λ i. record { link = link-found i; generation = generation-found i; piece = piece-found i }

  pub payload-found : packet.payload ≡ payload_of stream.packets (key_at generation stream.link piece)
  payload-found =
      sym (ap (λ (one : Packet). one.payload) stands.2)
      ∙ sym (payload_of-at stream.packets stands.0 packet is.rising stands.1)
      ∙ ap (λ (one : Packet). payload_of stream.packets (key_of one)) stands.2
      ∙ ap (payload_of stream.packets) key-found

-- no packet of another link has a key
has_key-elsewhere : (packets : List Packet) (link : ℕ) (key : Key) → All (λ packet. packet.link ≡ link) packets → (link ≡ key.link → ⊥) → has_key key packets ≡ false
has_key-elsewhere packets link key of_link apart =
    list_any_none (λ packet. is_same_key (key_of packet) key) packets (λ k d within.
    let packet = get_or packets k d in
    elim (cases_Bool (is_same_key (key_of packet) key)) [
      | inl same ↦ absurd (apart (sym (of_link k d within) ∙ ap (λ (key : Key). key.link) (same_key (key_of packet) key same)))
      | inr other ↦ other
    ])

-- a stream that has a generation has the keys of its pieces
has_key-whole : (stream : Stream) (generation piece : ℕ) → IsStream stream → piece < pieces → has_place stream.packets (generation * pieces + piece) ≡ true
    → has_key (key_at generation stream.link piece) stream.packets ≡ true
has_key-whole stream generation piece is low has =
    let found = has_place-found stream.packets (generation * pieces + piece) has in
    let key = key_at generation stream.link piece in
    let same : key_of found.0 ≡ key = key-found stream generation piece found.0 is low found.1 found.2 in
    let at : key_of (get_or stream.packets found.1.0 found.0) ≡ key = ap key_of found.1.2 ∙ same in
    list_any_at (λ packet. is_same_key (key_of packet) key) stream.packets found.1.0 found.0 found.1.1 (ap (λ k. is_same_key k key) at ∙ itself key)

-- a key among packets, and its payload, by whether it stands among the first ones
payload_of-front : (packets more : List Packet) (key : Key) → has_key key packets ≡ true → payload_of (packets ++ more) key ≡ payload_of packets key
payload_of-front [] more key has = absurd (false≢true has)
payload_of-front (packet ∷ packets) more key has = elim (cases_Bool (is_same_key (key_of packet) key)) [
  | inl same ↦ rw same refl
  | inr apart ↦ rw apart (payload_of-front packets more key (rw apart at has))
]

payload_of-back : (packets more : List Packet) (key : Key) → has_key key packets ≡ false → payload_of (packets ++ more) key ≡ payload_of more key
payload_of-back [] more key none = refl
payload_of-back (packet ∷ packets) more key none = elim (cases_Bool (is_same_key (key_of packet) key)) [
  | inl same ↦ absurd (true≢false (rw same at none))
  | inr apart ↦ rw apart (payload_of-back packets more key (rw apart at none))
]

-- the stream at a place among some, and its link
abbrev pub stream_at : List Stream → ℕ → Stream
stream_at streams k = get_or streams k (record { link = 0; packets = [] })

abbrev pub link_at : List Stream → ℕ → ℕ
link_at streams k = (stream_at streams k).link

abbrev pub stream_links : List Stream → List ℕ
stream_links streams = map (λ stream. stream.link) streams

-- the stream that a loop over some has reached
pub reached : (items streams : List Stream) (place : ℕ) (stream : Stream) → items ≡ streams → place < length items → stream ≡ get_or items place stream
    → (place < length streams) × (stream ≡ stream_at streams place)
reached items streams place stream same within is =
    (omega (arith, within, ap (length {A = Stream}) same), get_or_read items place stream within is (record { link = 0; packets = [] }) ∙ ap (λ (all : List Stream). stream_at all place) same)

link_at-below : (streams : List Stream) (i j : ℕ) → is_rising (stream_links streams) ≡ true → i < j → j < length streams → link_at streams i < link_at streams j
link_at-below streams i j rising before within =
    let link : Stream → ℕ = λ stream. stream.link in
    let nothing : Stream = record { link = 0; packets = [] } in
    let below = rising-below (stream_links streams) i j rising before (omega (arith, within, length-map streams link)) in
    let low : i < length streams = omega (arith, before, within) in
    let one : get_or (stream_links streams) i 0 ≡ link_at streams i = get_or-map link streams i nothing 0 low in
    let other : get_or (stream_links streams) j 0 ≡ link_at streams j = get_or-map link streams j nothing 0 within in
    omega (arith, below, one, other)

-- where the links of streams rise, a key that one has stands among the packets of all with the payload that it has there
module _ (key : Key) where
  pub payload_of-all : (streams : List Stream) (k : ℕ) → All IsStream streams → is_rising (stream_links streams) ≡ true → k < length streams → key.link ≡ link_at streams k
      → has_key key (stream_at streams k).packets ≡ true → payload_of (all_packets streams) key ≡ payload_of (stream_at streams k).packets key
  payload_of-all [] k are rising within of_link has = absurd (omega arith)
  payload_of-all (stream ∷ rest) zero are rising within of_link has = payload_of-front stream.packets (all_packets rest) key has
  payload_of-all (stream ∷ rest) (suc k) are rising within of_link has =
      let before = link_at-below (stream ∷ rest) zero (suc k) rising (omega arith) within in
      payload_of-back stream.packets (all_packets rest) key
      (has_key-elsewhere stream.packets stream.link key (All-head IsStream stream rest are).of_link (λ same. omega (arith, before, same, of_link)))
      ∙ payload_of-all rest k (All-tail IsStream stream rest are) (and_parts _ _ rising).1 (omega arith) of_link has

  pub has_key-all : (streams : List Stream) (k : ℕ) → k < length streams → has_key key (stream_at streams k).packets ≡ true → has_key key (all_packets streams) ≡ true
  has_key-all [] k within has = absurd (omega arith)
  has_key-all (stream ∷ rest) zero within has = has_key-append key stream.packets (all_packets rest) ∙ ap (λ b. b || has_key key (all_packets rest)) has
  has_key-all (stream ∷ rest) (suc k) within has =
      has_key-append key stream.packets (all_packets rest)
      ∙ ap (λ b. has_key key stream.packets || b) (has_key-all rest k (omega arith) has) ∙ or-true (has_key key stream.packets)

-- streams before a place came whole, and nothing of the others
pub record AreTaken (streams : List Stream) (generation count : ℕ) (now : Came) : Type 0 where
  pub are : (k : ℕ) → k < count → IsStream (stream_at streams k)
  pub came : (k p : ℕ) → k < count → p < pieces → now.has (link_at streams k) p ≡ true
  pub bytes : (k p : ℕ) → k < count → p < pieces
      → now.bytes (link_at streams k) p ≡ payload_of (stream_at streams k).packets (key_at generation (link_at streams k) p)
  pub none : (k p : ℕ) → count ≤ k → k < length streams → p < pieces → now.has (link_at streams k) p ≡ false

module _ (Among : ℕ → Type 0) (streams : List Stream) (generation count : ℕ) (old new : Came) (rising : is_rising (stream_links streams) ≡ true)
    (among : (k : ℕ) → k < length streams → Among (link_at streams k)) (within : count < length streams) (is : IsStream (stream_at streams count))
    (so_far : AreTaken streams generation count old) (gains : GainsPieces Among (stream_at streams count) generation pieces old new) where
  stays : (k p : ℕ) → k < length streams → p < pieces → (k ≡ count → ⊥) → StaysPiece old new (link_at streams k) p
  stays k p inside low apart = gains.others (link_at streams k) p (among k inside) low (λ equal. elim (cases_lt k count) [
    | inl before ↦ let below = link_at-below streams k count rising before within in omega (arith, below, equal.0)
    | inr behind ↦ let above = link_at-below streams count k rising (omega (arith, behind, apart)) inside in omega (arith, above, equal.0)
  ])

  at : (k : ℕ) → k < count + 1 → count ≤ k → count ≡ k
  at k below here = omega arith

  pub taken_more : AreTaken streams generation (count + 1) new
  taken_more = record {
    are = λ k below. elim (cases_lt k count) [
      | inl before ↦ so_far.are k before
      | inr here ↦ subst (λ n. IsStream (stream_at streams n)) (at k below here) is
    ];
    came = λ k p below low. elim (cases_lt k count) [
      | inl before ↦ (stays k p (omega (arith, before)) low (λ same. omega (arith, same, before))).has ∙ so_far.came k p before low
      | inr here ↦ subst (λ n. new.has (link_at streams n) p ≡ true) (at k below here) (gains.came p low)
    ];
    bytes = λ k p below low. elim (cases_lt k count) [
      | inl before ↦ (stays k p (omega (arith, before)) low (λ same. omega (arith, same, before))).bytes ∙ so_far.bytes k p before low
      | inr here ↦
          subst (λ n. new.bytes (link_at streams n) p ≡ payload_of (stream_at streams n).packets (key_at generation (link_at streams n) p)) (at k below here)
          (gains.bytes p low)
    ];
    none = λ k p behind inside low.
        (stays k p inside low (λ same. omega (arith, same, behind))).has ∙ so_far.none k p (omega (arith, behind)) inside low;
  }

-- all streams came
module _ (streams : List Stream) (generation : ℕ) (now : Came) (rising : is_rising (stream_links streams) ≡ true) (whole : All (HasGeneration generation) streams)
    (taken : AreTaken streams generation (length streams) now) (link piece : ℕ) (stands : Contains (stream_links streams) link) (low : piece < pieces) where
  abbrev key : Key
  key = key_at generation link piece

  abbrev k : ℕ
  k = stands.0

  within : k < length streams
  within = omega (arith, stands.1, length-map streams (λ (stream : Stream). stream.link))

  is_link : link_at streams k ≡ link
  is_link = sym (get_or-map (λ (stream : Stream). stream.link) streams k (record { link = 0; packets = [] }) link within) ∙ stands.2

  has : has_key key (stream_at streams k).packets ≡ true
  has =
      ap (λ n. has_key (key_at generation n piece) (stream_at streams k).packets) (sym is_link)
      ∙ has_key-whole (stream_at streams k) generation piece (taken.are k within) low (whole k (record { link = 0; packets = [] }) within piece low)

  pub all-came : now.has link piece ≡ true
  all-came = subst (λ n. now.has n piece ≡ true) is_link (taken.came k piece within low)

  pub all-have : has_key key (all_packets streams) ≡ true
  all-have = has_key-all key streams k within has

  pub all-bytes : now.bytes link piece ≡ payload_of (all_packets streams) key
  all-bytes =
      subst (λ n. now.bytes n piece ≡ payload_of (stream_at streams k).packets (key_at generation n piece)) is_link (taken.bytes k piece within low)
      ∙ sym (payload_of-all key streams k (All-from_get_or IsStream streams (record { link = 0; packets = [] }) (λ i inside. taken.are i inside)) rising within (sym is_link) has)
