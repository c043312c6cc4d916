-- The file of a link's traffic is a stream of the link.
use Rattle.std.specs.Prelude.{◌≡◌, ◌<◌, ◌≤◌, ◌||◌, ◌+◌, get_or, ℕ, zero, suc, true, All, Contains, List, [], ◌∷◌, ◌++◌, flat_map, length, map}
use Rattle.std.specs.List.{concat, range_with_len}
use Rattle.std.proofs.Common.{refl, sym, ap, subst, ◌∙◌, arith}
use Rattle.std.proofs.lemmas.Bool.{or_left, or_right}
use Rattle.std.proofs.lemmas.Grind.{flat_map-append}
use Rattle.std.proofs.lemmas.List.{get_or-map, length-map}
use Rattle.std.proofs.lemmas.List.Concat.{flat_map-cons}
use Rattle.std.proofs.lemmas.List.Elements.{All-append, All-head, All-map, All-nil, All-same, All-tail, All-weaker}
use Rattle.std.proofs.lemmas.List.Folds.{list_any_at}
use Rattle.std.proofs.lemmas.List.FromFn.{get_or-range_with_len, length-range_with_len}
use Rattle.coded_traffic.specs.Traffic.{IsKey, Key, Window, block_at, is_same_key, key_of, packet_of, payload_in}
use Rattle.generation_frame.specs.Blocks.{pieces}
use Rattle.generation_frame.specs.Frames.{frame_of}
use Rattle.generation_frame.specs.declared.frame.Packet.{Packet}
use Rattle.link_streams.proofs.TrafficLaws.{key-is}
use Rattle.link_streams.specs.Chained.{AreNumbered, IsOfLink, IsStreamFor, traffic_file}
use Rattle.link_streams.specs.Filled.{frames_of}
use Rattle.node_plans.proofs.ListLaws.{range-below}
use Rattle.node_program.specs.CodeValue.{is_live_in}
use Rattle.node_program.specs.declared.code.Code.{Code}
use Rattle.relay_core.proofs.PacketLaws.{has_key-append, itself}
use Rattle.relay_core.specs.Core.{has_key}

-- the frames of packets that are made of numbers
frames_made : (f : ℕ → Packet) (xs : List ℕ) → concat (map (λ x. frame_of (f x)) xs) ≡ flat_map frame_of (map f xs)
frames_made f [] = refl
frames_made f (x ∷ xs) = ap (λ rest. frame_of (f x) ++ rest) (frames_made f xs) ∙ sym (flat_map-cons frame_of (f x) (map f xs))

-- those of packets that are made in several lists
frames_joined : (f : ℕ → List Packet) (bytes : ℕ → List ℕ) → ((x : ℕ) → bytes x ≡ flat_map frame_of (f x)) → (xs : List ℕ) → flat_map bytes xs ≡ flat_map frame_of (flat_map f xs)
frames_joined f bytes same [] = refl
frames_joined f bytes same (x ∷ xs) =
    flat_map-cons bytes x xs ∙ ap (λ first. first ++ flat_map bytes xs) (same x) ∙ ap (λ rest. flat_map frame_of (f x) ++ rest) (frames_joined f bytes same xs)
    ∙ sym (flat_map-append frame_of (f x) (flat_map f xs)) ∙ sym (ap (flat_map frame_of) (flat_map-cons f x xs))

-- what holds of each in several lists
all_joined : {X Y : Type 0} (P : Y → Type 0) (f : X → List Y) (xs : List X) → All (λ x. All P (f x)) xs → All P (flat_map f xs)
all_joined P f [] all = All-nil P
all_joined P f (x ∷ xs) all =
    All-same P (flat_map f (x ∷ xs)) (f x ++ flat_map f xs) (flat_map-cons f x xs)
    (All-append P (f x) (flat_map f xs) (All-head (λ x. All P (f x)) x xs all) (all_joined P f xs (All-tail (λ x. All P (f x)) x xs all)))

-- a key that stands in one of several lists
has_joined : (key : Key) (f : ℕ → List Packet) (xs : List ℕ) (x : ℕ) → Contains xs x → has_key key (f x) ≡ true → has_key key (flat_map f xs) ≡ true
has_joined key f [] x there has = absurd (omega (arith, there.1))
has_joined key f (y ∷ xs) x (zero, within, is) has =
    let here : has_key key (f y) ≡ true = ap (λ y. has_key key (f y)) is ∙ has in
    ap (has_key key) (flat_map-cons f y xs) ∙ has_key-append key (f y) (flat_map f xs) ∙ or_left (has_key key (f y)) (has_key key (flat_map f xs)) here
has_joined key f (y ∷ xs) x (suc place, within, is) has =
    let later = has_joined key f xs x (place, omega (arith, within), is) has in
    ap (has_key key) (flat_map-cons f y xs) ∙ has_key-append key (f y) (flat_map f xs) ∙ or_right (has_key key (f y)) (has_key key (flat_map f xs)) later

-- a number below stands in a range, at its place
at_range : (n k d : ℕ) → k < n → get_or (range_with_len 0 n) k d ≡ k
at_range n k d below = let from_zero : 0 + k ≡ k = omega arith in get_or-range_with_len 0 n k d below ∙ from_zero

in_range : (n k : ℕ) → k < n → Contains (range_with_len 0 n) k
in_range n k below = (k, omega (arith, below, length-range_with_len 0 n), at_range n k k below)

module _ (code : Code) (pattern : ℕ) (window : Window) (link : ℕ) (numbered : AreNumbered code window) (live : is_live_in code pattern link ≡ true) where
  abbrev packet_at : ℕ → ℕ → Packet
  packet_at generation piece = packet_of code pattern window (record { link = link; generation = generation; piece = piece })

  abbrev of_generation : ℕ → List Packet
  of_generation generation = map (packet_at generation) (range_with_len 0 pieces)

  abbrev generations : List ℕ
  generations = range_with_len 0 (length window.blocks)

  abbrev frames_in : ℕ → List ℕ
  frames_in generation = frames_of link generation (λ piece. payload_in code pattern (block_at window generation) piece link)

  bytes : traffic_file code pattern window link ≡ flat_map frame_of (flat_map of_generation generations)
  bytes =
      ap (λ first. flat_map frames_in (range_with_len first (length window.blocks))) numbered.from_start
      ∙ frames_joined of_generation frames_in (λ generation. frames_made (packet_at generation) (range_with_len 0 pieces)) generations

  on_link : (generation : ℕ) → generation < length window.blocks → All (IsOfLink code pattern window link) (of_generation generation)
  on_link generation below =
      All-map (IsOfLink code pattern window link) (packet_at generation) (range_with_len 0 pieces)
      (All-weaker (λ piece. piece < pieces) (λ piece. IsOfLink code pattern window link (packet_at generation piece))
      (λ piece low. record { on_link = refl; is_key = key-is code pattern window link generation piece numbered live below low; is = refl })
      (range_with_len 0 pieces) (range-below pieces))

  here : (key : Key) → IsKey code pattern window key → key.link ≡ link → has_key key (of_generation key.generation) ≡ true
  here key is same =
      let low = is.of_piece in
      let packets = of_generation key.generation in
      let within : key.piece < length packets = omega (arith, low, length-map (range_with_len 0 pieces) (packet_at key.generation), length-range_with_len 0 pieces) in
      let long : key.piece < length (range_with_len 0 pieces) = omega (arith, low, length-range_with_len 0 pieces) in
      let d = packet_at key.generation key.piece in
      let found = get_or-map (packet_at key.generation) (range_with_len 0 pieces) key.piece 0 d long ∙ ap (packet_at key.generation) (at_range pieces key.piece 0 low) in
      list_any_at (λ packet. is_same_key (key_of packet) key) packets key.piece d within
      (ap (λ packet. is_same_key (key_of packet) key) found ∙ ap (λ link. is_same_key (record { link = link; generation = key.generation; piece = key.piece }) key) (sym same) ∙ itself key)

  -- it is a stream of the link for the blocks
  pub traffic-is-stream : IsStreamFor code pattern window link (traffic_file code pattern window link)
  traffic-is-stream = record {
    packets = flat_map of_generation generations;
    bytes_are = bytes;
    of_traffic = all_joined (IsOfLink code pattern window link) of_generation generations
        (All-weaker (λ generation. generation < length window.blocks) (λ generation. All (IsOfLink code pattern window link) (of_generation generation)) on_link generations (range-below (length window.blocks)));
    all = λ key is same.
        let below : key.generation < length window.blocks = omega (arith, is.numbered, numbered.from_start) in
        has_joined key of_generation generations key.generation (in_range (length window.blocks) key.generation below) (here key is same);
  }
