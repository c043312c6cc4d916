-- Laws of reading: which frames bytes have, when packets conflict, and that what was read is a stream.
use Rattle.std.specs.Prelude.{◌≡◌, ◌<◌, ◌+◌, ◌*◌, ◌/◌, ◌%◌, ◌==◌, ◌^◌, ◌&&◌, not, ℕ, Bool, true, false, All, Contains, List, [], ◌∷◌, drop, get_or, length, map, if◌then◌else◌, nat_lt, slice_index, take, Result, Ok, Err}
use Rattle.std.specs.List.{range_with_len}
use Rattle.std.specs.Int.{from_be_bytes, w32}
use Rattle.std.specs.Str.{bytes_eq}
use Rattle.std.proofs.Common.{refl, sym, ap, subst, ◌∙◌, arith, inl, inr}
use Rattle.std.proofs.lemmas.Bool.{and_from, and_left, and_right, both_ways, cases_Bool, cases_lt, cond-true, eq-eqb, eqb-true, ltb-false, ne_eqb, not_from_false, not_from_true}
use Rattle.std.proofs.lemmas.List.{drop_more, get_or-drop, get_or-take, get_or_past, length-take}
use Rattle.std.proofs.lemmas.List.Elements.{All-head, All-map, All-nil, All-tail, Contains-get_or}
use Rattle.std.proofs.lemmas.List.Folds.{list_any_at, list_any_none}
use Rattle.std.proofs.lemmas.List.FromFn.{get_or-map-range_with_len, length-map-range_with_len}
use Rattle.generation_frame.specs.Frames.{Fits, frame_read, is_marked, packet_in}
use Rattle.generation_frame.specs.declared.frame.FrameRefusal.{FrameRefusal}
use Rattle.generation_frame.specs.declared.frame.FrameRefusal.TheVariants.{BadMark, BadPiece}
use Rattle.generation_frame.specs.declared.frame.Packet.{Packet}
use Rattle.generation_frame.specs.declared.stream_why.StreamWhy.{StreamWhy}
use Rattle.generation_frame.specs.declared.stream_why.StreamWhy.TheVariants.{BadLength, Conflict, OtherLink}
use Rattle.net_model.specs.Lists.{is_rising}
use Rattle.link_streams.specs.Reading.{frame_bytes, frames_in, goes_on, is_conflict, packets_read, reads, taken}
use Rattle.link_streams.specs.Streams.{IsStream, has_place, place_of, put_in}
use Rattle.link_streams.proofs.StreamLaws.{IsStream-put_in, has_place-at, put_in-known, same-place}

-- how many frames bytes have
pub length-frames_in : (bytes : List ℕ) → length (frames_in bytes) ≡ length bytes / frame_bytes
length-frames_in bytes = length-map-range_with_len (λ number. take frame_bytes (drop (number * frame_bytes) bytes)) 0 (length bytes / frame_bytes)

-- the frames from one on
pub drop-frames_in : (bytes : List ℕ) (number : ℕ) → number < length bytes / frame_bytes → drop number (frames_in bytes) ≡ take frame_bytes (drop (number * frame_bytes) bytes) ∷ drop (number + 1) (frames_in bytes)
drop-frames_in bytes number within =
    drop_more (frames_in bytes) number [] (omega (arith, within, length-frames_in bytes))
    ∙ ap (λ frame. frame ∷ drop (number + 1) (frames_in bytes)) (get_or-map-range_with_len (λ number. take frame_bytes (drop (number * frame_bytes) bytes)) 0 (length bytes / frame_bytes) number number [] within (omega arith))

-- what is read where the first frame is taken, and where it is refused
pub reads-taken : (link at : ℕ) (packets more : List Packet) (frame : List ℕ) (frames : List (List ℕ)) → taken link at packets (frame_read frame) ≡ Ok more
    → reads link at packets (frame ∷ frames) ≡ reads link (at + frame_bytes) more frames
reads-taken link at packets more frame frames is = ap (λ result. goes_on result (λ more. reads link (at + frame_bytes) more frames)) is

pub reads-refused : (link at : ℕ) (packets : List Packet) (why : StreamWhy) (frame : List ℕ) (frames : List (List ℕ)) → taken link at packets (frame_read frame) ≡ Err why
    → reads link at packets (frame ∷ frames) ≡ Err why
reads-refused link at packets why frame frames is = ap (λ result. goes_on result (λ more. reads link (at + frame_bytes) more frames)) is

-- bytes that are whole frames are read frame after frame
pub packets_read-whole : (link : ℕ) (bytes : List ℕ) → length bytes % frame_bytes ≡ 0 → packets_read link bytes ≡ reads link 0 [] (frames_in bytes)
packets_read-whole link bytes whole = cond-true (length bytes % frame_bytes == 0) _ _ (eq-eqb _ 0 whole)

-- from one on, where that is taken, and where it is refused
pub reads-more : (link number : ℕ) (packets more : List Packet) (bytes : List ℕ) → number < length bytes / frame_bytes
    → taken link (number * frame_bytes) packets (frame_read (take frame_bytes (drop (number * frame_bytes) bytes))) ≡ Ok more
    → reads link (number * frame_bytes) packets (drop number (frames_in bytes)) ≡ reads link ((number + 1) * frame_bytes) more (drop (number + 1) (frames_in bytes))
reads-more link number packets more bytes within is =
    ap (reads link (number * frame_bytes) packets) (drop-frames_in bytes number within)
    ∙ reads-taken link (number * frame_bytes) packets more (take frame_bytes (drop (number * frame_bytes) bytes)) (drop (number + 1) (frames_in bytes)) is
    ∙ ap (λ at. reads link at more (drop (number + 1) (frames_in bytes))) (omega arith)

pub reads-stopped : (link number : ℕ) (packets : List Packet) (why : StreamWhy) (bytes : List ℕ) → number < length bytes / frame_bytes
    → taken link (number * frame_bytes) packets (frame_read (take frame_bytes (drop (number * frame_bytes) bytes))) ≡ Err why
    → reads link (number * frame_bytes) packets (drop number (frames_in bytes)) ≡ Err why
reads-stopped link number packets why bytes within is =
    ap (reads link (number * frame_bytes) packets) (drop-frames_in bytes number within)
    ∙ reads-refused link (number * frame_bytes) packets why (take frame_bytes (drop (number * frame_bytes) bytes)) (drop (number + 1) (frames_in bytes)) is

-- with the same payload it doesn't, since each place stands once
pub is_conflict-known : (packets : List Packet) (one packet : Packet) → is_rising (map place_of packets) ≡ true → Contains packets one → place_of one ≡ place_of packet → bytes_eq one.payload packet.payload ≡ true
    → is_conflict packets packet ≡ false
is_conflict-known packets one packet rising has same equal =
    list_any_none (λ one. (place_of one == place_of packet) && not (bytes_eq one.payload packet.payload)) packets (λ k d within.
    let other = get_or packets k d in
    elim (cases_Bool (place_of other == place_of packet)) [
      | inl here ↦ and_right _ _
          (not_from_true _ (ap (λ (one : Packet). bytes_eq one.payload packet.payload) (same-place packets other one rising (Contains-get_or packets k d within) has (eqb-true _ _ here ∙ sym same)) ∙ equal))
      | inr apart ↦ and_left _ _ apart
    ])

-- and one of a new place doesn't
pub is_conflict-new : (packets : List Packet) (packet : Packet) → has_place packets (place_of packet) ≡ false → is_conflict packets packet ≡ false
is_conflict-new packets packet lacks =
    list_any_none (λ one. (place_of one == place_of packet) && not (bytes_eq one.payload packet.payload)) packets (λ k d within.
    and_left _ _ (ne_eqb _ _ (λ same. both_ways _ lacks (has_place-at packets k d (place_of packet) within same))))

-- a packet that is there, with the same payload, changes nothing
pub taken-known : (link at : ℕ) (packets : List Packet) (one packet : Packet) → packet.link ≡ link → is_rising (map place_of packets) ≡ true → Contains packets one → place_of one ≡ place_of packet
    → bytes_eq one.payload packet.payload ≡ true → taken link at packets (Ok packet) ≡ Ok packets
taken-known link at packets one packet of_link rising has same equal =
    let there : has_place packets (place_of packet) ≡ true = has_place-at packets has.0 one (place_of packet) has.1 (ap place_of has.2 ∙ same) in
    rw (eq-eqb packet.link link of_link, is_conflict-known packets one packet rising has same equal) (ap Ok (put_in-known packet packets rising there))

-- and one of a new place comes in
pub taken-new : (link at : ℕ) (packets : List Packet) (packet : Packet) → packet.link ≡ link → has_place packets (place_of packet) ≡ false → taken link at packets (Ok packet) ≡ Ok (put_in packet packets)
taken-new link at packets packet of_link lacks = rw (eq-eqb packet.link link of_link, is_conflict-new packets packet lacks) refl

-- a list has bytes
abbrev pub AreBytes : List ℕ → Type 0
AreBytes bytes = (i : ℕ) → get_or bytes i 0 < 256

-- a part of bytes has bytes
AreBytes-part : (bytes : List ℕ) (n from : ℕ) → AreBytes bytes → AreBytes (take n (drop from bytes))
AreBytes-part bytes n from are i = elim (cases_lt i n) [
  | inl within ↦ let byte = are (from + i) in omega (arith, byte, get_or-take n (drop from bytes) i 0 within, get_or-drop from bytes i 0)
  | inr past ↦ omega (arith, get_or_past (take n (drop from bytes)) i 0 (omega (arith, past, length-take n (drop from bytes))))
]

-- four bytes make a number of four bytes
number-fits : (bytes : List ℕ) → AreBytes bytes → from_be_bytes w32 bytes < 2 ^ 32
number-fits bytes are =
    let first = are 0 in
    let second = are 1 in
    let third = are 2 in
    let fourth = are 3 in
    omega (arith, first, second, third, fourth)

-- the packet of a frame fits
frame_read-fits : (frame : List ℕ) (packet : Packet) → AreBytes frame → frame_read frame ≡ Ok packet → Fits packet
frame_read-fits frame packet are read = at (is_marked frame) (nat_lt 7 (slice_index frame 3)) refl read
  where
    at : (marked above : Bool) → nat_lt 7 (slice_index frame 3) ≡ above → (if marked then (if above then Err BadPiece else Ok (packet_in frame)) else Err BadMark) ≡ Ok packet → Fits packet
    at true true is read = cc
    at true false is read =
        let same : packet_in frame ≡ packet = cc in
        subst Fits same
        (record {
          link = number-fits (take 4 (drop 4 frame)) (AreBytes-part frame 4 4 are);
          generation = number-fits (take 4 (drop 8 frame)) (AreBytes-part frame 4 8 are);
          piece = let most = ltb-false 7 (slice_index frame 3) is in omega (arith, most);
        })
    at false above is read = cc

-- what was taken is a packet of the link
taken-is : (link at : ℕ) (packets more : List Packet) (read : Result Packet FrameRefusal) → taken link at packets read ≡ Ok more → (packet : Packet) × (read ≡ Ok packet) × (packet.link ≡ link) × (put_in packet packets ≡ more)
taken-is link at packets more (Err refused) is = cc
taken-is link at packets more (Ok packet) is = let parts = by (packet.link == link) (is_conflict packets packet) is in (packet, refl, eqb-true packet.link link parts.0, parts.1)
  where
    by : (same conflict : Bool) → (if same then (if conflict then Err (Conflict at) else Ok (put_in packet packets)) else Err (OtherLink at)) ≡ Ok more → (same ≡ true) × (put_in packet packets ≡ more)
    by true true is = cc
    by true false is = (refl, cc)
    by false conflict is = cc

-- what was read after frames were taken is a stream
IsStream-reads : (link at : ℕ) (packets result : List Packet) (frames : List (List ℕ)) → All AreBytes frames → IsStream (record { link = link; packets = packets }) → reads link at packets frames ≡ Ok result
    → IsStream (record { link = link; packets = result })
IsStream-reads link at packets result [] are stream is = let same : packets ≡ result = cc in subst (λ packets. IsStream (record { link = link; packets = packets })) same stream
IsStream-reads link at packets result (frame ∷ frames) are stream is =
    let next = goes (taken link at packets (frame_read frame)) is in
    let found = taken-is link at packets next.0 (frame_read frame) next.1 in
    let fits = frame_read-fits frame found.0 (All-head AreBytes frame frames are) found.1 in
    IsStream-reads link (at + frame_bytes) next.0 result frames (All-tail AreBytes frame frames are)
    (subst (λ packets. IsStream (record { link = link; packets = packets })) found.3 (IsStream-put_in (record { link = link; packets = packets }) found.0 stream fits found.2))
    next.2
  where
    goes : (taken : Result (List Packet) StreamWhy) → goes_on taken (λ more. reads link (at + frame_bytes) more frames) ≡ Ok result → (more : List Packet) × (taken ≡ Ok more) × (reads link (at + frame_bytes) more frames ≡ Ok result)
    goes (Ok more) is = (more, refl, is)
    goes (Err why) is = cc

-- the packets of a file are a stream
pub IsStream-packets_read : (link : ℕ) (bytes : List ℕ) (packets : List Packet) → AreBytes bytes → packets_read link bytes ≡ Ok packets → IsStream (record { link = link; packets = packets })
IsStream-packets_read link bytes packets are is =
    IsStream-reads link 0 [] packets (frames_in bytes)
    (All-map AreBytes (λ number. take frame_bytes (drop (number * frame_bytes) bytes)) (range_with_len 0 (length bytes / frame_bytes)) (λ k d within. AreBytes-part bytes frame_bytes (get_or (range_with_len 0 (length bytes / frame_bytes)) k d * frame_bytes) are))
    (record { rising = refl; fit = All-nil Fits; of_link = All-nil (λ packet. packet.link ≡ link) })
    (whole (length bytes % frame_bytes == 0) is)
  where
    whole : (is_whole : Bool) → (if is_whole then reads link 0 [] (frames_in bytes) else Err (BadLength (length bytes))) ≡ Ok packets → reads link 0 [] (frames_in bytes) ≡ Ok packets
    whole true is = is
    whole false is = cc
