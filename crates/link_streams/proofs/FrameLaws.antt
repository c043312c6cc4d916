-- The frames of a link's pieces, as they are written one after another.
use Rattle.std.specs.Prelude.{◌≡◌, ◌<◌, ◌≤◌, ◌+◌, ◌*◌, ◌==◌, ◌&&◌, ℕ, All, List, [], ◌∷◌, ◌++◌, drop, length, map, replicate, take}
use Rattle.std.specs.List.{concat, range_with_len}
use Rattle.std.proofs.Common.{arith, refl, sym, ap, subst, ◌∙◌, get_or}
use Rattle.std.proofs.lemmas.List.{append-nil, length-append, length-drop, length-map, length-take-le, take_all, take_at}
use Rattle.std.proofs.lemmas.List.Elements.{All-map}
use Rattle.std.proofs.lemmas.List.Folds.{concat-append}
use Rattle.std.proofs.lemmas.List.FromFn.{length-range_with_len, map-range_with_len_more}
use Rattle.generation_frame.specs.Blocks.{piece_bytes, pieces}
use Rattle.generation_frame.specs.Frames.{frame_of}
use Rattle.generation_frame.specs.declared.frame.Packet.{Packet}
use Rattle.net_model.specs.Limits.{most_links}
use Rattle.net_model.specs.Walks.{tail_of}
use Rattle.node_plans.proofs.ListLaws.{length-filter-le}
use Rattle.node_plans.specs.Plans.{outs_of, plan_of}
use Rattle.node_plans.specs.declared.plan.Plan.{Plan}
use Rattle.node_program.specs.CodeValue.{is_live_in}
use Rattle.node_program.specs.declared.code.Code.{Code}
use Rattle.link_streams.specs.Filled.{blank, frames_of, with_frame}
use Rattle.link_streams.specs.Reading.{frame_bytes}

-- the first so many of some frames, one after another
abbrev pub first_frames : (ℕ → List ℕ) → ℕ → List ℕ
first_frames frame count = concat (map frame (range_with_len 0 count))

-- they stand at the front of bytes that have room for eight
pub record AreWritten (frame : ℕ → List ℕ) (count : ℕ) (bytes : List ℕ) : Type 0 where
  pub front : take (count * frame_bytes) bytes ≡ first_frames frame count
  pub room : length bytes ≡ pieces * frame_bytes

pub first_frames-more : (frame : ℕ → List ℕ) (count : ℕ) → first_frames frame (count + 1) ≡ first_frames frame count ++ frame count
first_frames-more frame count =
    ap (λ (parts : List (List ℕ)). concat parts) (map-range_with_len_more frame 0 count count (omega arith))
    ∙ concat-append (map frame (range_with_len 0 count)) (frame count ∷ [])
    ∙ ap (λ (last : List ℕ). first_frames frame count ++ last) (append-nil (frame count))

-- the bytes of a frame
pub length-frame_of : (packet : Packet) → length packet.payload ≡ piece_bytes → length (frame_of packet) ≡ frame_bytes
length-frame_of packet long = omega (arith, long)

-- one more, by a packet of which it is the frame
module _ (frame : ℕ → List ℕ) (count : ℕ) (bytes : List ℕ) (packet : Packet) (written : AreWritten frame count bytes) (low : count < pieces)
    (here : packet.piece ≡ count) (same : frame_of packet ≡ frame count) (long : length (frame count) ≡ frame_bytes) where
  abbrev start : ℕ
  start = count * frame_bytes

  abbrev front : List ℕ
  front = take start bytes ++ frame count

  abbrev back : List ℕ
  back = drop (start + frame_bytes) bytes

  made : with_frame packet bytes ≡ front ++ back
  made =
      ap (λ (n : ℕ). take (n * frame_bytes) bytes ++ frame_of packet ++ drop (n * frame_bytes + frame_bytes) bytes) here
      ∙ ap (λ (part : List ℕ). take start bytes ++ part ++ back) same

  front_long : length front ≡ (count + 1) * frame_bytes
  front_long = omega (arith, length-append (take start bytes) (frame count), length-take-le start bytes (omega (arith, low, written.room)), long)

  pub written_more : AreWritten frame (count + 1) (with_frame packet bytes)
  written_more = record {
    front = ap (take ((count + 1) * frame_bytes)) made
        ∙ take_at front back ((count + 1) * frame_bytes) front_long
        ∙ ap (λ (before : List ℕ). before ++ frame count) written.front
        ∙ sym (first_frames-more frame count);
    room = ap (length {A = ℕ}) made
        ∙ omega (arith, length-append front back, front_long, length-drop (start + frame_bytes) bytes, written.room, low);
  }

-- all are written
pub written_all : (frame : ℕ → List ℕ) (bytes : List ℕ) → AreWritten frame pieces bytes → bytes ≡ first_frames frame pieces
written_all frame bytes written = sym (take_all (pieces * frame_bytes) bytes (omega (arith, written.room))) ∙ written.front

-- the frames of a link before any generation, which have the bytes of eight
abbrev pub zeros : ℕ → List ℕ
zeros link = frames_of link 0 (λ piece. replicate piece_bytes 0)

length-zeros : (link : ℕ) → length (zeros link) ≡ pieces * frame_bytes
length-zeros link = refl

-- a node has no more links out of it than there are
few_outs : (code : Code) (pattern node : ℕ) → length (outs_of code pattern node) ≤ most_links
few_outs code pattern node =
    omega (
      arith,
      length-filter-le (λ link. is_live_in code pattern link && (tail_of code.net.links link == node)) (range_with_len 0 (length code.net.links)),
      length-range_with_len 0 (length code.net.links),
      code.net.network.few_links,
    )

-- the frames of the links out of a node, as they were made for so many of those links
module _ (code now : Code) (pattern node : ℕ) (plan : Plan) (links copied : List ℕ) (bytes : List (List ℕ)) (count : ℕ)
    (same_code : code ≡ now) (planned : plan ≡ plan_of code pattern node) (listed : links ≡ plan.outs) (same : copied ≡ links)
    (made : bytes ≡ map zeros (take count links)) (done : length links ≤ count) where
  outs : List ℕ
  outs = outs_of now pattern node

  are_outs : copied ≡ outs
  unfolding outs
  are_outs = same ∙ listed ∙ ap (λ (plan : Plan). plan.outs) planned ∙ ap (λ (code : Code). outs_of code pattern node) same_code

  all_made : bytes ≡ map zeros outs
  unfolding outs
  all_made = made ∙ ap (map zeros) (take_all count links done ∙ sym same ∙ are_outs)

  -- they are blank, and have room
  pub opened-blank : record { links = copied; bytes = bytes } ≡ blank (outs_of now pattern node)
  unfolding outs
  opened-blank = λ i. record { links = are_outs i; bytes = all_made i }

  pub opened-room : (length bytes ≡ length copied) × (length copied ≤ most_links) × All (λ one. length one ≡ pieces * frame_bytes) bytes
  unfolding outs
  opened-room =
      let Room : List (List ℕ) → Type 0 = All (λ one. length one ≡ pieces * frame_bytes) in (
        ap (length {A = List ℕ}) all_made ∙ length-map outs zeros ∙ ap (length {A = ℕ}) (sym are_outs),
        omega (arith, ap (length {A = ℕ}) are_outs, few_outs now pattern node),
        subst Room (sym all_made) (All-map (λ one. length one ≡ pieces * frame_bytes) zeros outs (λ k d within. length-zeros (get_or outs k d))),
      )
