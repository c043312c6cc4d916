-- A node that gives the packets of one generation, link after link and piece after piece, and the frames that are written of them.
use Rattle.std.specs.Prelude.{◌≡◌, ◌<◌, ◌≤◌, ◌+◌, ◌-◌, ◌*◌, ◌/◌, ◌%◌, ℕ, Bool, true, false, Contains, List, [], length, map, min}
use Rattle.std.specs.List.{list_all}
use Rattle.std.proofs.Common.{sym, ap, subst, ◌∙◌, arith, get_or, get_or-set_other, get_or-set_same, inl, inr}
use Rattle.std.proofs.Math.ListN.{set}
use Rattle.std.proofs.lemmas.Bool.{cases_eq, cases_lt, true≢false}
use Rattle.std.proofs.lemmas.List.{ext_get_or, get_or-map, length-map, length-set}
use Rattle.std.proofs.lemmas.List.Elements.{Contains-get_or}
use Rattle.coded_traffic.specs.Traffic.{Key, key_of, sum_of}
use Rattle.generation_frame.specs.Blocks.{pieces}
use Rattle.generation_frame.specs.Frames.{frame_of}
use Rattle.generation_frame.specs.declared.frame.Packet.{Packet}
use Rattle.item_list.proofs.Positions.{place_in, place_in-found, place_in-within}
use Rattle.net_model.proofs.RisingLaws.{place_in-at, rising-at_most}
use Rattle.node_plans.specs.Plans.{IsPlan, operands_of, out_place}
use Rattle.node_plans.specs.declared.plan.Plan.{Plan}
use Rattle.node_program.specs.declared.Operand.{Operand}
use Rattle.relay_node.specs.Relay.{Gives, IsAtMost, IsDue, IsOut, IsSameInput, IsSameWork, Relay, input_at, has_input, is_complete, is_given}
use Rattle.link_streams.proofs.FrameLaws.{AreWritten, written_all, written_more}
use Rattle.link_streams.proofs.PassLaws.{back, onward, out_after, sum_in}
use Rattle.link_streams.specs.Filled.{FrameRows, filled, frames_of, with_frame, with_packet}
use Rattle.link_streams.specs.Reading.{frame_bytes}

-- the number of a packet of a node's generation: link after link, and piece after piece
abbrev pub number_of : Plan → Key → ℕ
number_of plan key = out_place plan key.link * pieces + key.piece

-- the packet of a piece of the link at a place, and its frame
abbrev pub packet_at : Relay → ℕ → ℕ → Packet
packet_at node place piece =
    let link = get_or node.plan.outs place 0 in
    record { link = link; generation = node.first; piece = piece; payload = sum_in node link piece }

abbrev pub frame_at : Relay → ℕ → ℕ → List ℕ
frame_at node place piece = frame_of (packet_at node place piece)

-- the first so many packets were given and written, and nothing else changed
pub record GivesTo (count : ℕ) (old now : Relay) (out : FrameRows) : Type 0 where
  pub work : IsSameWork old now
  pub inputs : (g from p : ℕ) → IsSameInput old now g from p
  pub given : (key : Key) → IsOut old key → number_of old.plan key < count → is_given now key ≡ true
  pub waiting : (key : Key) → IsOut old key → count ≤ number_of old.plan key → is_given now key ≡ false
  pub links : out.links ≡ old.plan.outs
  pub rows : length out.bytes ≡ length old.plan.outs
  pub written : (place : ℕ) → place < length old.plan.outs → AreWritten (frame_at old place) (min pieces (count - place * pieces)) (get_or out.bytes place [])

module _ (old : Relay) (is_plan : IsPlan old.plan) (one : old.count ≡ 1)
    (complete : (link p : ℕ) → Contains old.plan.outs link → p < pieces → is_complete old (record { link = link; generation = old.first; piece = p }) ≡ true) where
  abbrev outs : List ℕ
  outs = old.plan.outs

  module _ (count : ℕ) (now : Relay) (out : FrameRows) (low : count < length outs * pieces) (so_far : GivesTo count old now out) where
    abbrev place : ℕ
    place = count / pieces

    abbrev piece : ℕ
    piece = count % pieces

    within : place < length outs
    within = omega (arith, low)

    abbrev next : Key
    next = record { link = get_or outs place 0; generation = old.first; piece = piece }

    place-next : place_in outs next.link ≡ place
    place-next = place_in-at outs place is_plan.outs_rise within

    number-next : number_of old.plan next ≡ count
    number-next = omega (arith, place-next)

    next-out : IsOut old next
    next-out = record {
      leaves = Contains-get_or outs place 0 within;
      begun = record { from_first = omega arith; to_last = omega (arith, one) };
      of_piece = omega arith;
    }

    same_complete : (key : Key) → is_complete now key ≡ is_complete old key
    same_complete key =
        ap (λ (plan : Plan). list_all (λ (operand : Operand). has_input now key.generation operand.from key.piece) (operands_of plan key.link)) so_far.work.plan
        ∙ ap (λ (has : Operand → Bool). list_all has (operands_of old.plan key.link)) (λ i operand. (so_far.inputs key.generation operand.from key.piece).has i)

    -- the next packet is due, so there is one
    next-due : IsDue now next
    next-due = record {
      out = out_after old now next so_far.work next-out;
      complete = same_complete next ∙ complete next.link piece next-out.leaves next-out.of_piece;
      not_given = so_far.waiting next next-out (omega (arith, number-next));
    }

    pub gives-some : ((key : Key) → ¬ IsDue now key) → ⊥
    gives-some none = none next next-due

    -- and what is given is that packet
    module _ (packet : Packet) (new : Relay) (gives : Gives packet now new) where
      out_old : IsOut old (key_of packet)
      out_old = out_after now old (key_of packet) (back old now so_far.work) gives.due.out

      generation_is : packet.generation ≡ old.first
      generation_is = omega (arith, out_old.begun.from_first, out_old.begun.to_last, one)

      link_within : place_in outs packet.link < length outs
      link_within = place_in-within outs packet.link out_old.leaves

      link_found : get_or outs (place_in outs packet.link) 0 ≡ packet.link
      link_found = place_in-found outs packet.link 0 link_within

      not_below : count ≤ number_of old.plan (key_of packet)
      not_below = elim (cases_lt (number_of old.plan (key_of packet)) count) [
        | inl below ↦ absurd (true≢false (sym (so_far.given (key_of packet) out_old below) ∙ gives.due.not_given))
        | inr behind ↦ behind
      ]

      not_above : IsAtMost (key_of packet) next → number_of old.plan (key_of packet) ≤ count
      not_above (inl earlier) = absurd (omega (arith, earlier, generation_is))
      not_above (inr (same, inl less)) = elim (cases_lt (place_in outs packet.link) place) [
        | inl before ↦ omega (arith, before, out_old.of_piece)
        | inr after ↦
            let above = rising-at_most outs place (place_in outs packet.link) is_plan.outs_rise after link_within in
            absurd (omega (arith, above, link_found, less))
      ]
      not_above (inr (same, inr both)) =
          let at : place_in outs packet.link ≡ place = ap (place_in outs) both.0 ∙ place-next in
          omega (arith, at, both.1)

      number_is : number_of old.plan (key_of packet) ≡ count
      number_is = let above = not_above (gives.least next next-due) in omega (arith, not_below, above)

      place_is : place_in outs packet.link ≡ place
      place_is = omega (arith, number_is, out_old.of_piece)

      pub piece_is : packet.piece ≡ piece
      piece_is = omega (arith, number_is, out_old.of_piece)

      link_is : packet.link ≡ next.link
      link_is = sym link_found ∙ ap (λ (n : ℕ). get_or outs n 0) place_is

      payload_is : packet.payload ≡ sum_in old next.link piece
      payload_is =
          gives.payload
          ∙ ap (λ (plan : Plan). sum_of plan.field (operands_of plan packet.link) (λ operand. input_at now packet.generation operand.from packet.piece)) so_far.work.plan
          ∙ ap (sum_of old.plan.field (operands_of old.plan packet.link)) (λ i operand. (so_far.inputs packet.generation operand.from packet.piece).bytes i)
          ∙ ap (λ (g : ℕ). sum_of old.plan.field (operands_of old.plan packet.link) (λ operand. input_at old g operand.from packet.piece)) generation_is
          ∙ ap (λ (l : ℕ). sum_of old.plan.field (operands_of old.plan l) (λ operand. input_at old old.first operand.from packet.piece)) link_is
          ∙ ap (λ (p : ℕ). sum_of old.plan.field (operands_of old.plan next.link) (λ operand. input_at old old.first operand.from p)) piece_is

      packet_is : packet ≡ packet_at old place piece
      packet_is = λ i. record { link = link_is i; generation = generation_is i; piece = piece_is i; payload = payload_is i }

      -- no other packet has its number
      same_number : (other : Key) → IsOut old other → number_of old.plan other ≡ count → other ≡ key_of packet
      same_number other is same =
          let places : place_in outs other.link ≡ place_in outs packet.link = omega (arith, same, number_is, is.of_piece, out_old.of_piece) in
          let piece : other.piece ≡ packet.piece = omega (arith, same, number_is, is.of_piece, out_old.of_piece) in
          let generation : other.generation ≡ packet.generation = omega (arith, generation_is, is.begun.from_first, is.begun.to_last, one) in
          let link : other.link ≡ packet.link =
          sym (place_in-found outs other.link 0 (place_in-within outs other.link is.leaves)) ∙ ap (λ (n : ℕ). get_or outs n 0) places ∙ link_found in
          λ i. record { link = link i; generation = generation i; piece = piece i }

      stays : (other : Key) → IsOut old other → (number_of old.plan other ≡ count → ⊥) → is_given new other ≡ is_given now other
      stays other is apart =
          gives.others other (out_after old now other so_far.work is) (λ same. apart (ap (number_of old.plan) same ∙ number_is))

      written-after : length (frame_of packet) ≡ frame_bytes → (other : ℕ) → other < length outs
          → AreWritten (frame_at old other) (min pieces (count + 1 - other * pieces)) (get_or (with_packet place packet out).bytes other [])
      written-after long other inside = elim (cases_eq other place) [
        | inl same ↦
            let row = get_or out.bytes place [] in
            let frame : frame_of packet ≡ frame_at old place piece = ap frame_of packet_is in
            let before : AreWritten (frame_at old place) piece row =
            subst (λ (n : ℕ). AreWritten (frame_at old place) n row) (omega arith) (so_far.written place within) in
            let after : AreWritten (frame_at old place) (piece + 1) (with_frame packet row) =
            written_more (frame_at old place) piece row packet before (omega arith) piece_is frame (sym (ap (length {A = ℕ}) frame) ∙ long) in
            let here : get_or (set out.bytes place (with_frame packet row)) place [] ≡ with_frame packet row =
            get_or-set_same out.bytes place (with_frame packet row) [] (omega (arith, within, so_far.rows)) in
            let counted : piece + 1 ≡ min pieces (count + 1 - place * pieces) = omega arith in
            let At : ℕ → Type 0 = λ n. AreWritten (frame_at old n) (min pieces (count + 1 - n * pieces)) (get_or (set out.bytes place (with_frame packet row)) n []) in
            subst At (sym same)
            (subst (λ (bytes : List ℕ). AreWritten (frame_at old place) (min pieces (count + 1 - place * pieces)) bytes) (sym here)
            (subst (λ (n : ℕ). AreWritten (frame_at old place) n (with_frame packet row)) counted after))
        | inr apart ↦
            let row = get_or out.bytes place [] in
            let there : get_or (set out.bytes place (with_frame packet row)) other [] ≡ get_or out.bytes other [] =
            get_or-set_other out.bytes place other (with_frame packet row) [] apart in
            let counted : min pieces (count - other * pieces) ≡ min pieces (count + 1 - other * pieces) = omega (arith, apart) in
            subst (λ (bytes : List ℕ). AreWritten (frame_at old other) (min pieces (count + 1 - other * pieces)) bytes) (sym there)
            (subst (λ (n : ℕ). AreWritten (frame_at old other) n (get_or out.bytes other [])) counted (so_far.written other inside))
      ]

      pub gives_more : length (frame_of packet) ≡ frame_bytes → GivesTo (count + 1) old new (with_packet place packet out)
      gives_more long = record {
        work = onward old now new so_far.work gives.work;
        inputs = λ g from p.
            record { has = (gives.inputs g from p).has ∙ (so_far.inputs g from p).has; bytes = (gives.inputs g from p).bytes ∙ (so_far.inputs g from p).bytes };
        given = λ other is below. elim (cases_eq (number_of old.plan other) count) [
          | inl here ↦ ap (is_given new) (same_number other is here) ∙ gives.given
          | inr apart ↦ stays other is apart ∙ so_far.given other is (omega (arith, below, apart))
        ];
        waiting = λ other is behind. stays other is (λ same. omega (arith, same, behind)) ∙ so_far.waiting other is (omega (arith, behind));
        links = so_far.links;
        rows = length-set out.bytes place (with_frame packet (get_or out.bytes place [])) ∙ so_far.rows;
        written = written-after long;
      }

  -- where all packets were given the frames are filled with the sums of what came
  pub gives_all : (count : ℕ) (now : Relay) (out : FrameRows) → count ≡ length outs * pieces → GivesTo count old now out → out ≡ filled outs old.first (sum_in old)
  gives_all count now out end so_far =
      let frames : ℕ → List ℕ = λ link. frames_of link old.first (sum_in old link) in
      let bytes : out.bytes ≡ map frames outs =
      ext_get_or [] out.bytes (map frames outs) (so_far.rows ∙ sym (length-map outs frames))
      (λ place inside.
      let within : place < length outs = omega (arith, inside, so_far.rows) in
      let row = get_or out.bytes place [] in
      let all : min pieces (count - place * pieces) ≡ pieces = omega (arith, end, within) in
      written_all (frame_at old place) row (subst (λ (n : ℕ). AreWritten (frame_at old place) n row) all (so_far.written place within))
      ∙ sym (get_or-map frames outs place 0 [] within)) in
      λ i. record { links = so_far.links i; bytes = bytes i }
