-- Laws of packets by rising place: which places they have, what one more makes of them, and how many generations there are.
use Rattle.std.specs.Prelude.{◌≡◌, ◌<◌, ◌+◌, ◌*◌, ◌==◌, ℕ, zero, suc, true, false, All, Contains, List, [], ◌∷◌, ◌++◌, get_or, length, map, nat_lt}
use Rattle.std.proofs.Common.{refl, sym, ap, ◌∙◌, arith, inl, inr}
use Rattle.std.proofs.lemmas.Bool.{and_from, and_parts, both_ways, cases_order, cond-false, cond-true, eq-eqb, eqb-true, le-ltb, lt-ltb, ltb-true, ne_eqb, or_cases, or_from}
use Rattle.std.proofs.lemmas.List.{get_or_default}
use Rattle.std.proofs.lemmas.List.Elements.{All-cons, All-contains, All-head, All-same, All-tail}
use Rattle.std.proofs.lemmas.List.Folds.{Any-from_list_any, list_all-map, list_any_at, list_any_none}
use Rattle.std.proofs.lemmas.List.Sums.{AllPass-from_list_all, list_all-from_AllPass}
use Rattle.generation_frame.specs.Blocks.{pieces}
use Rattle.generation_frame.specs.Frames.{Fits}
use Rattle.generation_frame.specs.declared.frame.Packet.{Packet}
use Rattle.net_model.specs.Lists.{is_rising}
use Rattle.link_streams.specs.Streams.{IsStream, Stream, generation_count, has_place, place_of, put_in}

-- behind the first of rising packets come greater places, and they rise
pub rising_parts : (one : Packet) (rest : List Packet) → is_rising (map place_of (one ∷ rest)) ≡ true → All (λ packet. place_of one < place_of packet) rest × (is_rising (map place_of rest) ≡ true)
rising_parts one rest rising =
    let parts = and_parts _ (is_rising (map place_of rest)) rising in (
      λ k d within. ltb-true _ _ (AllPass-from_list_all (λ packet. nat_lt (place_of one) (place_of packet)) rest (sym (list_all-map (nat_lt (place_of one)) place_of rest) ∙ parts.0) k d within),
      parts.1,
    )

pub rising_from : (one : Packet) (rest : List Packet) → All (λ packet. place_of one < place_of packet) rest → is_rising (map place_of rest) ≡ true → is_rising (map place_of (one ∷ rest)) ≡ true
rising_from one rest later rising =
    and_from _ _
    (list_all-map (nat_lt (place_of one)) place_of rest ∙ list_all-from_AllPass (λ packet. nat_lt (place_of one) (place_of packet)) rest (λ k d within. lt-ltb _ _ (later k d within)))
    rising

-- of rising packets the earlier have smaller places
pub place-below : (packets : List Packet) (i j : ℕ) (d : Packet) → is_rising (map place_of packets) ≡ true → i < j → j < length packets → place_of (get_or packets i d) < place_of (get_or packets j d)
place-below [] i j d rising before within = absurd (omega arith)
place-below (one ∷ rest) i zero d rising before within = absurd (omega arith)
place-below (one ∷ rest) zero (suc j) d rising before within = (rising_parts one rest rising).0 j d (omega arith)
place-below (one ∷ rest) (suc i) (suc j) d rising before within = place-below rest i j d (rising_parts one rest rising).1 (omega arith) (omega arith)

-- so each place stands once
pub same-place : (packets : List Packet) (one other : Packet) → is_rising (map place_of packets) ≡ true → Contains packets one → Contains packets other → place_of one ≡ place_of other → one ≡ other
same-place packets one other rising first second same = elim (cases_order first.0 second.0) [
  | inl at ↦ sym first.2 ∙ ap (λ i. get_or packets i one) at ∙ get_or_default packets second.0 one other second.1 ∙ second.2
  | inr apart ↦ elim apart [
    | inl before ↦ absurd (omega (
      arith,
      place-below packets first.0 second.0 one rising before second.1,
      ap place_of first.2,
      ap place_of (get_or_default packets second.0 one other second.1 ∙ second.2),
      same,
    ))
    | inr behind ↦ absurd (omega (
      arith,
      place-below packets second.0 first.0 one rising behind first.1,
      ap place_of first.2,
      ap place_of (get_or_default packets second.0 one other second.1 ∙ second.2),
      same,
    ))
  ]
]

-- the place of a packet among others is there
pub has_place-at : (packets : List Packet) (i : ℕ) (d : Packet) (place : ℕ) → i < length packets → place_of (get_or packets i d) ≡ place → has_place packets place ≡ true
has_place-at packets i d place within is = list_any_at (λ packet. place_of packet == place) packets i d within (eq-eqb _ _ is)

-- and a place that is there is that of a packet
pub has_place-found : (packets : List Packet) (place : ℕ) → has_place packets place ≡ true → (packet : Packet) × Contains packets packet × (place_of packet ≡ place)
has_place-found packets place has =
    let any = Any-from_list_any (λ packet. place_of packet == place) packets has in
    (any.1, (any.0, any.2, any.3), eqb-true (place_of any.1) place any.4)

pub has_place-none : (packets : List Packet) (place : ℕ) → All (λ packet. place_of packet ≡ place → ⊥) packets → has_place packets place ≡ false
has_place-none packets place apart = list_any_none (λ packet. place_of packet == place) packets (λ k d within. ne_eqb _ place (apart k d within))

-- in a stream a place that is there is that of a packet with its generation and piece
pub has_place-piece : (stream : Stream) (generation piece : ℕ) → IsStream stream → piece < pieces → has_place stream.packets (generation * pieces + piece) ≡ true
    → (packet : Packet) × Contains stream.packets packet × (packet.generation ≡ generation) × (packet.piece ≡ piece)
has_place-piece stream generation piece is below has =
    let found = has_place-found stream.packets (generation * pieces + piece) has in
    let place : found.0.generation * 8 + found.0.piece ≡ generation * 8 + piece = found.2 in
    let fits : found.0.piece < 8 = (All-contains Fits stream.packets found.0 is.fit found.1).piece in
    (found.0, found.1, omega (arith, place, fits, below), omega (arith, place, fits, below))

-- one more packet before a later one, at the place of one, and behind an earlier one
pub put_in-earlier : (packet one : Packet) (rest : List Packet) → place_of packet < place_of one → put_in packet (one ∷ rest) ≡ packet ∷ one ∷ rest
put_in-earlier packet one rest earlier = cond-true _ _ _ (lt-ltb _ _ earlier)

pub put_in-same : (packet one : Packet) (rest : List Packet) → place_of packet ≡ place_of one → put_in packet (one ∷ rest) ≡ one ∷ rest
put_in-same packet one rest same =
    cond-false (nat_lt (place_of packet) (place_of one)) _ _ (le-ltb _ _ (omega (arith, same))) ∙ cond-true (place_of packet == place_of one) _ _ (eq-eqb _ _ same)

pub put_in-later : (packet one : Packet) (rest : List Packet) → place_of one < place_of packet → put_in packet (one ∷ rest) ≡ one ∷ put_in packet rest
put_in-later packet one rest later =
    cond-false (nat_lt (place_of packet) (place_of one)) _ _ (le-ltb _ _ (omega (arith, later)))
    ∙ cond-false (place_of packet == place_of one) _ _ (ne_eqb _ _ (λ same. absurd (omega (arith, same, later))))

-- what each packet has, each has with one more that has it
pub All-put_in : (P : Packet → Type 0) (packet : Packet) (packets : List Packet) → P packet → All P packets → All P (put_in packet packets)
All-put_in P packet [] new old = All-cons P packet [] new old
All-put_in P packet (one ∷ rest) new old = elim (cases_order (place_of packet) (place_of one)) [
  | inl same ↦ All-same P _ _ (put_in-same packet one rest same) old
  | inr apart ↦ elim apart [
    | inl earlier ↦ All-same P _ _ (put_in-earlier packet one rest earlier) (All-cons P packet (one ∷ rest) new old)
    | inr later ↦ All-same P _ _ (put_in-later packet one rest later) (All-cons P one (put_in packet rest) (All-head P one rest old) (All-put_in P packet rest new (All-tail P one rest old)))
  ]
]

-- rising packets rise with one more
pub rising-put_in : (packet : Packet) (packets : List Packet) → is_rising (map place_of packets) ≡ true → is_rising (map place_of (put_in packet packets)) ≡ true
rising-put_in packet [] rising = refl
rising-put_in packet (one ∷ rest) rising =
    let parts = rising_parts one rest rising in
    elim (cases_order (place_of packet) (place_of one)) [
      | inl same ↦ ap (λ packets. is_rising (map place_of packets)) (put_in-same packet one rest same) ∙ rising
      | inr apart ↦ elim apart [
        | inl earlier ↦ ap (λ packets. is_rising (map place_of packets)) (put_in-earlier packet one rest earlier)
            ∙ rising_from packet (one ∷ rest)
            (All-cons (λ other. place_of packet < place_of other) one rest earlier (λ k d within. let behind = parts.0 k d within in omega (arith, earlier, behind)))
            rising
        | inr later ↦ ap (λ packets. is_rising (map place_of packets)) (put_in-later packet one rest later)
            ∙ rising_from one (put_in packet rest) (All-put_in (λ other. place_of one < place_of other) packet rest later parts.0) (rising-put_in packet rest parts.1)
      ]
    ]

-- a stream with one more packet of its link is one
pub IsStream-put_in : (stream : Stream) (packet : Packet) → IsStream stream → Fits packet → packet.link ≡ stream.link → IsStream (record { link = stream.link; packets = put_in packet stream.packets })
IsStream-put_in stream packet is fits link =
    record {
      rising = rising-put_in packet stream.packets is.rising;
      fit = All-put_in Fits packet stream.packets fits is.fit;
      of_link = All-put_in (λ one. one.link ≡ stream.link) packet stream.packets link is.of_link;
    }

-- a packet whose place is there changes nothing
pub put_in-known : (packet : Packet) (packets : List Packet) → is_rising (map place_of packets) ≡ true → has_place packets (place_of packet) ≡ true → put_in packet packets ≡ packets
put_in-known packet [] rising has = cc
put_in-known packet (one ∷ rest) rising has =
    let parts = rising_parts one rest rising in
    elim (cases_order (place_of packet) (place_of one)) [
      | inl same ↦ put_in-same packet one rest same
      | inr apart ↦ elim apart [
        | inl earlier ↦ absurd (both_ways _
            (or_from _ _ (ne_eqb _ _ (λ same. absurd (omega (arith, same, earlier)))) (has_place-none rest (place_of packet) (λ k d within same. let behind = parts.0 k d within in absurd (omega (arith, same, earlier, behind)))))
            has)
        | inr later ↦ elim (or_cases (place_of one == place_of packet) (has_place rest (place_of packet)) has) [
          | inl here ↦ absurd (omega (arith, later, eqb-true (place_of one) (place_of packet) here))
          | inr behind ↦ put_in-later packet one rest later ∙ ap (λ packets. one ∷ packets) (put_in-known packet rest parts.1 behind)
        ]
      ]
    ]
