-- Laws of how a stream lies in memory.
use Rattle.std.specs.Prelude.{◌≡◌, ◌+◌, ◌==◌, ℕ, Bool, true, false, All, Contains, List, [], ◌∷◌, ◌++◌, get_or, if◌then◌else◌, length, map, max, replicate, Option, None, Some}
use Rattle.std.specs.Option.{IsSome, is_some}
use Rattle.std.proofs.Common.{refl, sym, ap, subst, ◌∙◌, arith, inl, inr}
use Rattle.std.proofs.lemmas.Bool.{both_ways, cases_Bool, cases_lt, cases_order, cond-false, cond-true, eq-eqb, eqb-false, eqb-true, le-ltb, lt-ltb, or_parts}
use Rattle.std.proofs.lemmas.List.{get_or-replicate, get_or_append_left, get_or_push, length-replicate, length_push}
use Rattle.std.proofs.lemmas.List.Elements.{All-head, All-nil, All-push, All-tail, All-weaker, Contains-append_cases, Contains-append_left, Contains-append_right}
use Rattle.generation_frame.specs.Frames.{Fits}
use Rattle.generation_frame.specs.declared.frame.Packet.{Packet}
use Rattle.net_model.specs.Lists.{is_rising}
use Rattle.link_streams.specs.Held.{AreHeld, IsNumberOf, number_at, packets_held, put_all}
use Rattle.link_streams.specs.Streams.{IsStream, generation_count, has_place, place_of, put_in}
use Rattle.link_streams.proofs.StreamLaws.{All-put_in, has_place-none, put_in-earlier, put_in-later, put_in-same, rising-put_in}

-- the last of several is put in last
pub put_all-push : (held packets : List Packet) (packet : Packet) → put_all held (packets ++ packet ∷ []) ≡ put_in packet (put_all held packets)
put_all-push held [] packet = refl
put_all-push held (one ∷ packets) packet = put_all-push (put_in one held) packets packet

-- what each packet has, each has of those with others put in
All-put_all : (P : Packet → Type 0) (held packets : List Packet) → All P held → All P packets → All P (put_all held packets)
All-put_all P held [] old new = old
All-put_all P held (one ∷ packets) old new = All-put_all P (put_in one held) packets (All-put_in P one held (All-head P one packets new) old) (All-tail P one packets new)

pub All-held : (P : Packet → Type 0) (packets : List Packet) → All P packets → All P (packets_held packets)
All-held P packets all = All-put_all P [] packets (All-nil P) all

-- and they rise
rising-put_all : (held packets : List Packet) → is_rising (map place_of held) ≡ true → is_rising (map place_of (put_all held packets)) ≡ true
rising-put_all held [] rising = rising
rising-put_all held (one ∷ packets) rising = rising-put_all (put_in one held) packets (rising-put_in one held rising)

-- with one more packet all others are there
Contains-put_in-old : (packet : Packet) (packets : List Packet) (one : Packet) → Contains packets one → Contains (put_in packet packets) one
Contains-put_in-old packet [] one has = absurd (omega (arith, has.1))
Contains-put_in-old packet (first ∷ rest) one has = elim (cases_order (place_of packet) (place_of first)) [
  | inl same ↦ subst (λ packets. Contains packets one) (sym (put_in-same packet first rest same)) has
  | inr apart ↦ elim apart [
    | inl earlier ↦ subst (λ packets. Contains packets one) (sym (put_in-earlier packet first rest earlier)) (Contains-append_right (packet ∷ []) (first ∷ rest) one has)
    | inr later ↦ subst (λ packets. Contains packets one) (sym (put_in-later packet first rest later)) (elim (Contains-append_cases (first ∷ []) rest one has) [
      | inl here ↦ Contains-append_left (first ∷ []) (put_in packet rest) one here
      | inr behind ↦ Contains-append_right (first ∷ []) (put_in packet rest) one (Contains-put_in-old packet rest one behind)
    ])
  ]
]

-- and so is it, where its place is new
Contains-put_in-new : (packet : Packet) (packets : List Packet) → has_place packets (place_of packet) ≡ false → Contains (put_in packet packets) packet
Contains-put_in-new packet [] lacks = (0, omega arith, refl)
Contains-put_in-new packet (first ∷ rest) lacks =
    let apart = or_parts (place_of first == place_of packet) (has_place rest (place_of packet)) lacks in
    elim (cases_order (place_of packet) (place_of first)) [
      | inl same ↦ absurd (eqb-false (place_of first) (place_of packet) apart.0 (sym same))
      | inr order ↦ elim order [
        | inl earlier ↦ subst (λ packets. Contains packets packet) (sym (put_in-earlier packet first rest earlier)) (0, omega arith, refl)
        | inr later ↦ subst (λ packets. Contains packets packet) (sym (put_in-later packet first rest later))
            (Contains-append_right (first ∷ []) (put_in packet rest) packet (Contains-put_in-new packet rest apart.1))
      ]
    ]

-- then the generations are at least as many as its own
generation_count-put_in : (packet : Packet) (packets : List Packet) → has_place packets (place_of packet) ≡ false → generation_count (put_in packet packets) ≡ max (packet.generation + 1) (generation_count packets)
generation_count-put_in packet [] lacks = refl
generation_count-put_in packet (first ∷ rest) lacks =
    let apart = or_parts (place_of first == place_of packet) (has_place rest (place_of packet)) lacks in
    elim (cases_order (place_of packet) (place_of first)) [
      | inl same ↦ absurd (eqb-false (place_of first) (place_of packet) apart.0 (sym same))
      | inr order ↦ elim order [
        | inl earlier ↦ ap generation_count (put_in-earlier packet first rest earlier)
        | inr later ↦ let behind = generation_count-put_in packet rest apart.1 in
            ap generation_count (put_in-later packet first rest later) ∙ omega (arith, behind)
      ]
    ]

module _ (link : ℕ) (packets : List Packet) (early : List (Option ℕ)) (late : List (ℕ × ℕ)) (generations : ℕ) (held : AreHeld link packets early late generations) where
  -- packets held are a stream
  pub IsStream-held : IsStream (record { link = link; packets = packets_held packets })
  IsStream-held =
      record {
        rising = rising-put_all [] packets refl;
        fit = All-held Fits packets held.fit;
        of_link = All-held (λ packet. packet.link ≡ link) packets held.of_link;
      }

  -- the packet of a number is there, at its place
  pub number-found : (place number : ℕ) (d : Packet) → number_at early late place ≡ Some number → Contains (packets_held packets) (get_or packets number d) × (place_of (get_or packets number d) ≡ place)
  number-found place number d is = let at = held.numbers place number is in (held.held number d at.0, at.1 d)

  -- and a place without a number isn't
  pub number-none : (place : ℕ) → number_at early late place ≡ None → has_place (packets_held packets) place ≡ false
  number-none place none =
      has_place-none (packets_held packets) place
      (All-held (λ packet. place_of packet ≡ place → ⊥) packets (All-weaker (λ packet. IsSome (number_at early late (place_of packet))) (λ packet. place_of packet ≡ place → ⊥)
      (λ packet some same. both_ways _ (ap is_some (ap (number_at early late) same ∙ none)) some) packets held.found))

  -- one more of a new place is held
  module _ (packet : Packet) (fits : Fits packet) (of_link : packet.link ≡ link) (new : has_place (packets_held packets) (place_of packet) ≡ false) where
    pub held-pushed : packets_held (packets ++ packet ∷ []) ≡ put_in packet (packets_held packets)
    held-pushed = put_all-push [] packets packet

    pub AreHeld-pushed : (early' : List (Option ℕ)) (late' : List (ℕ × ℕ)) (generations' : ℕ)
        → ((place : ℕ) → number_at early' late' place ≡ (if place == place_of packet then Some (length packets) else number_at early late place))
        → generations' ≡ max generations (packet.generation + 1)
        → AreHeld link (packets ++ packet ∷ []) early' late' generations'
    AreHeld-pushed early' late' generations' noted counted =
        record {
          fit = All-push Fits packets packet held.fit fits;
          of_link = All-push (λ packet. packet.link ≡ link) packets packet held.of_link of_link;
          held = subst (λ all. All (Contains all) (packets ++ packet ∷ [])) (sym held-pushed)
              (All-push (Contains (put_in packet (packets_held packets))) packets packet
              (All-weaker (Contains (packets_held packets)) (Contains (put_in packet (packets_held packets))) (λ one has. Contains-put_in-old packet (packets_held packets) one has) packets held.held)
              (Contains-put_in-new packet (packets_held packets) new));
          found = All-push (λ one. IsSome (number_at early' late' (place_of one))) packets packet
              (All-weaker (λ one. IsSome (number_at early late (place_of one))) (λ one. IsSome (number_at early' late' (place_of one)))
              (λ one some. subst IsSome (sym (noted (place_of one))) (either (place_of one == place_of packet) (number_at early late (place_of one)) some)) packets held.found)
              (subst IsSome (sym (noted (place_of packet))) (subst (λ (is : Bool). IsSome (if is then Some (length packets) else number_at early late (place_of packet))) (sym (eq-eqb (place_of packet) (place_of packet) refl)) refl));
          numbers = λ place number is. elim (cases_Bool (place == place_of packet)) [
            | inl here ↦
                let at : Some (length packets) ≡ Some number = sym (noted place ∙ cond-true _ _ _ here) ∙ is in
                let number_is : length packets ≡ number = cc in
                subst (IsNumberOf (packets ++ packet ∷ []) place) number_is
                (omega (arith, length_push packets packet), λ d. ap place_of (get_or_push packets packet d (length packets) refl) ∙ sym (eqb-true place (place_of packet) here))
            | inr apart ↦
                let at = held.numbers place number (sym (noted place ∙ cond-false _ _ _ apart) ∙ is) in
                (omega (arith, at.0, length_push packets packet), λ d. ap place_of (get_or_append_left packets (packet ∷ []) d number at.0) ∙ at.1 d)
          ];
          counted = counted ∙ ap (λ count. max count (packet.generation + 1)) held.counted ∙ omega arith
              ∙ sym (ap generation_count held-pushed ∙ generation_count-put_in packet (packets_held packets) new);
        }
      where
        either : (is : Bool) (old : Option ℕ) → IsSome old → IsSome (if is then Some (length packets) else old)
        either true old some = refl
        either false old some = some
