-- A packet that a node takes in is a delivery of the core.
use Rattle.std.specs.Prelude.{◌≡◌, ◌≢◌, ◌||◌, ℕ, Bool, true, false, Contains, List, ◌∷◌, if◌then◌else◌}
use Rattle.std.proofs.Common.{refl, sym, ap, subst, ◌∙◌, arith, inl, inr}
use Rattle.std.proofs.lemmas.Bool.{cases_Bool, false_from_ne_true, false≢true}
use Rattle.std.proofs.lemmas.List.Elements.{All-contains}
use Rattle.coded_traffic.specs.Traffic.{Key, Window, is_same_key, key_of}
use Rattle.generation_frame.specs.declared.frame.Packet.{Packet}
use Rattle.net_model.specs.Walks.{head_of}
use Rattle.node_plans.proofs.PlanLaws.{ins-each}
use Rattle.node_plans.specs.Plans.{ins_of}
use Rattle.node_plans.specs.declared.plan.Plan.{Plan}
use Rattle.node_program.specs.CodeValue.{is_live_in}
use Rattle.node_program.specs.declared.code.Code.{Code}
use Rattle.relay_core.proofs.PacketLaws.{has_key-held_after, itself, same_key}
use Rattle.relay_core.specs.Core.{Delivery, has_key, held_after, payload_of}
use Rattle.relay_node.specs.Relay.{Gains, IsBegun, Relay, has_input, input_at}
use Rattle.node_stations.specs.Shown.{IsInto, ShowsHeld, WorksOn}

-- a delivery leaves the payloads held of other keys
pub payload_of-other : (key : Key) (delivery : Delivery) (held : List Packet) → is_same_key (key_of delivery.pair) key ≡ false
    → payload_of (held_after delivery held) key ≡ payload_of held key
payload_of-other key delivery held apart = elim (cases_Bool (has_key (key_of delivery.pair) held)) [ inl has ↦ rw has refl | inr none ↦ rw none (rw apart refl) ]

module _ (code : Code) (pattern node : ℕ) (window : Window) where
  -- a key of the window is of a generation that the node has begun, on a link into it
  pub begun : (relay : Relay) (key : Key) → WorksOn code pattern node window relay → IsInto code pattern node window key → IsBegun relay key.generation
  begun relay key works into =
      record { from_first = omega (arith, works.first, into.begun); to_last = omega (arith, works.first, works.count, into.numbered) }

  pub link_in : (relay : Relay) (key : Key) → WorksOn code pattern node window relay → IsInto code pattern node window key → Contains relay.plan.ins key.link
  link_in relay key works into = subst (λ (plan : Plan). Contains plan.ins key.link) (sym works.plan) into.into

  -- a packet on a link that doesn't lead into the node
  pub shows-elsewhere : (delivery : Delivery) (held : List Packet) (relay : Relay) → ShowsHeld code pattern node window relay held
      → head_of code.net.links delivery.pair.link ≢ node → ShowsHeld code pattern node window relay (held_after delivery held)
  shows-elsewhere delivery held relay shows elsewhere =
      let Is : ℕ → Type 0 = λ link. (is_live_in code pattern link ≡ true) × (head_of code.net.links link ≡ node) in
      let apart : (key : Key) → IsInto code pattern node window key → is_same_key (key_of delivery.pair) key ≡ false =
      λ key is. false_from_ne_true (is_same_key (key_of delivery.pair) key) (λ same.
      elsewhere (ap (λ (k : Key). head_of code.net.links k.link) (same_key (key_of delivery.pair) key same)
      ∙ (All-contains Is (ins_of code pattern node) key.link (ins-each code pattern node) is.into).1)) in
      let stays : (key : Key) → IsInto code pattern node window key → has_key key (held_after delivery held) ≡ has_key key held =
      λ key is. has_key-held_after key delivery held ∙ ap (λ b. b || has_key key held) (apart key is) in
      record {
        works = shows.works;
        has = λ key is. shows.has key is ∙ sym (stays key is);
        bytes = λ key is has. shows.bytes key is (sym (stays key is) ∙ has) ∙ sym (payload_of-other key delivery held (apart key is));
      }

  module _ (delivery : Delivery) (held : List Packet) (into : IsInto code pattern node window (key_of delivery.pair)) where
    -- a packet that is known changes nothing that is held
    pub shows-known : (relay : Relay) → ShowsHeld code pattern node window relay held
        → has_input relay delivery.pair.generation delivery.pair.link delivery.pair.piece ≡ true
        → ShowsHeld code pattern node window relay (held_after delivery held)
    shows-known relay shows came =
        let stays : held_after delivery held ≡ held =
        ap (λ (has : Bool). if has then held else record delivery.pair { payload = delivery.payload } ∷ held) (sym (shows.has (key_of delivery.pair) into) ∙ came) in
        subst (ShowsHeld code pattern node window relay) (sym stays) shows

    -- a new one is held with the payload that was given
    pub shows-new : (old new : Relay) → ShowsHeld code pattern node window old held
        → has_input old delivery.pair.generation delivery.pair.link delivery.pair.piece ≡ false
        → Gains (record delivery.pair { payload = delivery.payload }) old new
        → ShowsHeld code pattern node window new (held_after delivery held)
    shows-new old new shows absent gains = subst (ShowsHeld code pattern node window new) (sym more) shown
      where
        given : Packet
        given = record delivery.pair { payload = delivery.payload }

        more : held_after delivery held ≡ given ∷ held
        more = ap (λ (has : Bool). if has then held else given ∷ held) (sym (shows.has (key_of delivery.pair) into) ∙ absent)

        -- any other packet stays
        apart : (key : Key) → is_same_key (key_of given) key ≡ false
            → (key.generation ≡ given.generation) × (key.link ≡ given.link) × (key.piece ≡ given.piece) → ⊥
        apart key other equal =
            let same : key_of given ≡ key = λ i. record { link = sym equal.1 i; generation = sym equal.0 i; piece = sym equal.2 i } in
            false≢true (sym other ∙ ap (is_same_key (key_of given)) (sym same) ∙ itself (key_of given))

        has : (key : Key) → IsInto code pattern node window key → has_input new key.generation key.link key.piece ≡ has_key key (given ∷ held)
        has key is_into = by (is_same_key (key_of given) key) refl
          where
            by : (b : Bool) → is_same_key (key_of given) key ≡ b → has_input new key.generation key.link key.piece ≡ (b || has_key key held)
            by true is = ap (λ (k : Key). has_input new k.generation k.link k.piece) (sym (same_key (key_of given) key is)) ∙ gains.came
            by false is = (gains.others key.generation key.link key.piece (begun old key shows.works is_into) (link_in old key shows.works is_into) is_into.of_piece (apart key is)).has ∙ shows.has key is_into

        bytes : (key : Key) → IsInto code pattern node window key → has_key key (given ∷ held) ≡ true
            → input_at new key.generation key.link key.piece ≡ payload_of (given ∷ held) key
        bytes key is_into there = by (is_same_key (key_of given) key) refl there
          where
            by : (b : Bool) → is_same_key (key_of given) key ≡ b → (b || has_key key held) ≡ true
                → input_at new key.generation key.link key.piece ≡ (if b then given.payload else payload_of held key)
            by true is here = ap (λ (k : Key). input_at new k.generation k.link k.piece) (sym (same_key (key_of given) key is)) ∙ gains.bytes
            by false is here = (gains.others key.generation key.link key.piece (begun old key shows.works is_into) (link_in old key shows.works is_into) is_into.of_piece (apart key is)).bytes ∙ shows.bytes key is_into here

        shown : ShowsHeld code pattern node window new (given ∷ held)
        shown =
            record {
              works = record { plan = gains.work.plan ∙ shows.works.plan; first = gains.work.first ∙ shows.works.first; count = gains.work.count ∙ shows.works.count };
              has = has;
              bytes = bytes;
            }
