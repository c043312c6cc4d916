-- A packet that a sink takes in is a delivery of the core.
use Rattle.std.specs.Prelude.{◌≡◌, ◌||◌, ℕ, Bool, true, false, List, ◌∷◌, if◌then◌else◌}
use Rattle.std.proofs.Common.{refl, sym, ap, subst, ◌∙◌, arith}
use Rattle.std.proofs.lemmas.Bool.{false_from_ne_true, false≢true}
use Rattle.coded_traffic.specs.Traffic.{Key, Window, is_same_key, key_of}
use Rattle.generation_frame.specs.declared.frame.Packet.{Packet}
use Rattle.node_program.specs.declared.code.Code.{Code}
use Rattle.relay_core.proofs.PacketLaws.{has_key-held_after, itself, same_key}
use Rattle.relay_core.specs.Core.{Delivery, has_key, held_after, payload_of}
use Rattle.sink_decoder.specs.Receiving.{Gains, IsBegun, Receiver, SinkPlan, has_piece, payload_at, sink_plan_of, wants}
use Rattle.node_stations.proofs.DeliveryLaws.{payload_of-other}
use Rattle.node_stations.specs.Shown.{IsWanted, ShowsSink}

module _ (code : Code) (demand : ℕ) (window : Window) where
  -- a key of the window is of a generation that the sink has begun, on a link that it wants
  begun : (sink : Receiver) (held : List Packet) (key : Key) → ShowsSink code demand window sink held → IsWanted code demand window key → IsBegun sink key.generation
  begun sink held key shows is =
      record { from_first = omega (arith, shows.first, is.begun); to_last = omega (arith, shows.first, shows.count, is.numbered) }

  link_in : (sink : Receiver) (held : List Packet) (key : Key) → ShowsSink code demand window sink held → IsWanted code demand window key → wants sink.plan key.link ≡ true
  link_in sink held key shows is = ap (λ (plan : SinkPlan). wants plan key.link) shows.plan ∙ is.wanted

  module _ (delivery : Delivery) (held : List Packet) where
    -- a packet on a link that the sink doesn't want
    pub shows-unwanted : (sink : Receiver) → ShowsSink code demand window sink held
        → wants (sink_plan_of code demand) delivery.pair.link ≡ false
        → ShowsSink code demand window sink (held_after delivery held)
    shows-unwanted sink shows unwanted =
        let apart : (key : Key) → IsWanted code demand window key → is_same_key (key_of delivery.pair) key ≡ false =
        λ key is. false_from_ne_true (is_same_key (key_of delivery.pair) key) (λ same.
        false≢true (sym unwanted ∙ ap (λ (k : Key). wants (sink_plan_of code demand) k.link) (same_key (key_of delivery.pair) key same) ∙ is.wanted)) in
        let stays : (key : Key) → IsWanted code demand window key → has_key key (held_after delivery held) ≡ has_key key held =
        λ key is. has_key-held_after key delivery held ∙ ap (λ b. b || has_key key held) (apart key is) in
        record {
          plan = shows.plan;
          first = shows.first;
          count = shows.count;
          has = λ key is. shows.has key is ∙ sym (stays key is);
          bytes = λ key is has. shows.bytes key is (sym (stays key is) ∙ has) ∙ sym (payload_of-other key delivery held (apart key is));
        }

    module _ (is_wanted : IsWanted code demand window (key_of delivery.pair)) where
      -- one that is known changes nothing that is held
      pub shows_sink-known : (sink : Receiver) → ShowsSink code demand window sink held
          → has_piece sink delivery.pair.generation delivery.pair.link delivery.pair.piece ≡ true
          → ShowsSink code demand window sink (held_after delivery held)
      shows_sink-known sink shows came =
          let stays : held_after delivery held ≡ held =
          ap (λ (has : Bool). if has then held else record delivery.pair { payload = delivery.payload } ∷ held) (sym (shows.has (key_of delivery.pair) is_wanted) ∙ came) in
          subst (ShowsSink code demand window sink) (sym stays) shows

      -- a new one is held with the payload that was given
      pub shows_sink-new : (old new : Receiver) → ShowsSink code demand window old held
          → has_piece old delivery.pair.generation delivery.pair.link delivery.pair.piece ≡ false
          → Gains delivery.pair.generation delivery.pair.link delivery.pair.piece delivery.payload old new
          → ShowsSink code demand window new (held_after delivery held)
      shows_sink-new old new shows absent gains = subst (ShowsSink code demand window new) (sym more) shown
        where
          given : Packet
          given = record delivery.pair { payload = delivery.payload }

          more : held_after delivery held ≡ given ∷ held
          more = ap (λ (has : Bool). if has then held else given ∷ held) (sym (shows.has (key_of delivery.pair) is_wanted) ∙ absent)

          -- any other packet stays
          apart : (key : Key) → is_same_key (key_of given) key ≡ false
              → (key.generation ≡ given.generation) × (key.link ≡ given.link) × (key.piece ≡ given.piece) → ⊥
          apart key other equal =
              let same : key_of given ≡ key = λ i. record { link = sym equal.1 i; generation = sym equal.0 i; piece = sym equal.2 i } in
              false≢true (sym other ∙ ap (is_same_key (key_of given)) (sym same) ∙ itself (key_of given))

          has : (key : Key) → IsWanted code demand window key → has_piece new key.generation key.link key.piece ≡ has_key key (given ∷ held)
          has key is = by (is_same_key (key_of given) key) refl
            where
              by : (b : Bool) → is_same_key (key_of given) key ≡ b → has_piece new key.generation key.link key.piece ≡ (b || has_key key held)
              by true same = ap (λ (k : Key). has_piece new k.generation k.link k.piece) (sym (same_key (key_of given) key same)) ∙ gains.came
              by false other =
                  (gains.others key.generation key.link key.piece (begun old held key shows is) (link_in old held key shows is) is.of_piece (apart key other)).0
                  ∙ shows.has key is

          bytes : (key : Key) → IsWanted code demand window key → has_key key (given ∷ held) ≡ true
              → payload_at new key.generation key.link key.piece ≡ payload_of (given ∷ held) key
          bytes key is there = by (is_same_key (key_of given) key) refl there
            where
              by : (b : Bool) → is_same_key (key_of given) key ≡ b → (b || has_key key held) ≡ true
                  → payload_at new key.generation key.link key.piece ≡ (if b then given.payload else payload_of held key)
              by true same here = ap (λ (k : Key). payload_at new k.generation k.link k.piece) (sym (same_key (key_of given) key same)) ∙ gains.bytes
              by false other here =
                  (gains.others key.generation key.link key.piece (begun old held key shows is) (link_in old held key shows is) is.of_piece (apart key other)).1
                  ∙ shows.bytes key is here

          shown : ShowsSink code demand window new (given ∷ held)
          shown =
              record {
                plan = gains.same_plan ∙ shows.plan;
                first = gains.same_first ∙ shows.first;
                count = gains.same_count ∙ shows.count;
                has = has;
                bytes = bytes;
              }
