-- What the source gives once all blocks of a window were fed, until nothing is due, is what flies first.
use Rattle.std.specs.Prelude.{◌≡◌, ◌<◌, ◌≤◌, ◌||◌, ◌++◌, ℕ, Bool, true, false, All, Contains, IsPermutation, List, [], ◌∷◌, filter, length, map, if◌then◌else◌}
use Rattle.std.proofs.Common.{refl, sym, ap, subst, ◌∙◌, arith, get_or, inl, inr}
use Rattle.std.proofs.lemmas.Bool.{and_from, and_parts, cases_Bool, eq-eqb, false_from_ne_true, false≢true}
use Rattle.std.proofs.lemmas.List.Elements.{All-cons, All-filter, All-map, All-nil}
use Rattle.std.proofs.lemmas.List.Folds.{map_fixed}
use Rattle.std.proofs.lemmas.List.Sorted.{IsPermutation-map}
use Rattle.std.proofs.lemmas.Simd.{map-map}
use Rattle.coded_traffic.specs.Traffic.{IsKey, Key, Window, is_same_key, key_of, keys_of, packet_of}
use Rattle.generation_frame.specs.Blocks.{pieces}
use Rattle.generation_frame.specs.declared.frame.Packet.{Packet}
use Rattle.item_list.proofs.Positions.{place_in, place_in-within}
use Rattle.net_model.proofs.EndLaws.{tail_of-leaves_source}
use Rattle.net_model.specs.Walks.{leaves_source}
use Rattle.node_plans.proofs.PlanLaws.{IsPlan-plan_of, outs-contains}
use Rattle.node_plans.specs.Plans.{IsPlan, operands_of, out_place, outs_of}
use Rattle.node_plans.specs.declared.plan.Plan.{Plan}
use Rattle.node_program.proofs.LiveLaws.{live-below}
use Rattle.node_program.specs.declared.Operand.{Operand}
use Rattle.node_program.specs.declared.code.Code.{Code}
use Rattle.relay_core.proofs.ListLaws.{all_pass, count-filter, or_turned, same_counts}
use Rattle.relay_core.proofs.PacketLaws.{has_key-append, has_key-passing, itself, same_key, times-has, times-none, times_of-map}
use Rattle.relay_core.proofs.TrafficLaws.{has_key-packets, is_key-packets, once-packets}
use Rattle.relay_core.specs.Core.{has_key, opening, packets_of, times_of}
use Rattle.relay_node.proofs.TrafficLaws.{gives-traffic, leaves_source-out, live_out}
use Rattle.relay_node.specs.Relay.{Gives, IsBegun, IsDue, IsOut, Relay, TakesTraffic, has_input, is_complete}
use Rattle.node_stations.proofs.GivingLaws.{begun_before, or_none, out_before, shown_after, times_more}
use Rattle.node_stations.specs.Shown.{GivesEach, IsFedAll, ShowsSent}

module _ (code : Code) (pattern : ℕ) (window : Window) where
  abbrev source : ℕ
  source = code.net.source

  -- what flies first
  abbrev first : List Packet
  first = filter (λ packet. leaves_source code.net packet.link) (packets_of code pattern window)

  abbrev IsOfTraffic : Packet → Type 0
  IsOfTraffic packet = packet ≡ packet_of code pattern window (key_of packet)

  -- the source takes in the traffic, and all that it needs has come
  pub record Ready (relay : Relay) : Type 0 where
    pub takes : TakesTraffic code pattern source window relay
    pub fed : (generation row piece : ℕ) → IsBegun relay generation → row < code.rate → piece < pieces → has_input relay generation row piece ≡ true

  -- it stays so when a packet is given
  ready_after : (packet : Packet) (old new : Relay) → Gives packet old new → Ready old → Ready new
  ready_after packet old new gives ready =
      record {
        takes = record {
          plan = gives.work.plan ∙ ready.takes.plan;
          first = gives.work.first ∙ ready.takes.first;
          count = gives.work.count ∙ ready.takes.count;
          blocks = λ g begun. ready.takes.blocks g (begun_before old new gives.work g begun);
          rows = λ is g row piece begun low short came.
              (gives.inputs g row piece).bytes
              ∙ ready.takes.rows (sym (ap (λ (plan : Plan). plan.is_source) gives.work.plan) ∙ is) g row piece (begun_before old new gives.work g begun) low short
              (sym (gives.inputs g row piece).has ∙ came);
          traffic = λ g link piece begun into short came.
              (gives.inputs g link piece).bytes
              ∙ ready.takes.traffic g link piece (begun_before old new gives.work g begun) (subst (λ (plan : Plan). Contains plan.ins link) gives.work.plan into) short
              (sym (gives.inputs g link piece).has ∙ came);
        };
        fed = λ g row piece begun low short. (gives.inputs g row piece).has ∙ ready.fed g row piece (begun_before old new gives.work g begun) low short;
      }

  -- what was given so far: packets of the traffic that the source can give, and no key twice
  pub record AreFirst (relay new : Relay) (sent more : List Packet) : Type 0 where
    pub ready : Ready new
    pub sends : ShowsSent new (more ++ sent)
    pub out : (key : Key) → has_key key more ≡ true → IsOut relay key × (has_key key sent ≡ false)
    pub once : (key : Key) → times_of key more ≤ 1
    pub are : All IsOfTraffic more

  pub first-each : (more : List Packet) (relay new : Relay) (sent : List Packet) → Ready relay → ShowsSent relay sent → GivesEach relay more new → AreFirst relay new sent more
  first-each [] relay new sent ready shown is =
      record {
        ready = subst Ready (sym is) ready;
        sends = subst (λ (r : Relay). ShowsSent r sent) (sym is) shown;
        out = λ key has. absurd (false≢true has);
        once = λ key. omega arith;
        are = All-nil IsOfTraffic;
      }
  first-each (packet ∷ more) relay new sent ready shown (mid, gives, rest) =
      of_rest (first-each more mid new (packet ∷ sent) (ready_after packet relay mid gives ready) (shown_after packet relay mid sent gives shown) rest)
    where
      is_plan : IsPlan relay.plan
      is_plan = subst IsPlan (sym ready.takes.plan) (IsPlan-plan_of code pattern source)

      of_rest : AreFirst mid new (packet ∷ sent) more → AreFirst relay new sent (packet ∷ more)
      of_rest given =
          record {
            ready = given.ready;
            sends = λ key is. given.sends key is ∙ has_key-append key more (packet ∷ sent)
                ∙ or_turned (has_key key more) (is_same_key (key_of packet) key) (has_key key sent)
                ∙ sym (has_key-append key (packet ∷ more) sent);
            out = out;
            once = once;
            are = All-cons IsOfTraffic packet more (gives-traffic code pattern source window relay ready.takes is_plan packet mid gives) given.are;
          }
        where
          out : (key : Key) → has_key key (packet ∷ more) ≡ true → IsOut relay key × (has_key key sent ≡ false)
          out key has = by (is_same_key (key_of packet) key) refl has
            where
              by : (b : Bool) → is_same_key (key_of packet) key ≡ b → (b || has_key key more) ≡ true → IsOut relay key × (has_key key sent ≡ false)
              by true same here =
                  subst (λ (k : Key). IsOut relay k × (has_key k sent ≡ false)) (same_key (key_of packet) key same)
                  (gives.due.out, sym (shown (key_of packet) gives.due.out) ∙ gives.due.not_given)
              by false apart there =
                  let later = given.out key there in
                  (out_before relay mid gives.work key later.0, or_none (is_same_key (key_of packet) key) (has_key key sent) later.1)

          once : (key : Key) → times_of key (packet ∷ more) ≤ 1
          once key =
              times_more key packet more (given.once key) (λ same. false_from_ne_true (has_key key more) (λ has.
              false≢true (sym (given.out key has).1 ∙ ap (λ b. b || has_key key sent) same)))

  module _ (relay new : Relay) (more : List Packet) (fed : IsFedAll code pattern window relay) (each : GivesEach relay more new) where
    pub given : AreFirst relay new [] more
    given = first-each more relay new [] (record { takes = fed.takes; fed = fed.fed }) (λ key is. fed.not_given key is) each

    -- a key given is one of the traffic on a link that leaves the source
    pub given-key : (key : Key) → has_key key more ≡ true → IsKey code pattern window key × (leaves_source code.net key.link ≡ true)
    given-key key has =
        let is = (given.out key has).0 in
        let leaves : Contains (outs_of code pattern source) key.link = subst (λ (plan : Plan). Contains plan.outs key.link) fed.takes.plan is.leaves in
        let live = live_out code pattern source key.link leaves in (
          record {
            begun = omega (arith, fed.takes.first, is.begun.from_first);
            numbered = omega (arith, fed.takes.first, fed.takes.count, is.begun.to_last);
            of_link = live-below code pattern key.link live;
            live = live;
            of_piece = is.of_piece;
          },
          leaves_source-out code pattern source key.link leaves ∙ eq-eqb source source refl,
        )

    -- so it flies first
    given-first : (key : Key) → has_key key more ≡ true → has_key key first ≡ true
    given-first key has =
        let is = given-key key has in
        has_key-passing (leaves_source code.net) key (packets_of code pattern window) ∙ and_from _ _ is.1 (has_key-packets code pattern window key is.0)

    -- Where nothing is due any more, they are what flies first.
    module _ (none : (key : Key) → IsDue new key → ⊥) where
      -- each operand of a link out of the source is a row
      complete : (key : Key) → IsOut new key → is_complete new key ≡ true
      complete key is =
          let rows : All (λ (operand : Operand). operand.from < code.rate) (operands_of new.plan key.link) =
          λ k d within.
          let place = place_in-within new.plan.outs key.link is.leaves in
          let below = is_plan.inputs (out_place new.plan key.link) [] (omega (arith, place, is_plan.each_out)) k d within in
          subst (λ n. (get_or (operands_of new.plan key.link) k d).from < n) (ap (λ (plan : Plan). plan.rate) given.ready.takes.plan)
          (subst (λ b. (if b then (get_or (operands_of new.plan key.link) k d).from else place_in new.plan.ins (get_or (operands_of new.plan key.link) k d).from) < (if b then new.plan.rate else length new.plan.ins)) is_source below) in
          all_pass (λ (operand : Operand). operand.from < code.rate) (λ operand. has_input new key.generation operand.from key.piece) (operands_of new.plan key.link)
          (λ operand low. given.ready.fed key.generation operand.from key.piece is.begun low is.of_piece) rows
        where
          is_plan : IsPlan new.plan
          is_plan = subst IsPlan (sym given.ready.takes.plan) (IsPlan-plan_of code pattern source)

          is_source : new.plan.is_source ≡ true
          is_source = ap (λ (plan : Plan). plan.is_source) given.ready.takes.plan ∙ eq-eqb source source refl

      -- and all those were given
      first-given : (key : Key) → has_key key first ≡ true → has_key key more ≡ true
      first-given key has =
          let parts = and_parts _ _ (sym (has_key-passing (leaves_source code.net) key (packets_of code pattern window)) ∙ has) in
          let is_key = is_key-packets code pattern window key parts.1 in
          let leaves : Contains (outs_of code pattern source) key.link =
          subst (λ n. Contains (outs_of code pattern n) key.link) (tail_of-leaves_source code.net key.link parts.0).1 (outs-contains code pattern key.link is_key.live) in
          let is : IsOut new key =
          record {
            leaves = subst (λ (plan : Plan). Contains plan.outs key.link) (sym given.ready.takes.plan) leaves;
            begun = record {
              from_first = omega (arith, given.ready.takes.first, is_key.begun);
              to_last = omega (arith, given.ready.takes.first, given.ready.takes.count, is_key.numbered);
            };
            of_piece = is_key.of_piece;
          } in
          elim (cases_Bool (has_key key more)) [
            | inl has ↦ has
            | inr lacks ↦
                absurd (none key (record {
                  out = is;
                  complete = complete key is;
                  not_given = given.sends key is ∙ has_key-append key more [] ∙ ap (λ b. b || false) lacks;
                }))
          ]

      same_times : (key : Key) → times_of key more ≡ times_of key first
      same_times key = elim (cases_Bool (has_key key more)) [
        | inl has ↦ omega (arith, given.once key, times-has key more has, times-has key first (given-first key has), once-first key)
        | inr lacks ↦ omega (arith, times-none key more lacks, times-none key first (false_from_ne_true (has_key key first) (λ has. false≢true (sym lacks ∙ first-given key has))))
      ]
        where
          once-first : (key : Key) → times_of key first ≤ 1
          once-first key = omega (
            arith,
            once-packets code pattern window key,
            count-filter (λ packet. is_same_key (key_of packet) key) (λ packet. leaves_source code.net packet.link) (packets_of code pattern window),
          )

      pub source-gives : IsPermutation (opening code pattern window).sent more
      source-gives =
          let packet = packet_of code pattern window in
          let same : IsPermutation (map key_of first) (map key_of more) =
          same_counts is_same_key same_key itself (map key_of more) (map key_of first)
          (λ key. sym (times_of-map key more) ∙ same_times key ∙ times_of-map key first) in
          let back : (packets : List Packet) → All IsOfTraffic packets → map packet (map key_of packets) ≡ packets =
          λ packets are. map-map packet key_of packets ∙ map_fixed (λ p. packet (key_of p)) packets (λ k d within. sym (are k d within)) in
          let all : All IsOfTraffic (packets_of code pattern window) = All-map IsOfTraffic packet (keys_of code pattern window) (λ k d within. refl) in
          let firsts : All IsOfTraffic first = All-filter (λ p. leaves_source code.net p.link) IsOfTraffic (packets_of code pattern window) all in
          let moved : IsPermutation (map packet (map key_of first)) (map packet (map key_of more)) = IsPermutation-map packet (map key_of first) (map key_of more) same in
          subst (λ (packets : List Packet). IsPermutation first packets) (back more given.are)
          (subst (λ (packets : List Packet). IsPermutation packets (map packet (map key_of more))) (back first firsts) moved)
