-- How many packets fly, and how many are put: no more than there are keys of the window.
use Rattle.std.specs.Prelude.{◌≡◌, ◌≤◌, ◌+◌, ◌*◌, ◌||◌, ◌++◌, ℕ, true, false, cond, Contains, List, [], ◌∷◌, flat_map, length, map, count_by, sum_by}
use Rattle.std.specs.List.{range_with_len}
use Rattle.std.proofs.Common.{arith, ap, inl, inr, sym, subst, ◌∙◌}
use Rattle.std.proofs.Math.Nat.{mul-le-mul_right}
use Rattle.std.proofs.lemmas.Bool.{cases_Bool, false_from_ne_true, false≢true, or_cases}
use Rattle.std.proofs.lemmas.List.{length-append, length-map}
use Rattle.std.proofs.lemmas.List.Concat.{length-flat_map}
use Rattle.std.proofs.lemmas.List.FromFn.{length-range_with_len}
use Rattle.std.proofs.lemmas.List.Sums.{sum_by-append, sum_by-le}
use Rattle.coded_traffic.proofs.KeyLaws.{key-once}
use Rattle.coded_traffic.specs.Traffic.{IsKey, Key, Window, is_same_key, key_of, keys_of, live_links_of, room_for}
use Rattle.generation_frame.specs.Blocks.{most_blocks, pieces}
use Rattle.generation_frame.specs.declared.frame.Packet.{Packet}
use Rattle.node_plans.proofs.ListLaws.{length-filter-le}
use Rattle.node_plans.specs.declared.plan.Plan.{Plan}
use Rattle.node_program.proofs.LiveLaws.{live-below}
use Rattle.node_program.specs.CodeValue.{is_live_in}
use Rattle.node_program.specs.declared.code.Code.{Code}
use Rattle.node_stations.proofs.GivingLaws.{or_none, shown_after, times_more}
use Rattle.node_stations.specs.Delivering.{NodeTakes}
use Rattle.node_stations.specs.Shown.{GivesEach, IsFedAll, ShowsSent, WorksOn}
use Rattle.relay_core.proofs.ListLaws.{length-fewer}
use Rattle.relay_core.proofs.PacketLaws.{has_key-append, itself, same_key, times-none, times_of-map}
use Rattle.relay_core.proofs.RunLaws.{reached-kept}
use Rattle.relay_core.proofs.StepLaws.{step-count}
use Rattle.relay_core.specs.Core.{Delivery, IsRun, RelayState, has_key, opening, times_of}
use Rattle.relay_node.proofs.TrafficLaws.{live_out}
use Rattle.relay_node.specs.Relay.{IsOut, Relay}
use Rattle.relay_runner.proofs.PassingLaws.{shown-mid, shows-mid}
use Rattle.relay_runner.specs.Passing.{Comes}

-- a list that is made of items, each of which makes no more than so many
length-pieced : {X Y : Type 0} (f : X → List Y) (most : ℕ) (xs : List X) → ((x : X) → length (f x) ≤ most) → length (flat_map f xs) ≤ length xs * most
length-pieced {X} f most xs few =
    let sizes : sum_by (λ (x : X). length (f x)) xs ≤ length xs * most = sum_by-le (λ (x : X). length (f x)) most xs (λ k d within. few _) in
    omega (arith, length-flat_map f xs, sizes)

-- each generation has a key for each piece of each live link
pub few-keys : (code : Code) (pattern : ℕ) (window : Window) → length (keys_of code pattern window) ≤ length window.blocks * (length code.net.links * 8)
few-keys code pattern window =
    let on_link : ℕ → ℕ → List Key =
    λ generation link. map (λ piece. record { link = link; generation = generation; piece = piece }) (range_with_len 0 pieces) in
    let of_generation : ℕ → List Key = λ generation. flat_map (on_link generation) (live_links_of code pattern) in
    let live : length (live_links_of code pattern) * 8 ≤ length code.net.links * 8 =
    omega (arith, length-filter-le (is_live_in code pattern) (range_with_len 0 (length code.net.links)), length-range_with_len 0 (length code.net.links)) in
    let each : (generation : ℕ) → length (of_generation generation) ≤ length code.net.links * 8 =
    λ generation. omega (arith, live, length-pieced (on_link generation) 8 (live_links_of code pattern) (λ link. omega arith)) in
    let all = length-pieced of_generation (length code.net.links * 8) (range_with_len window.first (length window.blocks)) each in
    rw (length-range_with_len window.first (length window.blocks)) at all

-- over a run no more come to fly than are sent
fewer-flying : (code : Code) (pattern : ℕ) (window : Window) (run : List Delivery) (old new : RelayState) → IsRun code pattern run old new
    → length new.flying + length old.sent ≤ length new.sent + length old.flying
fewer-flying code pattern window [] old new is = rw is (omega arith)
fewer-flying code pattern window (delivery ∷ run) old new is =
    omega (arith, fewer-flying code pattern window run is.0 new is.2, step-count code pattern window delivery old is.0 is.1)

-- no more flies than was sent
pub flying-few : (code : Code) (pattern : ℕ) (window : Window) (run : List Delivery) (state : RelayState)
    → IsRun code pattern run (opening code pattern window) state → length state.flying ≤ length state.sent
flying-few code pattern window run state is = omega (arith, fewer-flying code pattern window run (opening code pattern window) state is)

module _ (code : Code) (pattern : ℕ) (window : Window) (packets : List Packet) (once : (key : Key) → times_of key packets ≤ 1)
    (are : (key : Key) → has_key key packets ≡ true → IsKey code pattern window key) where
  -- among packets of the window of which no two have the same key each key stands at most as often as among those of the window
  pub few-times : (key : Key)
      → count_by (λ other. is_same_key other key) (map key_of packets) ≤ count_by (λ other. is_same_key other key) (keys_of code pattern window)
  few-times key = elim (cases_Bool (has_key key packets)) [
    | inl has ↦ omega (arith, times_of-map key packets, once key, key-once code pattern window key (are key has))
    | inr lacks ↦ omega (arith, times_of-map key packets, times-none key packets lacks)
  ]

  -- so they are no more than there are keys
  pub more-few : length packets ≤ length (keys_of code pattern window)
  more-few = omega (arith, length-map packets key_of, length-fewer is_same_key same_key itself (map key_of packets) (keys_of code pattern window) few-times)

-- packets of a window of which none was sent, and no two have the same key
record AreNew (code : Code) (pattern : ℕ) (window : Window) (sent packets : List Packet) : Type 0 where
  pub are : (key : Key) → has_key key packets ≡ true → IsKey code pattern window key
  pub unsent : (key : Key) → has_key key packets ≡ true → has_key key sent ≡ false
  pub once : (key : Key) → times_of key packets ≤ 1

module _ (code : Code) (pattern node : ℕ) (window : Window) where
  -- what a node can give is of the window
  out-key : (relay : Relay) → WorksOn code pattern node window relay → (key : Key) → IsOut relay key → IsKey code pattern window key
  out-key relay works key is =
      let leaves = subst (λ (plan : Plan). Contains plan.outs key.link) works.plan is.leaves in
      let live = live_out code pattern node key.link leaves in
      record {
        begun = omega (arith, works.first, is.begun.from_first);
        numbered = omega (arith, works.first, works.count, is.begun.to_last);
        of_link = live-below code pattern key.link live;
        live = live;
        of_piece = is.of_piece;
      }

  -- what a node gives, one after another, is new
  given-new : (packets : List Packet) (relay new : Relay) (sent : List Packet) → WorksOn code pattern node window relay → ShowsSent relay sent
      → GivesEach relay packets new → AreNew code pattern window sent packets
  given-new [] relay new sent works shown is =
      record { are = λ key has. absurd (false≢true has); unsent = λ key has. absurd (false≢true has); once = λ key. omega arith }
  given-new (packet ∷ packets) relay new sent works shown (mid, gives, rest) =
      of_rest (given-new packets mid new (packet ∷ sent) works_mid (shown_after packet relay mid sent gives shown) rest)
    where
      works_mid : WorksOn code pattern node window mid
      works_mid = record { plan = gives.work.plan ∙ works.plan; first = gives.work.first ∙ works.first; count = gives.work.count ∙ works.count }

      own : Key
      own = key_of packet

      of_rest : AreNew code pattern window (packet ∷ sent) packets → AreNew code pattern window sent (packet ∷ packets)
      of_rest others =
          record {
            are = λ key has. elim (or_cases (is_same_key own key) (has_key key packets) has) [
              | inl same ↦ subst (IsKey code pattern window) (same_key own key same) (out-key relay works own gives.due.out)
              | inr later ↦ others.are key later
            ];
            unsent = λ key has. elim (or_cases (is_same_key own key) (has_key key packets) has) [
              | inl same ↦ subst (λ (k : Key). has_key k sent ≡ false) (same_key own key same) (sym (shown own gives.due.out) ∙ gives.due.not_given)
              | inr later ↦ or_none (is_same_key own key) (has_key key sent) (others.unsent key later)
            ];
            once = λ key. times_more key packet packets (others.once key) (λ same. false_from_ne_true (has_key key packets) (λ has.
                false≢true (sym (others.unsent key has) ∙ ap (λ b. b || has_key key sent) same)));
          }

module _ (code : Code) (pattern : ℕ) (window : Window) where
  -- of no more blocks than a node works on there are few keys
  few-of-few : length window.blocks ≤ most_blocks → length (keys_of code pattern window) ≤ room_for code
  few-of-few few = omega (arith, few-keys code pattern window, mul-le-mul_right (length code.net.links * 8) few)

  -- new packets and those that were sent are few
  new-few : (sent packets : List Packet) → ((key : Key) → times_of key sent ≤ 1) → ((key : Key) → has_key key sent ≡ true → IsKey code pattern window key)
      → AreNew code pattern window sent packets → length packets + length sent ≤ length (keys_of code pattern window)
  new-few sent packets sent_once sent_are new =
      omega (arith, length-append packets sent, more-few code pattern window (packets ++ sent) once are)
    where
      once : (key : Key) → times_of key (packets ++ sent) ≤ 1
      once key =
          let both : times_of key (packets ++ sent) ≡ times_of key packets + times_of key sent =
          sum_by-append (λ packet. cond (is_same_key (key_of packet) key) 1 0) packets sent in
          elim (cases_Bool (has_key key packets)) [
            | inl has ↦ omega (arith, both, new.once key, times-none key sent (new.unsent key has))
            | inr lacks ↦ omega (arith, both, sent_once key, times-none key packets lacks)
          ]

      are : (key : Key) → has_key key (packets ++ sent) ≡ true → IsKey code pattern window key
      are key has = elim (or_cases (has_key key packets) (has_key key sent) (sym (has_key-append key packets sent) ∙ has)) [
        | inl later ↦ new.are key later
        | inr before ↦ sent_are key before
      ]

-- there is room for what flies and all that a node puts once a packet came
pub room-after : (code : Code) (pattern node : ℕ) (window : Window) (run : List Delivery) (state : RelayState)
    → IsRun code pattern run (opening code pattern window) state → length window.blocks ≤ most_blocks
    → (delivery : Delivery) (packet : Packet) (relay mid new : Relay) (packets : List Packet)
    → Comes code pattern node window delivery state.held state.sent packet relay → NodeTakes packet relay mid → GivesEach mid packets new
    → length state.flying + length packets ≤ room_for code
room-after code pattern node window run state is few delivery packet relay mid new packets comes takes gives =
    let kept = reached-kept code pattern window run state is in
    let shows = shows-mid code pattern node window delivery state.held state.sent packet relay comes mid takes in
    let shown = shown-mid code pattern node window delivery state.held state.sent packet relay comes mid takes in
    let fresh = given-new code pattern node window packets mid new state.sent shows.works shown gives in
    omega (
      arith,
      flying-few code pattern window run state is,
      new-few code pattern window state.sent packets kept.sent_once kept.of_traffic fresh,
      few-of-few code pattern window few,
    )

-- and for all that the source puts first
pub room-first : (code : Code) (pattern : ℕ) (window : Window) (source new : Relay) (packets : List Packet) → length window.blocks ≤ most_blocks
    → IsFedAll code pattern window source → GivesEach source packets new → length packets ≤ room_for code
room-first code pattern window source new packets few fed gives =
    let works : WorksOn code pattern code.net.source window source = record { plan = fed.takes.plan; first = fed.takes.first; count = fed.takes.count } in
    let fresh = given-new code pattern code.net.source window packets source new [] works (λ key is. fed.not_given key is) gives in
    omega (arith, more-few code pattern window packets fresh.once fresh.are, few-of-few code pattern window few)
