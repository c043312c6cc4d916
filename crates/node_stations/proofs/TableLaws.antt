-- Stations that are made one after another, and that begin one after another.
use Rattle.std.specs.Prelude.{◌≡◌, ◌<◌, ◌≤◌, ◌+◌, ◌++◌, ℕ, List, [], ◌∷◌, Option, Some, None, length, map, slice_get, slice_set}
use Rattle.std.specs.Option.{option_map}
use Rattle.std.proofs.Common.{refl, sym, ap, subst, ◌∙◌, arith, inl, inr, get_or}
use Rattle.std.proofs.Math.ListN.{get_or-append}
use Rattle.std.proofs.Math.Seq.{get_or-append_seam}
use Rattle.std.proofs.lemmas.Bool.{cases_lt}
use Rattle.std.proofs.lemmas.List.{length-append, length-map, length-set}
use Rattle.std.proofs.lemmas.Option.{get_or_from_slice_get, none-some, same_Some, slice_get-get_or, slice_get-map, slice_get_read, slice_get_within}
use Rattle.item_list.proofs.Writes.{slice_get-set_other, slice_get-set_same}
use Rattle.node_plans.specs.Plans.{place_of}
use Rattle.node_program.specs.declared.code.Code.{Code}
use Rattle.relay_node.specs.Relay.{Relay}
use Rattle.sink_decoder.specs.Receiving.{Receiver, sink_plan_of}
use Rattle.node_stations.specs.Delivering.{AtSink}
use Rattle.node_stations.specs.Opening.{IsAt, IsBegunAt, IsOpened, IsSinkOf, demand_of}
use Rattle.node_stations.specs.Shown.{IsReplaced}
use Rattle.node_stations.specs.Table.{AreOpened, ArePlanned, HasBegun, HaveBegun, IsOpenedNode, relays_of, sinks_of}
use Rattle.node_stations.specs.declared.station.Station.{Station}

-- of each item of a list this holds, by its place
abbrev pub Each : {X : Type 0} → (ℕ → X → Type 0) → List X → Type 0
Each {X} P xs = (k : ℕ) (x : X) → slice_get xs k ≡ Some x → P k x

-- it holds of one more
each_more : {X : Type 0} (P : ℕ → X → Type 0) (xs : List X) (last : X) → Each P xs → P (length xs) last → Each P (xs ++ last ∷ [])
each_more P xs last each at k x found = elim (cases_lt k (length xs)) [
  | inl before ↦ each k x (slice_get_read xs (length xs) k x refl before (sym read ∙ get_or-append xs (last ∷ []) x k before))
  | inr behind ↦
      let here : length xs ≡ k = omega (arith, behind, within, length-append xs (last ∷ [])) in
      let is : last ≡ x = sym (get_or-append_seam xs last [] x) ∙ ap (λ n. get_or (xs ++ last ∷ []) n x) here ∙ read in
      subst (λ n. P n x) here (subst (P (length xs)) is at)
]
  where
    within : k < length (xs ++ last ∷ [])
    within = slice_get_within (xs ++ last ∷ []) k x found

    read : get_or (xs ++ last ∷ []) k x ≡ x
    read = get_or_from_slice_get (xs ++ last ∷ []) k x x found

-- an item of what a function makes of a list is made of one of the list
made_of : {X Y : Type 0} (f : X → Y) (xs : List X) (k : ℕ) (y : Y) → slice_get (map f xs) k ≡ Some y → (x : X) × (slice_get xs k ≡ Some x) × (f x ≡ y)
made_of {X} {Y} f xs k y found = by (slice_get xs k) refl (sym (slice_get-map f xs k) ∙ found)
  where
    by : (o : Option X) → slice_get xs k ≡ o → option_map f o ≡ Some y → (x : X) × (slice_get xs k ≡ Some x) × (f x ≡ y)
    by None is made = absurd (none-some y made)
    by (Some x) is made = (x, is, same_Some (f x) y made)

-- so what holds of each that is made holds of each item of the list made
each_made : {X Y : Type 0} (f : X → Y) (P : ℕ → Y → Type 0) (xs : List X) → Each (λ k x. P k (f x)) xs → Each P (map f xs)
each_made f P xs each k y found = let from = made_of f xs k y found in subst (P k) from.2 (each k from.0 from.1)

module _ (code : Code) (pattern : ℕ) where
  -- nodes and sinks before any generation have their plans
  pub opened-planned : (relays : List Relay) (sinks : List (Option Receiver)) → AreOpened code pattern relays sinks → ArePlanned code pattern relays sinks
  opened-planned relays sinks opened =
      record {
        count = opened.count;
        plans = λ node relay found. (opened.nodes node relay found).plan;
        receivers = record {
          count = opened.receivers.count;
          at = λ node sink found. planned (place_of code node) sink (opened.receivers.at node sink found);
        };
      }
    where
      IsPlanned : ℕ → Receiver → Type 0
      IsPlanned place sink = sink.plan ≡ sink_plan_of code (demand_of code pattern place)

      planned : (place : Option ℕ) (sink : Option Receiver) → IsAt (IsOpened code pattern) place sink → IsAt IsPlanned place sink
      planned None sink is = is
      planned (Some place) sink is = (is.0, is.1, is.2.plan)

module _ {F : Type 0} (code : Code) (pattern : ℕ) where
  -- the station of a node, before any generation
  pub record IsStationOf (node : ℕ) (station : Station F) : Type 0 where
    pub node_is : IsOpenedNode code pattern node station.node
    pub sink : IsSinkOf code pattern node station.sink

  -- the stations of the first so many nodes
  pub record AreFirst (count : ℕ) (stations : List (Station F)) : Type 0 where
    pub made : length stations ≡ count
    pub each : Each IsStationOf stations

  -- there is none yet
  pub first_none : AreFirst 0 []
  first_none = record { made = refl; each = λ k station found. absurd (none-some station found) }

  -- one more
  pub first_more : (count : ℕ) (stations more : List (Station F)) (station : Station F) → AreFirst count stations → IsStationOf count station
      → more ≡ stations ++ station ∷ [] → AreFirst (count + 1) more
  first_more count stations more station first is pushed =
      record {
        made = omega (arith, ap (length {A = Station F}) pushed, first.made, length-append stations (station ∷ []));
        each = subst (Each IsStationOf) (sym pushed)
            (each_more IsStationOf stations station first.each (subst (λ n. IsStationOf n station) (sym first.made) is));
      }

  -- those of all nodes
  pub are_opened : (count : ℕ) (stations : List (Station F)) → AreFirst count stations → count ≡ length code.net.nodes
      → AreOpened code pattern (relays_of stations) (sinks_of stations)
  are_opened count stations first all =
      record {
        count = length-map stations (λ station. station.node) ∙ first.made ∙ all;
        nodes = each_made (λ station. station.node) (λ node relay. IsOpenedNode code pattern node relay) stations
            (λ node station found. (first.each node station found).node_is);
        receivers = record {
          count = length-map stations (λ station. station.sink) ∙ first.made ∙ all;
          at = each_made (λ station. station.sink) (λ node sink. IsAt (IsOpened code pattern) (place_of code node) sink) stations
              (λ node station found. (first.each node station found).sink);
        };
      }

-- what is made of the item at a place
pub made_at : {X Y : Type 0} (f : X → Y) (xs : List X) (i : ℕ) (d : X) → i < length xs → slice_get (map f xs) i ≡ Some (f (get_or xs i d))
made_at f xs i d within = slice_get-map f xs i ∙ ap (option_map f) (slice_get-get_or xs i d within)

-- and where another item is put there, what is made of the list is replaced there
pub replaced_at : {X Y : Type 0} (f : X → Y) (xs : List X) (i : ℕ) (x : X) → i < length xs → IsReplaced i (f x) (map f xs) (map f (slice_set xs i x))
replaced_at f xs i x within = record {
  count = length-map (slice_set xs i x) f ∙ length-set xs i x ∙ sym (length-map xs f);
  at = slice_get-map f (slice_set xs i x) i ∙ ap (option_map f) (slice_get-set_same xs i x within);
  others = λ other apart.
      slice_get-map f (slice_set xs i x) other ∙ ap (option_map f) (slice_get-set_other xs i other x apart) ∙ sym (slice_get-map f xs other);
}

module _ {F : Type 0} (first count : ℕ) where
  -- a station that has begun these generations
  pub record IsBegunFrom (old new : Station F) : Type 0 where
    pub node : HasBegun first count old.node new.node
    pub sink : AtSink (IsBegunAt first count) old.sink new.sink

  -- the first so many have, and the others are as they were
  pub record HaveBegunTo (bound : ℕ) (old new : List (Station F)) : Type 0 where
    pub same_count : length new ≡ length old
    pub begun : (k : ℕ) (station : Station F) → k < bound → slice_get new k ≡ Some station
        → (before : Station F) × (slice_get old k ≡ Some before) × IsBegunFrom before station
    pub others : (k : ℕ) → bound ≤ k → slice_get new k ≡ slice_get old k

  -- none has yet
  pub begun_none : (stations : List (Station F)) → HaveBegunTo 0 stations stations
  begun_none stations = record { same_count = refl; begun = λ k station below. absurd (omega (arith, below)); others = λ k behind. refl }

  -- one more does
  pub begun_more : (bound : ℕ) (old mid : List (Station F)) (none after : Station F) → HaveBegunTo bound old mid → bound < length mid
      → IsBegunFrom (get_or mid bound none) after → HaveBegunTo (bound + 1) old (slice_set mid bound after)
  begun_more bound old mid none after begun within begins =
      record {
        same_count = length-set mid bound after ∙ begun.same_count;
        begun = λ k station below found. elim (cases_lt k bound) [
          | inl earlier ↦ begun.begun k station earlier (sym (slice_get-set_other mid bound k after (omega (arith, earlier))) ∙ found)
          | inr here ↦
              let is : bound ≡ k = omega (arith, here, below) in
              let stands : Some after ≡ Some station = sym (slice_get-set_same mid bound after within) ∙ ap (slice_get (slice_set mid bound after)) is ∙ found in
              let same : after ≡ station = same_Some after station stands in
              let was : slice_get old bound ≡ Some (get_or mid bound none) = sym (begun.others bound (omega arith)) ∙ slice_get-get_or mid bound none within in
              (get_or mid bound none, ap (slice_get old) (sym is) ∙ was, subst (IsBegunFrom (get_or mid bound none)) same begins)
        ];
        others = λ k behind. slice_get-set_other mid bound k after (omega (arith, behind)) ∙ begun.others k (omega (arith, behind));
      }

  -- all have
  pub have_begun : (bound : ℕ) (old new : List (Station F)) → HaveBegunTo bound old new → bound ≡ length new
      → HaveBegun first count (relays_of old) (relays_of new) (sinks_of old) (sinks_of new)
  have_begun bound old new begun all =
      record {
        same_count = length-map new (λ station. station.node) ∙ begun.same_count ∙ sym (length-map old (λ station. station.node));
        nodes = each_made (λ station. station.node)
            (λ node relay. (before : Relay) × (slice_get (relays_of old) node ≡ Some before) × HasBegun first count before relay) new
            (λ node station found.
            let from = begun.begun node station (below node station found) found in
            (from.0.node, slice_get-map (λ station. station.node) old node ∙ ap (option_map (λ station. station.node)) from.1, from.2.node));
        same_sink_count = length-map new (λ station. station.sink) ∙ begun.same_count ∙ sym (length-map old (λ station. station.sink));
        sinks = each_made (λ station. station.sink)
            (λ node sink. (before : Option Receiver) × (slice_get (sinks_of old) node ≡ Some before) × AtSink (IsBegunAt first count) before sink) new
            (λ node station found.
            let from = begun.begun node station (below node station found) found in
            (from.0.sink, slice_get-map (λ station. station.sink) old node ∙ ap (option_map (λ station. station.sink)) from.1, from.2.sink));
      }
    where
      below : (node : ℕ) (station : Station F) → slice_get new node ≡ Some station → node < bound
      below node station found = let within = slice_get_within new node station found in omega (arith, within, all)
