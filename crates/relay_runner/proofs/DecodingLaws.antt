-- The blocks of a window, one after another, as the sinks of a code decode them.
use Rattle.std.specs.Prelude.{◌≡◌, ◌<◌, ◌≤◌, ◌+◌, ◌-◌, ◌*◌, ℕ, List, None, Option, Some, drop, length, slice_get, take}
use Rattle.std.specs.Option.{option_map}
use Rattle.std.proofs.Common.{◌∙◌, ap, arith, get_or, inl, inr, refl, subst, sym}
use Rattle.std.proofs.lemmas.Bool.{cases_lt}
use Rattle.std.proofs.lemmas.List.{length-map}
use Rattle.std.proofs.lemmas.Option.{none-some, same_Some, slice_get-map, slice_get_read, slice_get_within}
use Rattle.std.proofs.lemmas.Slice.{between-put_mid, between_is, take-put_mid_below}
use Rattle.item_list.proofs.Places.{row_end}
use Rattle.node_program.specs.declared.code.Code.{Code}
use Rattle.node_stations.specs.Table.{sinks_of}
use Rattle.node_stations.specs.declared.station.Station.{Station}
use Rattle.sink_decoder.specs.Receiving.{Receiver}
use Rattle.relay_runner.specs.Decoding.{CanDecode, StandsAt, block_in}
use borrow.Rule.Slice.PartMut.{put_mid}

-- one that is written stands at its place
module _ (size : ℕ) (blocks block : List ℕ) (place : ℕ) (within : place * size + size ≤ length blocks) (long : length block ≡ size) where
  abbrev written : ℕ → List ℕ
  written k = put_mid (place * size) k blocks block

  block-written : (k : ℕ) → block_in size (written k) place ≡ block
  block-written k =
      let width : (place * size + size) - place * size ≡ size = omega arith in
      ap (λ n. take n (drop (place * size) (written k))) (sym width)
      ∙ between-put_mid (place * size) k blocks block (place * size + size) (omega (arith, within)) (long ∙ sym width)

  -- those before it stay
  block-before : (k before : ℕ) → before < place → block_in size (written k) before ≡ block_in size blocks before
  block-before k before earlier =
      let end = before * size + size in
      let width : end - before * size ≡ size = omega arith in
      let below : end ≤ place * size = row_end before place size earlier in
      ap (λ n. take n (drop (before * size) (written k))) (sym width)
      ∙ between_is (written k) (before * size) end
      ∙ ap (λ (bytes : List ℕ). drop (before * size) bytes) (take-put_mid_below (place * size) k blocks block end below (omega (arith, within)))
      ∙ sym (between_is blocks (before * size) end)
      ∙ ap (λ n. take n (drop (before * size) blocks)) width

  -- so where each is what it is to be, they are it up to that place
  pub blocks-more : (k : ℕ) (due : ℕ → List ℕ) → block ≡ due place
      → ((before : ℕ) → before < place → block_in size blocks before ≡ due before)
      → (before : ℕ) → before < place + 1 → block_in size (written k) before ≡ due before
  blocks-more k due here there before low = elim (cases_lt before place) [
    | inl earlier ↦ block-before k before earlier ∙ there before earlier
    | inr from ↦
        let same : place ≡ before = omega (arith, low, from) in
        subst (λ n. block_in size (written k) n ≡ due n) same (block-written k ∙ here)
  ]

-- the sink of a station, among those of all
sink-at : {F : Type 0} (stations : List (Station F)) (node : ℕ) (station : Station F) → node < length stations → station ≡ get_or stations node station
    → slice_get (sinks_of stations) node ≡ Some station.sink
sink-at {F} stations node station within is =
    slice_get-map (λ (station : Station F). station.sink) stations node
    ∙ ap (option_map (λ (station : Station F). station.sink)) (slice_get_read stations (length stations) node station refl within is)

-- one receiver stands at a sink
pub one-stands : (code : Code) (sinks : List (Option Receiver)) (sink : ℕ) (one other : Receiver) → StandsAt code sinks sink one → StandsAt code sinks sink other
    → one ≡ other
one-stands code sinks sink one other this that =
    let same : this.node ≡ that.node = same_Some this.node that.node (sym this.at ∙ that.at) in
    same_Some one other (same_Some (Some one) (Some other) (sym this.found ∙ ap (slice_get sinks) same ∙ that.found))

-- the station at the node of a sink that can decode
module _ {F : Type 0} (code : Code) (stations : List (Station F)) (first count sink node : ℕ) (can : CanDecode code (sinks_of stations) first count)
    (within : sink < length code.net.sinks) (at : slice_get code.net.sinks sink ≡ Some node) where
  -- the receiver of the sink stands there
  found-there : slice_get (sinks_of stations) node ≡ Some (Some (can.stands sink within).0)
  found-there =
      let there = (can.stands sink within).1 in
      ap (slice_get (sinks_of stations)) (same_Some node there.node (sym at ∙ there.at)) ∙ there.found

  -- there is one
  pub node-station : node < length stations
  node-station =
      omega (arith, slice_get_within (sinks_of stations) node _ found-there, length-map stations (λ (station : Station F). station.sink))

  module _ (station : Station F) (is : station ≡ get_or stations node station) where
    -- with a receiver
    pub has-sink : station.sink ≡ None → ⊥
    has-sink none =
        none-some (can.stands sink within).0
        (same_Some None (Some (can.stands sink within).0) (ap Some (sym none) ∙ sym (sink-at stations node station node-station is) ∙ found-there))

    pub stands-there : (receiver : Receiver) → station.sink ≡ Some receiver → StandsAt code (sinks_of stations) sink receiver
    stands-there receiver some = record { node = node; at = at; found = sink-at stations node station node-station is ∙ ap Some some }
