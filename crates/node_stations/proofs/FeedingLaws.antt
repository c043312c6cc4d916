-- Blocks that are fed one after another.
use Rattle.std.specs.Prelude.{◌≡◌, ◌<◌, ◌≤◌, ◌+◌, ◌-◌, ◌*◌, ℕ, true, false, List, [], drop, take}
use Rattle.std.proofs.Common.{refl, sym, ap, subst, ◌∙◌, arith, inl, inr}
use Rattle.std.proofs.lemmas.Bool.{cases_lt}
use Rattle.std.proofs.lemmas.List.FromFn.{get_or-map-range_with_len}
use Rattle.coded_traffic.specs.CodeBlocks.{row_of}
use Rattle.coded_traffic.specs.Traffic.{Key, block_at}
use Rattle.generation_frame.specs.Blocks.{piece_of_row, pieces}
use Rattle.node_plans.specs.declared.plan.Plan.{Plan}
use Rattle.relay_node.specs.Relay.{HasNothing, IsBegun, IsFed, IsOut, IsSameWork, Relay, has_input, input_at, is_given}
use Rattle.node_stations.proofs.GivingLaws.{begun_before, out_before}
use Rattle.node_stations.specs.Fed.{AreFed, window_of}

-- the block at a place, of blocks that stand one after another
abbrev pub block_of : ℕ → List ℕ → ℕ → List ℕ
block_of size bytes place = take size (drop (place * size) bytes)

-- it is the window's of that generation
pub block_at-window_of : (first count size : ℕ) (bytes : List ℕ) (generation : ℕ) → first ≤ generation → generation < first + count
    → block_at (window_of first count size bytes) generation ≡ block_of size bytes (generation - first)
block_at-window_of first count size bytes generation from to =
    get_or-map-range_with_len (block_of size bytes) 0 count (generation - first) (generation - first) [] (omega (arith, from, to)) (omega arith)

-- the first so many blocks were fed, and nothing came of the others
pub record AreFedTo (first size bound : ℕ) (blocks : List ℕ) (old new : Relay) : Type 0 where
  pub work : IsSameWork old new
  pub came : (generation row piece : ℕ) → IsBegun old generation → generation < first + bound → row < old.plan.rate → piece < pieces
      → has_input new generation row piece ≡ true
  pub bytes : (generation row piece : ℕ) → IsBegun old generation → generation < first + bound → row < old.plan.rate → piece < pieces
      → input_at new generation row piece ≡ piece_of_row (row_of (block_of size blocks (generation - first)) row) piece
  pub none : (generation row piece : ℕ) → IsBegun old generation → first + bound ≤ generation → row < old.plan.rate → piece < pieces
      → has_input new generation row piece ≡ false
  pub given : (key : Key) → IsOut old key → is_given new key ≡ is_given old key

-- none was yet
pub fed_none : (first size : ℕ) (bytes : List ℕ) (relay : Relay) → relay.first ≡ first → HasNothing relay → AreFedTo first size 0 bytes relay relay
fed_none first size bytes relay from nothing =
    record {
      work = record { plan = refl; first = refl; count = refl };
      came = λ generation row piece begun below. absurd (omega (arith, from, begun.from_first, below));
      bytes = λ generation row piece begun below. absurd (omega (arith, from, begun.from_first, below));
      none = λ generation row piece begun behind low short. nothing.inputs generation row piece;
      given = λ key is. refl;
    }

module _ (first size bound : ℕ) (bytes : List ℕ) (old mid new : Relay) (from : old.first ≡ first) (fed : AreFedTo first size bound bytes old mid)
    (feeds : IsFed (first + bound) (block_of size bytes bound) mid new) where
  -- the work stays, also seen from before
  back : IsSameWork mid old
  back = record { plan = sym fed.work.plan; first = sym fed.work.first; count = sym fed.work.count }

  begun_mid : (generation : ℕ) → IsBegun old generation → IsBegun mid generation
  begun_mid = begun_before mid old back

  low_mid : (row : ℕ) → row < old.plan.rate → row < mid.plan.rate
  low_mid row low = subst (λ (plan : Plan). row < plan.rate) (sym fed.work.plan) low

  -- one more
  pub fed_more : AreFedTo first size (bound + 1) bytes old new
  fed_more =
      record {
        work = record {
          plan = feeds.work.plan ∙ fed.work.plan;
          first = feeds.work.first ∙ fed.work.first;
          count = feeds.work.count ∙ fed.work.count;
        };
        came = λ generation row piece begun below low short. elim (cases_lt generation (first + bound)) [
          | inl before ↦
              (feeds.others generation row piece (begun_mid generation begun) (low_mid row low) short (omega (arith, before))).has
              ∙ fed.came generation row piece begun before low short
          | inr here ↦
              let is : first + bound ≡ generation = omega (arith, here, below) in
              subst (λ g. has_input new g row piece ≡ true) is (feeds.came row piece (low_mid row low) short)
        ];
        bytes = λ generation row piece begun below low short. elim (cases_lt generation (first + bound)) [
          | inl before ↦
              (feeds.others generation row piece (begun_mid generation begun) (low_mid row low) short (omega (arith, before))).bytes
              ∙ fed.bytes generation row piece begun before low short
          | inr here ↦
              let is : first + bound ≡ generation = omega (arith, here, below) in
              let place : bound ≡ generation - first = omega (arith, is) in
              ap (λ g. input_at new g row piece) (sym is) ∙ feeds.bytes row piece (low_mid row low) short
              ∙ ap (λ n. piece_of_row (row_of (block_of size bytes n) row) piece) place
        ];
        none = λ generation row piece begun behind low short.
            (feeds.others generation row piece (begun_mid generation begun) (low_mid row low) short (omega (arith, behind))).has
            ∙ fed.none generation row piece begun (omega (arith, behind)) low short;
        given = λ key is. feeds.given key (out_before mid old back key is) ∙ fed.given key is;
      }

-- all were
pub are_fed : (first count size : ℕ) (bytes : List ℕ) (old new : Relay) → old.first ≡ first → old.count ≡ count → AreFedTo first size count bytes old new
    → AreFed (window_of first count size bytes) old new
are_fed first count size bytes old new from many fed =
    record {
      work = fed.work;
      came = λ generation row piece begun low short. fed.came generation row piece begun (omega (arith, from, many, begun.to_last)) low short;
      bytes = λ generation row piece begun low short.
          let to : generation < first + count = omega (arith, from, many, begun.to_last) in
          fed.bytes generation row piece begun to low short
          ∙ ap (λ block. piece_of_row (row_of block row) piece)
          (sym (block_at-window_of first count size bytes generation (omega (arith, from, begun.from_first)) to));
      given = fed.given;
    }
