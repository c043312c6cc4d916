-- Blocks of a file that are carried, some and then more, and what they leave at the sinks.
use Rattle.std.specs.Prelude.{◌≡◌, ◌<◌, ◌≤◌, ◌+◌, ◌-◌, ◌*◌, ℕ, zero, suc, Bool, true, List, [], ◌∷◌, ◌++◌, drop, length, map, slice_index_or, take}
use Rattle.std.specs.List.{range_with_len}
use Rattle.std.proofs.Common.{refl, sym, ap, ◌∙◌, subst, arith}
use Rattle.std.proofs.Math.Nat.{add-mul}
use Rattle.std.proofs.lemmas.List.{append-nil, drop-append-le, drop-drop, length-drop, map-append, take-append-le}
use Rattle.std.proofs.lemmas.List.FromFn.{get_or-map-range_with_len, length-map-range_with_len}
use Rattle.generation_frame.specs.Blocks.{block_of, capacity, piece_of}
use Rattle.lif_outside.specs.Moves.{Move}
use Rattle.node_program.specs.declared.code.Code.{Code}
use Rattle.node_stations.specs.Decoded.{decoded_of}
use Rattle.node_stations.specs.Opening.{demand_of}
use Rattle.relay_runner.proofs.JoinLaws.{carried-join, decoded-back, decoded-front, range-append}
use Rattle.relay_runner.specs.Carried.{IsCarried, packets_given}
use Rattle.source_delivery.specs.Carried.{AreCarried, CarriesFirst, IsOver, blocks_from, blocks_in, file_block}

-- some blocks, and then more
pub blocks_in-append : (block : ℕ → List ℕ) (first count more : ℕ)
    → blocks_in block first (count + more) ≡ blocks_in block first count ++ blocks_in block (first + count) more
blocks_in-append block first count more =
    ap (map block) (range-append first count more) ∙ map-append block (range_with_len first count) (range_with_len (first + count) more)

pub length-blocks_in : (block : ℕ → List ℕ) (first count : ℕ) → length (blocks_in block first count) ≡ count
length-blocks_in block first count = length-map-range_with_len block first count

-- blocks that are the same, each by its generation
pub blocks_in-alike : (one other : ℕ → List ℕ) (first count : ℕ) → ((generation : ℕ) → first ≤ generation → generation < first + count → one generation ≡ other generation)
    → blocks_in one first count ≡ blocks_in other first count
blocks_in-alike one other first zero alike = refl
blocks_in-alike one other first (suc count) alike =
    ap (λ block. block ∷ blocks_in one (first + 1) count) (alike first (omega arith) (omega arith))
    ∙ ap (λ rest. other first ∷ rest) (blocks_in-alike one other (first + 1) count (λ generation begun below. alike generation (omega arith) (omega arith)))

-- the blocks of what is behind some of them
pub blocks_in-behind : (one other : ℕ → List ℕ) (before first count : ℕ) → ((generation : ℕ) → one generation ≡ other (before + generation)) → blocks_in one first count ≡ blocks_in other (before + first) count
blocks_in-behind one other before first zero alike = refl
blocks_in-behind one other before first (suc count) alike =
    let next : before + (first + 1) ≡ before + first + 1 = omega arith in
    ap (λ block. block ∷ blocks_in one (first + 1) count) (alike first)
    ∙ ap (λ rest. other (before + first) ∷ rest) (blocks_in-behind one other before (first + 1) count alike ∙ ap (λ n. blocks_in other n count) next)

-- what is behind the first blocks of a file has the blocks behind them
pub blocks_from-behind : (file : List ℕ) (rate before first count : ℕ)
    → blocks_from (drop (before * capacity rate) file) rate first count ≡ blocks_from file rate (before + first) count
blocks_from-behind file rate before first zero = refl
blocks_from-behind file rate before first (suc count) =
    let size = capacity rate in
    let next : before + (first + 1) ≡ before + first + 1 = omega arith in
    let place : drop (first * size) (drop (before * size) file) ≡ drop ((before + first) * size) file =
    drop-drop (first * size) (before * size) file ∙ ap (λ n. drop n file) (sym (add-mul before first size)) in
    ap (λ (behind : List ℕ). block_of rate (take size behind) ∷ blocks_from (drop (before * size) file) rate (first + 1) count) place
    ∙ ap (λ rest. file_block file rate (before + first) ∷ rest) (blocks_from-behind file rate before (first + 1) count ∙ ap (λ n. blocks_from file rate n count) next)

-- whole blocks of a file don't change by what follows it
pub blocks_from-front : (file more : List ℕ) (rate first count : ℕ) → (first + count) * capacity rate ≤ length file
    → blocks_from (file ++ more) rate first count ≡ blocks_from file rate first count
blocks_from-front file more rate first zero whole = refl
blocks_from-front file more rate first (suc count) whole =
    let size = capacity rate in
    let next : (first + 1 + count) * size ≡ (first + suc count) * size = ap (λ n. n * size) (omega arith) in
    let here : (first + 1) * size ≡ first * size + 1 * size = add-mul first 1 size in
    let there : (first + 1 + count) * size ≡ (first + 1) * size + count * size = add-mul (first + 1) count size in
    let start : first * size ≤ length file = omega arith in
    let room : size ≤ length (drop (first * size) file) = omega (arith, length-drop (first * size) file) in
    let piece : piece_of (file ++ more) rate first ≡ piece_of file rate first =
    ap (take size) (drop-append-le (first * size) file more start) ∙ take-append-le size (drop (first * size) file) more room in
    ap (λ piece. block_of rate piece ∷ blocks_from (file ++ more) rate (first + 1) count) piece
    ∙ ap (λ rest. file_block file rate first ∷ rest) (blocks_from-front file more rate (first + 1) count (omega arith))

module _ (faithful : Bool) (code : Code) (pattern : ℕ) where
  -- where there are blocks, they were carried
  pub carried-some : (first : ℕ) (blocks : List (List ℕ)) (moves : List Move) → 0 < length blocks → AreCarried faithful code pattern first blocks moves
      → IsCarried faithful code pattern (record { first = first; blocks = blocks }) moves
  carried-some first [] moves some are = absurd (omega arith)
  carried-some first (block ∷ blocks) moves some are = are

  pub some-carried : (first : ℕ) (blocks : List (List ℕ)) (moves : List Move) → 0 < length blocks
      → IsCarried faithful code pattern (record { first = first; blocks = blocks }) moves → AreCarried faithful code pattern first blocks moves
  some-carried first [] moves some is = absurd (omega arith)
  some-carried first (block ∷ blocks) moves some is = is

  -- blocks, and then more
  pub carried-then : (first : ℕ) (blocks : List (List ℕ)) (front : List Move) (others : List (List ℕ)) (later : List Move) → AreCarried faithful code pattern first blocks front
      → AreCarried faithful code pattern (first + length blocks) others later → AreCarried faithful code pattern first (blocks ++ others) (front ++ later)
  carried-then first [] front others later none are =
      let same : first + 0 ≡ first = omega arith in
      subst (λ front. AreCarried faithful code pattern first others (front ++ later)) (sym none)
      (subst (λ n. AreCarried faithful code pattern n others later) same are)
  carried-then first (block ∷ blocks) front [] later are none =
      subst (λ later. AreCarried faithful code pattern first ((block ∷ blocks) ++ []) (front ++ later)) (sym none)
      (subst (λ moves. AreCarried faithful code pattern first ((block ∷ blocks) ++ []) moves) (sym (append-nil front))
      (subst (λ blocks. AreCarried faithful code pattern first blocks front) (sym (append-nil (block ∷ blocks))) are))
  carried-then first (block ∷ blocks) front (other ∷ others) later are is = carried-join are is refl

  -- what a sink decodes of the blocks carried first doesn't change by what comes later
  pub decoded-still : (first : ℕ) (blocks : List (List ℕ)) (front later : List Move) (place generation : ℕ) → AreCarried faithful code pattern first blocks front
      → pattern < length code.net.patterns → first ≤ generation → generation < first + length blocks
      → decoded_of code (demand_of code pattern place) (packets_given (front ++ later)) generation ≡ decoded_of code (demand_of code pattern place) (packets_given front) generation
  decoded-still first [] front later place generation are known begun numbered = absurd (omega arith)
  decoded-still first (block ∷ blocks) front later place generation are known begun numbered = decoded-front are later place generation known begun numbered

  -- and of those behind them nothing came before
  pub decoded-next : (first : ℕ) (blocks : List (List ℕ)) (front later : List Move) (place generation : ℕ) → AreCarried faithful code pattern first blocks front
      → first + length blocks ≤ generation
      → decoded_of code (demand_of code pattern place) (packets_given (front ++ later)) generation ≡ decoded_of code (demand_of code pattern place) (packets_given later) generation
  decoded-next first [] front later place generation none past =
      ap (λ moves. decoded_of code (demand_of code pattern place) (packets_given (moves ++ later)) generation) none
  decoded-next first (block ∷ blocks) front later place generation are past = decoded-back are later place generation past

  module _ (block : ℕ → List ℕ) (blocks : ℕ) where
    -- the first blocks are all calls, where nothing follows
    pub over-are : (carried : ℕ) (moves : List Move) → CarriesFirst faithful code pattern block blocks IsOver carried moves
        → AreCarried faithful code pattern 0 (blocks_in block 0 carried) moves
    over-are carried moves is =
        subst (AreCarried faithful code pattern 0 (blocks_in block 0 carried))
        (sym (is.moves_are ∙ ap (λ later. is.first ++ later) is.rest ∙ append-nil is.first)) is.carries

    module _ (R : ℕ → List Move → Type 0) (carried : ℕ) (moves : List Move) (is : CarriesFirst faithful code pattern block blocks R carried moves)
        (known : pattern < length code.net.patterns) where
      -- by faithful links each sink decodes the blocks that were carried
      pub carried-decoded : faithful ≡ true → (generation place : ℕ) → generation < carried → place < length code.net.sinks
          → decoded_of code (demand_of code pattern place) (packets_given moves) generation ≡ block generation
      carried-decoded by_faithful generation place below within =
          let those = blocks_in block 0 carried in
          let count : length those ≡ carried = length-blocks_in block 0 carried in
          let start : generation - 0 ≡ generation = omega arith in
          let carries = carried-some 0 those is.first (omega (arith, count)) is.carries in
          ap (λ moves. decoded_of code (demand_of code pattern place) (packets_given moves) generation) is.moves_are
          ∙ decoded-still 0 those is.first is.later place generation is.carries known (omega arith) (omega (arith, count))
          ∙ carries.decoded by_faithful place generation within (omega arith) (omega (arith, count))
          ∙ ap (λ n. slice_index_or those n []) start
          ∙ get_or-map-range_with_len block 0 carried generation generation [] below (omega arith)
