-- What is put on a link that carries one row of the blocks alone is of that row; of two sources' blocks it is of the source that has it.
use Rattle.std.specs.Prelude.{◌≡◌, ◌<◌, ◌≤◌, ◌+◌, ◌-◌, ◌*◌, ℕ, zero, suc, Bool, true, List, [], All, IsPermutation, drop, length, map, take}
use Rattle.std.proofs.Common.{sym, ap, ◌∙◌, subst, arith, get_or}
use Rattle.std.proofs.Math.Nat.{add-mul, mul-le-mul_right}
use Rattle.std.proofs.Math.Seq.{drop-append_seam}
use Rattle.std.proofs.lemmas.List.{drop-append-le, drop-drop, length-drop, take-append-le}
use Rattle.std.proofs.lemmas.List.Elements.{All-append, All-get_or, All-map, All-nil, All-weaker}
use Rattle.std.proofs.lemmas.List.Folds.{list_any_at}
use Rattle.std.proofs.lemmas.List.FromFn.{get_or-map-range_with_len}
use Rattle.std.proofs.lemmas.List.Sorted.{All-permutation}
use Rattle.coded_traffic.proofs.SumLaws.{payload-row}
use Rattle.coded_traffic.specs.CodeBlocks.{IsBlockOf, row_of}
use Rattle.coded_traffic.specs.RowLinks.{AreOfRow, CarriesRow, IsOfRow}
use Rattle.coded_traffic.specs.Traffic.{IsKey, Key, Window, block_at, is_same_key, key_of, packet_of, payload_in}
use Rattle.generation_frame.proofs.BlockLaws.{length-block}
use Rattle.generation_frame.proofs.PieceLaws.{length-piece_of}
use Rattle.generation_frame.specs.Blocks.{piece_of, piece_of_row, row_bytes}
use Rattle.generation_frame.specs.Frames.{frame_of}
use Rattle.generation_frame.specs.declared.frame.Packet.{Packet}
use Rattle.lif_outside.specs.MoveLaws.{pairs_put-append}
use Rattle.lif_outside.specs.Moves.{Move, pairs_put}
use Rattle.lif_outside.specs.declared.links.Flight.{Flight}
use Rattle.node_program.specs.Value.{leaves_source}
use Rattle.node_program.specs.declared.code.Code.{Code}
use Rattle.node_stations.specs.Putting.{flight_of}
use Rattle.relay_core.proofs.PacketLaws.{itself}
use Rattle.relay_core.specs.Core.{has_key}
use Rattle.relay_core.specs.Runs.{AreRelayed}
use Rattle.source_delivery.proofs.CarriedLaws.{length-blocks_in}
use Rattle.source_delivery.specs.Carried.{AreCarried, Breaks, CarriesFirst, IsOver, blocks_in, file_block}
use Rattle.source_delivery.specs.Twin.{PutsApart, twin_block}

-- the window of so many blocks, by their generations, from one on
abbrev window_in : (ℕ → List ℕ) → ℕ → ℕ → Window
window_in block first count = record { first = first; blocks = blocks_in block first count }

module _ (code : Code) (pattern : ℕ) (block : ℕ → List ℕ) (blocks link row : ℕ) (carries : CarriesRow code link row) where
  -- where a pair is on the link, it is of the row
  abbrev OfRow : Flight → Type 0
  OfRow flight = flight.link ≡ link → IsOfRow block blocks row flight

  module _ (first count : ℕ) (are : All (IsBlockOf code) (blocks_in block first count)) where
    -- the packet of a key on the link has a piece of the row
    packet-row : (key : Key) → IsKey code pattern (window_in block first count) key → key.link ≡ link
        → packet_of code pattern (window_in block first count) key
        ≡ record { link = key.link; generation = key.generation; piece = key.piece; payload = piece_of_row (row_of (block key.generation) row) key.piece }
    packet-row key is on =
        let place = key.generation - first in
        let all = length-blocks_in block first count in
        let below : place < count = omega (arith, is.begun, is.numbered, all) in
        let at : block_at (window_in block first count) key.generation ≡ block key.generation =
        get_or-map-range_with_len block first count place key.generation [] below (omega (arith, is.begun)) in
        let is_block : IsBlockOf code (block key.generation) =
        subst (IsBlockOf code) at (All-get_or (IsBlockOf code) (blocks_in block first count) place [] (omega (arith, below, all)) are) in
        let with : List ℕ → Packet = λ payload. record { link = key.link; generation = key.generation; piece = key.piece; payload = payload } in
        ap (λ bytes. with (payload_in code pattern bytes key.piece key.link)) at
        ∙ ap with (payload-row code pattern (block key.generation) is_block key.piece is.of_piece key.link row (subst (λ n. CarriesRow code n row) (sym on) carries) is.live)

    -- what is put and comes from the blocks is of the row
    puts-row : first + count ≤ blocks → (came packets : List Packet) (pairs : List Flight) → AreRelayed code pattern (window_in block first count) came packets
        → ((key : Key) → has_key key packets ≡ true → IsKey code pattern (window_in block first count) key)
        → IsPermutation (map flight_of packets) pairs → AreOfRow block blocks row link pairs
    puts-row within came packets pairs relayed keys puts =
        All-permutation OfRow (map flight_of packets) pairs puts (All-map OfRow flight_of packets (λ k d inside on.
        let packet = get_or packets k d in
        let key = key_of packet in
        let is = keys key (list_any_at (λ other. is_same_key (key_of other) key) packets k d inside (itself key)) in
        record {
          generation = packet.generation;
          piece = packet.piece;
          numbered = omega (arith, within, is.numbered, length-blocks_in block first count);
          of_piece = is.of_piece;
          frame = ap frame_of (relayed.from_source k d inside (subst (λ n. leaves_source code.net n ≡ true) (sym on) carries.leaves) ∙ packet-row key is on);
        }))

  module _ (faithful : Bool) where
    -- so it is where they were carried, and where they were begun and a call failed
    carried-row : (first count : ℕ) (moves : List Move) → first + count ≤ blocks → AreCarried faithful code pattern first (blocks_in block first count) moves
        → AreOfRow block blocks row link (pairs_put moves)
    carried-row first zero moves within none = subst (λ moves. AreOfRow block blocks row link (pairs_put moves)) (sym none) (All-nil OfRow)
    carried-row first (suc count) moves within is =
        puts-row first (suc count) is.are_blocks within _ is.packets (pairs_put moves) is.relayed (λ key has. (is.all key).0 has) is.puts

    pub breaks-row : (carried : ℕ) (later : List Move) → Breaks faithful code pattern block blocks carried later → AreOfRow block blocks row link (pairs_put later)
    breaks-row carried later is =
        puts-row carried is.more is.stopped.are_blocks is.some _ is.stopped.packets (pairs_put later) is.stopped.relayed is.stopped.put.keys is.stopped.puts

    pub over-row : (later : List Move) → IsOver blocks later → AreOfRow block blocks row link (pairs_put later)
    over-row later none = subst (λ moves. AreOfRow block blocks row link (pairs_put moves)) (sym none) (All-nil OfRow)

    -- and where the first ones were carried, and what follows is of the row
    pub first-row : (R : ℕ → List Move → Type 0) (carried : ℕ) (moves : List Move) → CarriesFirst faithful code pattern block blocks R carried moves
        → ((later : List Move) → R carried later → AreOfRow block blocks row link (pairs_put later)) → AreOfRow block blocks row link (pairs_put moves)
    first-row R carried moves is rest =
        subst (AreOfRow block blocks row link) (sym (ap pairs_put is.moves_are ∙ pairs_put-append is.first is.later))
        (All-append OfRow (pairs_put is.first) (pairs_put is.later) (carried-row 0 carried is.first (omega (arith, is.some)) is.carries) (rest is.later is.rest))

-- ---- the rows of two sources

module _ (first_rate second_rate : ℕ) (one two : List ℕ) (some : 1 ≤ first_rate) where
  long : (generation : ℕ) → length (file_block one first_rate generation) ≡ first_rate * row_bytes
  long generation = length-block first_rate (piece_of one first_rate generation) some (length-piece_of one first_rate generation)

  -- the first rows of a block are those of the first source, and those behind them are of the second
  row-first : (row generation : ℕ) → row < first_rate → row_of (twin_block first_rate second_rate one two generation) row ≡ row_of (file_block one first_rate generation) row
  row-first row generation below =
      let front = file_block one first_rate generation in
      let back = file_block two second_rate generation in
      let next : (row + 1) * row_bytes ≤ first_rate * row_bytes = mul-le-mul_right row_bytes (omega arith) in
      let fits : row * row_bytes + row_bytes ≤ length front = omega (arith, next, long generation) in
      ap (take row_bytes) (drop-append-le (row * row_bytes) front back (omega (arith, fits)))
      ∙ take-append-le row_bytes (drop (row * row_bytes) front) back (omega (arith, fits, length-drop (row * row_bytes) front))

  row-second : (row generation : ℕ) → row_of (twin_block first_rate second_rate one two generation) (first_rate + row) ≡ row_of (file_block two second_rate generation) row
  row-second row generation =
      let front = file_block one first_rate generation in
      let back = file_block two second_rate generation in
      ap (λ n. take row_bytes (drop n (twin_block first_rate second_rate one two generation))) (add-mul first_rate row row_bytes)
      ∙ ap (take row_bytes) (sym (drop-drop (row * row_bytes) (first_rate * row_bytes) (twin_block first_rate second_rate one two generation)))
      ∙ ap (λ n. take row_bytes (drop (row * row_bytes) (drop n (twin_block first_rate second_rate one two generation)))) (sym (long generation))
      ∙ ap (λ rows. take row_bytes (drop (row * row_bytes) rows)) (drop-append_seam front back)

  -- a pair of a row of blocks is of a row of others, where the rows are the same
  same-rows : (block other : ℕ → List ℕ) (blocks row place link : ℕ) (pairs : List Flight) → ((generation : ℕ) → row_of (block generation) row ≡ row_of (other generation) place)
      → AreOfRow block blocks row link pairs → AreOfRow other blocks place link pairs
  same-rows block other blocks row place link pairs same =
      All-weaker (λ flight. flight.link ≡ link → IsOfRow block blocks row flight) (λ flight. flight.link ≡ link → IsOfRow other blocks place flight)
      (λ flight is on.
      let of = is on in
      record {
        generation = of.generation;
        piece = of.piece;
        numbered = of.numbered;
        of_piece = of.of_piece;
        frame = of.frame ∙ ap (λ bytes. frame_of (record { link = flight.link; generation = of.generation; piece = of.piece; payload = piece_of_row bytes of.piece })) (same of.generation);
      }) pairs

  -- so what is put on a link that carries one row is of one source
  pub puts-apart : (code : Code) (blocks : ℕ) (pairs : List Flight)
      → ((link row : ℕ) → CarriesRow code link row → AreOfRow (twin_block first_rate second_rate one two) blocks row link pairs)
      → PutsApart code first_rate second_rate one two blocks pairs
  puts-apart code blocks pairs are = record {
    of_first = λ link row carries below.
        same-rows (twin_block first_rate second_rate one two) (file_block one first_rate) blocks row row link pairs (λ generation. row-first row generation below) (are link row carries);
    of_second = λ link row carries.
        same-rows (twin_block first_rate second_rate one two) (file_block two second_rate) blocks (first_rate + row) row link pairs (row-second row) (are link (first_rate + row) carries);
  }
