-- A delivery, window by window: some blocks are delivered, and then more, or the delivery ends there.
use Rattle.std.specs.Prelude.{◌≡◌, ◌<◌, ◌≤◌, ◌+◌, ◌*◌, ◌/◌, ◌^◌, ℕ, zero, suc, Bool, false, List, [], ◌∷◌, ◌++◌, drop, length, map, string_bytes, take}
use Rattle.std.specs.List.{AllByRecursion, concat, range_with_len}
use Rattle.std.proofs.Common.{refl, sym, ap, ◌∙◌, subst, arith}
use Rattle.std.proofs.Math.Nat.{add-mul, mul-div_left, mul-le-mul_left}
use Rattle.std.proofs.Math.Seq.{drop-append_seam, take-append_seam}
use Rattle.std.proofs.lemmas.List.{append-nil, append_assoc, length-append}
use Rattle.coded_traffic.specs.Traffic.{room_for}
use Rattle.generation_frame.proofs.BlockLaws.{length-block}
use Rattle.generation_frame.proofs.PieceLaws.{length-piece_of}
use Rattle.generation_frame.specs.Blocks.{block_count, capacity, most_blocks, piece_of, row_bytes}
use Rattle.lif_outside.proofs.SequenceLaws.{stops_behind}
use Rattle.lif_outside.specs.Calls.{Calls}
use Rattle.lif_outside.specs.Events.{Event}
use Rattle.lif_outside.specs.FileCalls.{StopsWithin, appends_of}
use Rattle.lif_outside.specs.Limits.{last_place}
use Rattle.lif_outside.specs.Moves.{FollowMoves, InFlight, Move, opened}
use Rattle.lif_outside.specs.Sequences.{Are}
use Rattle.node_program.specs.declared.code.Code.{Code}
use Rattle.node_stations.specs.Fed.{window_of}
use Rattle.relay_runner.specs.Carried.{packets_given}
use Rattle.relay_runner.specs.Running.{AreBlocks, Running, count_in, window_from}
use Rattle.source_delivery.proofs.CarriedLaws.{blocks_in-append, carried-then, decoded-next, decoded-still, length-blocks_in}
use Rattle.source_delivery.proofs.TurnLaws.{turns-alike, turns-append}
use Rattle.source_delivery.specs.Carried.{blocks_from, file_block}
use Rattle.source_delivery.specs.Delivering.{BreaksBlocks, CanCarry, DeliversBlocks, DeliversSome, Interrupts, InterruptsBlocks, InterruptsBytes, StandIn, calls_join}
use Rattle.source_delivery.specs.Delivery.{outputs_in, paths_of}
use Rattle.source_delivery.specs.Turns.{Outputs, turns_before, turns_from}
use Rattle.source_delivery.specs.declared.delivery.SourceDelivery.{SourceDelivery}
use Rattle.source_delivery.specs.declared.delivery.DeliveryFault.{DeliveryFault}
use Rattle.source_delivery.specs.declared.delivery.DeliveryFault.TheVariants as fault

module _ (faithful : Bool) (code : Code) (pattern : ℕ) (outputs : Outputs) (known : pattern < length code.net.patterns) where
  abbrev Blocks : ℕ → List (List ℕ) → (List Event → List Event → Type 0) → Calls → Type 0
  Blocks = DeliversBlocks faithful code pattern outputs

  -- nothing was delivered
  pub delivers-none : (first : ℕ) → Blocks first [] Are (record { on_store = []; on_links = [] })
  delivers-none first = record { on_links = refl; on_store = refl }

  module _ (first : ℕ) (blocks others : List (List ℕ)) (front later : Calls) (some : Blocks first blocks Are front) where
    abbrev moves : List Move
    moves = front.on_links ++ later.on_links

    -- the appends of both are those of the blocks, and then those of the others
    pub turns-joined : (n : ℕ) → n ≡ length others
        → appends_of (turns_from outputs code pattern (packets_given moves) first (length blocks + n))
        ≡ front.on_store ++ appends_of (turns_from outputs code pattern (packets_given later.on_links) (first + length blocks) n)
    turns-joined n count =
        turns-append outputs code pattern (packets_given moves) first (length blocks) n
        ∙ ap (λ turns. appends_of turns ++ appends_of (turns_from outputs code pattern (packets_given moves) (first + length blocks) n))
        (turns-alike outputs code pattern (packets_given moves) (packets_given front.on_links) first (length blocks)
        (λ generation begun below sink. decoded-still faithful code pattern first blocks front.on_links later.on_links sink generation some.on_links known begun below))
        ∙ ap (λ events. events ++ appends_of (turns_from outputs code pattern (packets_given moves) (first + length blocks) n)) (sym some.on_store)
        ∙ ap (λ turns. front.on_store ++ appends_of turns)
        (turns-alike outputs code pattern (packets_given moves) (packets_given later.on_links) (first + length blocks) n
        (λ generation begun below sink. decoded-next faithful code pattern first blocks front.on_links later.on_links sink generation some.on_links begun))

    -- blocks were delivered, and then more
    pub delivers-then : (Q : List Event → List Event → Type 0) → ((these events : List Event) → Q these events → Q (front.on_store ++ these) (front.on_store ++ events))
        → Blocks (first + length blocks) others Q later → Blocks first (blocks ++ others) Q (calls_join front later)
    delivers-then Q behind more = record {
      on_links = carried-then faithful code pattern first blocks front.on_links others later.on_links some.on_links more.on_links;
      on_store = subst (λ n. Q (appends_of (turns_from outputs code pattern (packets_given moves) first n)) (front.on_store ++ later.on_store)) (sym (length-append blocks others))
          (subst (λ these. Q these (front.on_store ++ later.on_store)) (sym (turns-joined (length others) refl)) (behind _ later.on_store more.on_store));
    }

    pub delivers-more : Blocks (first + length blocks) others Are later → Blocks first (blocks ++ others) Are (calls_join front later)
    delivers-more = delivers-then Are (λ these events are. ap (λ events. front.on_store ++ events) are)

    pub stops-more : Blocks (first + length blocks) others StopsWithin later → Blocks first (blocks ++ others) StopsWithin (calls_join front later)
    stops-more = delivers-then StopsWithin (λ these events stop. stops_behind front.on_store these events stop)

  -- so it is with the blocks of some bytes
  module _ (first : ℕ) (bytes : List ℕ) (count more : ℕ) (front later : Calls) (some : Blocks first (blocks_from bytes code.rate 0 count) Are front) where
    abbrev both : List (List ℕ)
    both = blocks_from bytes code.rate 0 (count + more)

    long : length (blocks_from bytes code.rate 0 count) ≡ count
    long = length-blocks_in (file_block bytes code.rate) 0 count

    joined : both ≡ blocks_from bytes code.rate 0 count ++ blocks_from bytes code.rate count more
    joined =
        let start : 0 + count ≡ count = omega arith in
        blocks_in-append (file_block bytes code.rate) 0 count more ∙ ap (λ n. blocks_from bytes code.rate 0 count ++ blocks_from bytes code.rate n more) start

    pub delivers-bytes : Blocks (first + count) (blocks_from bytes code.rate count more) Are later → Blocks first both Are (calls_join front later)
    delivers-bytes is =
        subst (λ blocks. Blocks first blocks Are (calls_join front later)) (sym joined)
        (delivers-more first (blocks_from bytes code.rate 0 count) (blocks_from bytes code.rate count more) front later some
        (subst (λ n. Blocks (first + n) (blocks_from bytes code.rate count more) Are later) (sym long) is))

    pub stops-bytes : Blocks (first + count) (blocks_from bytes code.rate count more) StopsWithin later → Blocks first both StopsWithin (calls_join front later)
    stops-bytes is =
        subst (λ blocks. Blocks first blocks StopsWithin (calls_join front later)) (sym joined)
        (stops-more first (blocks_from bytes code.rate 0 count) (blocks_from bytes code.rate count more) front later some
        (subst (λ n. Blocks (first + n) (blocks_from bytes code.rate count more) StopsWithin later) (sym long) is))

    pub interrupts-bytes : (blocks : ℕ) → count + more ≤ blocks → (why : DeliveryFault)
        → InterruptsBlocks faithful code pattern outputs (first + count) (blocks_from bytes code.rate count more) why later
        → InterruptsBytes faithful code pattern outputs first bytes blocks why (calls_join front later)
    interrupts-bytes blocks within why is = record {
      before = count;
      more = more;
      within = within;
      front = front;
      later = later;
      joined = refl;
      delivered = some;
      interrupted = is;
    }

  -- ---- a whole source

  module _ (source : List ℕ) where
    abbrev blocks : ℕ
    blocks = block_count source code.rate

    -- all blocks of a source were delivered
    pub delivers-some : (calls : Calls) → Blocks 0 (blocks_from source code.rate 0 blocks) Are calls → DeliversSome faithful code pattern outputs source blocks calls
    delivers-some calls is = record {
      delivered = record {
        carried = blocks;
        on_links = record { first = calls.on_links; later = []; moves_are = sym (append-nil calls.on_links); some = omega arith; carries = is.on_links; rest = refl };
        on_store = subst (λ n. calls.on_store ≡ appends_of (turns_before outputs code pattern (packets_given calls.on_links) n)) (length-blocks_in (file_block source code.rate) 0 blocks) is.on_store;
      };
      number = refl;
    }

    -- or not all were
    pub interrupts-some : (why : DeliveryFault) (calls : Calls) → InterruptsBytes faithful code pattern outputs 0 source blocks why calls → Interrupts faithful code pattern outputs source why calls
    interrupts-some fault.Write calls is =
        let start : 0 + is.before ≡ is.before = omega arith in
        let count = is.before + is.more in
        let all = subst (λ calls. Blocks 0 (blocks_from source code.rate 0 count) StopsWithin calls) (sym is.joined)
        (stops-bytes 0 source is.before is.more is.front is.later is.delivered is.interrupted) in
        record {
          carried = count;
          on_links = record { first = calls.on_links; later = []; moves_are = sym (append-nil calls.on_links); some = is.within; carries = all.on_links; rest = refl };
          on_store = subst (λ n. StopsWithin (appends_of (turns_before outputs code pattern (packets_given calls.on_links) n)) calls.on_store) (length-blocks_in (file_block source code.rate) 0 count) all.on_store;
        }
    interrupts-some fault.Links calls is =
        let start : 0 + is.before ≡ is.before = omega arith in
        let those = blocks_from source code.rate 0 is.before in
        let broken = subst (λ n. BreaksBlocks faithful code pattern n (blocks_from source code.rate is.before is.more) is.later) start is.interrupted in
        let moves_are : calls.on_links ≡ is.front.on_links ++ is.later.on_links = ap (λ (calls : Calls). calls.on_links) is.joined in
        let count : length those + 0 ≡ is.before = omega (arith, length-blocks_in (file_block source code.rate) 0 is.before) in
        record {
          carried = is.before;
          on_links = record {
            first = is.front.on_links;
            later = is.later.on_links;
            moves_are = moves_are;
            some = omega (arith, is.within);
            carries = is.delivered.on_links;
            rest = record { more = is.more; some = is.within; stopped = broken.on_links };
          };
          on_store =
              ap (λ (calls : Calls). calls.on_store) is.joined ∙ ap (λ events. is.front.on_store ++ events) broken.on_store
              ∙ sym (turns-joined 0 those [] is.front is.later is.delivered 0 refl)
              ∙ ap (λ n. appends_of (turns_before outputs code pattern (packets_given (is.front.on_links ++ is.later.on_links)) n)) count
              ∙ ap (λ moves. appends_of (turns_before outputs code pattern (packets_given moves) is.before)) (sym moves_are);
        }

-- links that were just opened for a code carry blocks of it
pub opened-can : (seed : ℕ) (code : Code) (runner : Running) → runner.code ≡ code → runner.pattern < length code.net.patterns → runner.has_failed ≡ false
    → (as_put : Bool) (old new : InFlight) → FollowMoves as_put (opened seed (room_for code) ∷ []) old new → CanCarry runner new.flying new.room
opened-can seed code runner at_work known works as_put old new moved =
    let is = moved.1 in
    let after : new ≡ moved.0 = moved.2 in
    let links : length runner.code.net.links ≡ length code.net.links = ap (λ (code : Code). length code.net.links) at_work in
    let room : new.room ≡ moved.0.room = ap (λ (held : InFlight). held.room) after in
    record {
      known = omega (arith, known, ap (λ (code : Code). length code.net.patterns) at_work);
      works = works;
      quiet = ap (λ (held : InFlight). held.flying) after ∙ is.nothing_flies;
      has_room = omega (arith, is.has_room, links, room);
    }

-- numbers of generations that carry so many bytes are of 32 bits, with room for a window
pub numbered-at : (rate generations : ℕ) → 1 ≤ rate → generations * capacity rate ≤ last_place → generations + 4 ≤ 2 ^ 32
numbered-at rate generations some few =
    let size : 1020 ≤ capacity rate = omega (arith, some) in
    let least : generations * 1020 ≤ generations * capacity rate = mul-le-mul_left generations size in
    omega (arith, few, least)

pub numbered : (code : Code) (generations : ℕ) → generations * capacity code.rate ≤ last_place → generations + 4 ≤ 2 ^ 32
numbered code generations few = numbered-at code.rate generations code.code.draft.some_rate few

-- ---- the files of a delivery

-- deliveries to the same paths, of as many sources, have the same files
pub outputs-same : {F : Type 0} (one other : SourceDelivery F) → one.outputs ≡ other.outputs → one.parts ≡ other.parts → outputs_in one ≡ outputs_in other
outputs-same one other outputs parts =
    ap (λ outputs. record { paths = map string_bytes outputs.items; parts = one.parts }) outputs ∙ ap (λ parts. record { paths = paths_of other; parts = parts }) parts

-- ---- blocks that stand one after another

-- all blocks are of a size
abbrev AreOfSize : ℕ → List (List ℕ) → Type 0
AreOfSize size blocks = AllByRecursion (λ (block : List ℕ). length block ≡ size) blocks

-- cut at that size, they are had again
cut-concat : (size : ℕ) (blocks : List (List ℕ)) (front : List ℕ) (count : ℕ) → length front ≡ count * size → AreOfSize size blocks
    → map (λ place. take size (drop (place * size) (front ++ concat blocks))) (range_with_len count (length blocks)) ≡ blocks
cut-concat size [] front count long all = refl
cut-concat size (block ∷ blocks) front count long all =
    let rest = concat blocks in
    let here : take size (drop (count * size) (front ++ (block ++ rest))) ≡ block =
    ap (λ n. take size (drop n (front ++ (block ++ rest)))) (sym long) ∙ ap (take size) (drop-append_seam front (block ++ rest))
    ∙ ap (λ n. take n (block ++ rest)) (sym all.0) ∙ take-append_seam block rest in
    let next : (count + 1) * size ≡ count * size + 1 * size = add-mul count 1 size in
    let longer : length (front ++ block) ≡ (count + 1) * size = omega (arith, length-append front block, long, all.0, next) in
    ap (λ one. one ∷ map (λ place. take size (drop (place * size) (front ++ (block ++ rest)))) (range_with_len (count + 1) (length blocks))) here
    ∙ ap (λ (bytes : List ℕ). block ∷ map (λ place. take size (drop (place * size) bytes)) (range_with_len (count + 1) (length blocks))) (sym (append_assoc front block rest))
    ∙ ap (λ rest. block ∷ rest) (cut-concat size blocks (front ++ block) (count + 1) longer all.1)

length-concat : (size : ℕ) (blocks : List (List ℕ)) → AreOfSize size blocks → length (concat blocks) ≡ length blocks * size
length-concat size [] all = omega arith
length-concat size (block ∷ blocks) all =
    let more : (length blocks + 1) * size ≡ length blocks * size + 1 * size = add-mul (length blocks) 1 size in
    let count : length (block ∷ blocks) * size ≡ (length blocks + 1) * size = ap (λ n. n * size) (omega arith) in
    omega (arith, length-append block (concat blocks), length-concat size blocks all.1, all.0, more, count)

-- each block of a file is of the size of a block of the code
pub size-blocks : (code : Code) (bytes : List ℕ) (first count : ℕ) → AreOfSize (code.rate * row_bytes) (blocks_from bytes code.rate first count)
size-blocks code bytes first zero = tt
size-blocks code bytes first (suc count) =
    (length-block code.rate (piece_of bytes code.rate first) code.code.draft.some_rate (length-piece_of bytes code.rate first), size-blocks code bytes (first + 1) count)

-- bytes that are as long as so many blocks of a code are so many blocks
module _ (code : Code) (count : ℕ) (hand : List ℕ) (long : length hand ≡ count * (code.rate * row_bytes)) where
  pub blocks-count : count_in code hand ≡ count
  blocks-count =
      let some : 1 ≤ code.rate = code.code.draft.some_rate in
      let size : 0 < code.rate * row_bytes = omega (arith, some) in
      ap (λ n. n / (code.rate * row_bytes)) long ∙ mul-div_left count size

  pub are-blocks : (first : ℕ) → 1 ≤ count → count ≤ most_blocks → first + count ≤ 2 ^ 32 → AreBlocks code first hand
  are-blocks first some few last = record {
    some_blocks = omega (arith, blocks-count);
    few_blocks = omega (arith, blocks-count);
    whole = long ∙ ap (λ n. n * (code.rate * row_bytes)) (sym blocks-count);
    last = omega (arith, blocks-count);
  }

-- where blocks stand in a room, the bytes of so many blocks of it are these blocks, and a window of them
module _ (code : Code) (count : ℕ) (blocks : List (List ℕ)) (room : List ℕ) (stand : StandIn code count blocks room) where
  abbrev hand : List ℕ
  hand = take (count * (code.rate * row_bytes)) room

  pub blocks-long : length hand ≡ count * (code.rate * row_bytes)
  blocks-long =
      ap length stand.stand ∙ length-concat (code.rate * row_bytes) blocks stand.sized ∙ ap (λ n. n * (code.rate * row_bytes)) stand.as_many

  pub blocks-window : (first : ℕ) → window_from code first hand ≡ record { first = first; blocks = blocks }
  blocks-window first =
      let size = code.rate * row_bytes in
      let none : 0 ≡ 0 * size = omega arith in
      ap (λ n. window_of first n size hand) (blocks-count code count hand blocks-long ∙ sym stand.as_many)
      ∙ ap (λ hand. window_of first (length blocks) size hand) stand.stand
      ∙ ap (λ (blocks : List (List ℕ)). record { first = first; blocks = blocks }) (cut-concat size blocks [] 0 none stand.sized)
