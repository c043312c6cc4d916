-- A node that takes streams in, or a block, and the sums that its links then carry.
use Rattle.std.specs.Prelude.{◌≡◌, ◌≢◌, ◌<◌, ◌+◌, ◌*◌, ℕ, Bool, true, false, All, Contains, List, [], if◌then◌else◌, length}
use Rattle.std.specs.List.{concat}
use Rattle.std.proofs.Common.{sym, ap, subst, ◌∙◌, arith, get_or}
use Rattle.std.proofs.lemmas.List.{get_or-map, length-map}
use Rattle.std.proofs.lemmas.List.Elements.{All-contains_itself, Contains-get_or}
use Rattle.std.proofs.lemmas.List.Sums.{list_all-from_AllPass}
use Rattle.coded_traffic.proofs.SumLaws.{payload-sum, sum_of-agree}
use Rattle.coded_traffic.specs.CodeBlocks.{IsBlockOf, row_of}
use Rattle.coded_traffic.specs.Traffic.{Key, live_operands, operand_payload, payload_in, sum_of}
use Rattle.generation_frame.specs.Blocks.{piece_of_row, pieces}
use Rattle.generation_frame.specs.Frames.{accepted, frame_of}
use Rattle.generation_frame.specs.declared.frame.Accepted.{Accepted}
use Rattle.generation_frame.specs.declared.frame.Accepted.TheVariants.{New}
use Rattle.generation_frame.specs.declared.frame.Packet.{Packet}
use Rattle.item_list.proofs.Maps.{map-agree, same_made}
use Rattle.item_list.proofs.Positions.{place_in, place_in-within}
use Rattle.net_model.specs.Lists.{is_rising}
use Rattle.net_model.specs.Walks.{leaves_source}
use Rattle.node_plans.proofs.WiringLaws.{Contains-input}
use Rattle.node_plans.specs.Plans.{IsPlan, input_count, input_place, operands_of, out_place, outs_of, plan_of}
use Rattle.node_plans.specs.declared.plan.Plan.{Plan}
use Rattle.node_program.specs.declared.Operand.{Operand}
use Rattle.node_program.specs.declared.code.Code.{Code}
use Rattle.relay_core.specs.Core.{payload_of}
use Rattle.relay_node.proofs.TrafficLaws.{leaves_source-out, live_out, operands_of-plan}
use Rattle.relay_node.specs.Relay.{Gains, HasNothing, IsBegun, IsFed, IsOut, IsSameInput, IsSameWork, Relay, has_input, input_at, is_complete, is_given}
use Rattle.link_streams.proofs.CameLaws.{AreTaken, Came, GainsPiece, GainsPieces, all-bytes, all-came, gained_more, generation-found, key_at, link-found, link_at, payload-found, piece-found, stream_at, stream_links, taken_more}
use Rattle.link_streams.specs.Filled.{filled, frames_of}
use Rattle.link_streams.specs.Relaying.{originated, relayed, sums_in}
use Rattle.link_streams.specs.Streams as read
use Rattle.link_streams.specs.Streams.{HasGeneration, IsStream, Stream, all_packets}

-- what came to a node of a generation
abbrev pub came_to : Relay → ℕ → Came
came_to relay generation = record { has = has_input relay generation; bytes = input_at relay generation }

-- the work of a node stays both ways, and one change after another
pub back : (old new : Relay) → IsSameWork old new → IsSameWork new old
back old new work = record { plan = sym work.plan; first = sym work.first; count = sym work.count }

pub onward : (old mid new : Relay) → IsSameWork old mid → IsSameWork mid new → IsSameWork old new
onward old mid new one other =
    record { plan = other.plan ∙ one.plan; first = other.first ∙ one.first; count = other.count ∙ one.count }

pub begun_after : (old new : Relay) (generation : ℕ) → IsSameWork old new → IsBegun old generation → IsBegun new generation
begun_after old new generation work begun = record {
  from_first = omega (arith, work.first, begun.from_first);
  to_last = omega (arith, work.first, work.count, begun.to_last);
}

pub out_after : (old new : Relay) (key : Key) → IsSameWork old new → IsOut old key → IsOut new key
out_after old new key work is = record {
  leaves = subst (λ (plan : Plan). Contains plan.outs key.link) (sym work.plan) is.leaves;
  begun = begun_after old new key.generation work is.begun;
  of_piece = is.of_piece;
}

-- a node took the first pieces of a stream in
pub record AcceptsPieces (stream : Stream) (generation count : ℕ) (old new : Relay) : Type 0 where
  pub work : IsSameWork old new
  pub given : (key : Key) → IsOut old key → is_given new key ≡ is_given old key
  pub came : GainsPieces (Contains old.plan.ins) stream generation count (came_to old generation) (came_to new generation)
  pub is_stream : 0 < count → IsStream stream

-- one more
module _ (stream : Stream) (generation count : ℕ) (packet : Packet) (old mid new : Relay) (result : Accepted) (is : IsStream stream) (low : count < pieces)
    (stands : Contains stream.packets packet) (place : read.place_of packet ≡ generation * pieces + count) (into : Contains old.plan.ins stream.link)
    (begun : IsBegun old generation) (none : has_input old generation stream.link count ≡ false) (so_far : AcceptsPieces stream generation count old mid) where
  at_link : packet.link ≡ stream.link
  at_link = link-found stream generation count packet is low stands place

  at_generation : packet.generation ≡ generation
  at_generation = generation-found stream generation count packet is low stands place

  at_piece : packet.piece ≡ count
  at_piece = piece-found stream generation count packet is low stands place

  -- it is new
  pub accepts-new : result ≡ accepted (has_input mid packet.generation packet.link packet.piece) → result ≡ New
  accepts-new value =
      value
      ∙ ap (λ g. accepted (has_input mid g packet.link packet.piece)) at_generation
      ∙ ap (λ l. accepted (has_input mid generation l packet.piece)) at_link
      ∙ ap (λ p. accepted (has_input mid generation stream.link p)) at_piece
      ∙ ap accepted ((so_far.came.others stream.link count into low (λ equal. omega (arith, equal.1))).has ∙ none)

  pub accepts_more : Gains packet mid new → AcceptsPieces stream generation (count + 1) old new
  accepts_more gains = record {
    work = onward old mid new so_far.work gains.work;
    given = λ key out. gains.given key (out_after old mid key so_far.work out) ∙ so_far.given key out;
    came = gained_more (Contains old.plan.ins) stream generation count packet.payload (came_to old generation) (came_to mid generation) (came_to new generation)
        into low so_far.came gained (payload-found stream generation count packet is low stands place);
    is_stream = λ some. is;
  }
    where
      Came_of : ℕ → ℕ → ℕ → Type 0
      Came_of g l p = has_input new g l p ≡ true

      Bytes_of : ℕ → ℕ → ℕ → Type 0
      Bytes_of g l p = input_at new g l p ≡ packet.payload

      -- at the stream's link, generation and piece
      here : (P : ℕ → ℕ → ℕ → Type 0) → P packet.generation packet.link packet.piece → P generation stream.link count
      here P is =
          subst (P generation stream.link) at_piece
          (subst (λ l. P generation l packet.piece) at_link (subst (λ g. P g packet.link packet.piece) at_generation is))

      gained : GainsPiece (Contains old.plan.ins) stream.link count packet.payload (came_to mid generation) (came_to new generation)
      gained = record {
        came = here Came_of gains.came;
        bytes = here Bytes_of gains.bytes;
        others = λ l p among short apart.
            let among_mid : Contains mid.plan.ins l = subst (λ (plan : Plan). Contains plan.ins l) (sym so_far.work.plan) among in
            let stays = gains.others generation l p (begun_after old mid generation so_far.work begun) among_mid short
            (λ equal. apart (equal.1 ∙ at_link, equal.2 ∙ at_piece)) in
            record { has = stays.has; bytes = stays.bytes };
      }

-- a node of one generation took streams in, one after another, and gave nothing
pub record AcceptsStreams (plan : Plan) (streams : List Stream) (generation count : ℕ) (node : Relay) : Type 0 where
  pub same_plan : node.plan ≡ plan
  pub first : node.first ≡ generation
  pub one : node.count ≡ 1
  pub not_given : (key : Key) → IsOut node key → is_given node key ≡ false
  pub taken : AreTaken streams generation count (came_to node generation)

begun_one : (generation : ℕ) (node : Relay) → node.first ≡ generation → node.count ≡ 1 → IsBegun node generation
begun_one generation node first one = record { from_first = omega (arith, first); to_last = omega (arith, first, one) }

module _ (plan : Plan) (streams : List Stream) (generation : ℕ) (is_plan : IsPlan plan) (links : stream_links streams ≡ plan.ins) where
  streams-rise : is_rising (stream_links streams) ≡ true
  streams-rise = subst (λ (ls : List ℕ). is_rising ls ≡ true) (sym links) is_plan.ins_rise

  streams-into : (k : ℕ) → k < length streams → Contains plan.ins (link_at streams k)
  streams-into k within =
      let link : Stream → ℕ = λ stream. stream.link in
      let place : k < length (stream_links streams) = omega (arith, within, length-map streams link) in
      subst (λ (ls : List ℕ). Contains ls (link_at streams k)) links
      (subst (Contains (stream_links streams)) (get_or-map link streams k (record { link = 0; packets = [] }) 0 within) (Contains-get_or (stream_links streams) k 0 place))

  module _ (count : ℕ) (stream : Stream) (within : count < length streams) (here : stream ≡ stream_at streams count) (node : Relay)
      (so_far : AcceptsStreams plan streams generation count node) where
    pub next-begun : IsBegun node generation
    next-begun = begun_one generation node so_far.first so_far.one

    pub next-none : (p : ℕ) → p < pieces → has_input node generation stream.link p ≡ false
    next-none p low = ap (λ (s : Stream). has_input node generation s.link p) here ∙ so_far.taken.none count p (omega arith) within low

    -- and then one more was
    pub accepted_more : (new : Relay) → IsSameWork node new → ((key : Key) → IsOut node key → is_given new key ≡ is_given node key) → IsStream stream
        → ((p : ℕ) → p < pieces → has_input new generation stream.link p ≡ true)
        → ((p : ℕ) → p < pieces → input_at new generation stream.link p ≡ payload_of stream.packets (key_at generation stream.link p))
        → ((link p : ℕ) → Contains node.plan.ins link → p < pieces → link ≢ stream.link → IsSameInput node new generation link p)
        → AcceptsStreams plan streams generation (count + 1) new
    accepted_more new work given is came bytes others = record {
      same_plan = work.plan ∙ so_far.same_plan;
      first = work.first ∙ so_far.first;
      one = work.count ∙ so_far.one;
      not_given = λ key out. let before = out_after new node key (back node new work) out in given key before ∙ so_far.not_given key before;
      taken = taken_more (Contains plan.ins) streams generation count (came_to node generation) (came_to new generation) streams-rise streams-into within
          (subst Is here is) so_far.taken (subst Gained here gains);
    }
      where
        Is : Stream → Type 0
        Is = IsStream

        Gained : Stream → Type 0
        Gained s = GainsPieces (Contains plan.ins) s generation pieces (came_to node generation) (came_to new generation)

        gains : GainsPieces (Contains plan.ins) stream generation pieces (came_to node generation) (came_to new generation)
        gains = record {
          came = came;
          bytes = bytes;
          others = λ l p among low apart.
              let into : Contains node.plan.ins l = subst (λ (p : Plan). Contains p.ins l) (sym so_far.same_plan) among in
              let stays = others l p into low (λ same. apart (same, low)) in
              record { has = stays.has; bytes = stays.bytes };
        }

-- the payload of a piece of a link out of a node, by what came
abbrev pub sum_in : Relay → ℕ → ℕ → List ℕ
sum_in node link piece =
    sum_of node.plan.field (operands_of node.plan link) (λ operand. input_at node node.first operand.from piece)

-- each operand of a link out of a node names an input
pub named : (plan : Plan) (link : ℕ) → IsPlan plan → Contains plan.outs link → All (λ operand. input_place plan operand.from < input_count plan) (operands_of plan link)
named plan link is_plan stands =
    is_plan.inputs (out_place plan link) [] (omega (arith, place_in-within plan.outs link stands, is_plan.each_out))

-- where all inputs came, so did all operands of each link
pub all-complete : (node : Relay) (link piece : ℕ) → IsPlan node.plan → Contains node.plan.outs link
    → ((from : ℕ) → input_place node.plan from < input_count node.plan → has_input node node.first from piece ≡ true)
    → is_complete node (record { link = link; generation = node.first; piece = piece }) ≡ true
all-complete node link piece is_plan stands came =
    list_all-from_AllPass (λ (operand : Operand). has_input node node.first operand.from piece) (operands_of node.plan link)
    (λ k d within. came (get_or (operands_of node.plan link) k d).from (named node.plan link is_plan stands k d within))

-- frames whose payloads agree are the same
filled-agree : (links : List ℕ) (generation : ℕ) (f g : ℕ → ℕ → List ℕ) → ((link piece : ℕ) → Contains links link → piece < pieces → f link piece ≡ g link piece)
    → filled links generation f ≡ filled links generation g
filled-agree links generation f g same =
    ap (λ (bytes : List (List ℕ)). record { links = links; bytes = bytes })
    (map-agree (λ link. frames_of link generation (f link)) (λ link. frames_of link generation (g link)) (Contains links)
    (λ link stands.
    let frame : (ℕ → List ℕ) → ℕ → List ℕ = λ payload piece. frame_of (record { link = link; generation = generation; piece = piece; payload = payload piece }) in
    ap (λ (parts : List (List ℕ)). concat parts)
    (same_made (frame (f link)) (frame (g link)) pieces []
    (λ piece low. ap (λ (payload : List ℕ). frame_of (record { link = link; generation = generation; piece = piece; payload = payload })) (same link piece stands low))))
    links (All-contains_itself links))

module _ (node : Relay) (is_plan : IsPlan node.plan) (code : Code) (pattern number : ℕ) (planned : node.plan ≡ plan_of code pattern number) where
  -- the sum of what came of each operand, by the code's operands
  sum-by : (link : ℕ) (f g : Operand → List ℕ) → Contains node.plan.outs link
      → ((operand : Operand) → input_place node.plan operand.from < input_count node.plan → f operand ≡ g operand)
      → sum_of node.plan.field (operands_of node.plan link) f ≡ sum_of code.field (live_operands code pattern link) g
  sum-by link f g stands same =
      let out : Contains (outs_of code pattern number) link = subst (λ (plan : Plan). Contains plan.outs link) planned stands in
      sum_of-agree node.plan.field (operands_of node.plan link) f g
      (λ k d within. same (get_or (operands_of node.plan link) k d) (named node.plan link is_plan stands k d within))
      ∙ ap (λ (plan : Plan). sum_of plan.field (operands_of plan link) g) planned
      ∙ ap (λ (operands : List Operand). sum_of code.field operands g) (operands_of-plan code pattern number link out)

  -- frames of those sums
  filled-by : (payload : ℕ → ℕ → List ℕ) → ((link piece : ℕ) → Contains node.plan.outs link → piece < pieces → sum_in node link piece ≡ payload link piece)
      → filled node.plan.outs node.first (sum_in node) ≡ filled (outs_of code pattern number) node.first payload
  filled-by payload same =
      filled-agree node.plan.outs node.first (sum_in node) payload same
      ∙ ap (λ (plan : Plan). filled plan.outs node.first payload) planned

  -- where streams came on all links into a node, it relays them
  pub relayed-filled : (streams : List Stream) (generation : ℕ) → node.plan.is_source ≡ false → node.first ≡ generation
      → ((from piece : ℕ) → Contains node.plan.ins from → piece < pieces
      → input_at node generation from piece ≡ payload_of (all_packets streams) (key_at generation from piece))
      → filled node.plan.outs node.first (sum_in node) ≡ relayed code pattern number (all_packets streams) generation
  relayed-filled streams generation inner first bytes =
      filled-by (sums_in code pattern (all_packets streams) generation)
      (λ link piece stands low. sum-by link (λ operand. input_at node node.first operand.from piece)
      (λ operand. payload_of (all_packets streams) (key_at generation operand.from piece)) stands
      (λ operand below.
      ap (λ g. input_at node g operand.from piece) first ∙ bytes operand.from piece (Contains-input node.plan operand.from below inner) low))
      ∙ ap (λ g. filled (outs_of code pattern number) g (sums_in code pattern (all_packets streams) generation)) first

  -- where the rows of a block came to the source, it originates them
  pub originated-filled : (block : List ℕ) (generation : ℕ) → node.plan.is_source ≡ true → node.first ≡ generation → IsBlockOf code block
      → ((row piece : ℕ) → row < node.plan.rate → piece < pieces → input_at node generation row piece ≡ piece_of_row (row_of block row) piece)
      → filled node.plan.outs node.first (sum_in node) ≡ originated code pattern number block generation
  originated-filled block generation source first is bytes =
      filled-by (λ link piece. payload_in code pattern block piece link)
      (λ link piece stands low.
      let out : Contains (outs_of code pattern number) link = subst (λ (plan : Plan). Contains plan.outs link) planned stands in
      let leaves : leaves_source code.net link ≡ true =
      leaves_source-out code pattern number link out ∙ sym (ap (λ (plan : Plan). plan.is_source) planned) ∙ source in
      sum-by link (λ operand. input_at node node.first operand.from piece)
      (operand_payload code block piece (payload_in code pattern block piece) link) stands
      (λ operand below.
      let row : operand.from < node.plan.rate = row-below operand.from source below in
      ap (λ g. input_at node g operand.from piece) first ∙ bytes operand.from piece row low
      ∙ sym (ap (λ (b : Bool). if b then piece_of_row (row_of block operand.from) piece else payload_in code pattern block piece operand.from) leaves))
      ∙ sym (payload-sum code pattern block is piece low link (live_out code pattern number link out)))
      ∙ ap (λ g. filled (outs_of code pattern number) g (λ link piece. payload_in code pattern block piece link)) first
    where
      row-below : (from : ℕ) → node.plan.is_source ≡ true → input_place node.plan from < input_count node.plan → from < node.plan.rate
      row-below from source below =
          subst (λ (b : Bool). (if b then from else place_in node.plan.ins from) < (if b then node.plan.rate else length node.plan.ins)) source below

-- the streams of all links into a node that isn't the source came
module _ (plan : Plan) (streams : List Stream) (generation : ℕ) (is_plan : IsPlan plan) (links : stream_links streams ≡ plan.ins)
    (whole : All (HasGeneration generation) streams) (node : Relay) (inner : plan.is_source ≡ false)
    (takes : AcceptsStreams plan streams generation (length streams) node) where
  rise : is_rising (stream_links streams) ≡ true
  rise = streams-rise plan streams generation is_plan links

  of_node : IsPlan node.plan
  of_node = subst (λ (p : Plan). IsPlan p) (sym takes.same_plan) is_plan

  inner_node : node.plan.is_source ≡ false
  inner_node = ap (λ (p : Plan). p.is_source) takes.same_plan ∙ inner

  among : (from : ℕ) → Contains node.plan.ins from → Contains (stream_links streams) from
  among from stands =
      subst (λ (ls : List ℕ). Contains ls from) (sym links) (subst (λ (p : Plan). Contains p.ins from) takes.same_plan stands)

  pub pass-complete : (link piece : ℕ) → Contains node.plan.outs link → piece < pieces
      → is_complete node (record { link = link; generation = node.first; piece = piece }) ≡ true
  pass-complete link piece stands low =
      all-complete node link piece of_node stands
      (λ from below.
      ap (λ g. has_input node g from piece) takes.first
      ∙ all-came streams generation (came_to node generation) rise whole takes.taken from piece (among from (Contains-input node.plan from below inner_node)) low)

  pub pass-filled : (code : Code) (pattern number : ℕ) → plan ≡ plan_of code pattern number
      → filled node.plan.outs node.first (sum_in node) ≡ relayed code pattern number (all_packets streams) generation
  pass-filled code pattern number planned =
      relayed-filled node of_node code pattern number (takes.same_plan ∙ planned) streams generation inner_node takes.first
      (λ from piece stands low. all-bytes streams generation (came_to node generation) rise whole takes.taken from piece (among from stands) low)

-- the source was begun and fed
module _ (plan : Plan) (begun fed : Relay) (generation : ℕ) (block : List ℕ) (is_plan : IsPlan plan) (source : plan.is_source ≡ true)
    (same : begun.plan ≡ plan) (first : begun.first ≡ generation) (one : begun.count ≡ 1) (nothing : HasNothing begun) (feeds : IsFed generation block begun fed) where
  same_plan : fed.plan ≡ plan
  same_plan = feeds.work.plan ∙ same

  at_first : fed.first ≡ generation
  at_first = feeds.work.first ∙ first

  is_source : fed.plan.is_source ≡ true
  is_source = ap (λ (p : Plan). p.is_source) same_plan ∙ source

  pub fed-plan : IsPlan fed.plan
  fed-plan = subst (λ (p : Plan). IsPlan p) (sym same_plan) is_plan

  rate_before : (row : ℕ) → row < fed.plan.rate → row < begun.plan.rate
  rate_before row low = subst (λ (p : Plan). row < p.rate) feeds.work.plan low

  pub fed-complete : (link piece : ℕ) → Contains fed.plan.outs link → piece < pieces
      → is_complete fed (record { link = link; generation = fed.first; piece = piece }) ≡ true
  fed-complete link piece stands low =
      all-complete fed link piece fed-plan stands
      (λ from below.
      let row : from < fed.plan.rate =
      subst (λ (b : Bool). (if b then from else place_in fed.plan.ins from) < (if b then fed.plan.rate else length fed.plan.ins)) is_source below in
      ap (λ g. has_input fed g from piece) at_first ∙ feeds.came from piece (rate_before from row) low)

  pub fed-filled : (code : Code) (pattern number : ℕ) → plan ≡ plan_of code pattern number → IsBlockOf code block
      → filled fed.plan.outs fed.first (sum_in fed) ≡ originated code pattern number block generation
  fed-filled code pattern number planned is =
      originated-filled fed fed-plan code pattern number (same_plan ∙ planned) block generation is_source at_first is
      (λ row piece low short. feeds.bytes row piece (rate_before row low) short)
