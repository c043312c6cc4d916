-- A sink that takes the streams of all links that it wants in, and what it decodes of them.
use Rattle.std.specs.Prelude.{◌≡◌, ◌≢◌, ◌<◌, ◌+◌, ◌*◌, ◌||◌, ℕ, zero, suc, Bool, true, false, not, All, Contains, List, [], ◌∷◌, drop, filter, length, slice_get, take}
use Rattle.std.specs.Option.{option_map_or}
use Rattle.std.proofs.Common.{refl, sym, ap, subst, ◌∙◌, arith, get_or, inl, inr}
use Rattle.std.proofs.lemmas.Bool.{and_from, and_parts, cases_Bool, false≢true}
use Rattle.std.proofs.lemmas.List.{get_or-drop, get_or-map, get_or-take, get_or_default, length-map, length-take}
use Rattle.std.proofs.lemmas.List.Elements.{All-contains_itself, All-from_get_or, Contains-get_or, filter_passes}
use Rattle.std.proofs.lemmas.List.Sums.{list_all-from_AllPass}
use Rattle.coded_traffic.specs.Traffic.{Key, Window}
use Rattle.generation_frame.specs.Blocks.{pieces}
use Rattle.generation_frame.specs.Frames.{accepted}
use Rattle.generation_frame.specs.declared.frame.Accepted.{Accepted}
use Rattle.generation_frame.specs.declared.frame.Accepted.TheVariants.{New}
use Rattle.generation_frame.specs.declared.frame.Packet.{Packet}
use Rattle.gf_tables.specs.declared.kind.FieldKind.{FieldKind}
use Rattle.held_rows.specs.Held as rows
use Rattle.held_rows.specs.Held.{Held}
use Rattle.net_model.proofs.ListLaws.{is_among-filter, is_rising-filter}
use Rattle.net_model.proofs.RisingLaws.{Contains-from_is_among, is_among-from_Contains}
use Rattle.net_model.specs.Demands.{pattern_of_demand, sinks_of_demands}
use Rattle.net_model.specs.Lists.{is_rising}
use Rattle.net_model.specs.declared.net.Net.{Net}
use Rattle.node_plans.proofs.ListLaws.{filter-agree}
use Rattle.node_program.specs.Code.{are_decoders}
use Rattle.node_program.specs.CodeValue.{is_live_in}
use Rattle.node_program.specs.declared.Decoder.{Decoder}
use Rattle.node_program.specs.declared.code.Code.{Code}
use Rattle.node_stations.proofs.DecodedLaws.{decoded-shown}
use Rattle.node_stations.specs.Decoded.{decoded_of}
use Rattle.node_stations.specs.Shown.{IsWanted, ShowsSink}
use Rattle.relay_core.specs.Core.{has_key, payload_of}
use Rattle.sink_decoder.proofs.HeldLaws.{all_below}
use Rattle.sink_decoder.proofs.PlaceLaws.{at-place_of, place_of-at, wanted-place}
use Rattle.sink_decoder.specs.Receiving.{Gains, IsBegun, Receiver, SinkPlan, came_of, decoded, has_piece, is_live_at, is_whole, links_of, payload_at, place_of, sink_plan_of, wants}
use Rattle.link_streams.proofs.CameLaws.{AreTaken, Came, GainsPiece, GainsPieces, all-bytes, all-came, all-have, gained_more, generation-found, key_at, link-found, link_at, payload-found, piece-found, stream_at, stream_links, taken_more}
use Rattle.link_streams.specs.Gathering.{wanted_links}
use Rattle.link_streams.specs.Streams as read
use Rattle.link_streams.specs.Streams.{HasGeneration, IsStream, Stream, all_packets}

-- what came to a sink of a generation
abbrev pub came_at : Receiver → ℕ → Came
came_at sink generation = record { has = has_piece sink generation; bytes = payload_at sink generation }

abbrev pub Wanted : SinkPlan → ℕ → Type 0
Wanted plan link = wants plan link ≡ true

-- the plan and the generations of a sink stay
pub record IsSameSink (old new : Receiver) : Type 0 where
  pub plan : new.plan ≡ old.plan
  pub first : new.first ≡ old.first
  pub count : new.count ≡ old.count

-- a sink took the first pieces of a stream in
pub record TakesPieces (stream : Stream) (generation count : ℕ) (old new : Receiver) : Type 0 where
  pub same : IsSameSink old new
  pub pieces : GainsPieces (Wanted old.plan) stream generation count (came_at old generation) (came_at new generation)
  pub is_stream : 0 < count → IsStream stream

pub begun_same : (old new : Receiver) (generation : ℕ) → IsSameSink old new → IsBegun old generation → IsBegun new generation
begun_same old new generation same begun = record {
  from_first = omega (arith, same.first, begun.from_first);
  to_last = omega (arith, same.first, same.count, begun.to_last);
}

-- one more
module _ (stream : Stream) (generation count : ℕ) (packet : Packet) (old mid new : Receiver) (result : Accepted) (is : IsStream stream) (low : count < pieces)
    (stands : Contains stream.packets packet) (place : read.place_of packet ≡ generation * pieces + count) (wanted : wants old.plan stream.link ≡ true)
    (begun : IsBegun old generation) (none : has_piece old generation stream.link count ≡ false) (takes : TakesPieces stream generation count old mid) where
  at_link : packet.link ≡ stream.link
  at_link = link-found stream generation count packet is low stands place

  at_generation : packet.generation ≡ generation
  at_generation = generation-found stream generation count packet is low stands place

  at_piece : packet.piece ≡ count
  at_piece = piece-found stream generation count packet is low stands place

  -- it is new
  pub takes-new : result ≡ accepted (has_piece mid packet.generation packet.link packet.piece) → result ≡ New
  takes-new value =
      value
      ∙ ap (λ g. accepted (has_piece mid g packet.link packet.piece)) at_generation
      ∙ ap (λ l. accepted (has_piece mid generation l packet.piece)) at_link
      ∙ ap (λ p. accepted (has_piece mid generation stream.link p)) at_piece
      ∙ ap accepted ((takes.pieces.others stream.link count wanted low (λ equal. omega (arith, equal.1))).has ∙ none)

  pub takes_more : Gains packet.generation packet.link packet.piece packet.payload mid new → TakesPieces stream generation (count + 1) old new
  takes_more gains = record {
    same = record {
      plan = gains.same_plan ∙ takes.same.plan;
      first = gains.same_first ∙ takes.same.first;
      count = gains.same_count ∙ takes.same.count;
    };
    pieces = gained_more (Wanted old.plan) stream generation count packet.payload (came_at old generation) (came_at mid generation) (came_at new generation)
        wanted low takes.pieces gained (payload-found stream generation count packet is low stands place);
    is_stream = λ some. is;
  }
    where
      gained : GainsPiece (Wanted old.plan) stream.link count packet.payload (came_at mid generation) (came_at new generation)
      gained =
          let at : Gains generation stream.link count packet.payload mid new =
          subst (λ g. Gains g stream.link count packet.payload mid new) at_generation
          (subst (λ l. Gains packet.generation l count packet.payload mid new) at_link
          (subst (λ p. Gains packet.generation packet.link p packet.payload mid new) at_piece gains)) in
          record {
            came = at.came;
            bytes = at.bytes;
            others = λ l p among short apart.
                let among_mid : wants mid.plan l ≡ true = ap (λ (plan : SinkPlan). wants plan l) takes.same.plan ∙ among in
                let stays = at.others generation l p (begun_same old mid generation takes.same begun) among_mid short (λ equal. apart (equal.1, equal.2)) in
                record { has = stays.0; bytes = stays.1 };
          }

-- a row is whole where each of its pieces has come
whole-row : (held : Held) (row : ℕ) → ((piece : ℕ) → piece < pieces → rows.is_held held row piece ≡ true) → rows.is_whole held row ≡ true
whole-row held row each =
    let marks = take 8 (drop (row * 8) held.marks) in
    list_all-from_AllPass (λ mark. mark) marks (All-from_get_or (λ (mark : Bool). mark ≡ true) marks false (λ piece within.
    let low : piece < 8 = omega (arith, within, length-take 8 (drop (row * 8) held.marks)) in
    get_or-take 8 (drop (row * 8) held.marks) piece false low ∙ get_or-drop (row * 8) held.marks piece false ∙ each piece low))

-- the links of a decoder rise
decoders-rise : (net : Net) (rate : ℕ) (field : FieldKind) (sinks : List ℕ) (decoders : List Decoder) (demand : ℕ) → are_decoders net rate field sinks decoders ≡ true
    → is_rising (option_map_or (λ decoder. decoder.links) (slice_get decoders demand) []) ≡ true
decoders-rise net rate field sinks [] demand are = refl
decoders-rise net rate field [] (decoder ∷ decoders) demand are = absurd (false≢true are)
decoders-rise net rate field (sink ∷ sinks) (decoder ∷ decoders) zero are =
    (and_parts _ _ (and_parts _ _ (and_parts _ _ (and_parts _ _ (and_parts _ _ are).0).0).0).0).1
decoders-rise net rate field (sink ∷ sinks) (decoder ∷ decoders) (suc demand) are = decoders-rise net rate field sinks decoders demand (and_parts _ _ are).1

pub decoder_links-rise : (code : Code) (demand : ℕ) → is_rising (links_of code demand) ≡ true
decoder_links-rise code demand = decoders-rise code.net code.rate code.field (sinks_of_demands code.net) code.decoders demand code.code.demand_decoders

-- the links that the sink of a demand wants are the live ones of its decoder
pub wanted-live : (code : Code) (demand : ℕ)
    → wanted_links (sink_plan_of code demand) ≡ filter (is_live_in code (pattern_of_demand code.net demand)) (links_of code demand)
wanted-live code demand =
    let plan = sink_plan_of code demand in
    let live = is_live_in code (pattern_of_demand code.net demand) in
    filter-agree (wants plan) live (Contains plan.links)
    (λ link among.
    let place = among.0 in
    let here : get_or plan.links place 0 ≡ link = get_or_default plan.links place 0 link among.1 ∙ among.2 in
    let stands : place_of plan link ≡ place = ap (place_of plan) (sym here) ∙ place_of-at plan place (decoder_links-rise code demand) among.1 in
    ap (is_live_at plan) stands ∙ get_or-map live plan.links place 0 false among.1 ∙ ap live here)
    plan.links (All-contains_itself plan.links)

-- a sink of one generation took streams in, one after another
pub record TakesStreams (plan : SinkPlan) (streams : List Stream) (generation count : ℕ) (sink : Receiver) : Type 0 where
  pub same_plan : sink.plan ≡ plan
  pub first : sink.first ≡ generation
  pub one : sink.count ≡ 1
  pub taken : AreTaken streams generation count (came_at sink generation)

begun_one : (generation : ℕ) (sink : Receiver) → sink.first ≡ generation → sink.count ≡ 1 → IsBegun sink generation
begun_one generation sink first one = record { from_first = omega (arith, first); to_last = omega (arith, first, one) }

module _ (plan : SinkPlan) (streams : List Stream) (generation : ℕ) (rising : is_rising plan.links ≡ true) (links : stream_links streams ≡ wanted_links plan) where
  streams-rise : is_rising (stream_links streams) ≡ true
  streams-rise = subst (λ (ls : List ℕ). is_rising ls ≡ true) (sym links) (is_rising-filter (wants plan) plan.links rising)

  streams-wanted : (k : ℕ) → k < length streams → wants plan (link_at streams k) ≡ true
  streams-wanted k within =
      let link : Stream → ℕ = λ stream. stream.link in
      let place : k < length (wanted_links plan) = omega (arith, within, length-map streams link, ap (length {A = ℕ}) links) in
      ap (wants plan) (sym (get_or-map link streams k (record { link = 0; packets = [] }) 0 within) ∙ ap (λ (ls : List ℕ). get_or ls k 0) links)
      ∙ filter_passes (wants plan) plan.links k 0 place

  module _ (count : ℕ) (stream : Stream) (within : count < length streams) (here : stream ≡ stream_at streams count) (sink : Receiver)
      (takes : TakesStreams plan streams generation count sink) where
    -- the next may be taken in
    pub next-wanted : wants sink.plan stream.link ≡ true
    next-wanted =
        ap (λ (p : SinkPlan). wants p stream.link) takes.same_plan ∙ ap (λ (s : Stream). wants plan s.link) here ∙ streams-wanted count within

    pub next-begun : IsBegun sink generation
    next-begun = begun_one generation sink takes.first takes.one

    pub next-none : (p : ℕ) → p < pieces → has_piece sink generation stream.link p ≡ false
    next-none p low = ap (λ (s : Stream). has_piece sink generation s.link p) here ∙ takes.taken.none count p (omega arith) within low

    -- and then one more was
    pub streams_more : (new : Receiver) → new.plan ≡ sink.plan → new.first ≡ sink.first → new.count ≡ sink.count → IsStream stream
        → ((p : ℕ) → p < pieces → has_piece new generation stream.link p ≡ true)
        → ((p : ℕ) → p < pieces → payload_at new generation stream.link p ≡ payload_of stream.packets (key_at generation stream.link p))
        → ((link p : ℕ) → wants sink.plan link ≡ true → p < pieces → link ≢ stream.link
        → (has_piece new generation link p ≡ has_piece sink generation link p) × (payload_at new generation link p ≡ payload_at sink generation link p))
        → TakesStreams plan streams generation (count + 1) new
    streams_more new same_plan same_first same_count is came bytes others = record {
      same_plan = same_plan ∙ takes.same_plan;
      first = same_first ∙ takes.first;
      one = same_count ∙ takes.one;
      taken = taken_more (Wanted plan) streams generation count (came_at sink generation) (came_at new generation) streams-rise streams-wanted within
          (subst Is here is) takes.taken (subst Gained here gains);
    }
      where
        Is : Stream → Type 0
        Is = IsStream

        Gained : Stream → Type 0
        Gained s = GainsPieces (Wanted plan) s generation pieces (came_at sink generation) (came_at new generation)

        gains : GainsPieces (Wanted plan) stream generation pieces (came_at sink generation) (came_at new generation)
        gains = record {
          came = came;
          bytes = bytes;
          others = λ l p among low apart.
              let wanted : wants sink.plan l ≡ true = ap (λ (p : SinkPlan). wants p l) takes.same_plan ∙ among in
              let stays = others l p wanted low (λ same. apart (same, low)) in
              record { has = stays.0; bytes = stays.1 };
        }

  -- all were
  module _ (sink : Receiver) (whole : All (HasGeneration generation) streams) (takes : TakesStreams plan streams generation (length streams) sink) where
    among-streams : (link : ℕ) → Contains plan.links link → wants plan link ≡ true → Contains (stream_links streams) link
    among-streams link among wanted =
        subst (λ (ls : List ℕ). Contains ls link) (sym links)
        (Contains-from_is_among (wanted_links plan) link
        (is_among-filter (wants plan) plan.links link ∙ and_from _ _ wanted (is_among-from_Contains plan.links link among)))

    has-wanted : (link p : ℕ) → Contains plan.links link → wants plan link ≡ true → p < pieces → has_piece sink generation link p ≡ true
    has-wanted link p among wanted low = all-came streams generation (came_at sink generation) streams-rise whole takes.taken link p (among-streams link among wanted) low

    -- so the generation is whole
    pub all-whole : is_whole sink generation ≡ true
    all-whole =
        all_below (λ place. not (is_live_at sink.plan place) || rows.is_whole (came_of sink generation) place) (length sink.plan.links) (λ place inside.
        let within : place < length plan.links = subst (λ (p : SinkPlan). place < length p.links) takes.same_plan inside in
        elim (cases_Bool (is_live_at sink.plan place)) [
          | inl live ↦ rw live (whole-row (came_of sink generation) place (held place within live))
          | inr dead ↦ rw dead refl
        ])
      where
        held : (place : ℕ) → place < length plan.links → is_live_at sink.plan place ≡ true
            → (piece : ℕ) → piece < pieces → rows.is_held (came_of sink generation) place piece ≡ true
        held place within live piece low =
            let link = get_or plan.links place 0 in
            let stands : place_of plan link ≡ place = place_of-at plan place rising within in
            let there : place_of sink.plan link ≡ place = ap (λ (p : SinkPlan). place_of p link) takes.same_plan ∙ stands in
            let wanted : wants plan link ≡ true =
            ap (is_live_at plan) stands ∙ sym (ap (λ (p : SinkPlan). is_live_at p place) takes.same_plan) ∙ live in
            ap (λ at. rows.is_held (came_of sink generation) at piece) (sym there)
            ∙ has-wanted link piece (Contains-get_or plan.links place 0 within) wanted low

    module _ (code : Code) (demand : ℕ) (planned : plan ≡ sink_plan_of code demand) where
      abbrev window : Window
      window = record { first = generation; blocks = [] ∷ [] }

      -- a link that it wants is one of the streams'
      stream-of : (link : ℕ) → wants (sink_plan_of code demand) link ≡ true → Contains (stream_links streams) link
      stream-of link wanted =
          let of : SinkPlan = sink_plan_of code demand in
          let live = is_live_in code (pattern_of_demand code.net demand) in
          let within : place_of of link < length of.links = omega (arith, wanted-place of link wanted, length-map of.links live) in
          let among : Contains of.links link =
          subst (Contains of.links) (at-place_of of link within) (Contains-get_or of.links (place_of of link) 0 within) in
          among-streams link (subst (λ (p : SinkPlan). Contains p.links link) (sym planned) among) (ap (λ (p : SinkPlan). wants p link) planned ∙ wanted)

      has-key : (link piece : ℕ) → wants (sink_plan_of code demand) link ≡ true → piece < pieces
          → has_key (key_at generation link piece) (all_packets streams) ≡ true
      has-key link piece wanted low = all-have streams generation (came_at sink generation) streams-rise whole takes.taken link piece (stream-of link wanted) low

      -- it shows the packets of all streams
      shows : ShowsSink code demand window sink (all_packets streams)
      shows = record {
        plan = takes.same_plan ∙ planned;
        first = takes.first;
        count = takes.one;
        has = λ key is.
            let At : ℕ → Type 0 = λ g. has_piece sink g key.link key.piece ≡ has_key (key_at g key.link key.piece) (all_packets streams) in
            subst At (now key is)
            (all-came streams generation (came_at sink generation) streams-rise whole takes.taken key.link key.piece (stream-of key.link is.wanted) is.of_piece
            ∙ sym (has-key key.link key.piece is.wanted is.of_piece));
        bytes = λ key is has.
            let At : ℕ → Type 0 = λ g. payload_at sink g key.link key.piece ≡ payload_of (all_packets streams) (key_at g key.link key.piece) in
            subst At (now key is)
            (all-bytes streams generation (came_at sink generation) streams-rise whole takes.taken key.link key.piece (stream-of key.link is.wanted) is.of_piece);
      }
        where
          now : (key : Key) → IsWanted code demand window key → generation ≡ key.generation
          now key is = omega (arith, is.begun, is.numbered)

      -- what it decodes is decoded of them
      pub all-decoded : decoded sink generation ≡ decoded_of code demand (all_packets streams) generation
      all-decoded =
          decoded-shown code demand window sink (all_packets streams) generation shows (decoder_links-rise code demand) (omega arith) (omega arith) has-key
