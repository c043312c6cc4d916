-- What is read of files that are streams for numbered blocks: as many generations as there are blocks, all of them whole.
use Rattle.std.specs.Prelude.{◌≡◌, ◌≤◌, ◌*◌, ℕ, true, All, Contains, List, [], ◌∷◌, length, map, not, None, Ok}
use Rattle.std.proofs.Common.{refl, sym, ap, subst, ◌∙◌, arith}
use Rattle.std.proofs.lemmas.List.Elements.{All-contains_itself, All-head, All-map, All-tail, All-weaker}
use Rattle.coded_traffic.specs.Traffic.{Window}
use Rattle.command_steps.proofs.HeldLaws.{AreHeld, items_held}
use Rattle.generation_frame.specs.Blocks.{pieces}
use Rattle.generation_frame.specs.declared.frame.Packet.{Packet}
use Rattle.item_list.proofs.Ranges.{find_nothing}
use Rattle.lif_outside.specs.Files.{Files}
use Rattle.link_streams.proofs.TrafficLaws.{BringsTraffic, stream-count, stream-reads, stream-whole}
use Rattle.link_streams.specs.Chained.{AreNumbered}
use Rattle.link_streams.specs.Reading.{packets_read}
use Rattle.link_streams.specs.Streams.{IsWhole, Stream, generation_count, has_place}
use Rattle.net_model.specs.declared.net.Net.{Net}
use Rattle.node_program.specs.CodeValue.{is_live_in}
use Rattle.node_program.specs.declared.code.Code.{Code}
use Rattle.top_base.specs.Words.{AtNode}
use Rattle.top_nodes.specs.Chained.{AreStreams}
use Rattle.top_nodes.specs.Files.{first_lack, first_lacking, generations_of, lack_refused, packets_had, refusal_by, stream_limit, stream_wanted, streams_of, streams_wanted}
use Rattle.top_nodes.specs.Sink.{pattern_in}

-- ---- streams with so many generations

-- so many generations, all of them whole
pub record HasCount (count : ℕ) (stream : Stream) : Type 0 where
  pub count_is : generation_count stream.packets ≡ count
  pub whole : IsWhole count stream.packets

most_generations : (count : ℕ) (streams : List Stream) → 1 ≤ count → All (HasCount count) streams → generations_of streams ≤ count
most_generations count [] some each = some
most_generations count (stream ∷ streams) some each =
    let here = (All-head (HasCount count) stream streams each).count_is in
    let rest = most_generations count streams some (All-tail (HasCount count) stream streams each) in
    omega (arith, here, rest)

-- several have so many
pub generations-count : (count : ℕ) (stream : Stream) (streams : List Stream) → 1 ≤ count → All (HasCount count) (stream ∷ streams) → generations_of (stream ∷ streams) ≡ count
generations-count count stream streams some each =
    let here = (All-head (HasCount count) stream streams each).count_is in
    let rest = most_generations count streams some (All-tail (HasCount count) stream streams each) in
    omega (arith, here, rest)

-- and none lacks a place
no_lack : (count : ℕ) (packets : List Packet) → IsWhole count packets → first_lack count packets ≡ None
no_lack count packets whole = find_nothing (λ place. not (has_place packets place)) 0 (count * pieces) (λ place from below. ap not (whole place (omega arith)))

pub none_lacking : (net : Net) (count : ℕ) (streams : List Stream) → All (HasCount count) streams → first_lacking net count streams ≡ None
none_lacking net count [] each = refl
none_lacking net count (stream ∷ streams) each =
    ap (λ lack. lack_refused net stream.link lack (first_lacking net count streams)) (no_lack count stream.packets (All-head (HasCount count) stream streams each).whole)
    ∙ none_lacking net count streams (All-tail (HasCount count) stream streams each)

-- ---- streams of links, by their bytes

abbrev pub stream_at : (ℕ → List ℕ) → ℕ → Stream
stream_at bytes link = record { link = link; packets = packets_had (packets_read link (bytes link)) }

pub streams-each : (bytes : ℕ → List ℕ) (links : List ℕ) → streams_of links (map bytes links) ≡ map (stream_at bytes) links
streams-each bytes [] = refl
streams-each bytes (link ∷ links) = ap (λ rest. stream_at bytes link ∷ rest) (streams-each bytes links)

links-each : (bytes : ℕ → List ℕ) (links : List ℕ) → map (λ stream. stream.link) (map (stream_at bytes) links) ≡ links
links-each bytes [] = refl
links-each bytes (link ∷ links) = ap (λ rest. link ∷ rest) (links-each bytes links)

-- ---- files that are streams for blocks

module _ (given : AtNode) (code : Code) (links : List ℕ) (window : Window) (files : Files) (numbered : AreNumbered code window) (are : AreStreams given code links window files) where
  -- what is read
  abbrev pub streams_read : List Stream
  streams_read = streams_of links (map are.bytes links)

  -- each is the traffic of its link
  module _ (link : ℕ) (there : Contains links link) where
    reads : (packets : List Packet) × (packets_read link (are.bytes link) ≡ Ok packets) × BringsTraffic code (pattern_in given code) window (record { link = link; packets = packets })
    reads = stream-reads code (pattern_in given code) window link (are.bytes link) numbered (are.streams link there)

    good : refusal_by code.net link (packets_read link (are.bytes link)) ≡ None
    good = ap (refusal_by code.net link) reads.1

    brings : BringsTraffic code (pattern_in given code) window (stream_at are.bytes link)
    brings = subst (λ packets. BringsTraffic code (pattern_in given code) window (record { link = link; packets = packets })) (sym (ap packets_had reads.1)) reads.2

  pub streams_held : AreHeld stream_limit (streams_wanted given.input code.net links) (map are.bytes links) files
  streams_held = items_held stream_limit (stream_wanted given.input code.net) are.bytes links files (λ link there. (are.held link there, good link there)) are.short

  pub streams_links : map (λ stream. stream.link) streams_read ≡ links
  streams_links = ap (map (λ stream. stream.link)) (streams-each are.bytes links) ∙ links-each are.bytes links

  -- what holds of the stream of each link
  each_read : (P : Stream → Type 0) → ((link : ℕ) → Contains links link → P (stream_at are.bytes link)) → All P streams_read
  each_read P holds =
      subst (All P) (sym (streams-each are.bytes links))
      (All-map P (stream_at are.bytes) links (All-weaker (Contains links) (λ link. P (stream_at are.bytes link)) holds links (All-contains_itself links)))

  pub streams_bring : All (BringsTraffic code (pattern_in given code) window) streams_read
  streams_bring = each_read (BringsTraffic code (pattern_in given code) window) brings

  pub streams_count : ((link : ℕ) → Contains links link → is_live_in code (pattern_in given code) link ≡ true) → All (HasCount (length window.blocks)) streams_read
  streams_count live = each_read (HasCount (length window.blocks)) (λ link there. record {
    count_is = stream-count code (pattern_in given code) window (stream_at are.bytes link) numbered (brings link there) (live link there);
    whole = stream-whole code (pattern_in given code) window (stream_at are.bytes link) numbered (brings link there) (live link there);
  })
