-- Streams of links are refused as inputs are, and so is one that lacks a place.
use Rattle.std.specs.Prelude.{◌≡◌, ℕ, List, [], ◌∷◌, All, Contains, IsTrue, Option, None, Some, Result, Ok, Err}
use Rattle.std.specs.Option.{IfSome}
use Rattle.std.proofs.Common.{refl, subst}
use Rattle.std.proofs.lemmas.List.Elements.{All-contains_itself, All-map, All-weaker}
use Rattle.command_steps.proofs.ListedLaws.{RefusesWell}
use Rattle.command_steps.proofs.RefusalLaws.{IsRefusal}
use Rattle.generation_frame.specs.declared.frame.Packet.{Packet}
use Rattle.generation_frame.specs.declared.stream_why.StreamWhy.{StreamWhy}
use Rattle.link_streams.specs.Reading.{packets_read}
use Rattle.link_streams.specs.Streams.{Stream}
use Rattle.net_model.specs.declared.net.Net.{Net}
use Rattle.top_base.specs.Inputs.{is_refusal}
use Rattle.top_base.specs.declared.outcome.Outcome.{Outcome}
use Rattle.top_nodes.specs.Files.{first_lack, first_lacking, lack_refused, refusal_by, stream_refused, stream_wanted, streams_wanted}

refused_by : (net : Net) (link : ℕ) (read : Result (List Packet) StreamWhy) (outcome : Outcome) → refusal_by net link read ≡ Some outcome → IsTrue (is_refusal outcome.status)
refused_by net link (Ok packets) outcome refused = absurd (cc)
refused_by net link (Err why) outcome refused =
    let same : stream_refused net link why ≡ outcome = cc in
    subst (λ (o : Outcome). IsTrue (is_refusal o.status)) same refl

stream_refuses : (prefix : List ℕ) (net : Net) (link : ℕ) → RefusesWell (stream_wanted prefix net link)
stream_refuses prefix net link = λ bytes outcome refused. refused_by net link (packets_read link bytes) outcome refused

pub streams_refuse : (prefix : List ℕ) (net : Net) (links : List ℕ) → All RefusesWell (streams_wanted prefix net links)
streams_refuse prefix net links =
    let wanted = stream_wanted prefix net in
    All-map RefusesWell wanted links
    (All-weaker (Contains links) (λ link. RefusesWell (wanted link)) (λ link there. stream_refuses prefix net link) links (All-contains_itself links))

lack_refuses : (net : Net) (link : ℕ) (lack : Option ℕ) (later : Option Outcome) → IfSome later IsRefusal → IfSome (lack_refused net link lack later) IsRefusal
lack_refuses net link (Some place) later is = record { inputs = refl; used = λ same. cc }
lack_refuses net link None later is = is

pub lacking_refuses : (net : Net) (count : ℕ) (streams : List Stream) → IfSome (first_lacking net count streams) IsRefusal
lacking_refuses net count [] = tt
lacking_refuses net count (stream ∷ streams) =
    lack_refuses net stream.link (first_lack count stream.packets) (first_lacking net count streams) (lacking_refuses net count streams)
