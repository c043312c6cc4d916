-- What has to be known of streams that are read: how many generations there are, which place is lacking, and the calls.
use Rattle.std.specs.Prelude.{◌≡◌, ◌<◌, ◌≤◌, ◌+◌, ◌-◌, ◌*◌, ◌/◌, ◌%◌, ◌^◌, ◌++◌, ◌∷◌, ◌⊎◌, [], ℕ, suc, Bool, true, false, All, Err, IsTrue, List, Ok, Option, None, Result, Some, drop, get_or, length, map, max, not, take}
use Rattle.std.proofs.Common.{refl, sym, ap, subst, ◌∙◌, arith, drop-cons, inl, inr}
use Rattle.std.proofs.lemmas.Bool.{cases_lt}
use Rattle.std.proofs.lemmas.List.{append-nil, length-map, length-take-le, map-append, take_more, take-append-drop}
use Rattle.std.proofs.lemmas.List.Elements.{All-cons, All-head, All-nil, All-tail}
use Rattle.std.proofs.lemmas.List.Sums.{sum_by-append, sum_by-cons}
use Rattle.command_steps.specs.Listed.{IsTaken, LosesOne, ReadsAll, RefusesBytes, Wanted}
use Rattle.command_steps.proofs.ListedLaws.{forgets_behind, left_of, loses_one_behind, reads_all_more, taken_input}
use Rattle.generation_frame.specs.Blocks.{pieces}
use Rattle.generation_frame.specs.Frames.{Fits}
use Rattle.generation_frame.specs.declared.frame.Packet.{Packet}
use Rattle.generation_frame.specs.declared.stream_why.StreamWhy.{StreamWhy}
use Rattle.generation_frame.specs.declared.stream_why.StreamWhy.TheVariants.{Missing}
use Rattle.item_list.proofs.Ranges.{find_fails, find_first, find_nothing}
use Rattle.lif_outside.specs.Events.{Event}
use Rattle.lif_outside.specs.FileCalls.{ReadsWhole}
use Rattle.link_streams.specs.Reading.{packets_read}
use Rattle.link_streams.specs.Streams.{HasGeneration, IsFirstMissing, IsStream, IsWhole, Stream, generation_count, has_place}
use Rattle.link_streams.specs.declared.stream.Place.{Place}
use Rattle.net_model.specs.declared.net.Net.{Net}
use Rattle.top_base.proofs.InputLaws.{lost_bytes}
use Rattle.top_base.specs.Inputs.{IsNoMemory, Reads, is_refusal}
use Rattle.top_base.specs.declared.outcome.Outcome.{Outcome}
use Rattle.top_nodes.specs.Files.{first_lack, first_lacking, generations_of, lack_refused, packets_had, refusal_by, stream_limit, stream_path, stream_refused, stream_wanted, streams_of, streams_wanted}

-- ---- how many generations

-- one stream more
pub generations_of_more : (streams : List Stream) (stream : Stream) → generations_of (streams ++ stream ∷ []) ≡ max (generation_count stream.packets) (generations_of streams)
generations_of_more [] stream = refl
generations_of_more (one ∷ streams) stream = omega (arith, generations_of_more streams stream)

-- ---- which place is lacking

-- packets that are whole lack none, and else the first that is missing
pub first_lack_none : (count : ℕ) (packets : List Packet) → IsWhole count packets → first_lack count packets ≡ None
first_lack_none count packets whole =
    find_nothing (λ place. not (has_place packets place)) 0 (count * pieces) (λ place from below. ap not (whole place (omega (arith, below))))

pub first_lack_some : (count : ℕ) (packets : List Packet) (place : Place) → IsFirstMissing count packets place → first_lack count packets ≡ Some (place.generation * pieces + place.piece)
first_lack_some count packets place missing =
    find_first (λ one. not (has_place packets one)) 0 (count * pieces) (place.generation * pieces + place.piece) (omega arith) (omega (arith, missing.below, missing.piece))
    (ap not missing.lacks) (λ one from before. ap not (missing.earlier one before))

-- where one and those behind lack none, neither does
pub lack_parts : (net : Net) (link : ℕ) (lack : Option ℕ) (later : Option Outcome) → lack_refused net link lack later ≡ None → (lack ≡ None) × (later ≡ None)
lack_parts net link (Some place) later none = cc
lack_parts net link None later none = (refl, none)

-- where those in front lack none, it is the first of those behind
first_lacking_behind : (net : Net) (count : ℕ) (front behind : List Stream) → first_lacking net count front ≡ None → first_lacking net count (front ++ behind) ≡ first_lacking net count behind
first_lacking_behind net count [] behind none = refl
first_lacking_behind net count (stream ∷ front) behind none =
    let parts = lack_parts net stream.link (first_lack count stream.packets) (first_lacking net count front) none in
    ap (λ lack. lack_refused net stream.link lack (first_lacking net count (front ++ behind))) parts.0 ∙ first_lacking_behind net count front behind parts.1

-- the next stream lacks a place
pub lacking_here : (net : Net) (count : ℕ) (streams : List Stream) (i : ℕ) (stream : Stream) (place : Place) → i < length streams → first_lacking net count (take i streams) ≡ None → get_or streams i stream ≡ stream
    → IsFirstMissing count stream.packets place → first_lacking net count streams ≡ Some (stream_refused net stream.link (Missing place.generation place.piece))
lacking_here net count streams i stream place within none here missing =
    let later = first_lacking net count (drop (suc i) streams) in
    let number = place.generation * pieces + place.piece in
    let rest : drop i streams ≡ stream ∷ drop (suc i) streams = drop-cons streams i stream within ∙ ap (λ one. one ∷ drop (suc i) streams) here in
    let below : place.piece < 8 = missing.piece in
    let generation : number / pieces ≡ place.generation = omega (arith, below) in
    let piece : number % pieces ≡ place.piece = omega (arith, below) in
    ap (first_lacking net count) (sym (take-append-drop i streams)) ∙ first_lacking_behind net count (take i streams) (drop i streams) none
    ∙ ap (first_lacking net count) rest ∙ ap (λ lack. lack_refused net stream.link lack later) (first_lack_some count stream.packets place missing)
    ∙ ap (λ at. Some (stream_refused net stream.link (Missing at (number % pieces)))) generation ∙ ap (λ at. Some (stream_refused net stream.link (Missing place.generation at))) piece

-- or it lacks none
pub lacking_later : (net : Net) (count : ℕ) (streams : List Stream) (i : ℕ) (stream : Stream) → i < length streams → first_lacking net count (take i streams) ≡ None → get_or streams i stream ≡ stream
    → IsWhole count stream.packets → first_lacking net count (take (i + 1) streams) ≡ None
lacking_later net count streams i stream within none here whole =
    ap (first_lacking net count) (take_more streams i stream within) ∙ first_lacking_behind net count (take i streams) (get_or streams i stream ∷ []) none
    ∙ ap (λ one. first_lacking net count (one ∷ [])) here ∙ ap (λ lack. lack_refused net stream.link lack None) (first_lack_none count stream.packets whole)

-- ---- streams that are whole

-- packets that fit have few generations, and so have streams
few_counted : (packets : List Packet) → All Fits packets → generation_count packets ≤ 2 ^ 32
few_counted [] fit = omega arith
few_counted (packet ∷ packets) fit =
    let first : packet.generation < 2 ^ 32 = (All-head Fits packet packets fit).generation in
    omega (arith, first, few_counted packets (All-tail Fits packet packets fit))

pub few_generations : (streams : List Stream) → All IsStream streams → generations_of streams ≤ 2 ^ 32
few_generations [] are = omega arith
few_generations (stream ∷ streams) are =
    omega (arith, few_counted stream.packets (All-head IsStream stream streams are).fit, few_generations streams (All-tail IsStream stream streams are))

-- a place below doesn't lack
shown : (has : Bool) → not has ≡ false → has ≡ true
shown true is = refl
shown false is = cc

-- streams that lack no place have each generation below
pub generation_whole : (net : Net) (count : ℕ) (streams : List Stream) (generation : ℕ) → first_lacking net count streams ≡ None → generation < count → All (HasGeneration generation) streams
generation_whole net count [] generation none below = All-nil (HasGeneration generation)
generation_whole net count (stream ∷ streams) generation none below =
    let parts = lack_parts net stream.link (first_lack count stream.packets) (first_lacking net count streams) none in
    All-cons (HasGeneration generation) stream streams
    (λ piece low.
    let place = generation * pieces + piece in
    let within : place < count * pieces = omega (arith, below, low) in
    shown (has_place stream.packets place)
    (find_fails (λ one. not (has_place stream.packets one)) 0 (count * pieces) parts.0 place (omega arith) (omega (arith, within))))
    (generation_whole net count streams generation parts.1 below)

-- ---- the calls by which one is read

-- a stream is refused as an input is
refused_well : (net : Net) (link : ℕ) (packets : Result (List Packet) StreamWhy) (outcome : Outcome) → refusal_by net link packets ≡ Some outcome → IsTrue (is_refusal outcome.status)
refused_well net link (Ok packets) outcome refused = cc
refused_well net link (Err why) outcome refused =
    let same : outcome ≡ stream_refused net link why = cc in
    ap (λ (one : Outcome). is_refusal one.status) same

-- what was read is refused, or there was no memory
pub lost_stream : (prefix : List ℕ) (net : Net) (link limit : ℕ) (bytes : List ℕ) (calls : List Event) → ReadsWhole (stream_path prefix net link) limit bytes calls → (outcome : Outcome)
    → IsNoMemory outcome ⊎ ((why : StreamWhy) × (packets_read link bytes ≡ Err why) × (outcome ≡ stream_refused net link why))
    → Reads limit (IsTaken (stream_wanted prefix net link)) (RefusesBytes (stream_wanted prefix net link)) (stream_path prefix net link) (Err outcome) calls
lost_stream prefix net link limit bytes calls whole outcome lost =
    let wanted = stream_wanted prefix net link in
    lost_bytes limit (IsTaken wanted) (RefusesBytes wanted) (taken_input limit wanted (λ bytes outcome refused. refused_well net link (packets_read link bytes) outcome refused)) (stream_path prefix net link) bytes calls whole outcome
    (elim lost [ inl none ↦ inr none | inr refused ↦ inl (ap (refusal_by net link) refused.1 ∙ ap Some (sym refused.2)) ])

-- ---- the calls by which all are read

-- links were read by these calls: the streams are theirs, and so much is left of the limit
abbrev pub HasRead : List ℕ → Net → List ℕ → List Stream → ℕ → List Event → Type 0
HasRead prefix net links streams left events =
    (files : List (List ℕ)) × ReadsAll stream_limit (streams_wanted prefix net links) files events × (streams ≡ streams_of links files) × (left ≡ left_of stream_limit files)

-- a link was read so, of so many bytes
abbrev pub HasReadOne : List ℕ → Net → ℕ → ℕ → List Packet → ℕ → List Event → Type 0
HasReadOne prefix net link left packets size events =
    (bytes : List ℕ) × ReadsWhole (stream_path prefix net link) left bytes events × (packets_read link bytes ≡ Ok packets) × (length bytes ≡ size)

-- a link couldn't be had, or one of links, or there was no memory before
abbrev pub HasLostOne : List ℕ → Net → ℕ → ℕ → Outcome → List Event → Type 0
HasLostOne prefix net link left outcome events =
    Reads left (IsTaken (stream_wanted prefix net link)) (RefusesBytes (stream_wanted prefix net link)) (stream_path prefix net link) (Err outcome) events
    ⊎ (IsNoMemory outcome × (events ≡ []))

abbrev pub HasLost : List ℕ → Net → List ℕ → Outcome → List Event → Type 0
HasLost prefix net links outcome events = LosesOne stream_limit (streams_wanted prefix net links) outcome events ⊎ (IsNoMemory outcome × (events ≡ []))

-- as many were read as are wanted, and where none is wanted there is no call
read_as_many : (limit : ℕ) (wanted : List Wanted) (read : List (List ℕ)) (calls : List Event) → ReadsAll limit wanted read calls → length read ≡ length wanted
read_as_many limit [] [] calls reads = refl
read_as_many limit [] (bytes ∷ read) calls reads = absurd reads
read_as_many limit (one ∷ wanted) [] calls reads = absurd reads
read_as_many limit (one ∷ wanted) (bytes ∷ read) calls reads = omega (arith, read_as_many (limit - length bytes) wanted read reads.1.later reads.1.holds_later)

none_read : (limit : ℕ) (read : List (List ℕ)) (calls : List Event) → ReadsAll limit [] read calls → calls ≡ []
none_read limit [] calls reads = reads
none_read limit (bytes ∷ read) calls reads = absurd reads

-- one stream more
streams_of_more : (links : List ℕ) (files : List (List ℕ)) (link : ℕ) (bytes : List ℕ) → length files ≡ length links
    → streams_of (links ++ link ∷ []) (files ++ bytes ∷ []) ≡ streams_of links files ++ record { link = link; packets = packets_had (packets_read link bytes) } ∷ []
streams_of_more [] [] link bytes same = refl
streams_of_more [] (other ∷ files) link bytes same = absurd (omega (arith, same))
streams_of_more (one ∷ links) [] link bytes same = absurd (omega (arith, same))
streams_of_more (one ∷ links) (other ∷ files) link bytes same =
    ap (λ streams. record { link = one; packets = packets_had (packets_read one other) } ∷ streams) (streams_of_more links files link bytes (omega (arith, same)))

-- one more was read
reads_more : (prefix : List ℕ) (net : Net) (links : List ℕ) (streams : List Stream) (left : ℕ) (first : List Event) (link : ℕ) (stream : Stream) (size : ℕ) (later : List Event)
    → HasRead prefix net links streams left first → stream.link ≡ link → HasReadOne prefix net link left stream.packets size later
    → HasRead prefix net (links ++ link ∷ []) (streams ++ stream ∷ []) (left - size) (first ++ later)
reads_more prefix net links streams left first link stream size later was is one =
    let files = was.0 in
    let bytes = one.0 in
    let wanted = stream_wanted prefix net in
    let whole = subst (λ n. ReadsWhole (stream_path prefix net link) n bytes later) was.3 one.1 in
    let more = reads_all_more stream_limit (map wanted links) files first was.1 (wanted link) bytes later (ap (refusal_by net link) one.2) whole in
    let many : length files ≡ length links = read_as_many stream_limit (map wanted links) files first was.1 ∙ length-map links wanted in
    let made : record { link = link; packets = packets_had (packets_read link bytes) } ≡ stream =
    ap (λ number. record { link = number; packets = packets_had (packets_read link bytes) }) (sym is) ∙ ap (λ packets. record { link = stream.link; packets = packets_had packets }) one.2 in (
      files ++ bytes ∷ [],
      subst (λ all. ReadsAll stream_limit all (files ++ bytes ∷ []) (first ++ later)) (sym (map-append wanted links (link ∷ []))) more,
      ap (λ streams. streams ++ stream ∷ []) was.2 ∙ ap (λ one. streams_of links files ++ one ∷ []) (sym made) ∙ sym (streams_of_more links files link bytes many),
      omega (arith, was.3, one.3, sum_by-append length files (bytes ∷ []), sum_by-cons length bytes []),
    )

module _ (prefix : List ℕ) (net : Net) (links : List ℕ) (i : ℕ) where
  -- the next of links was read
  pub reads_next : (streams : List Stream) (left : ℕ) (stream : Stream) (size : ℕ) (first later : List Event) → i < length links → HasRead prefix net (take i links) streams left first
      → stream.link ≡ get_or links i 0 → HasReadOne prefix net (get_or links i 0) left stream.packets size later
      → HasRead prefix net (take (i + 1) links) (streams ++ stream ∷ []) (left - size) (first ++ later)
  reads_next streams left stream size first later within was is one =
      subst (λ front. HasRead prefix net front (streams ++ stream ∷ []) (left - size) (first ++ later)) (sym (take_more links i 0 within))
      (reads_more prefix net (take i links) streams left first (get_or links i 0) stream size later was is one)

  -- there was no memory behind some of them
  pub forgets_read : (streams : List Stream) (left : ℕ) (outcome : Outcome) (events : List Event) → i ≤ length links → HasRead prefix net (take i links) streams left events → IsNoMemory outcome
      → HasLost prefix net links outcome events
  forgets_read streams left outcome events within was lost = elim (cases_lt 0 i) [
    | inl some ↦
        let front = take i links in
        let wanted = stream_wanted prefix net in
        let all : map wanted front ++ map wanted (drop i links) ≡ map wanted links = sym (map-append wanted front (drop i links)) ∙ ap (map wanted) (take-append-drop i links) in
        let long : length (map wanted front) ≡ i = length-map front wanted ∙ length-take-le i links within in
        inl (subst (λ all. LosesOne stream_limit all outcome events) all
        (forgets_behind stream_limit (map wanted front) was.0 events (λ none. absurd (omega (arith, some, long, ap length none))) was.1 (map wanted (drop i links)) outcome lost))
    | inr none ↦
        let is : i ≡ 0 = omega (arith, none) in
        inr (lost, none_read stream_limit was.0 events (subst (λ n. ReadsAll stream_limit (streams_wanted prefix net (take n links)) was.0 events) is was.1))
  ]

  -- the next of them couldn't be had
  pub loses_next : (streams : List Stream) (left : ℕ) (outcome : Outcome) (first later : List Event) → i < length links → HasRead prefix net (take i links) streams left first
      → HasLostOne prefix net (get_or links i 0) left outcome later → HasLost prefix net links outcome (first ++ later)
  loses_next streams left outcome first later within was (inl loses) =
      let front = take i links in
      let next = get_or links i 0 in
      let more = drop (suc i) links in
      let wanted = stream_wanted prefix net in
      let rest : front ++ next ∷ more ≡ links = ap (λ links. front ++ links) (sym (drop-cons links i 0 within)) ∙ take-append-drop i links in
      let all : map wanted front ++ wanted next ∷ map wanted more ≡ map wanted links = sym (map-append wanted front (next ∷ more)) ∙ ap (map wanted) rest in
      inl (subst (λ all. LosesOne stream_limit all outcome (first ++ later)) all
      (loses_one_behind stream_limit (map wanted front) was.0 first was.1 (wanted next) (map wanted more) outcome later
      (subst (λ n. Reads n (IsTaken (wanted next)) (RefusesBytes (wanted next)) (stream_path prefix net next) (Err outcome) later) was.3 loses)))
  loses_next streams left outcome first later within was (inr forgets) =
      let none : first ≡ first ++ later = sym (append-nil first) ∙ ap (λ events. first ++ events) (sym forgets.1) in
      subst (HasLost prefix net links outcome) none (forgets_read streams left outcome first (omega arith) was forgets.0)

-- ---- the streams that were read

-- links were read by these calls, and the streams are theirs
abbrev pub HasReadAll : List ℕ → Net → List ℕ → List Stream → List Event → Type 0
HasReadAll prefix net links streams events =
    (files : List (List ℕ)) × ReadsAll stream_limit (streams_wanted prefix net links) files events × (streams ≡ streams_of links files)

-- each stream is that of its link
links_by : (prefix : List ℕ) (net : Net) (limit : ℕ) (links : List ℕ) (files : List (List ℕ)) (events : List Event) → ReadsAll limit (streams_wanted prefix net links) files events
    → map (λ (stream : Stream). stream.link) (streams_of links files) ≡ links
links_by prefix net limit [] files events reads = refl
links_by prefix net limit (link ∷ links) [] events reads = absurd reads
links_by prefix net limit (link ∷ links) (bytes ∷ files) events reads =
    ap (λ links. link ∷ links) (links_by prefix net (limit - length bytes) links files reads.1.later reads.1.holds_later)

pub links_read : (prefix : List ℕ) (net : Net) (links : List ℕ) (streams : List Stream) (events : List Event) → HasReadAll prefix net links streams events → map (λ (stream : Stream). stream.link) streams ≡ links
links_read prefix net links streams events read = ap (map (λ (stream : Stream). stream.link)) read.2 ∙ links_by prefix net stream_limit links read.0 events read.1
