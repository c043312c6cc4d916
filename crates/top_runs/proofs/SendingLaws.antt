-- What is left where sources are sent through an accepted code: what the sinks' files get of what came, and which calls failed.
use Rattle.std.specs.Prelude.{◌≡◌, ◌<◌, ℕ, Bool, true, false, min, List, [], ◌∷◌, ◌++◌, Option, Some, Contains, length, slice_get}
use Rattle.std.specs.List.{AllByRecursion, list_any}
use Rattle.std.proofs.Common.{sym, ap, subst, ◌∙◌, arith}
use Rattle.std.proofs.lemmas.Bool.{or_left, or_right}
use Rattle.std.proofs.lemmas.List.{append-nil}
use Rattle.std.proofs.lemmas.List.Folds.{list_any-append}
use Rattle.std.proofs.lemmas.Option.{slice_get-get_or}
use Rattle.coded_traffic.specs.Traffic.{room_for}
use Rattle.lif_outside.proofs.FaultLaws.{HaveFailed, failed-append}
use Rattle.lif_outside.proofs.FileCallLaws.{appends_keep}
use Rattle.lif_outside.proofs.OpenLaws.{quiet-after, seed-after}
use Rattle.lif_outside.proofs.StreamLaws.{reads_among, reads_happen, stream_failed, stream_keeps, writes_among, writes_happen}
use Rattle.lif_outside.proofs.TurnLaws.{appends-fault, creates_of-empty, creates_of-keep, creates_of-stopped, creates_of-unfailed, front_keeps, front_unfailed, stops_keep}
use Rattle.lif_outside.specs.Calls.{Calls}
use Rattle.lif_outside.specs.EventLaws.{KeepsPath, happen_keeping}
use Rattle.lif_outside.specs.Events.{Event, Follow, HappenAt, append_failed}
use Rattle.lif_outside.specs.FileCalls.{AreAppendsTo, StopsWithin, bytes_appended, creates_of}
use Rattle.lif_outside.specs.Files.{AreDistinct, ChangesOnly, Files, IsSameOrEmpty}
use Rattle.lif_outside.specs.Moves.{FollowMoves, InFlight, Move, is_fault, opened}
use Rattle.lif_outside.specs.Sequences.{Are, IsFrontOf}
use Rattle.lif_outside.specs.Streams.{reads_in, writes_in}
use Rattle.lif_outside.specs.Told.{Becomes}
use Rattle.lif_outside.specs.ToldLaws.{becomes_weaker}
use Rattle.node_program.specs.declared.code.Code.{Code}
use Rattle.source_delivery.specs.Decoded.{decoded_of}
use Rattle.source_delivery.specs.Opening.{demand_of}
use Rattle.source_delivery.proofs.CarriedLaws.{carried-decoded, carried-some, length-blocks_in}
use Rattle.source_delivery.proofs.TurnLaws.{turns-are}
use Rattle.source_delivery.specs.Carried.{AreCarried, Breaks, IsCarried, blocks_in, packets_given}
use Rattle.source_delivery.specs.Streaming.{AtRest, Feed, deliveries_to}
use Rattle.top_base.proofs.LeavingLaws.{happen_later, happen_parts, later_among}
use Rattle.top_runs.proofs.ReceivedLaws.{bytes-received}
use Rattle.top_runs.specs.Sending.{AfterCreates, Carries, Sending, StopsAtCreate, received_by}

-- where a path stands
pub place_of : (paths : List (List ℕ)) (path : List ℕ) → (there : Contains paths path) → slice_get paths there.0 ≡ Some path
place_of paths path there = slice_get-get_or paths there.0 path there.1 ∙ ap Some there.2

-- ---- how the appends that are due and those that were made keep a path

pub all_keeps : (place : List ℕ) (due made : List Event) → AllByRecursion (KeepsPath place) due → Are due made → AllByRecursion (KeepsPath place) made
all_keeps place due made keeps are = subst (AllByRecursion (KeepsPath place)) (sym are) keeps

pub part_keeps : (place : List ℕ) (due made : List Event) → AllByRecursion (KeepsPath place) due → IsFrontOf due made → AllByRecursion (KeepsPath place) made
part_keeps place due made keeps front = front_keeps place due made front keeps

pub stopped_keeps : (place : List ℕ) (due made : List Event) → AllByRecursion (KeepsPath place) due → StopsWithin due made → AllByRecursion (KeepsPath place) made
stopped_keeps place due made keeps stop = stops_keep place due made stop keeps

-- ---- the calls after the outputs were created

module _ (paths : List (List ℕ)) (P : List Event → Type 0) (calls : List Event) (is : AfterCreates paths P calls) where
  at_output : (place : List ℕ) (a b : Option (List ℕ)) → Contains paths place → HappenAt place calls a b → HappenAt place is.later (Some []) b
  at_output place a b there happen =
      let halves = happen_parts is.first is.later calls is.events_are place a b happen in
      let empty : halves.0 ≡ Some [] = creates_of-empty paths place a halves.0 there (subst (λ es. HappenAt place es a halves.0) is.holds_first halves.1) in
      subst (λ file. HappenAt place is.later file b) empty halves.2

  elsewhere : (place : List ℕ) (a b : Option (List ℕ)) → ¬ Contains paths place → HappenAt place calls a b → HappenAt place is.later a b
  elsewhere place a b apart happen =
      let keeps = subst (AllByRecursion (KeepsPath place)) (sym is.holds_first) (creates_of-keep paths place apart) in
      happen_later is.first is.later calls is.events_are place a b keeps happen

  -- what the other calls leave
  leaves_outputs : (R : List ℕ → Option (List ℕ) → Type 0) → ((place : List ℕ) → ¬ Contains paths place → AllByRecursion (KeepsPath place) is.later)
      → ((place : List ℕ) (b : Option (List ℕ)) → Contains paths place → HappenAt place is.later (Some []) b → R place b)
      → (before after : Option Files) → Becomes before after (Follow calls) → Becomes before after (ChangesOnly paths (λ path old new. R path new))
  leaves_outputs R keeps held before after change = becomes_weaker change (λ old new follow. record {
    others = λ path apart. happen_keeping path is.later (old path) (new path) (keeps path apart) (elsewhere path (old path) (new path) apart (follow path));
    these = λ path there. held path (new path) there (at_output path (old path) (new path) there (follow path));
  })

  create_among : (event : Event) → Contains is.later event → Contains calls event
  create_among = later_among is.first is.later calls is.events_are

  -- which of them failed
  created_failed : (c d : Bool) → HaveFailed c d is.later → HaveFailed c d calls
  created_failed c d later =
      subst (HaveFailed c d) (sym is.events_are) (failed-append false false c d is.first is.later (subst (HaveFailed false false) (sym is.holds_first) (creates_of-unfailed paths)) later)

-- blocks that were carried are carried without a fault
carried-well : (faithful : Bool) (code : Code) (pattern : ℕ) (blocks : List (List ℕ)) (made : List Move) → AreCarried faithful code pattern 0 blocks made → list_any is_fault made ≡ false
carried-well faithful code pattern [] made none = ap (list_any is_fault) none
carried-well faithful code pattern (block ∷ blocks) made carries = carries.well

module _ (code : Code) (sending : Sending) (feed : Feed) (faithful : Bool) where
  abbrev paths : List (List ℕ)
  paths = sending.outputs.paths

  abbrev pattern : ℕ
  pattern = sending.pattern

  -- ---- sources were read, the first blocks were carried, and what came delivered

  module _ (P : List Event → Type 0) (Q : List Event → List Event → Type 0) (R : (ℕ → List ℕ) → ℕ → ℕ → List Move → Type 0) (calls : Calls) (is : Carries faithful sending code feed P Q R calls) where
    abbrev pub reads_of : List Event
    reads_of = reads_in is.on_store.later

    abbrev pub writes_of : List Event
    writes_of = writes_in is.on_store.later

    -- the appends that are due, which go to the outputs
    abbrev pub due_of : List Event
    due_of = deliveries_to sending.outputs code pattern feed (packets_given calls.on_links) is.carried reads_of

    -- of how many generations they are
    abbrev pub count_of : ℕ
    count_of = min is.carried (feed.brought reads_of)

    pub due_are : AreAppendsTo paths due_of
    due_are = turns-are sending.outputs code pattern (packets_given calls.on_links) count_of

    -- what is delivered to each output is what its sink decodes of what came
    pub bytes_got : AreDistinct paths → (path : List ℕ) (place : ℕ) → slice_get paths place ≡ Some path
        → bytes_appended path due_of ≡ received_by sending.outputs.parts code pattern (packets_given calls.on_links) count_of place
    bytes_got distinct path place there = bytes-received sending.outputs code pattern (packets_given calls.on_links) path place distinct there count_of

    abbrev on_links_of : List Move
    on_links_of = is.on_links.later

    -- the packets that came, behind the call that opened the links
    came-same : packets_given calls.on_links ≡ packets_given on_links_of
    came-same = ap packets_given (is.on_links.events_are ∙ ap (λ (first : List Move). first ++ on_links_of) is.on_links.holds_first)

    -- by faithful links, each sink decodes the blocks that were read
    pub decoded_blocks : pattern < length code.net.patterns → faithful ≡ true → (generation sink : ℕ) → generation < count_of → sink < length code.net.sinks
        → decoded_of code (demand_of code pattern sink) (packets_given calls.on_links) generation ≡ feed.block reads_of generation
    decoded_blocks known by_faithful generation sink below within =
        ap (λ came. decoded_of code (demand_of code pattern sink) came generation) came-same
        ∙ carried-decoded faithful code pattern (feed.block reads_of) (feed.brought reads_of) (R (feed.block reads_of) (feed.brought reads_of)) is.carried on_links_of is.on_links.holds_later
        known by_faithful generation sink (omega (arith, below)) within

    -- which of the calls on the store failed
    pub carried_failed : (c d : Bool) → HaveFailed c false reads_of → HaveFailed false d writes_of → HaveFailed c d calls.on_store
    carried_failed c d reads writes = created_failed paths _ calls.on_store is.on_store c d (stream_failed is.on_store.later c d false false reads writes)

    module _ (keeps : (place : List ℕ) (due made : List Event) → AllByRecursion (KeepsPath place) due → Q due made → AllByRecursion (KeepsPath place) made) where
      writes_keep : (place : List ℕ) → ¬ Contains paths place → AllByRecursion (KeepsPath place) writes_of
      writes_keep place apart = keeps place due_of writes_of (appends_keep paths place due_of apart due_are) is.on_store.holds_later.writes

      -- what happens at a path that is none of the outputs' happens by the reads
      pub at_source : (source : List ℕ) (a b : Option (List ℕ)) → ¬ Contains paths source → HappenAt source calls.on_store a b → HappenAt source reads_of a b
      at_source source a b apart happen =
          reads_happen source is.on_store.later a b (writes_keep source apart) (elsewhere paths _ calls.on_store is.on_store source a b apart happen)

      -- what is left at the outputs is left by the writes
      pub leaves_carried : (L : List ℕ → Option (List ℕ) → Type 0) → ((place : List ℕ) (b : Option (List ℕ)) → Contains paths place → HappenAt place writes_of (Some []) b → L place b)
          → (before after : Option Files) → Becomes before after (Follow calls.on_store) → Becomes before after (ChangesOnly paths (λ path old new. L path new))
      leaves_carried L held before after change = leaves_outputs paths _ calls.on_store is.on_store L
          (λ place apart. stream_keeps place is.on_store.later (writes_keep place apart))
          (λ place b there happen. held place b there (writes_happen place is.on_store.later (Some []) b happen))
          before after change

    pub read_among : (event : Event) → Contains reads_of event → Contains calls.on_store event
    read_among event there = create_among paths _ calls.on_store is.on_store event (reads_among is.on_store.later event there)

    pub written_among : (event : Event) → Contains writes_of event → Contains calls.on_store event
    written_among event there = create_among paths _ calls.on_store is.on_store event (writes_among is.on_store.later event there)

  -- ---- the calls on the links

  module _ (P : List Event → Type 0) (Q : List Event → List Event → Type 0) (calls : Calls) (is : Carries faithful sending code feed P Q AtRest calls) where
    abbrev blocks_of : List (List ℕ)
    blocks_of = blocks_in (feed.block (reads_of P Q AtRest calls is)) 0 is.carried

    made-are : calls.on_links ≡ opened sending.seed (room_for code) ∷ is.on_links.holds_later.first
    made-are =
        let links = is.on_links in
        links.events_are ∙ ap (λ (first : List Move). first ++ links.later) links.holds_first
        ∙ ap (λ (later : List Move). opened sending.seed (room_for code) ∷ later)
        (links.holds_later.moves_are ∙ ap (λ (later : List Move). links.holds_later.first ++ later) links.holds_later.rest ∙ append-nil links.holds_later.first)

    -- none of them failed
    pub rest_well : list_any is_fault calls.on_links ≡ false
    rest_well = ap (list_any is_fault) made-are ∙ carried-well faithful code pattern blocks_of is.on_links.holds_later.first is.on_links.holds_later.carries

    -- where some blocks were carried, the links keep the number that they were opened with, and nothing flies on them
    module _ (some : 0 < is.carried) (as_put : Bool) (old new : InFlight) (moved : FollowMoves as_put calls.on_links old new) where
      carries : IsCarried faithful code pattern (record { first = 0; blocks = blocks_of }) is.on_links.holds_later.first
      carries =
          carried-some faithful code pattern 0 _ is.on_links.holds_later.first
          (omega (arith, length-blocks_in (feed.block (reads_of P Q AtRest calls is)) 0 is.carried, some))
          is.on_links.holds_later.carries

      pub seed-left : new.seed ≡ sending.seed
      seed-left = seed-after as_put sending.seed (room_for code) is.on_links.holds_later.first old new (subst (λ made. FollowMoves as_put made old new) made-are moved) carries.closed

      pub quiet-left : new.flying ≡ []
      quiet-left =
          quiet-after as_put (opened sending.seed (room_for code) ∷ carries.front) old new
          (subst (λ made. FollowMoves as_put made old new) (made-are ∙ ap (λ (first : List Move). opened sending.seed (room_for code) ∷ first) carries.ended) moved)

  -- the call on the links that failed is among the calls
  pub links_fault : (P : List Event → Type 0) (Q : List Event → List Event → Type 0) (calls : Calls) → Carries faithful sending code feed P Q (Breaks faithful code pattern) calls
      → list_any is_fault calls.on_links ≡ true
  links_fault P Q calls is =
      let links = is.on_links in
      let breaks = links.holds_later.rest in
      let last : list_any is_fault links.holds_later.later ≡ true =
      ap (list_any is_fault) breaks.stopped.ended ∙ list_any-append is_fault breaks.stopped.front (breaks.stopped.fault ∷ [])
      ∙ or_right (list_any is_fault breaks.stopped.front) (list_any is_fault (breaks.stopped.fault ∷ [])) (or_left (is_fault breaks.stopped.fault) false breaks.stopped.fails) in
      let all : list_any is_fault links.later ≡ true =
      ap (list_any is_fault) links.holds_later.moves_are ∙ list_any-append is_fault links.holds_later.first links.holds_later.later
      ∙ or_right (list_any is_fault links.holds_later.first) (list_any is_fault links.holds_later.later) last in
      ap (list_any is_fault) links.events_are ∙ list_any-append is_fault links.first links.later ∙ or_right (list_any is_fault links.first) (list_any is_fault links.later) all

  -- ---- the calls on the store that failed

  pub front_failed : (P : List Event → Type 0) (R : (ℕ → List ℕ) → ℕ → ℕ → List Move → Type 0) (c : Bool) (calls : Calls) (is : Carries faithful sending code feed P IsFrontOf R calls)
      → HaveFailed c false (reads_in is.on_store.later) → HaveFailed c false calls.on_store
  front_failed P R c calls is reads = carried_failed P IsFrontOf R calls is c false reads
      (front_unfailed paths (due_of P IsFrontOf R calls is) (writes_in is.on_store.later) (due_are P IsFrontOf R calls is) is.on_store.holds_later.writes)

  -- the append that failed is among the calls
  pub append_fault : (P : List Event → Type 0) (R : (ℕ → List ℕ) → ℕ → ℕ → List Move → Type 0) (calls : Calls) → Carries faithful sending code feed P StopsWithin R calls
      → (path bytes : List ℕ) × Contains paths path × Contains calls.on_store (append_failed path bytes)
  append_fault P R calls is =
      let fault = appends-fault paths (due_of P StopsWithin R calls is) _ (due_are P StopsWithin R calls is) is.on_store.holds_later.writes in
      (fault.0, fault.1, fault.2, written_among P StopsWithin R calls is _ fault.3)

  -- a create failed
  pub uncreated : (calls : Calls) → StopsAtCreate sending code calls → (before after : Option Files) → Becomes before after (Follow calls.on_store) → Becomes before after (ChangesOnly paths (λ path. IsSameOrEmpty))
  uncreated calls is before after change = becomes_weaker change (λ old new follow. record {
    others = λ path apart. happen_keeping path calls.on_store (old path) (new path) (stops_keep path (creates_of paths) calls.on_store is.on_store (creates_of-keep paths path apart)) (follow path);
    these = λ path there. creates_of-stopped paths path calls.on_store (old path) (new path) is.on_store (follow path);
  })
