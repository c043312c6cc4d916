-- A source that is fed, told by the words of `feeds`: what a command does that feeds one.
use Rattle.std.specs.Prelude.{◌≡◌, ◌≤◌, ◌+◌, ◌*◌, ◌/◌, ℕ, Bool, true, false, List, Contains, ◌++◌, length, Result, Ok, Err}
use Rattle.std.specs.List.{range_with_len}
use Rattle.std.proofs.Common.{refl, sym, ap, subst, subst₂, arith, inl, inr}
use Rattle.std.proofs.Math.Nat.{div-mul-le_self, mul-le-mul_right}
use Rattle.std.proofs.lemmas.List.{length-append}
use Rattle.std.proofs.lemmas.Nat.{le-div}
use Rattle.command_steps.proofs.FeedingLaws.{feeds_step}
use Rattle.command_steps.proofs.StepLaws.{IsStep}
use Rattle.command_steps.specs.Feeding.{RunsFeeding, brought, feeds}
use Rattle.command_steps.specs.Filling.{Fills, StopsFilling}
use Rattle.generation_frame.specs.Blocks.{block_count, piece_of}
use Rattle.lif_outside.specs.Events.{Event}
use Rattle.lif_outside.specs.FileCalls.{AreAppendsTo, Written, appends_of, bytes_read}
use Rattle.lif_outside.specs.Files.{AreDistinct}
use Rattle.lif_outside.specs.Sequences.{IsFrontOf}
use Rattle.lif_outside.specs.Streams.{Streams, have_ended}
use Rattle.source_turns.proofs.AppendLaws.{TurnAppends, turns_append, turns_front}
use Rattle.source_turns.proofs.FedLaws.{fills_weaker, piece_front, streams_alike}
use Rattle.source_turns.specs.Feeding.{Feeds, outcome_by}
use Rattle.source_turns.specs.Turns.{Job, blocks_by, feed_brought, feed_turns, size_of}
use Rattle.source_turns.specs.declared.feeding.Fed.{Fed}
use Rattle.source_turns.specs.declared.feeding.FeedFault.{FeedFault}
use Rattle.source_turns.specs.declared.feeding.FeedFault.TheVariants as fault
use Rattle.top_base.specs.declared.outcome.Outcome.{Outcome}
use Rattle.top_base.specs.declared.status.Status.TheVariants.{Done}

-- the outcome of a source that is fed: it is done, with the line of the source, or is that of a fault
abbrev pub Ends : Job → (List ℕ → List ℕ) → Result Fed FeedFault → Outcome → Type 0
Ends job line (Ok fed) outcome =
    (outcome.status ≡ Done) × ((source : List ℕ) → fed.bytes ≡ length source → fed.generations ≡ block_count source job.rate → outcome.line ≡ line source)
Ends job line (Err why) outcome = outcome ≡ outcome_by why

module _ (job : Job) where
  -- more of the source brings no less
  pub feed_grows : (front more : List ℕ) → IsFrontOf (appends_of (feed_turns job true (front ++ more))) (appends_of (feed_turns job false front))
  feed_grows front more =
      let size = size_of job in
      let some : 1 ≤ job.rate = job.some_rate in
      let few = length front / size in
      let full : few * size ≤ length front = div-mul-le_self (length front) size in
      let least : few ≤ length (front ++ more) / size = le-div few (length (front ++ more)) size (omega (arith, some)) (omega (arith, full, length-append front more)) in
      turns_front (λ place. job.turn (0 + place) (piece_of (front ++ more) job.rate place)) (λ place. job.turn (0 + place) (piece_of front job.rate place))
      few (block_count (front ++ more) job.rate) (omega (arith, least))
      (λ place below.
      let among : (place + 1) * size ≤ few * size = mul-le-mul_right size (omega (arith, below)) in
      ap (job.turn (0 + place)) (piece_front front more job.rate place (omega (arith, among, full))))

  -- turns that append to the files alone
  pub feed_appends : ((generation : ℕ) (piece : List ℕ) → TurnAppends job.paths (job.turn generation piece)) → (ended : Bool) (bytes : List ℕ)
      → AreAppendsTo job.paths (appends_of (feed_turns job ended bytes))
  feed_appends each ended bytes =
      turns_append job.paths (λ place. job.turn (0 + place) (piece_of bytes job.rate place)) (range_with_len 0 (blocks_by ended bytes job.rate))
      (λ place. each (0 + place) (piece_of bytes job.rate place))

-- What a command does that feeds a source, where the turns of its words are those of the job.
module _ (job : Job) (path : List ℕ) (limit : ℕ) (turns : Bool → List ℕ → List (List Written)) (line : List ℕ → List ℕ)
    (same : (ended : Bool) (bytes : List ℕ) → feed_turns job ended bytes ≡ turns ended bytes) where
  -- files that the job fills are filled by the command
  told : (P : List Event → Type 0) (Q : List Event → List Event → Type 0) (calls : List Event)
      → Fills job.paths (Streams (feed_brought job) P Q) calls → Fills job.paths (Streams (brought path limit job.paths turns line) P Q) calls
  told P Q calls fills =
      fills_weaker job.paths _ (Streams (brought path limit job.paths turns line) P Q) calls fills
      (λ events streams. streams_alike (feed_brought job) (brought path limit job.paths turns line) P Q events (λ reads. ap appends_of (same (have_ended reads) (bytes_read reads))) streams)

  stops : (P : List Event → Type 0) (Q : List Event → List Event → Type 0) (calls : List Event)
      → StopsFilling job.paths (Streams (feed_brought job) P Q) calls → StopsFilling job.paths (Streams (brought path limit job.paths turns line) P Q) calls
  stops P Q calls (inl stop) = inl stop
  stops P Q calls (inr fills) = inr (told P Q calls fills)

  abbrev Runs : Outcome → List Event → Type 0
  Runs outcome calls = RunsFeeding path limit job.paths turns line outcome.status outcome.line calls

  by_fault : (why : FeedFault) (calls : List Event) → Feeds job path limit (Err why) calls → Runs (outcome_by why) calls
  by_fault fault.Read calls fills = (refl, told _ _ calls fills)
  by_fault fault.TooLong calls fills = (refl, told _ _ calls fills)
  by_fault fault.Write calls fills = (refl, stops _ _ calls fills)

  pub runs_feeding : (result : Result Fed FeedFault) (outcome : Outcome) (calls : List Event) → Ends job line result outcome → Feeds job path limit result calls → Runs outcome calls
  runs_feeding (Ok counted) outcome calls ends over =
      subst (λ status. RunsFeeding path limit job.paths turns line status outcome.line calls) (sym ends.0)
      (record { source = over.0; line_is = ends.1 over.0 over.1 over.2; fed = told _ _ calls over.3 })
  runs_feeding (Err why) outcome calls ends fills = subst (λ outcome. Runs outcome calls) (sym ends) (by_fault why calls fills)

  -- it is a step: where the paths are distinct and none is the source's, and where each turn appends to them alone
  pub feeding_step : AreDistinct job.paths → ¬ Contains job.paths path → ((generation : ℕ) (piece : List ℕ) → TurnAppends job.paths (job.turn generation piece)) → IsStep (feeds path limit job.paths turns line)
  feeding_step distinct apart each =
      feeds_step path limit job.paths turns line distinct apart
      (λ ended bytes. subst (λ turns. AreAppendsTo job.paths (appends_of turns)) (same ended bytes) (feed_appends job each ended bytes))
      (λ front more. subst₂ (λ all few. IsFrontOf (appends_of all) (appends_of few)) (same true (front ++ more)) (same false front) (feed_grows job front more))
