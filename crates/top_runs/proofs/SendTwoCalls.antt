-- The calls of `sendtwo`, once the links were opened.
use Rattle.std.proofs.Common.{◌≡◌, ◌∷◌, ◌++◌, ℕ, Bool, List, [], length, inl, inr, refl, ap, ◌∙◌}
use Rattle.coded_traffic.specs.RowLinks.{AreOfRow, CarriesRow}
use Rattle.coded_traffic.specs.Traffic.{room_for}
use Rattle.lif_outside.specs.Calls.{Calls}
use Rattle.lif_outside.specs.Events.{Event}
use Rattle.lif_outside.specs.Moves.{Move, opened, pairs_put}
use Rattle.lif_outside.specs.FileCalls.{ReadsPastLimit, ReadsToFault, ReadsWhole, StopsWithin, bytes_read, creates_of}
use Rattle.lif_outside.specs.Sequences.{Are, IsFrontOf}
use Rattle.lif_outside.specs.Streams.{reads_in}
use Rattle.node_program.specs.declared.code.Code.{Code}
use Rattle.source_delivery.proofs.RowLaws.{breaks-row, first-row, over-row, puts-apart}
use Rattle.source_delivery.specs.Carried.{Breaks}
use Rattle.source_delivery.specs.Streaming.{AtRest}
use Rattle.source_delivery.specs.Twin.{StopsTwin, StreamsBoth, StreamsTwin, marked, twin_feed, unmarked}
use Rattle.source_delivery.specs.declared.delivery.DeliveryFault.TheVariants as fault
use Rattle.source_delivery.specs.declared.twin.TwinCounts.{TwinCounts}
use Rattle.source_delivery.specs.declared.streaming.StreamFault.{StreamFault}
use Rattle.source_delivery.specs.declared.streaming.StreamFault.TheVariants as stream
use Rattle.top_base.specs.Lines.{sent_both_line, write_fault_line}
use Rattle.top_base.specs.Words.{SendTwo, source_limit}
use Rattle.top_base.specs.declared.status.Status.TheVariants.{Done, WriteFault}
use Rattle.top_runs.specs.SendTwo.Given.{IsClear, count_of, first_of, outputs_of, pattern_in, second_of, sending_of}
use Rattle.top_runs.specs.SendTwo.Runs.{CarriesBoth, FirstSoFar, RunsCode, SecondSoFar}
use Rattle.top_runs.specs.Sending.{behind_open, outcome_of}

module _ (faithful : Bool) (send : SendTwo) (code : Code) (clear : IsClear send code) where
  -- a sink's file couldn't be created
  pub unmade : (line : List ℕ) (events : List Event) → line ≡ write_fault_line → StopsWithin (creates_of (outputs_of send code)) events
      → RunsCode faithful send code WriteFault line (behind_open send.seed code (record { on_store = events; on_links = [] }))
  unmade line events said stop = (inl (record { clear = clear; stops = record { on_links = refl; on_store = stop } }), said)

  module _ (first : List Event) (created : Are (creates_of (outputs_of send code)) first) (calls : Calls) where
    abbrev all : Calls
    all = behind_open send.seed code (record { on_store = first ++ calls.on_store; on_links = calls.on_links })

    -- what is put after the blocks that were carried is of the row that its link carries
    abbrev IsOfRows : ((ℕ → List ℕ) → ℕ → ℕ → List Move → Type 0) → Type 0
    IsOfRows R = (block : ℕ → List ℕ) (blocks carried : ℕ) (later : List Move) → R block blocks carried later → (link row : ℕ) → CarriesRow code link row
        → AreOfRow block blocks row link (pairs_put later)

    over : IsOfRows AtRest
    over block blocks carried later is link row carries = over-row code (pattern_in send code) block blocks link row carries faithful later is

    broke : IsOfRows (Breaks faithful code (pattern_in send code))
    broke block blocks carried later is link row carries = breaks-row code (pattern_in send code) block blocks link row carries faithful carried later is

    -- both sources were streamed
    carries : (P Q : List Event → Type 0) (D : List Event → List Event → Type 0) (R : (ℕ → List ℕ) → ℕ → ℕ → List Move → Type 0) → IsOfRows R
        → (is : StreamsTwin faithful code (pattern_in send code) (sending_of send code).outputs (first_of send) (second_of send code) P Q D R calls)
        → (both : CarriesBoth faithful send code P Q D R all) × (both.carries.carried ≡ is.streams.carried)
    carries P Q D R rows is =
        let feed = twin_feed (first_of send).rate (second_of send code).rate is.marks in
        let reads = reads_in calls.on_store in (
          record {
            clear = clear;
            marks = is.marks;
            carries = record {
              carried = is.streams.carried;
              on_store = record { first = first; later = calls.on_store; events_are = refl; holds_first = created; holds_later = is.streams.on_store };
              on_links = record { first = opened send.seed (room_for code) ∷ []; later = calls.on_links; events_are = refl; holds_first = refl; holds_later = is.streams.on_links };
            };
            apart = puts-apart (first_of send).rate (second_of send code).rate (bytes_read (marked is.marks reads)) (bytes_read (unmarked is.marks reads)) clear.fit.some code (feed.brought reads)
                (pairs_put calls.on_links) (λ link row carries.
                first-row code (pattern_in send code) (feed.block reads) (feed.brought reads) link row carries faithful (R (feed.block reads) (feed.brought reads)) is.streams.carried calls.on_links
                is.streams.on_links (λ later after. rows (feed.block reads) (feed.brought reads) is.streams.carried later after link row carries));
          },
          refl,
        )

    -- all was sent
    pub sent : (counts : TwinCounts) → StreamsBoth faithful code (pattern_in send code) (sending_of send code).outputs (first_of send) (second_of send code) source_limit counts calls
        → RunsCode faithful send code Done (sent_both_line counts.first counts.second counts.generations counts.sinks) all
    sent counts is =
        let both = carries (ReadsWhole send.first source_limit is.one) (ReadsWhole send.second source_limit is.two) Are AtRest over is.twin in (
          is.one,
          is.two,
          ap (λ bytes. sent_both_line bytes counts.second counts.generations counts.sinks) is.counts_are.first_bytes
              ∙ ap (λ bytes. sent_both_line (length is.one) bytes counts.generations counts.sinks) is.counts_are.second_bytes
              ∙ ap (λ generations. sent_both_line (length is.one) (length is.two) generations counts.sinks) is.counts_are.generations
              ∙ ap (sent_both_line (length is.one) (length is.two) (count_of send code is.one is.two)) is.counts_are.sinks,
          record { delivered = both.0; all = both.1 ∙ is.all },
        )

    -- or not all was
    pub unsent : (why : StreamFault) → StopsTwin faithful code (pattern_in send code) (sending_of send code).outputs (first_of send) (second_of send code) source_limit why calls
        → RunsCode faithful send code (outcome_of why).status (outcome_of why).line all
    unsent stream.Read (inl is) = (inl (carries (ReadsToFault send.first source_limit) (SecondSoFar send code) IsFrontOf AtRest over is).0, refl)
    unsent stream.Read (inr is) = (inr (carries (FirstSoFar send) (ReadsToFault send.second source_limit) IsFrontOf AtRest over is).0, refl)
    unsent stream.TooLong (inl is) = (inl (carries (ReadsPastLimit send.first source_limit) (SecondSoFar send code) IsFrontOf AtRest over is).0, refl)
    unsent stream.TooLong (inr is) = (inr (carries (FirstSoFar send) (ReadsPastLimit send.second source_limit) IsFrontOf AtRest over is).0, refl)
    unsent (stream.Sinks fault.Links) is = ((carries (FirstSoFar send) (SecondSoFar send code) IsFrontOf (Breaks faithful code (pattern_in send code)) broke is).0, refl)
    unsent (stream.Sinks fault.Write) is = (inr (carries (FirstSoFar send) (SecondSoFar send code) StopsWithin AtRest over is).0, refl)
