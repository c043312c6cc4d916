-- The calls of `send`, once the links were opened.
use Rattle.std.proofs.Common.{◌≡◌, ◌∷◌, ◌++◌, ℕ, Bool, List, [], length, inl, inr, refl, ap, ◌∙◌}
use Rattle.coded_traffic.specs.Traffic.{room_for}
use Rattle.generation_frame.specs.Blocks.{block_count}
use Rattle.lif_outside.specs.Calls.{Calls}
use Rattle.lif_outside.specs.Events.{Event}
use Rattle.lif_outside.specs.Moves.{Move, opened}
use Rattle.lif_outside.specs.FileCalls.{ReadsPastLimit, ReadsToFault, ReadsWhole, StopsWithin, creates_of}
use Rattle.lif_outside.specs.Sequences.{Are, IsFrontOf}
use Rattle.node_program.specs.declared.code.Code.{Code}
use Rattle.top_base.specs.Inputs.{ReadsAny}
use Rattle.top_base.specs.Lines.{sent_line, write_fault_line}
use Rattle.top_base.specs.Words.{Send, source_limit}
use Rattle.top_base.specs.declared.status.Status.TheVariants.{Done, WriteFault}
use Rattle.top_runs.specs.Send.Given.{IsClear, outputs_of, pattern_in}
use Rattle.top_runs.specs.Send.Runs.{CarriesSource, RunsCode}
use Rattle.top_runs.specs.Sending.{behind_open, outcome_of}
use Rattle.source_delivery.specs.Carried.{Breaks}
use Rattle.source_delivery.specs.Streaming.{AtRest, StopsStreaming, StreamsAll, StreamsSource, file_feed}
use Rattle.source_delivery.specs.Turns.{one_each}
use Rattle.source_delivery.specs.declared.delivery.DeliveryFault.TheVariants as fault
use Rattle.source_delivery.specs.declared.delivery.SentCounts.{SentCounts}
use Rattle.source_delivery.specs.declared.streaming.StreamFault.{StreamFault}
use Rattle.source_delivery.specs.declared.streaming.StreamFault.TheVariants as stream

module _ (faithful : Bool) (send : Send) (code : Code) (clear : IsClear send code) where
  -- a sink's file couldn't be created
  pub unmade : (line : List ℕ) (events : List Event) → line ≡ write_fault_line → StopsWithin (creates_of (outputs_of send code)) events
      → RunsCode faithful send code WriteFault line (behind_open send.seed code (record { on_store = events; on_links = [] }))
  unmade line events said stop = (inl (record { clear = clear; stops = record { on_links = refl; on_store = stop } }), said)

  module _ (first : List Event) (created : Are (creates_of (outputs_of send code)) first) where
    -- SRC was streamed
    module _ (calls : Calls) where
      abbrev all : Calls
      all = behind_open send.seed code (record { on_store = first ++ calls.on_store; on_links = calls.on_links })

      abbrev carries : (P : List Event → Type 0) (Q : List Event → List Event → Type 0) (R : (ℕ → List ℕ) → ℕ → ℕ → List Move → Type 0)
          → StreamsSource faithful code (pattern_in send code) (one_each (outputs_of send code)) (file_feed code.rate) P Q R calls → CarriesSource faithful send code P Q R all
      carries P Q R is = record {
        clear = clear;
        carries = record {
          carried = is.carried;
          on_store = record { first = first; later = calls.on_store; events_are = refl; holds_first = created; holds_later = is.on_store };
          on_links = record { first = opened send.seed (room_for code) ∷ []; later = calls.on_links; events_are = refl; holds_first = refl; holds_later = is.on_links };
        };
      }

      -- all was sent
      pub sent : (counts : SentCounts) → StreamsAll faithful code (pattern_in send code) (one_each (outputs_of send code)) send.source source_limit counts calls
          → RunsCode faithful send code Done (sent_line counts.bytes counts.generations counts.sinks) all
      sent counts is = (
        is.source,
        ap (λ bytes. sent_line bytes counts.generations counts.sinks) is.counts_are.bytes
            ∙ ap (λ generations. sent_line (length is.source) generations counts.sinks) is.counts_are.generations
            ∙ ap (sent_line (length is.source) (block_count is.source code.rate)) is.counts_are.sinks,
        record { delivered = carries (ReadsWhole send.source source_limit is.source) Are AtRest is.streams; all = is.all },
      )

      -- or not all was
      pub unsent : (why : StreamFault) → StopsStreaming faithful code (pattern_in send code) (one_each (outputs_of send code)) send.source source_limit why calls
          → RunsCode faithful send code (outcome_of why).status (outcome_of why).line all
      unsent stream.Read is = (carries (ReadsToFault send.source source_limit) IsFrontOf AtRest is, refl)
      unsent stream.TooLong is = (carries (ReadsPastLimit send.source source_limit) IsFrontOf AtRest is, refl)
      unsent (stream.Sinks fault.Links) is = (carries (ReadsAny send.source source_limit) IsFrontOf (Breaks faithful code (pattern_in send code)) is, refl)
      unsent (stream.Sinks fault.Write) is = (inr (carries (ReadsAny send.source source_limit) StopsWithin AtRest is), refl)
