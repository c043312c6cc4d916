-- What a run of `demo` comes to, by what was carried and what the sinks got of it.
use Rattle.std.specs.Prelude.{◌≡◌, ◌⊎◌, ◌<◌, ◌*◌, ◌^◌, ℕ, Bool, false, List, [], ◌∷◌, length, sum, sum_by}
use Rattle.std.proofs.Common.{refl, sym, ap, subst, ◌∙◌, inl, inr, ⊎_elim, arith}
use Rattle.std.proofs.lemmas.List.{length-map}
use Rattle.coded_traffic.specs.Traffic.{live_links_of, room_for}
use Rattle.generation_frame.specs.Blocks.{pieces}
use Rattle.lif_outside.specs.Calls.{Calls}
use Rattle.lif_outside.specs.Moves.{FollowMoves, InFlight, Move, open_refused, opened, pairs_put}
use Rattle.lif_outside.specs.FileCalls.{appends_of}
use Rattle.net_model.specs.Renumbering.{renumbered_pattern}
use Rattle.node_program.specs.declared.code.Code.{Code}
use Rattle.source_delivery.specs.Running.{Running}
use Rattle.top_base.specs.Lines.{demo_lines, out_of_memory_line}
use Rattle.top_base.specs.declared.status.Status.{Status}
use Rattle.top_base.specs.declared.status.Status.TheVariants.{OutOfMemory}
use Rattle.top_base.specs.Words.{Demo}
use Rattle.source_delivery.proofs.CarriedLaws.{carried-some, length-blocks_in, over-are}
use Rattle.source_delivery.proofs.DeliveryLaws.{opened-can}
use Rattle.top_runs.proofs.FrameLaws.{length-put, length-traffic}
use Rattle.top_runs.proofs.TallyLaws.{sum-turns, tallies-unstopped}
use Rattle.source_delivery.proofs.TurnLaws.{turns-are}
use Rattle.top_runs.specs.Demo.Given.{IsDemoCode, blocks_in, demo_seed, source_of}
use Rattle.top_runs.specs.Demo.Runs.{CarriesSource, RunsDemo, Shows, received_before, sum_received}
use Rattle.top_runs.specs.Demo.Tally.{Tallies, sum_of}
use Rattle.source_delivery.specs.Carried.{AreCarried, Breaks, IsOver, blocks_from, file_block, packets_given}
use Rattle.source_delivery.specs.Delivering.{CanCarry, DeliversSome, Interrupts}
use Rattle.top_runs.specs.Sending.{link_calls}
use Rattle.source_delivery.specs.Turns.{one_each, turns_before}
use Rattle.source_delivery.specs.declared.delivery.DeliveryFault.TheVariants as fault
use Rattle.top_runs.specs.declared.tally.Tally.{Tally}

-- the code has the pattern `none`
pub none-there : (demo : Demo) (code : Code) → IsDemoCode demo code → 0 < length code.net.patterns
none-there demo code made =
    let patterns = made.compiled.network.patterns in
    omega (arith, ap length patterns ∙ length-map made.net.patterns (renumbered_pattern _), ap length made.combination.patterns)

-- links that were just opened carry a block of it
pub can-carry : (demo : Demo) (code : Code) → IsDemoCode demo code → (runner : Running) → runner.code ≡ code → runner.pattern ≡ 0 → runner.has_failed ≡ false
    → (as_put : Bool) (old new : InFlight) → FollowMoves as_put (opened demo_seed (room_for code) ∷ []) old new → CanCarry runner new.flying new.room
can-carry demo code made runner at_work none works =
    opened-can demo_seed code runner at_work (omega (arith, none, none-there demo code made)) works

-- the links weren't called, or refused to be opened
pub not-begun : (faithful : Bool) (demo : Demo) (code : Code) → IsDemoCode demo code → (status : Status) (line : List ℕ) → status ≡ OutOfMemory → line ≡ out_of_memory_line
    → (moves : List Move) → (moves ≡ []) ⊎ (moves ≡ open_refused demo_seed (room_for code) ∷ []) → RunsDemo faithful demo status line (link_calls moves)
not-begun faithful demo code made status line status_is line_is moves are =
    subst (λ status. RunsDemo faithful demo status line (link_calls moves)) (sym status_is)
    (record { on_store = refl; on_links = ⊎_elim inl (λ refused. inr (code, made, refused)) are }, line_is)

module _ (faithful : Bool) (demo : Demo) (code : Code) (made : IsDemoCode demo code) (paths : List (List ℕ)) (each : length paths ≡ length code.net.sinks)
    (calls : Calls) (old new : Tally) (tallies : Tallies calls.on_store old new) where
  abbrev after_open : Calls
  after_open = link_calls (opened demo_seed (room_for code) ∷ calls.on_links)

  -- all was carried
  module _ (some : DeliversSome faithful code 0 (one_each paths) (source_of demo) (blocks_in demo code) calls) where
    abbrev blocks : ℕ
    blocks = blocks_in demo code

    abbrev carries : CarriesSource faithful demo code IsOver after_open
    carries = record {
      made = made;
      carried = some.delivered.carried;
      on_store = refl;
      on_links = record { first = opened demo_seed (room_for code) ∷ []; later = calls.on_links; events_are = refl; holds_first = refl; holds_later = some.delivered.on_links };
    }

    are : AreCarried faithful code 0 0 (blocks_from (source_of demo) code.rate 0 blocks) calls.on_links
    are = subst (λ n. AreCarried faithful code 0 0 (blocks_from (source_of demo) code.rate 0 n) calls.on_links) some.number
        (over-are faithful code 0 (file_block (source_of demo) code.rate) blocks some.delivered.carried calls.on_links some.delivered.on_links)

    -- so many frames were put
    frames : length (pairs_put calls.on_links) ≡ blocks * (length (live_links_of code 0) * pieces)
    frames =
        let those = blocks_from (source_of demo) code.rate 0 blocks in
        let count : length those ≡ blocks = length-blocks_in (file_block (source_of demo) code.rate) 0 blocks in
        length-put (carried-some faithful code 0 0 those calls.on_links (omega (arith, count)) are)
        ∙ length-traffic code 0 (record { first = 0; blocks = those })
        ∙ ap (λ n. n * (length (live_links_of code 0) * pieces)) count

    -- and this is the sum
    total : old.sum ≡ 0 → new.sum < 2 ^ 64 → new.sum ≡ sum_received code (packets_given calls.on_links) blocks
    total start small =
        let appended : sum_by sum_of calls.on_store ≡ sum (received_before code (packets_given calls.on_links) blocks) =
        ap (sum_by sum_of) some.delivered.on_store
        ∙ sum-turns paths code (packets_given calls.on_links) each some.delivered.carried
        ∙ ap (λ n. sum (received_before code (packets_given calls.on_links) n)) some.number in
        omega (arith, tallies.grown, start, small, appended)

    pub shown : (generations frames_each : ℕ) (line : List ℕ) → old.sum ≡ 0 → new.sum < 2 ^ 64 → generations ≡ blocks → frames_each ≡ length (live_links_of code 0) * pieces
        → line ≡ demo_lines demo code generations (generations * frames_each) new.sum → Shows faithful demo code line after_open
    shown generations frames_each line start small count each_is line_is = record {
      carries = carries;
      all = some.number;
      lines = line_is
          ∙ ap (λ sum. demo_lines demo code generations (generations * frames_each) sum) (total start small)
          ∙ ap (λ n. demo_lines demo code n (n * frames_each) (sum_received code (packets_given calls.on_links) blocks)) count
          ∙ ap (λ n. demo_lines demo code blocks (blocks * n) (sum_received code (packets_given calls.on_links) blocks)) each_is
          ∙ ap (λ n. demo_lines demo code blocks n (sum_received code (packets_given calls.on_links) blocks)) (sym frames);
    }

  -- a call on the links failed
  pub broken-off : Interrupts faithful code 0 (one_each paths) (source_of demo) fault.Links calls
      → CarriesSource faithful demo code (Breaks faithful code 0 (file_block (source_of demo) code.rate) (blocks_in demo code)) after_open
  broken-off is = record {
    made = made;
    carried = is.carried;
    on_store = refl;
    on_links = record { first = opened demo_seed (room_for code) ∷ []; later = calls.on_links; events_are = refl; holds_first = refl; holds_later = is.on_links };
  }

  -- an append didn't
  pub never-unwritten : Interrupts faithful code 0 (one_each paths) (source_of demo) fault.Write calls → ⊥
  never-unwritten is =
      tallies-unstopped paths (appends_of (turns_before (one_each paths) code 0 (packets_given calls.on_links) is.carried)) calls.on_store old new
      (turns-are (one_each paths) code 0 (packets_given calls.on_links) is.carried) is.on_store tallies
