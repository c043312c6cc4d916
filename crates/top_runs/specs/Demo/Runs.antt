-- The calls of `demo`, by its outcome: they are on the links alone. This holds of all links.
use Rattle.std.specs.Prelude.{◌≡◌, ◌⊎◌, ◌%◌, ◌^◌, ℕ, Bool, List, [], ◌∷◌, flat_map, length, sum}
use Rattle.std.specs.List.{range_with_len}
use Rattle.coded_traffic.specs.Traffic.{room_for}
use Rattle.generation_frame.specs.declared.frame.Packet.{Packet}
use Rattle.lif_outside.specs.Calls.{Calls}
use Rattle.lif_outside.specs.Moves.{Move, open_refused, opened, pairs_put}
use Rattle.lif_outside.specs.Sequences.{Are, Then}
use Rattle.node_program.specs.declared.code.Code.{Code}
use Rattle.top_base.specs.Lines.{demo_lines, link_fault_line, out_of_memory_line}
use Rattle.top_base.specs.Words.{Demo}
use Rattle.top_base.specs.declared.status.Status.{Status}
use Rattle.top_base.specs.declared.status.Status.TheVariants.{Done, LinkFault, OutOfMemory}
use Rattle.top_runs.specs.Demo.Due.{IsShown}
use Rattle.top_runs.specs.Demo.Given.{IsDemoCode, blocks_in, demo_seed, source_of}
use Rattle.source_delivery.specs.Carried.{Breaks, CarriesFirst, IsOver, file_block, packets_given}
use Rattle.source_delivery.specs.Turns.{received_at}
use Rattle.source_delivery.specs.declared.parts.Parts.TheVariants.{One}

-- what all sinks of a code get of the first generations, by what came

abbrev pub received_before : Code → List Packet → ℕ → List ℕ
received_before code came generations =
    flat_map (λ generation. flat_map (received_at One code 0 came generation) (range_with_len 0 (length code.net.sinks))) (range_with_len 0 generations)

-- the sum of these bytes, as 64 bits count it
abbrev pub sum_received : Code → List Packet → ℕ → ℕ
sum_received code came generations = sum (received_before code came generations) % 2 ^ 64

-- The links were opened with 1, and of the source's blocks the first ones were carried; R holds of the calls after that.
pub record CarriesSource (faithful : Bool) (demo : Demo) (code : Code) (R : ℕ → List Move → Type 0) (calls : Calls) : Type 0 where
  pub made : IsDemoCode demo code
  pub carried : ℕ
  pub on_store : calls.on_store ≡ []
  pub on_links : Then (Are (opened demo_seed (room_for code) ∷ []))
      (CarriesFirst faithful code 0 (file_block (source_of demo) code.rate) (blocks_in demo code) R carried) calls.on_links

-- All were carried, and the lines say so: with the number of the frames that were put, and the sum of the bytes that the sinks
-- decode of what came.
pub record Shows (faithful : Bool) (demo : Demo) (code : Code) (line : List ℕ) (calls : Calls) : Type 0 where
  pub carries : CarriesSource faithful demo code IsOver calls
  pub all : carries.carried ≡ blocks_in demo code
  pub lines : line
      ≡ demo_lines demo code (blocks_in demo code) (length (pairs_put calls.on_links))
      (sum_received code (packets_given calls.on_links) (blocks_in demo code))

-- Of one code of the network: all of the source was carried through it and the lines say so, and these lines are due of it.
pub record Demonstrates (faithful : Bool) (demo : Demo) (line : List ℕ) (calls : Calls) : Type 0 where
  pub code : Code
  pub shows : Shows faithful demo code line calls
  pub shown : IsShown faithful demo code line

-- no call was made, or the links refused to be opened
pub record LacksMemory (demo : Demo) (calls : Calls) : Type 0 where
  pub on_store : calls.on_store ≡ []
  pub on_links : (calls.on_links ≡ [])
      ⊎ ((code : Code) × IsDemoCode demo code × (calls.on_links ≡ open_refused demo_seed (room_for code) ∷ []))

-- the calls, by the status and the line
abbrev pub RunsDemo : Bool → Demo → Status → List ℕ → Calls → Type 0
RunsDemo faithful demo Done line calls = Demonstrates faithful demo line calls
RunsDemo faithful demo LinkFault line calls =
    (code : Code) × CarriesSource faithful demo code (Breaks faithful code 0 (file_block (source_of demo) code.rate) (blocks_in demo code)) calls
    × (line ≡ link_fault_line)
RunsDemo faithful demo OutOfMemory line calls = LacksMemory demo calls × (line ≡ out_of_memory_line)
RunsDemo faithful demo status line calls = ⊥
