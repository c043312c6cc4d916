-- What `demo` shows of a code, where all blocks were carried: the lines that are due of it.
use Rattle.std.specs.Prelude.{◌≡◌, ◌<◌, ◌*◌, ◌%◌, ◌^◌, ℕ, Bool, true, false, List, [], ◌∷◌, ◌++◌, length, sum}
use Rattle.std.specs.List.{list_any}
use Rattle.std.proofs.Common.{refl, sym, ap, subst, ◌∙◌, arith}
use Rattle.std.proofs.lemmas.List.{append-nil}
use Rattle.coded_traffic.specs.Traffic.{room_for, traffic_of}
use Rattle.generation_frame.proofs.BlockLaws.{counted-block}
use Rattle.generation_frame.proofs.PieceLaws.{concat-pieces_of, length-piece_of}
use Rattle.generation_frame.specs.Blocks.{counted_bytes, piece_of}
use Rattle.lif_outside.proofs.OpenLaws.{quiet-after, seed-after}
use Rattle.lif_outside.specs.Calls.{Calls}
use Rattle.lif_outside.specs.Moves.{FollowMoves, InFlight, Move, is_fault, opened, pairs_put}
use Rattle.node_program.specs.declared.code.Code.{Code}
use Rattle.source_delivery.specs.Carried.{IsCarried, packets_given, AreCarried, CarriesFirst, IsOver, blocks_from, file_block}
use Rattle.top_base.specs.Lines.{demo_lines}
use Rattle.top_base.specs.Words.{Demo}
use Rattle.source_delivery.proofs.CarriedLaws.{carried-decoded, carried-some, length-blocks_in}
use Rattle.top_runs.proofs.DemoRuns.{none-there}
use Rattle.top_runs.proofs.FrameLaws.{length-put}
use Rattle.top_runs.proofs.TallyLaws.{sum-pieces}
use Rattle.top_runs.specs.Demo.Due.{IsShown}
use Rattle.top_runs.specs.Demo.Given.{blocks_in, demo_seed, source_of}
use Rattle.top_runs.specs.Demo.Runs.{Demonstrates, Shows, sum_received}
use Rattle.source_delivery.specs.Turns.{received_at}
use Rattle.source_delivery.specs.declared.parts.Parts.TheVariants.{One}

module _ (faithful : Bool) (demo : Demo) (code : Code) (line : List ℕ) (calls : Calls) (shows : Shows faithful demo code line calls) where
  abbrev source : List ℕ
  source = source_of demo

  abbrev blocks : ℕ
  blocks = blocks_in demo code

  abbrev first : List Move
  first = shows.carries.on_links.holds_later.first

  -- all blocks were carried as one window
  carries : IsCarried faithful code 0 (record { first = 0; blocks = blocks_from source code.rate 0 blocks }) first
  carries =
      carried-some faithful code 0 0 (blocks_from source code.rate 0 blocks) first (omega (arith, length-blocks_in (file_block source code.rate) 0 blocks))
      (subst (λ n. AreCarried faithful code 0 0 (blocks_from source code.rate 0 n) first) shows.all shows.carries.on_links.holds_later.carries)

  made-are : calls.on_links ≡ opened demo_seed (room_for code) ∷ first
  made-are =
      let links = shows.carries.on_links in
      links.events_are ∙ ap (λ (front : List Move). front ++ links.later) links.holds_first
      ∙ ap (λ (later : List Move). opened demo_seed (room_for code) ∷ later)
      (links.holds_later.moves_are ∙ ap (λ (later : List Move). links.holds_later.first ++ later) links.holds_later.rest ∙ append-nil links.holds_later.first)

  -- the links keep the number that they were opened with, and nothing flies on them
  pub seed-left : (as_put : Bool) (old new : InFlight) → FollowMoves as_put calls.on_links old new → new.seed ≡ demo_seed
  seed-left as_put old new moved =
      seed-after as_put demo_seed (room_for code) first old new (subst (λ made. FollowMoves as_put made old new) made-are moved) carries.closed

  pub quiet-left : (as_put : Bool) (old new : InFlight) → FollowMoves as_put calls.on_links old new → new.flying ≡ []
  quiet-left as_put old new moved =
      quiet-after as_put (opened demo_seed (room_for code) ∷ carries.front) old new
      (subst (λ made. FollowMoves as_put made old new) (made-are ∙ ap (λ (later : List Move). opened demo_seed (room_for code) ∷ later) carries.ended) moved)

  -- no call on the links failed
  pub well : list_any is_fault calls.on_links ≡ false
  well = ap (list_any is_fault) made-are ∙ carries.well

  -- as many frames were put as the traffic of the blocks has
  frames : length (pairs_put calls.on_links) ≡ length (traffic_of code 0 (record { first = 0; blocks = blocks_from source code.rate 0 blocks }))
  frames = ap (λ made. length (pairs_put made)) made-are ∙ length-put carries

  -- by faithful links each sink gets the source
  pieces : faithful ≡ true → (generation place : ℕ) → generation < blocks → place < length code.net.sinks
      → received_at One code 0 (packets_given calls.on_links) generation place ≡ piece_of source code.rate generation
  pieces by_faithful generation place below within =
      let known : 0 < length code.net.patterns = none-there demo code shows.carries.made in
      ap (λ made. received_at One code 0 (packets_given made) generation place) made-are
      ∙ ap counted_bytes (carried-decoded faithful code 0 (file_block source code.rate) blocks IsOver blocks first over known by_faithful generation place below within)
      ∙ counted-block code.rate (piece_of source code.rate generation) (omega (arith, length-piece_of source code.rate generation))
    where
      over : CarriesFirst faithful code 0 (file_block source code.rate) blocks IsOver blocks first
      over = record { first = first; later = []; moves_are = sym (append-nil first); some = omega arith; carries = subst (λ n. AreCarried faithful code 0 0 (blocks_from source code.rate 0 n) first) shows.all shows.carries.on_links.holds_later.carries; rest = refl }

  total : faithful ≡ true → sum_received code (packets_given calls.on_links) blocks ≡ (length code.net.sinks * sum source) % 2 ^ 64
  total by_faithful =
      ap (λ n. n % 2 ^ 64) (sum-pieces code (packets_given calls.on_links) source code.rate blocks (pieces by_faithful)
      ∙ ap (λ bytes. length code.net.sinks * sum bytes) (concat-pieces_of source code.rate code.code.draft.some_rate))

  shown : IsShown faithful demo code line
  shown = record {
    made = shows.carries.made;
    total = sum_received code (packets_given calls.on_links) blocks;
    lines = shows.lines ∙ ap (λ frames. demo_lines demo code blocks frames (sum_received code (packets_given calls.on_links) blocks)) frames;
    whole = total;
  }

  -- what is shown is due, of this code
  pub demonstrates : Demonstrates faithful demo line calls
  demonstrates = record { code = code; shows = shows; shown = shown }
