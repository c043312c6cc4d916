-- A sink at work: what it has of a code, what came to it, and what it decodes.
use Rattle.std.specs.Prelude.{◌≡◌, ◌<◌, ◌≤◌, ◌+◌, ◌-◌, ◌*◌, ◌==◌, ◌&&◌, ◌||◌, ℕ, Bool, true, false, nat_le, nat_lt, not, List, [], All, length, map, position, slice_get, slice_index_or}
use Rattle.std.specs.List.{concat, list_all, range_with_len}
use Rattle.std.specs.Option.{option_map_or, unwrap_or}
use Rattle.gf_tables.specs.declared.kind.FieldKind.{FieldKind}
use Rattle.linear_algebra.specs.Elements.{bytes_of_row}
use Rattle.linear_algebra.specs.Matrices.{matrix_times}
use Rattle.linear_algebra.specs.Rows.{AreElements}
use Rattle.net_model.specs.Demands.{pattern_of_demand}
use Rattle.net_model.specs.Lists.{is_rising}
use Rattle.generation_frame.specs.Blocks.{most_blocks, most_rows, pieces}
use Rattle.held_rows.specs.Held.{Held, is_held, payload_of, row_count}
use Rattle.held_rows.specs.Held as rows
use Rattle.node_program.specs.CodeValue.{is_live_in}
use Rattle.node_program.specs.declared.code.Code.{Code}
use Rattle.coded_traffic.specs.CodeBlocks.{IsBlockOf, row_width}
use Rattle.coded_traffic.specs.Traffic.{Window, block_at, payload_in}
use Rattle.sink_decoder.specs.Sums.{values_held}

-- what a sink has of a code: its decoder, and which of the decoder's links are live
pub record SinkPlan : Type 0 where
  pub field : FieldKind
  pub rate : ℕ
  pub links : List ℕ
  pub live : List Bool
  pub entries : List ℕ

-- the links and the entries of a demand's decoder
abbrev pub links_of : Code → ℕ → List ℕ
links_of code demand = option_map_or (λ decoder. decoder.links) (slice_get code.decoders demand) []

abbrev pub entries_of : Code → ℕ → List ℕ
entries_of code demand = option_map_or (λ decoder. decoder.entries) (slice_get code.decoders demand) []

-- the plan of a demand's sink
abbrev pub sink_plan_of : Code → ℕ → SinkPlan
sink_plan_of code demand =
    record {
      field = code.field;
      rate = code.rate;
      links = links_of code demand;
      live = map (is_live_in code (pattern_of_demand code.net demand)) (links_of code demand);
      entries = entries_of code demand;
    }

-- a sink at work: its plan, the generations that it takes in, and what came of each
pub record Receiver : Type 0 where
  pub plan : SinkPlan
  pub first : ℕ
  pub count : ℕ
  pub came : List Held

-- the sink of these parts
abbrev pub receiver_of : FieldKind → ℕ → List ℕ → List Bool → List ℕ → ℕ → ℕ → List Held → Receiver
receiver_of field rate links live entries first count came =
    record {
      plan = record { field = field; rate = rate; links = links; live = live; entries = entries };
      first = first;
      count = count;
      came = came;
    }

-- as many links as the rate, rising, of each whether it is live, a square matrix of elements, and rows for the links in
-- each generation of a window
pub record IsReceiver (receiver : Receiver) : Type 0 where
  pub low_rate : receiver.plan.rate ≤ most_rows
  pub link_count : length receiver.plan.links ≡ receiver.plan.rate
  pub rising : is_rising receiver.plan.links ≡ true
  pub live_count : length receiver.plan.live ≡ receiver.plan.rate
  pub entry_count : length receiver.plan.entries ≡ receiver.plan.rate * receiver.plan.rate
  pub elements : AreElements receiver.plan.field receiver.plan.entries
  pub few_generations : receiver.count ≤ most_blocks
  pub windows : length receiver.came ≡ most_blocks
  pub rows : All (λ held. row_count held ≡ receiver.plan.rate) receiver.came

-- a generation was begun
pub record IsBegun (receiver : Receiver) (generation : ℕ) : Type 0 where
  pub from_first : receiver.first ≤ generation
  pub to_last : generation < receiver.first + receiver.count

-- whether it was
abbrev pub is_begun : Receiver → ℕ → Bool
is_begun receiver generation = nat_le receiver.first generation && nat_lt (generation - receiver.first) receiver.count

-- what came of a generation
abbrev pub came_of : Receiver → ℕ → Held
came_of receiver generation =
    slice_index_or receiver.came (generation - receiver.first) (record { payloads = []; marks = [] })

-- the place of a link among the decoder's, or their number
abbrev pub place_of : SinkPlan → ℕ → ℕ
place_of plan link = unwrap_or (position (λ one. one == link) plan.links) (length plan.links)

-- whether a link of the decoder, by its place, is live
abbrev pub is_live_at : SinkPlan → ℕ → Bool
is_live_at plan place = slice_index_or plan.live place false

-- whether the sink takes what a link gives it: the link is live, and one of its decoder's
abbrev pub wants : SinkPlan → ℕ → Bool
wants plan link = is_live_at plan (place_of plan link)

-- a piece of a link has come, and its bytes
abbrev pub has_piece : Receiver → ℕ → ℕ → ℕ → Bool
has_piece receiver generation link piece = is_held (came_of receiver generation) (place_of receiver.plan link) piece

abbrev pub payload_at : Receiver → ℕ → ℕ → ℕ → List ℕ
payload_at receiver generation link piece = payload_of (came_of receiver generation) (place_of receiver.plan link) piece

-- nothing came of any generation begun
abbrev pub HasNothing : Receiver → Type 0
HasNothing receiver =
    (generation link piece : ℕ) → IsBegun receiver generation → has_piece receiver generation link piece ≡ false

-- a piece of a link came, with its bytes; all else that came stays
pub record Gains (generation link piece : ℕ) (payload : List ℕ) (old new : Receiver) : Type 0 where
  pub same_plan : new.plan ≡ old.plan
  pub same_first : new.first ≡ old.first
  pub same_count : new.count ≡ old.count
  pub came : has_piece new generation link piece ≡ true
  pub bytes : payload_at new generation link piece ≡ payload
  pub others : (g l p : ℕ) → IsBegun old g → wants old.plan l ≡ true → p < pieces
      → ((g ≡ generation) × (l ≡ link) × (p ≡ piece) → ⊥)
      → (has_piece new g l p ≡ has_piece old g l p) × (payload_at new g l p ≡ payload_at old g l p)

-- all pieces of all wanted links have come
abbrev pub is_whole : Receiver → ℕ → Bool
is_whole receiver generation =
    list_all (λ place. not (is_live_at receiver.plan place) || rows.is_whole (came_of receiver generation) place)
    (range_with_len 0 (length receiver.plan.links))

-- the block that is decoded: the decoder's matrix times what came, zeros where a link isn't live
abbrev pub decoded : Receiver → ℕ → List ℕ
decoded receiver generation =
    let plan = receiver.plan in
    concat (map (bytes_of_row plan.field)
    (matrix_times plan.field (row_width plan.field) plan.rate plan.entries
    (values_held plan.field plan.live (came_of receiver generation))))

-- a sink of a code that takes in a window of blocks, and to which nothing came but the traffic of those
pub record TakesTraffic (code : Code) (demand : ℕ) (window : Window) (receiver : Receiver) : Type 0 where
  pub plan : receiver.plan ≡ sink_plan_of code demand
  pub first : receiver.first ≡ window.first
  pub count : receiver.count ≡ length window.blocks
  pub blocks : (generation : ℕ) → IsBegun receiver generation → IsBlockOf code (block_at window generation)
  pub came : (generation link piece : ℕ) → IsBegun receiver generation → wants receiver.plan link ≡ true → piece < pieces
      → has_piece receiver generation link piece ≡ true
      → payload_at receiver generation link piece
      ≡ payload_in code (pattern_of_demand code.net demand) (block_at window generation) piece link
