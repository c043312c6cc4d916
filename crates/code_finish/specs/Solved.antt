-- What stands of the sinks of a draft while their decoders are found.
use Rattle.std.specs.Prelude.{◌≡◌, ◌<◌, ◌*◌, ◌∷◌, ℕ, IsTrue, List, [], Option, Some, filter, get_or, length, map, reverse, slice_get, take}
use Rattle.std.specs.List.{range_with_len}
use Rattle.code_file.specs.declared.draft.Draft.{Draft}
use Rattle.code_finish.specs.declared.solving.Confusion.{Confusion}
use Rattle.code_finish.specs.declared.solving.Solved.{Solved}
use Rattle.code_finish.specs.declared.solving.Solved.TheVariants.{Found, Hidden}
use Rattle.code_finish.specs.Taken.{coefficients_of, raising}
use Rattle.failure_patterns.specs.First as words
use Rattle.failure_patterns.specs.First.{AreClear, AreGoodBefore, FailsFirstIn}
use Rattle.gf_tables.specs.declared.kind.FieldKind.{FieldKind}
use Rattle.linear_algebra.specs.Matrices.{identity, rows_of, times_rows}
use Rattle.linear_algebra.specs.Rows.{AreElements, IsRow, unit_row, zero_row}
use Rattle.link_rows.specs.Vectors.{AreVectorRows}
use Rattle.net_model.specs.Demands.{demand_count, pattern_of_demand, sink_of_demand}
use Rattle.net_model.specs.Failed.{failed_links}
use Rattle.net_model.specs.declared.net.Net.{Net}
use Rattle.node_program.specs.Code.{leads_into}
use Rattle.node_program.specs.Decoding.{Decodes}
use Rattle.node_program.specs.Value.{global_vector, value}
use Rattle.node_program.specs.declared.Decoder.{Decoder}
use Rattle.row_spans.specs.Spans.{IsSum}

-- the links into a node, in rising order
abbrev pub ins_to : Net → ℕ → List ℕ
ins_to net node = filter (leads_into net.links node) (range_with_len 0 (length net.links))

-- the vectors of links under a pattern
abbrev pub vectors_under : Draft → ℕ → ℕ → List ℕ
vectors_under draft pattern = global_vector draft.net draft.field draft.operands (failed_links draft.net.patterns pattern) draft.rate

-- the links of a sink's decoder: those into the sink whose vector isn't a sum of multiples of the vectors of earlier ones
abbrev pub chosen : Draft → ℕ → List ℕ
chosen draft demand =
    raising draft.field draft.rate (vectors_under draft (pattern_of_demand draft.net demand)) (reverse (ins_to draft.net (sink_of_demand draft.net demand)))

-- a demand decodes
abbrev pub DecodesIn : Draft → ℕ → Type 0
DecodesIn draft demand = Decodes draft.net draft.rate draft.field draft.operands demand

-- a row of elements, not all zero, that all links into a demand's sink carry as zero
pub record IsConfused (draft : Draft) (demand : ℕ) (block : List ℕ) : Type 0 where
  pub elements : IsRow draft.field draft.rate block
  pub nonzero : ¬ (block ≡ zero_row draft.rate)
  pub zeros : (link : ℕ) → IsTrue (leads_into draft.net.links (sink_of_demand draft.net demand) link)
      → value draft.net draft.field draft.operands (failed_links draft.net.patterns (pattern_of_demand draft.net demand)) (map (λ x. x ∷ []) block) link ≡ 0 ∷ []

-- the coefficients of rows that add up to the unit vectors, row by row
abbrev pub AreUnitSums : FieldKind → ℕ → List (List ℕ) → List (List ℕ) → Type 0
AreUnitSums field rate rows matrix =
    (k : ℕ) → k < length matrix
    → (row : List ℕ) × IsSum field 64 rows row × (take rate row ≡ unit_row rate k) × (get_or matrix k [] ≡ coefficients_of rate row)

-- the decoder of a demand: its links, and a matrix that makes the unit vectors of theirs
pub record IsDecoderOf (draft : Draft) (demand : ℕ) (decoder : Decoder) : Type 0 where
  pub links : decoder.links ≡ chosen draft demand
  pub full : length decoder.links ≡ draft.rate
  pub count : length decoder.entries ≡ draft.rate * draft.rate
  pub elements : AreElements draft.field decoder.entries
  pub identity : times_rows draft.field draft.rate (rows_of draft.rate draft.rate decoder.entries) (map (vectors_under draft (pattern_of_demand draft.net demand)) decoder.links) ≡ identity draft.rate

-- the decoder of a demand stands at its number
abbrev pub HasDecoder : Draft → List Decoder → ℕ → Type 0
HasDecoder draft decoders demand = (decoder : Decoder) × (slice_get decoders demand ≡ Some decoder) × IsDecoderOf draft demand decoder

-- those of the demands whose pattern is before one, and those of a pattern, with the sinks from one on and before another
abbrev pub AreSolved : Draft → ℕ → List Decoder → Type 0
AreSolved draft pattern decoders = AreGoodBefore draft.net (HasDecoder draft decoders) 0 (demand_count draft.net) pattern

abbrev pub AreSolvedAt : Draft → ℕ → ℕ → ℕ → List Decoder → Type 0
AreSolvedAt draft pattern begin end decoders = AreClear draft.net (HasDecoder draft decoders) pattern begin end

-- what comes of a demand
abbrev pub IsSolved : Draft → ℕ → Solved → Type 0
IsSolved draft demand (Found decoder) = IsDecoderOf draft demand decoder
IsSolved draft demand (Hidden block) = IsConfused draft demand block

-- the rows of the links are their vectors under a pattern
abbrev pub AreVectorsUnder : Draft → ℕ → List (List ℕ) → Type 0
AreVectorsUnder draft pattern rows =
    AreVectorRows draft.net draft.field draft.operands (failed_links draft.net.patterns pattern) draft.rate (length draft.net.links) rows

-- ---- the first demand that doesn't decode

-- a demand that doesn't decode is shown by its block
abbrev pub Shows : Draft → Confusion → Type 0
Shows draft confusion = IsConfused draft confusion.demand confusion.block

-- it is the first of all
abbrev pub IsFirstShown : Draft → Confusion → Type 0
IsFirstShown draft confusion = FailsFirstIn (DecodesIn draft) 0 (demand_count draft.net) confusion.demand (Shows draft confusion)

-- the first of those whose pattern is before one, and of those with a pattern and some sinks
abbrev pub IsFirstBefore : Draft → ℕ → Option Confusion → Type 0
IsFirstBefore draft pattern first = words.IsFirstBefore draft.net (DecodesIn draft) (λ one. one.demand) (Shows draft) 0 (demand_count draft.net) pattern first

abbrev pub IsFirstOf : Draft → ℕ → ℕ → ℕ → Option Confusion → Type 0
IsFirstOf draft pattern begin end first = words.IsFirstOf draft.net (DecodesIn draft) (λ one. one.demand) (Shows draft) pattern begin end first
