-- A source that is read on: what it holds, how many of its blocks are whole, and which blocks those that it holds are.
use Rattle.std.specs.Prelude.{◌≡◌, ◌<◌, ◌≤◌, ◌+◌, ◌-◌, ◌*◌, ◌/◌, ◌∷◌, ℕ, Bool, true, false, not, cond, List, [], ◌++◌, drop, length, take}
use Rattle.std.specs.List.{AllByRecursion}
use Rattle.std.proofs.Common.{refl, sym, ap, ◌∙◌, subst, arith}
use Rattle.std.proofs.Math.Nat.{add-mul, add-mul-div_right}
use Rattle.std.proofs.lemmas.List.{drop-append-le, drop-drop, length-drop, length-take-le, take-append-le}
use Rattle.std.proofs.lemmas.Nat.{le-div}
use Rattle.command_steps.proofs.FeedingLaws.{unended}
use Rattle.generation_frame.specs.Blocks.{block_count, block_of, capacity}
use Rattle.item_list.proofs.Tests.{AllByRecursion-append}
use Rattle.lif_outside.proofs.SequenceLaws.{all_split}
use Rattle.lif_outside.proofs.StreamLaws.{whole_ended}
use Rattle.lif_outside.specs.Events.{Event, read}
use Rattle.lif_outside.specs.FileCalls.{AreReadsFrom, bytes_read}
use Rattle.lif_outside.specs.Streams.{have_ended, is_read, reads_in, writes_in}
use Rattle.source_delivery.specs.Carried.{file_block}
use Rattle.source_delivery.specs.Reading.{AreReads, HasRead, Source, StopsReads}
use Rattle.source_delivery.specs.declared.reader.SourceReader.{SourceReader}
use Rattle.source_delivery.specs.declared.streaming.StreamFault.{StreamFault}
use Rattle.source_delivery.specs.declared.streaming.StreamFault.TheVariants as stream

-- ---- calls that all read

abbrev pub AllRead : List Event → Type 0
AllRead events = AllByRecursion (λ event. is_read event ≡ true) events

pub reads-all : (events : List Event) → AllRead events → reads_in events ≡ events
reads-all [] all = refl
reads-all (event ∷ events) all =
    ap (λ test. cond test (event ∷ reads_in events) (reads_in events)) all.0 ∙ ap (λ rest. event ∷ rest) (reads-all events all.1)

pub writes-none : (events : List Event) → AllRead events → writes_in events ≡ []
writes-none [] all = refl
writes-none (event ∷ events) all =
    ap (λ test. cond (not test) (event ∷ writes_in events) (writes_in events)) all.0 ∙ writes-none events all.1

from-all : (at : ℕ) (path : List ℕ) (events : List Event) → AreReadsFrom at path events → AllRead events
from-all at path [] are = tt
from-all at path (read other place room bytes ∷ events) are = (refl, from-all (at + length bytes) path events are.3)
from-all at path (event ∷ events) are = absurd are

last-all : (path : List ℕ) (front events : List Event) (event : Event) → AreReadsFrom 0 path front → is_read event ≡ true → events ≡ front ++ event ∷ [] → AllRead events
last-all path front events event are reads is =
    subst AllRead (sym is) (AllByRecursion-append (λ event. is_read event ≡ true) front (event ∷ []) (from-all 0 path front are) (reads, tt))

pub reads-are : (path : List ℕ) (limit : ℕ) (ended : Bool) (events : List Event) → AreReads path limit ended events → AllRead events
reads-are path limit true events are = last-all path are.front events _ are.reads refl are.ended
reads-are path limit false events are = from-all 0 path events are.0

pub stops-are : (path : List ℕ) (limit : ℕ) (why : StreamFault) (events : List Event) → StopsReads path limit why events → AllRead events
stops-are path limit stream.Read events are = last-all path are.front events _ are.reads refl are.failed
stops-are path limit stream.TooLong events are = from-all 0 path events are.reads
stops-are path limit (stream.Sinks fault) events are = absurd are

pub all-behind : (front later : List Event) → AllRead (front ++ later) → AllRead later
all-behind front later all = (all_split (λ event. is_read event ≡ true) front later all).1

-- whether a source has ended
pub ended-by : (path : List ℕ) (limit : ℕ) (ended : Bool) (events : List Event) → AreReads path limit ended events → have_ended events ≡ ended
ended-by path limit true events are = whole_ended path limit (bytes_read events) events are
ended-by path limit false events are = unended 0 path events are.0

-- ---- the blocks of a source

-- a whole block doesn't change by what follows
pub block-front : (file more : List ℕ) (rate generation : ℕ) → (generation + 1) * capacity rate ≤ length file
    → file_block (file ++ more) rate generation ≡ file_block file rate generation
block-front file more rate generation whole =
    let size = capacity rate in
    let next : (generation + 1) * size ≡ generation * size + 1 * size = add-mul generation 1 size in
    let start : generation * size ≤ length file = omega (arith, next, whole) in
    let room : size ≤ length (drop (generation * size) file) = omega (arith, next, whole, length-drop (generation * size) file) in
    ap (λ behind. block_of rate (take size behind)) (drop-append-le (generation * size) file more start)
    ∙ ap (block_of rate) (take-append-le size (drop (generation * size) file) more room)

-- the blocks behind some of a file are those of what is behind them
pub block-behind : (file : List ℕ) (rate before generation : ℕ)
    → file_block (drop (before * capacity rate) file) rate generation ≡ file_block file rate (before + generation)
block-behind file rate before generation =
    let size = capacity rate in
    ap (λ behind. block_of rate (take size behind))
    (drop-drop (generation * size) (before * size) file ∙ ap (λ n. drop n file) (sym (add-mul before generation size)))

-- ---- a reader

module _ (source : Source) (limit carried : ℕ) (reader : SourceReader) (reads : List Event) (is : HasRead source limit carried reader reads) (some_rate : 1 ≤ source.rate) where
  abbrev size : ℕ
  size = capacity source.rate

  abbrev file : List ℕ
  file = bytes_read reads

  -- how many bytes it holds
  pub held-count : reader.held ≡ length file - carried * size
  held-count =
      sym (length-take-le reader.held reader.bytes.items (omega (arith, reader.held_there, reader.bytes.ok.0))) ∙ ap length is.holds ∙ length-drop (carried * size) file

  -- of a source that hasn't ended, what was carried is whole
  pub carried-whole : reader.ended ≡ false → carried * size ≤ length file
  carried-whole unended = omega (arith, is.at, is.whole unended)

  pub carried-brought : reader.ended ≡ false → carried ≤ length file / size
  carried-brought unended = le-div carried (length file) size (omega (arith, some_rate)) (carried-whole unended)

  -- and once a window is full, so many blocks more
  pub full-count : (window : ℕ) → reader.ended ≡ false → reader.held ≡ window * size → length file / size ≡ carried + window
  full-count window unended full =
      let sum : (carried + window) * size ≡ carried * size + window * size = add-mul carried window size in
      let all : length file ≡ 0 + (carried + window) * size = omega (arith, is.at, is.whole unended, full, sum) in
      let some : 0 < size = omega (arith, some_rate) in
      ap (λ n. n / size) all ∙ add-mul-div_right 0 (carried + window) some ∙ zeros (carried + window)
    where
      zeros : (n : ℕ) → 0 / size + n ≡ n
      zeros n = omega (arith, some_rate)

  -- of a source that ended only now, the blocks that are held are the last
  pub last-count : carried * size ≤ length file → block_count file source.rate ≡ carried + reader.held / size + 1
  last-count whole =
      let all : length file ≡ reader.held + carried * size = omega (arith, held-count, whole) in
      let some : 0 < size = omega (arith, some_rate) in
      let count : length file / size ≡ reader.held / size + carried = ap (λ n. n / size) all ∙ add-mul-div_right reader.held carried some in
      omega (arith, count)
