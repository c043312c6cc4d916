-- A source that is read for one window of blocks at a time.
use Rattle.std.specs.Prelude.{◌≡◌, ◌<◌, ◌≤◌, ◌+◌, ◌*◌, ℕ, Bool, true, false, List, [], ◌∷◌, ◌++◌, drop, length, take}
use Rattle.generation_frame.specs.Blocks.{capacity}
use Rattle.lif_outside.specs.Events.{Event}
use Rattle.lif_outside.specs.FileCalls.{AreReadsFrom, ReadsPastLimit, ReadsToFault, ReadsWhole, bytes_read}
use Rattle.source_delivery.specs.declared.reader.SourceReader.{SourceReader}
use Rattle.source_delivery.specs.declared.streaming.StreamFault.{StreamFault}
use Rattle.source_delivery.specs.declared.streaming.StreamFault.TheVariants as stream

-- a source that is read: the path of its file, and the rate of its blocks
pub record Source : Type 0 where
  pub path : List ℕ
  pub rate : ℕ

abbrev pub source_of : SourceReader → Source
source_of reader = record { path = reader.path.now; rate = reader.rate }

-- nothing was read of it yet
pub record IsUnread (reader : SourceReader) : Type 0 where
  pub held : reader.held ≡ 0
  pub at : reader.at ≡ 0
  pub ended : reader.ended ≡ false

-- two sources have both ended
abbrev pub HaveEnded : SourceReader → SourceReader → Type 0
HaveEnded first second = (first.ended ≡ true) × (second.ended ≡ true)

-- the reads of a path so far, within a limit: to the end of its file, or not yet
abbrev pub AreReads : List ℕ → ℕ → Bool → List Event → Type 0
AreReads path limit true reads = ReadsWhole path limit (bytes_read reads) reads
AreReads path limit false reads = AreReadsFrom 0 path reads × (length (bytes_read reads) ≤ limit + 1)

-- A reader by the reads of its source so far, once so many blocks were carried: it holds what is behind them.
pub record HasRead (source : Source) (limit carried : ℕ) (reader : SourceReader) (reads : List Event) : Type 0 where
  pub are : AreReads source.path limit reader.ended reads
  pub at : reader.at ≡ length (bytes_read reads)
  pub holds : take reader.held reader.bytes.items ≡ drop (carried * capacity source.rate) (bytes_read reads)
  -- of a source that hasn't ended, all that was carried was whole
  pub whole : reader.ended ≡ false → reader.at ≡ carried * capacity source.rate + reader.held

-- a reader has its path, its rate and its room as before
pub record IsSameReader (old new : SourceReader) : Type 0 where
  pub path : new.path.now ≡ old.path.now
  pub rate : new.rate ≡ old.rate
  pub room : length new.bytes.items ≡ length old.bytes.items

-- each of these reads begins within the room that is left
abbrev pub AreWithin : SourceReader → List Event → Type 0
AreWithin reader events = (front : List Event) (next : Event) (rest : List Event) → events ≡ front ++ next ∷ rest
    → reader.held + length (bytes_read front) < length reader.bytes.items

-- more was read, whatever was before, and is held; of a source that has ended nothing is read
pub record ReadsOn (limit : ℕ) (old new : SourceReader) (events : List Event) : Type 0 where
  pub unended : old.ended ≡ true → events ≡ []
  pub within : AreWithin old events
  pub grows : new.held ≡ old.held + length (bytes_read events)
  pub on : (rate carried : ℕ) (before : List Event) → HasRead (record { path = old.path.now; rate = rate }) limit carried old before
      → HasRead (record { path = old.path.now; rate = rate }) limit carried new (before ++ events)

-- the source couldn't be read on
abbrev pub StopsReads : List ℕ → ℕ → StreamFault → List Event → Type 0
StopsReads path limit stream.Read reads = ReadsToFault path limit reads
StopsReads path limit stream.TooLong reads = ReadsPastLimit path limit reads
StopsReads path limit (stream.Sinks fault) reads = ⊥

pub record StopsReadingOn (limit : ℕ) (old : SourceReader) (why : StreamFault) (events : List Event) : Type 0 where
  pub unended : old.ended ≡ false
  pub within : AreWithin old events
  pub stops : (rate carried : ℕ) (before : List Event) → HasRead (record { path = old.path.now; rate = rate }) limit carried old before
      → StopsReads old.path.now limit why (before ++ events)
