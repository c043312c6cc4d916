-- A file that is read while what comes of it is written: reads and writes in one list of calls.
use Rattle.std.specs.Prelude.{◌≡◌, ◌&&◌, ◌==◌, nat_lt, not, Bool, false, true, List, ◌∷◌, ◌++◌, filter, length}
use Rattle.std.specs.List.{list_any}
use Rattle.lif_outside.specs.Events.{Event, read, read_failed}
use Rattle.lif_outside.specs.Sequences.{IsFrontOf}

abbrev pub is_read : Event → Bool
is_read (read path at room bytes) = true
is_read (read_failed path at room) = true
is_read event = false

abbrev pub is_write : Event → Bool
is_write event = not (is_read event)

-- the reads among calls, and the writes
abbrev pub reads_in : List Event → List Event
reads_in events = filter is_read events

abbrev pub writes_in : List Event → List Event
writes_in events = filter is_write events

-- a read that had room and gave nothing: the file was at its end
abbrev pub gave_nothing : Event → Bool
gave_nothing (read path at room bytes) = nat_lt 0 room && (length bytes == 0)
gave_nothing event = false

abbrev pub have_ended : List Event → Bool
have_ended reads = list_any gave_nothing reads

-- Reads of a file, mixed with writes of what they bring. P holds of the reads, Q of the writes that are due of them and of
-- those that were made. Before each call the writes so far are the first of those that the reads so far bring.
pub record Streams (brings : List Event → List Event) (P : List Event → Type 0) (Q : List Event → List Event → Type 0) (events : List Event) : Type 0 where
  pub reads : P (reads_in events)
  pub writes : Q (brings (reads_in events)) (writes_in events)
  pub in_time : (front : List Event) (next : Event) (rest : List Event) → events ≡ front ++ next ∷ rest → IsFrontOf (brings (reads_in front)) (writes_in front)
