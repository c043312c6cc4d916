-- What an event in a log says.
use Rattle.std.specs.Prelude.{string_bytes}
use Rattle.lif_outside.specs.Events.{Event, read, read_failed, created, create_failed, appended, append_failed}
use Rattle.logged_store.specs.declared.event.Event.{Event as Kept}
use Rattle.logged_store.specs.declared.event.Event.TheVariants.{Read, ReadFailed, Created, CreateFailed, Appended, AppendFailed}

-- the call with its answer
abbrev pub event_of : Kept → Event
event_of (Read path at room bytes) = read (string_bytes path) at room bytes.items
event_of (ReadFailed path at room) = read_failed (string_bytes path) at room
event_of (Created path) = created (string_bytes path)
event_of (CreateFailed path) = create_failed (string_bytes path)
event_of (Appended path bytes) = appended (string_bytes path) bytes.items
event_of (AppendFailed path bytes) = append_failed (string_bytes path) bytes.items
