-- What a store with a log shows, and how its log grows.
use Rattle.std.specs.Prelude.{◌≡◌, List, [], ◌∷◌, ◌++◌, map, Bool, true, not}
use Rattle.lif_outside.specs.Events.{Event}
use Rattle.logged_store.specs.Events.{event_of}
use Rattle.logged_store.specs.declared.logged.Logged.{Logged}

-- the store on which the calls are made
abbrev pub inner_of : {S : Type 0} → Logged S → S
inner_of store = store.inner

-- the calls in the log, with their answers
abbrev pub events_of : {S : Type 0} → Logged S → List Event
events_of store = map event_of store.log.items

-- whether no event was lost
abbrev pub is_whole : {S : Type 0} → Logged S → Bool
is_whole store = not store.lost

-- Where the log is whole, it was so before, and has grown by these events.
pub record Grows {S : Type 0} (events : List Event) (old new : Logged S) : Type 0 where
  pub whole : is_whole old ≡ true
  pub log : events_of new ≡ events_of old ++ events

-- one event was added to the log, or lost
abbrev pub KeepsEvent : {S : Type 0} → Event → Logged S → Logged S → Type 0
KeepsEvent event old new = is_whole new ≡ true → Grows (event ∷ []) old new

-- The calls were made on the other store. As long as the log is whole, it has grown by exactly these.
pub record LogsCalls {S : Type 0} (calls : List Event → S → S → Type 0) (events : List Event) (old new : Logged S) : Type 0 where
  pub made : calls events (inner_of old) (inner_of new)
  pub logged : is_whole new ≡ true → Grows events old new
