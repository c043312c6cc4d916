-- The words on calls, at a store, a sink and links that are known by their bounds.
use Rattle.std.specs.Prelude.{◌≡◌, ℕ, Bool, List, [], ◌++◌, Option}
use Rattle.lif_outside.specs.declared.links.Flight.{Flight}
use Rattle.lif_outside.specs.declared.links.Links.{Ghosts as LinksGhosts}
use Rattle.lif_outside.specs.declared.sink.Sink.{Ghosts as SinkGhosts}
use Rattle.lif_outside.specs.declared.store.Store.{Ghosts as StoreGhosts}
use Rattle.lif_outside.specs.Counts.{KeepsCounts}
use Rattle.lif_outside.specs.Events.{Event}
use Rattle.lif_outside.specs.Files.{Files}
use Rattle.lif_outside.specs.LinksAccounts.{holding}
use Rattle.lif_outside.specs.Moves.{InFlight, Move}
use Rattle.lif_outside.specs.Puts.{Put}

-- some calls lead from one state to the other, and this holds of them
pub record ByCalls {S E : Type 0} (calls : List E → S → S → Type 0) (old new : S) (P : List E → Type 0) : Type 0 where
  pub made : List E
  pub lead : calls made old new
  pub holds : P made

-- the calls that were made on a store, of which this holds
abbrev pub MakesCalls : {S : Type 0} → StoreGhosts S → S → S → (List Event → Type 0) → Type 0
MakesCalls g old new P = ByCalls g.calls old new P

-- the puts that were made on a sink, of which this holds
abbrev pub MakesPuts : {C : Type 0} → SinkGhosts C → C → C → (List Put → Type 0) → Type 0
MakesPuts g old new P = ByCalls g.puts old new P

-- the calls that were made on links, of which this holds
abbrev pub MakesMoves : {L : Type 0} → LinksGhosts L → L → L → (List Move → Type 0) → Type 0
MakesMoves g old new P = ByCalls g.moves old new P

-- no count of a store falls, and what was made stays made
abbrev pub KeepsStore : {S : Type 0} → StoreGhosts S → S → S → Type 0
KeepsStore g old new = KeepsCounts g.read_faults g.write_faults g.made old new

-- The calls of a command on the objects that it works on, on each in order. What it says isn't among them.
pub record Calls : Type 0 where
  pub on_store : List Event
  pub on_links : List Move

-- calls on the store alone
abbrev pub store_calls : List Event → Calls
store_calls events = record { on_store = events; on_links = [] }

-- there is no call
abbrev pub MakesNone : Calls → Type 0
MakesNone calls = calls ≡ store_calls []

-- The calls on the store begin with some of which P holds, and of the calls after them Q holds.
pub record Begins (P : List Event → Type 0) (Q : Calls → Type 0) (calls : Calls) : Type 0 where
  pub first : List Event
  pub later : List Event
  pub events_are : calls.on_store ≡ first ++ later
  pub holds_first : P first
  pub holds_later : Q (record calls { on_store = later })

-- The calls that were made on a store and on links, of which this holds.
pub record MakesBoth {S L : Type 0} (g : StoreGhosts S) (k : LinksGhosts L) (store_old store_new : S) (links_old links_new : L)
    (P : Calls → Type 0) : Type 0 where
  pub calls : Calls
  pub on_store : g.calls calls.on_store store_old store_new
  pub on_links : k.moves calls.on_links links_old links_new
  pub holds : P calls

-- What a command did: its calls, and its puts, each in order.
pub record Deeds : Type 0 where
  pub calls : Calls
  pub puts : List Put

-- The objects of the outside, each known by its bound, as they were and as they are.
pub record Objects {S C L : Type 0} (g : StoreGhosts S) (h : SinkGhosts C) (k : LinksGhosts L) : Type 0 where
  pub store_old : S
  pub store_new : S
  pub say_old : C
  pub say_new : C
  pub links_old : L
  pub links_new : L

abbrev pub objects : {S C L : Type 0} (g : StoreGhosts S) (h : SinkGhosts C) (k : LinksGhosts L) → S → S → C → C → L → L → Objects g h k
objects g h k store_old store_new say_old say_new links_old links_new =
    record {
      store_old = store_old;
      store_new = store_new;
      say_old = say_old;
      say_new = say_new;
      links_old = links_old;
      links_new = links_new;
    }

-- Some calls and puts lead from the outside as it was to the outside as it is, and this holds of them.
pub record Does {S C L : Type 0} {g : StoreGhosts S} {h : SinkGhosts C} {k : LinksGhosts L} (o : Objects g h k) (P : Deeds → Type 0) : Type 0 where
  pub deeds : Deeds
  pub on_store : g.calls deeds.calls.on_store o.store_old o.store_new
  pub on_say : h.puts deeds.puts o.say_old o.say_new
  pub on_links : k.moves deeds.calls.on_links o.links_old o.links_new
  pub holds : P deeds

-- The outside at a moment: what is told of files, of what is said and of the pairs that links gave, what flies on links, whether
-- they give each frame as it was put, and the counts of faults.
pub record Outside : Type 0 where
  pub files : Option Files
  pub read_faults : List ℕ → ℕ
  pub write_faults : List ℕ → ℕ
  pub said : Option (List ℕ)
  pub say_faults : ℕ
  pub in_flight : InFlight
  pub given : Option (List Flight)
  pub faithful : Bool
  pub link_faults : ℕ

abbrev pub outside_at : {S C L : Type 0} → StoreGhosts S → SinkGhosts C → LinksGhosts L → S → C → L → Outside
outside_at g h k store say links = record {
  files = g.files store;
  read_faults = g.read_faults store;
  write_faults = g.write_faults store;
  said = h.written say;
  say_faults = h.faults say;
  in_flight = holding k.flying k.room k.opened_with k.repeats links;
  given = k.given links;
  faithful = k.faithful links;
  link_faults = k.faults links;
}

-- the outside as it was, and as it is
abbrev pub outside_before : {S C L : Type 0} {g : StoreGhosts S} {h : SinkGhosts C} {k : LinksGhosts L} → Objects g h k → Outside
outside_before {g = g} {h = h} {k = k} o = outside_at g h k o.store_old o.say_old o.links_old

abbrev pub outside_after : {S C L : Type 0} {g : StoreGhosts S} {h : SinkGhosts C} {k : LinksGhosts L} → Objects g h k → Outside
outside_after {g = g} {h = h} {k = k} o = outside_at g h k o.store_new o.say_new o.links_new
