-- What the deeds of a command account for, over the whole outside.
use Rattle.std.specs.Prelude.{◌≡◌, ℕ, true, List, Contains}
use Rattle.std.specs.List.{list_any}
use Rattle.lif_outside.specs.declared.links.Links.{Ghosts as LinksGhosts}
use Rattle.lif_outside.specs.declared.sink.Sink.{Ghosts as SinkGhosts}
use Rattle.lif_outside.specs.declared.store.Store.{Ghosts as StoreGhosts}
use Rattle.lif_outside.specs.Accounts.{StoreAccounts, SinkAccounts}
use Rattle.lif_outside.specs.Calls.{Deeds, Objects, Outside, outside_after, outside_before}
use Rattle.lif_outside.specs.Counts.{Rose}
use Rattle.lif_outside.specs.Events.{read_failed, create_failed, append_failed, Follow}
use Rattle.lif_outside.specs.LinksAccounts.{Adds, LinksAccounts, holding}
use Rattle.lif_outside.specs.Moves.{FollowMoves, flights_given, is_fault}
use Rattle.lif_outside.specs.Puts.{put_failed, Grow}
use Rattle.lif_outside.specs.Told.{Becomes}

-- Where files, bytes and the pairs given are told, they follow the calls and the puts, and what flies on links follows the calls on
-- them. Each failed one has raised its count.
pub record Accounted (deeds : Deeds) (before after : Outside) : Type 0 where
  pub files : Becomes before.files after.files (Follow deeds.calls.on_store)
  pub failed_read : (path : List ℕ) (at room : ℕ) → Contains deeds.calls.on_store (read_failed path at room) → Rose (before.read_faults path) (after.read_faults path)
  pub failed_create : (path : List ℕ) → Contains deeds.calls.on_store (create_failed path) → Rose (before.write_faults path) (after.write_faults path)
  pub failed_append : (path bytes : List ℕ) → Contains deeds.calls.on_store (append_failed path bytes) → Rose (before.write_faults path) (after.write_faults path)
  pub said : Becomes before.said after.said (Grow deeds.puts)
  pub failed_put : (bytes : List ℕ) → Contains deeds.puts (put_failed bytes) → Rose before.say_faults after.say_faults
  pub gives : Becomes before.given after.given (Adds (flights_given deeds.calls.on_links))
  pub moved : FollowMoves before.faithful deeds.calls.on_links before.in_flight after.in_flight
  pub failed_move : list_any is_fault deeds.calls.on_links ≡ true → Rose before.link_faults after.link_faults

pub Accounted-from_calls : {S C L : Type 0} {g : StoreGhosts S} {h : SinkGhosts C} {k : LinksGhosts L} (o : Objects g h k) (deeds : Deeds)
    → StoreAccounts g.files g.read_faults g.write_faults g.made deeds.calls.on_store o.store_old o.store_new → SinkAccounts h.written h.faults deeds.puts o.say_old o.say_new
    → LinksAccounts (holding k.flying k.room k.opened_with k.repeats) k.faithful k.faults k.sent k.given deeds.calls.on_links o.links_old o.links_new
    → Accounted deeds (outside_before o) (outside_after o)
Accounted-from_calls o deeds store say links = record {
  files = store.content;
  failed_read = store.failed_read;
  failed_create = store.failed_create;
  failed_append = store.failed_append;
  said = say.content;
  failed_put = say.failed;
  gives = links.gives;
  moved = links.follows;
  failed_move = links.failed;
}
