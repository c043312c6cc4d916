-- What the program over a system promises.
use Rattle.std.specs.Prelude.{◌≡◌, ℕ, List, []}
use Rattle.lif_outside.specs.declared.links.Links.{Ghosts as LinksGhosts}
use Rattle.lif_outside.specs.declared.sink.Sink.{Ghosts as SinkGhosts}
use Rattle.lif_outside.specs.declared.store.Store.{Ghosts as StoreGhosts}
use Rattle.lif_outside.specs.Calls.{Objects}
use Rattle.system_files.specs.declared.words.Words.{Words}
use Rattle.top_base.specs.Codes.{code_of}
use Rattle.top_base.specs.declared.status.Status.{Status}
use Rattle.lif_top.specs.Run.{RunsWords}

-- A run of these words over objects that were new, which had no fault and on which nothing flew, ended with a number.
pub record Launches {S C L : Type 0} {g : StoreGhosts S} {h : SinkGhosts C} {k : LinksGhosts L} (o : Objects g h k) (words : Words) (number : ℕ) : Type 0 where
  pub status : Status
  pub ends : number ≡ code_of status
  pub read_faults : (path : List ℕ) → g.read_faults o.store_old path ≡ 0
  pub write_faults : (path : List ℕ) → g.write_faults o.store_old path ≡ 0
  pub say_faults : h.faults o.say_old ≡ 0
  pub flying : k.flying o.links_old ≡ []
  pub runs : RunsWords o status words
