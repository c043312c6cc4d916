-- What the program promises, with the words as the system gave them.
use Rattle.std.specs.Prelude.{◌≡◌, map, string_bytes}
use Rattle.lif_outside.specs.declared.links.Links.{Ghosts as LinksGhosts}
use Rattle.lif_outside.specs.declared.sink.Sink.{Ghosts as SinkGhosts}
use Rattle.lif_outside.specs.declared.store.Store.{Ghosts as StoreGhosts}
use Rattle.lif_outside.specs.Calls.{Objects}
use Rattle.top_base.specs.Lines.{out_of_memory_line}
use Rattle.top_base.specs.Performs.{Performs, at_once}
use Rattle.top_base.specs.declared.outcome.Outcome.{Outcome}
use Rattle.top_base.specs.declared.status.Status.{Status}
use Rattle.top_base.specs.declared.status.Status.TheVariants.{OutOfMemory}
use Rattle.lif_top.specs.Promises.{Promises, misuse}
use Rattle.system_files.specs.declared.words.Words.{Words}
use Rattle.system_files.specs.declared.words.Words.TheVariants.{Given, NoMemory, NotText}

-- there was no memory for the words
abbrev pub no_memory : Outcome
no_memory = record { status = OutOfMemory; line = out_of_memory_line }

module _ {S C L : Type 0} {g : StoreGhosts S} {h : SinkGhosts C} {k : LinksGhosts L} (o : Objects g h k) (status : Status) where
  -- an outcome comes at once: its status, and nothing is done but that its line is said
  abbrev pub EndsWith : Outcome → Type 0
  EndsWith outcome = (status ≡ outcome.status) × Performs (at_once outcome) o status

  -- The status is that of these words: of words that were given, what the top call promises; words that aren't text are
  -- misused.
  abbrev pub RunsWords : Words → Type 0
  RunsWords (Given words) = Promises (map string_bytes words.items) o status
  RunsWords NotText = EndsWith misuse
  RunsWords NoMemory = EndsWith no_memory
