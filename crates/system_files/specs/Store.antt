-- What a store over the files of a system shows.
use Rattle.std.specs.Prelude.{ℕ, List, Option, None}
use Rattle.lif_outside.specs.Accounts.{StoreAccounts}
use Rattle.lif_outside.specs.Events.{Event}
use Rattle.lif_outside.specs.Files.{Files}
use Rattle.system_files.specs.declared.store.FileStore.{FileStore}
use Rattle.system_files.specs.declared.kept.KeptFiles.{KeptFiles}
use Rattle.system_files.specs.Open.{sources_of, sinks_of}

module _ {R F D : Type 0} where
  -- the files that are open for reads
  abbrev pub sources_in : FileStore R F D → KeptFiles F
  sources_in store = sources_of store.open_files

  -- the files that are open for appends
  abbrev pub sinks_in : FileStore R F D → KeptFiles F
  sinks_in store = sinks_of store.open_files

  -- how often a read has failed
  abbrev pub read_faults_of : FileStore R F D → ℕ
  read_faults_of store = store.read_faults

  -- how often a create or an append has failed
  abbrev pub write_faults_of : FileStore R F D → ℕ
  write_faults_of store = store.write_faults

  -- the counts of a path: all paths have one
  abbrev pub path_read_faults : FileStore R F D → List ℕ → ℕ
  path_read_faults store path = read_faults_of store

  abbrev pub path_write_faults : FileStore R F D → List ℕ → ℕ
  path_write_faults store path = write_faults_of store

  -- any path may be appended to: where no file is, that is a fault
  abbrev pub any_path : FileStore R F D → List ℕ → Type 0
  any_path store path = Unit {0}

  -- it tells nothing of the files
  abbrev pub no_files : FileStore R F D → Option Files
  no_files store = None

  -- calls lead from one state to another where the counts account for them
  abbrev pub calls_on_files : List Event → FileStore R F D → FileStore R F D → Type 0
  calls_on_files events old new = StoreAccounts no_files path_read_faults path_write_faults any_path events old new
