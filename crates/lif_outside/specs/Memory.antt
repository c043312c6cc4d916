-- The store and the sink in memory, and which of their calls are listed to fail.
use Rattle.std.specs.Prelude.{◌≡◌, ◌≢◌, ◌⊎◌, ℕ, ◌==◌, ◌&&◌, Bool, true, false, List, [], ◌++◌, take, find, Option, Some, option_map, unwrap_or, IsSome, IsSomeAnd, String, Vec}
use Rattle.std.specs.BTreeMap.{BTreeMap, get_by_text}
use Rattle.std.specs.declared.alloc.Global.{Global}
use Rattle.lif_outside.specs.declared.memory.Call.{Call}
use Rattle.lif_outside.specs.declared.memory.Call.TheVariants.{Read, Create, Append}
use Rattle.lif_outside.specs.declared.memory.Fail.{Fail}
use Rattle.lif_outside.specs.declared.memory.MemStore.{MemStore}
use Rattle.lif_outside.specs.declared.memory.MemSink.{MemSink}
use Rattle.lif_outside.specs.Counts.{one_more}
use Rattle.lif_outside.specs.Accounts.{StoreAccounts, SinkAccounts}
use Rattle.lif_outside.specs.Events.{Event}
use Rattle.lif_outside.specs.Files.{Files, Holds}
use Rattle.lif_outside.specs.Puts.{Put}

-- whether two kinds of calls are one
abbrev pub is_call : Call → Call → Bool
is_call Read Read = true
is_call Create Create = true
is_call Append Append = true
is_call _ _ = false

-- where the nth call of a kind is listed to fail, how many bytes it keeps: the first entry counts
abbrev pub keep_of : List Fail → Call → ℕ → Option ℕ
keep_of fails call nth =
    option_map (λ fail. fail.keep) (find (λ fail. is_call fail.call call && (fail.nth == nth)) fails)

-- what each path holds in a map from paths to bytes
abbrev pub contents : BTreeMap (String Global) (Vec ℕ Global) → Files
contents files path = option_map (λ file. file.items) (get_by_text files path)

-- what each path holds
abbrev pub files_in : MemStore → Files
files_in store = contents store.files

-- a file is at the path
abbrev pub HasFile : MemStore → List ℕ → Type 0
HasFile store path = IsSome (files_in store path)

-- how many bytes a read gives at most
abbrev pub most_of : MemStore → ℕ
most_of store = store.most

-- the calls that are to fail
abbrev pub fails_of : MemStore → List Fail
fails_of store = store.fails.items

-- how many calls of a kind there were
abbrev pub calls_of : MemStore → Call → ℕ
calls_of store Read = store.reads
calls_of store Create = store.creates
calls_of store Append = store.appends

-- how many calls have failed: one count for all paths
abbrev pub faults_of : MemStore → ℕ
faults_of store = store.faults

-- the count of faults of a path
abbrev pub path_faults : MemStore → List ℕ → ℕ
path_faults store path = faults_of store

-- a path holds these bytes, and every other path is as before
pub record SetsFile (path bytes : List ℕ) (old new : Files) : Type 0 where
  pub holds : Holds bytes (new path)
  pub others : (other : List ℕ) → other ≢ path → new other ≡ old other

-- calls lead from one state to another where they account for it
abbrev pub calls_in : List Event → MemStore → MemStore → Type 0
calls_in events old new = StoreAccounts (λ store. Some (files_in store)) path_faults path_faults HasFile events old new

-- one call of a kind was counted, and what is listed to fail stays
pub record CountsCall (call : Call) (old new : MemStore) : Type 0 where
  pub counted : calls_of new call ≡ one_more (calls_of old call)
  pub others : (other : Call) → is_call call other ≡ false → calls_of new other ≡ calls_of old other
  pub same_fails : fails_of new ≡ fails_of old
  pub same_most : most_of new ≡ most_of old

-- the calls, what is listed to fail and the faults stay
pub record SameCalls (old new : MemStore) : Type 0 where
  pub calls : (call : Call) → calls_of new call ≡ calls_of old call
  pub same_fails : fails_of new ≡ fails_of old
  pub same_most : most_of new ≡ most_of old
  pub faults : faults_of new ≡ faults_of old

-- how the call that comes next is listed to fail
abbrev pub listing : MemStore → Call → Option ℕ
listing store call = keep_of (fails_of store) call (one_more (calls_of store call))

-- an append failed: the path is as before, or has got as many of the bytes as the call is listed to keep
abbrev pub KeepsAsListed : Option ℕ → List ℕ → List ℕ → Files → Files → Type 0
KeepsAsListed keep path bytes old new =
    (new path ≡ old path) ⊎ IsSomeAnd keep (λ n. new path ≡ Some (unwrap_or (old path) [] ++ take n bytes))

-- the bytes written to the sink
abbrev pub bytes_in : MemSink → List ℕ
bytes_in sink = sink.bytes.items

-- the calls of `put` that are to fail
abbrev pub put_fails_of : MemSink → List ℕ
put_fails_of sink = sink.fails.items

-- how many calls of `put` there were
abbrev pub puts_of : MemSink → ℕ
puts_of sink = sink.puts

-- how many calls of `put` have failed
abbrev pub put_faults_of : MemSink → ℕ
put_faults_of sink = sink.faults

-- puts lead from one state to another where they account for it
abbrev pub puts_in : List Put → MemSink → MemSink → Type 0
puts_in puts old new = SinkAccounts (λ sink. Some (bytes_in sink)) put_faults_of puts old new
