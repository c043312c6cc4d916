-- What a call on the store in memory accounts for, by what it did to the files and to the count of faults.
use Rattle.std.proofs.Common.{◌≡◌, ◌≤◌, ◌-◌, ◌++◌, ◌∷◌, ℕ, List, [], Some, Ok, Err, length, take, drop, min, is_some, sym, ap, ◌∙◌, inr, arith}
use Rattle.std.specs.Prelude.{unwrap_or}
use Rattle.std.proofs.lemmas.List.{length-take}
use Rattle.lif_outside.specs.declared.memory.MemStore.{MemStore}
use Rattle.lif_outside.specs.AccountLaws.{read_accounts, append_accounts}
use Rattle.lif_outside.specs.CountLaws.{one_more-rose}
use Rattle.lif_outside.specs.Counts.{one_more, KeepsCounts}
use Rattle.lif_outside.specs.Events.{read, appended, append_failed}
use Rattle.lif_outside.specs.EventLaws.{follow_once}
use Rattle.lif_outside.specs.Files.{SameFiles}
use Rattle.lif_outside.specs.Memory.{files_in, HasFile, path_faults, faults_of, calls_in, SetsFile}
use Rattle.lif_outside.specs.ToldLaws.{becomes_told}
use Rattle.lif_outside.proofs.Contents.{writes_keep}

module _ (old new : MemStore) (path : List ℕ) where
  -- no count falls where no file goes
  keeps : faults_of old ≤ faults_of new → ((other : List ℕ) → HasFile old other → HasFile new other) → KeepsCounts path_faults path_faults HasFile old new
  keeps later still = record { reads = λ other. later; writes = λ other. later; still_made = still }

  same_keep : SameFiles (files_in old) (files_in new) → (other : List ℕ) → HasFile old other → HasFile new other
  same_keep same other there = ap is_some (same other) ∙ there

  -- what came to the front of the buffer is the part of the file
  pub read_done : (at room most count : ℕ) (file buffer : List ℕ) → SameFiles (files_in old) (files_in new) → faults_of old ≤ faults_of new
      → files_in old path ≡ Some file → 1 ≤ most → count ≡ min most (min room (length file - at)) → take count buffer ≡ take count (drop at file) → count ≤ length buffer
      → calls_in (read path at room (take count buffer) ∷ []) old new
  read_done at room most count file buffer same later found some counted front fits =
      let long : length (take count buffer) ≡ count = omega (arith, length-take count buffer) in
      read_accounts _ path_faults path_faults HasFile path at room (Ok count) buffer old new
      (becomes_told (follow_once (read path at room (take count buffer)) (files_in old) (files_in new) (
        record {
          content = file;
          found = found;
          part = front ∙ ap (λ n. take n (drop at file)) (sym long);
          ended = λ none room_there. let zero : count ≡ 0 = sym long ∙ ap length none in omega arith;
        },
        same path,
      )
      (λ other apart. same other)))
      (keeps later (same_keep same)) tt

  pub append_done : (bytes : List ℕ) → SetsFile path (unwrap_or (files_in old path) [] ++ bytes) (files_in old) (files_in new) → faults_of old ≤ faults_of new → calls_in (appended path bytes ∷ []) old new
  append_done bytes set later =
      append_accounts _ path_faults path_faults HasFile path bytes (Ok tt) old new
      (becomes_told (follow_once (appended path bytes) (files_in old) (files_in new) set.holds (λ other apart. set.others other (λ e. apart (sym e)))))
      (keeps later (writes_keep path _ (files_in old) (files_in new) set)) tt

  pub append_fails : (bytes : List ℕ) (kept : ℕ) → SetsFile path (unwrap_or (files_in old path) [] ++ take kept bytes) (files_in old) (files_in new)
      → faults_of old ≤ faults_of new → faults_of new ≡ one_more (faults_of old) → calls_in (append_failed path bytes ∷ []) old new
  append_fails bytes kept set later counted =
      append_accounts _ path_faults path_faults HasFile path bytes (Err (record {})) old new
      (becomes_told (follow_once (append_failed path bytes) (files_in old) (files_in new) (inr (kept, set.holds)) (λ other apart. set.others other (λ e. apart (sym e)))))
      (keeps later (writes_keep path _ (files_in old) (files_in new) set)) (one_more-rose _ _ counted)
