-- What calls account for: none, one, and one after another.
use Rattle.std.specs.Prelude.{◌≡◌, ◌≤◌, ◌<◌, ℕ, zero, suc, List, [], ◌∷◌, ◌++◌, Option, Result, Ok, Err, OnOk, OnErr, Contains}
use Rattle.std.proofs.Common.{refl, subst, arith, ⊎_elim}
use Rattle.std.proofs.Math.Nat.{le_refl, le_trans}
use Rattle.std.proofs.lemmas.List.Elements.{Contains-append_cases}
use Rattle.lif_outside.specs.declared.Failed.{Failed}
use Rattle.lif_outside.specs.Counts.{Rose, KeepsCounts}
use Rattle.lif_outside.specs.CountLaws.{rose_then, then_rose}
use Rattle.lif_outside.specs.Events.{Event, read_failed, created, create_failed, append_failed, read_event, create_event, append_event, Follow}
use Rattle.lif_outside.specs.EventLaws.{follow-append}
use Rattle.lif_outside.specs.Files.{Files}
use Rattle.lif_outside.specs.Puts.{Put, said, put_failed, put_event, Grow}
use Rattle.lif_outside.specs.Told.{Becomes}
use Rattle.lif_outside.specs.ToldLaws.{becomes_then, becomes_same}
use Rattle.lif_outside.specs.Accounts.{StoreAccounts, SinkAccounts}

-- nothing stands in the empty list, and one thing in a list of one
pub contains_none : {X : Type 0} (x : X) → Contains [] x → ⊥
contains_none x h = absurd (let lt : h.0 < 0 = h.1 in omega arith)

pub contains_one : {X : Type 0} (x y : X) → Contains (x ∷ []) y → x ≡ y
contains_one x y (zero, h, e) = e
contains_one x y (suc k, h, e) = absurd (let lt : suc k < 1 = h in omega arith)

module _ {S : Type 0} {read_faults write_faults : S → List ℕ → ℕ} {made : S → List ℕ → Type 0} where
  -- no call
  pub keeps_same : (at : S) → KeepsCounts read_faults write_faults made at at
  keeps_same at = record {
    reads = λ path. le_refl (read_faults at path);
    writes = λ path. le_refl (write_faults at path);
    still_made = λ path is. is;
  }

  -- calls, and then more
  pub keeps_then : {a b c : S} → KeepsCounts read_faults write_faults made a b → KeepsCounts read_faults write_faults made b c → KeepsCounts read_faults write_faults made a c
  keeps_then one other = record {
    reads = λ path. le_trans (one.reads path) (other.reads path);
    writes = λ path. le_trans (one.writes path) (other.writes path);
    still_made = λ path is. other.still_made path (one.still_made path is);
  }

module _ {S : Type 0} (files : S → Option Files) (read_faults write_faults : S → List ℕ → ℕ) (made : S → List ℕ → Type 0) where
  pub accounts_none : (at : S) → StoreAccounts files read_faults write_faults made [] at at
  accounts_none at = record {
    content = becomes_same (λ held path. refl);
    counts = keeps_same at;
    failed_read = λ path place room there. absurd (contains_none _ there);
    failed_create = λ path there. absurd (contains_none _ there);
    failed_append = λ path bytes there. absurd (contains_none _ there);
    makes = λ path there. absurd (contains_none _ there);
  }

  pub accounts_then : (first later : List Event) (a b c : S) → StoreAccounts files read_faults write_faults made first a b → StoreAccounts files read_faults write_faults made later b c
      → StoreAccounts files read_faults write_faults made (first ++ later) a c
  accounts_then first later a b c one other = record {
    content = becomes_then one.content other.content (follow-append first later);
    counts = keeps_then one.counts other.counts;
    failed_read = λ path place room there. ⊎_elim
        (λ before. rose_then _ _ _ (one.failed_read path place room before) (other.counts.reads path))
        (λ after. then_rose _ _ _ (one.counts.reads path) (other.failed_read path place room after))
        (Contains-append_cases first later _ there);
    failed_create = λ path there. ⊎_elim
        (λ before. rose_then _ _ _ (one.failed_create path before) (other.counts.writes path))
        (λ after. then_rose _ _ _ (one.counts.writes path) (other.failed_create path after))
        (Contains-append_cases first later _ there);
    failed_append = λ path bytes there. ⊎_elim
        (λ before. rose_then _ _ _ (one.failed_append path bytes before) (other.counts.writes path))
        (λ after. then_rose _ _ _ (one.counts.writes path) (other.failed_append path bytes after))
        (Contains-append_cases first later _ there);
    makes = λ path there. ⊎_elim
        (λ before. other.counts.still_made path (one.makes path before))
        (λ after. other.makes path after)
        (Contains-append_cases first later _ there);
  }

  -- one call, by its answer
  pub read_accounts : (path : List ℕ) (at room : ℕ) (result : Result ℕ Failed) (buffer : List ℕ) (old new : S)
      → Becomes (files old) (files new) (Follow (read_event path at room result buffer ∷ [])) → KeepsCounts read_faults write_faults made old new
      → OnErr result (Rose (read_faults old path) (read_faults new path))
      → StoreAccounts files read_faults write_faults made (read_event path at room result buffer ∷ []) old new
  read_accounts path at room (Ok count) buffer old new content counts rose = record {
    content = content;
    counts = counts;
    failed_read = λ other place more there. let is = contains_one _ _ there in cc;
    failed_create = λ other there. let is = contains_one _ _ there in cc;
    failed_append = λ other bytes there. let is = contains_one _ _ there in cc;
    makes = λ other there. let is = contains_one _ _ there in cc;
  }
  read_accounts path at room (Err why) buffer old new content counts rose = record {
    content = content;
    counts = counts;
    failed_read = λ other place more there.
        let is = contains_one (read_failed path at room) (read_failed other place more) there in
        let same : path ≡ other = cc in
        subst (λ p. Rose (read_faults old p) (read_faults new p)) same rose;
    failed_create = λ other there. let is = contains_one _ _ there in cc;
    failed_append = λ other bytes there. let is = contains_one _ _ there in cc;
    makes = λ other there. let is = contains_one _ _ there in cc;
  }

  pub create_accounts : (path : List ℕ) (result : Result Unit Failed) (old new : S)
      → Becomes (files old) (files new) (Follow (create_event path result ∷ [])) → KeepsCounts read_faults write_faults made old new
      → OnErr result (Rose (write_faults old path) (write_faults new path)) → OnOk result (made new path)
      → StoreAccounts files read_faults write_faults made (create_event path result ∷ []) old new
  create_accounts path (Ok done) old new content counts rose is_made = record {
    content = content;
    counts = counts;
    failed_read = λ other place more there. let is = contains_one _ _ there in cc;
    failed_create = λ other there. let is = contains_one _ _ there in cc;
    failed_append = λ other bytes there. let is = contains_one _ _ there in cc;
    makes = λ other there.
        let is = contains_one (created path) (created other) there in
        let same : path ≡ other = cc in
        subst (made new) same is_made;
  }
  create_accounts path (Err why) old new content counts rose is_made = record {
    content = content;
    counts = counts;
    failed_read = λ other place more there. let is = contains_one _ _ there in cc;
    failed_create = λ other there.
        let is = contains_one (create_failed path) (create_failed other) there in
        let same : path ≡ other = cc in
        subst (λ p. Rose (write_faults old p) (write_faults new p)) same rose;
    failed_append = λ other bytes there. let is = contains_one _ _ there in cc;
    makes = λ other there. let is = contains_one _ _ there in cc;
  }

  pub append_accounts : (path bytes : List ℕ) (result : Result Unit Failed) (old new : S)
      → Becomes (files old) (files new) (Follow (append_event path bytes result ∷ [])) → KeepsCounts read_faults write_faults made old new
      → OnErr result (Rose (write_faults old path) (write_faults new path))
      → StoreAccounts files read_faults write_faults made (append_event path bytes result ∷ []) old new
  append_accounts path bytes (Ok done) old new content counts rose = record {
    content = content;
    counts = counts;
    failed_read = λ other place more there. let is = contains_one _ _ there in cc;
    failed_create = λ other there. let is = contains_one _ _ there in cc;
    failed_append = λ other more there. let is = contains_one _ _ there in cc;
    makes = λ other there. let is = contains_one _ _ there in cc;
  }
  append_accounts path bytes (Err why) old new content counts rose = record {
    content = content;
    counts = counts;
    failed_read = λ other place more there. let is = contains_one _ _ there in cc;
    failed_create = λ other there. let is = contains_one _ _ there in cc;
    failed_append = λ other more there.
        let is = contains_one (append_failed path bytes) (append_failed other more) there in
        let same : path ≡ other = cc in
        subst (λ p. Rose (write_faults old p) (write_faults new p)) same rose;
    makes = λ other there. let is = contains_one _ _ there in cc;
  }

-- puts, and then more puts
grow-append : (first later : List Put) (a b c : List ℕ) → Grow first a b → Grow later b c → Grow (first ++ later) a c
grow-append [] later a b c e h = subst (λ bytes. Grow later bytes c) e h
grow-append (said bytes ∷ first) later a b c g h = grow-append first later (a ++ bytes) b c g h
grow-append (put_failed bytes ∷ first) later a b c g h = (g.0, grow-append first later _ b c g.1 h)

module _ {C : Type 0} (written : C → Option (List ℕ)) (faults : C → ℕ) where
  pub puts_none : (at : C) → SinkAccounts written faults [] at at
  puts_none at = record {
    content = becomes_same (λ held. refl);
    count = le_refl (faults at);
    failed = λ bytes there. absurd (contains_none _ there);
  }

  pub puts_then : (first later : List Put) (a b c : C) → SinkAccounts written faults first a b → SinkAccounts written faults later b c → SinkAccounts written faults (first ++ later) a c
  puts_then first later a b c one other = record {
    content = becomes_then one.content other.content (grow-append first later);
    count = le_trans one.count other.count;
    failed = λ bytes there. ⊎_elim
        (λ before. rose_then _ _ _ (one.failed bytes before) other.count)
        (λ after. then_rose _ _ _ one.count (other.failed bytes after))
        (Contains-append_cases first later _ there);
  }

  -- one put, by its answer
  pub put_accounts : (bytes : List ℕ) (result : Result Unit Failed) (old new : C) → Becomes (written old) (written new) (Grow (put_event bytes result ∷ []))
      → faults old ≤ faults new → OnErr result (Rose (faults old) (faults new)) → SinkAccounts written faults (put_event bytes result ∷ []) old new
  put_accounts bytes (Ok done) old new content count rose = record {
    content = content;
    count = count;
    failed = λ other there. let is = contains_one _ _ there in cc;
  }
  put_accounts bytes (Err why) old new content count rose = record { content = content; count = count; failed = λ other there. rose }

-- what calls on an object within another account for, said of the outer one
module _ {S T : Type 0} (inner : T → S) where
  pub accounts_within : (files : S → Option Files) (read_faults write_faults : S → List ℕ → ℕ) (made : S → List ℕ → Type 0) (events : List Event) (old new : T)
      → StoreAccounts files read_faults write_faults made events (inner old) (inner new)
      → StoreAccounts (λ at. files (inner at)) (λ at. read_faults (inner at)) (λ at. write_faults (inner at)) (λ at. made (inner at)) events old new
  accounts_within files read_faults write_faults made events old new is = record {
    content = is.content;
    counts = record { reads = is.counts.reads; writes = is.counts.writes; still_made = is.counts.still_made };
    failed_read = is.failed_read;
    failed_create = is.failed_create;
    failed_append = is.failed_append;
    makes = is.makes;
  }

  pub puts_within : (written : S → Option (List ℕ)) (faults : S → ℕ) (puts : List Put) (old new : T) → SinkAccounts written faults puts (inner old) (inner new)
      → SinkAccounts (λ at. written (inner at)) (λ at. faults (inner at)) puts old new
  puts_within written faults puts old new is = record { content = is.content; count = is.count; failed = is.failed }
