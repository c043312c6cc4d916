-- The laws of a store with a log, by those of the store on which the calls are made.
use Rattle.std.specs.Prelude.{ℕ, List, [], ◌++◌, Option}
use Rattle.std.proofs.Common.{sym, ap, ◌∙◌}
use Rattle.std.proofs.lemmas.List.{append-nil, append_assoc}
use Rattle.lif_outside.specs.AccountLaws.{accounts_within}
use Rattle.lif_outside.specs.Accounts.{StoreAccounts}
use Rattle.lif_outside.specs.Events.{Event}
use Rattle.lif_outside.specs.Files.{Files}
use Rattle.logged_store.specs.Logs.{inner_of, events_of, LogsCalls}
use Rattle.logged_store.specs.declared.logged.Logged.{Logged}

module _ {S : Type 0} (calls : List Event → S → S → Type 0) where
  -- no call
  pub logs_none : (at : Logged S) → calls [] (inner_of at) (inner_of at) → LogsCalls calls [] at at
  logs_none at none = record {
    made = none;
    logged = λ whole. record { whole = whole; log = sym (append-nil (events_of at)) };
  }

  -- calls, and then more
  pub logs_then : ((first later : List Event) (a b c : S) → calls first a b → calls later b c → calls (first ++ later) a c)
      → (first later : List Event) (a b c : Logged S) → LogsCalls calls first a b → LogsCalls calls later b c → LogsCalls calls (first ++ later) a c
  logs_then more first later a b c one other = record {
    made = more first later (inner_of a) (inner_of b) (inner_of c) one.made other.made;
    logged = λ whole.
        let after = other.logged whole in
        let before = one.logged after.whole in
        record { whole = before.whole; log = after.log ∙ ap (λ l. l ++ later) before.log ∙ append_assoc (events_of a) first later };
  }

module _ {S : Type 0} (files : S → Option Files) (read_faults write_faults : S → List ℕ → ℕ) (made : S → List ℕ → Type 0) (calls : List Event → S → S → Type 0) where
  -- what the calls account for is what they do on the other store
  pub logs_account : ((events : List Event) (old new : S) → calls events old new → StoreAccounts files read_faults write_faults made events old new)
      → (events : List Event) (old new : Logged S) → LogsCalls calls events old new
      → StoreAccounts (λ store. files (inner_of store)) (λ store. read_faults (inner_of store)) (λ store. write_faults (inner_of store)) (λ store. made (inner_of store)) events old new
  logs_account accounts events old new logs = accounts_within inner_of files read_faults write_faults made events old new (accounts events (inner_of old) (inner_of new) logs.made)
