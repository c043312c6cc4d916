-- Files that are created and appended to, one after another.
use Rattle.std.specs.Prelude.{◌++◌, ◌∷◌, [], ℕ, List, Result, Ok, Err, OnErr, OnOk}
use Rattle.std.proofs.Common.{refl}
use Rattle.lif_outside.proofs.CallLaws.{calls_of}
use Rattle.lif_outside.specs.Calls.{ByCalls}
use Rattle.lif_outside.specs.Events.{Event, append_event, append_failed, appended, created}
use Rattle.lif_outside.specs.FileCalls.{StopsWithin}
use Rattle.lif_outside.specs.Sequences.{Are}
use Rattle.lif_outside.specs.Writes.{writes_of}
use Rattle.lif_outside.specs.declared.Failed.{Failed}

module _ {S : Type 0} {calls : List Event → S → S → Type 0} (more : (first later : List Event) (a b c : S) → calls first a b → calls later b c → calls (first ++ later) a c)
    (a mid b : S) (path bytes : List ℕ) (makes : calls (created path ∷ []) a mid) where
  -- a file that was created, and its append
  pub append_if_ok : (result : Result Unit Failed) → calls (append_event path bytes result ∷ []) mid b → OnOk result (ByCalls calls a b (Are (writes_of ((path, bytes) ∷ []))))
  append_if_ok (Ok done) lead =
      calls_of (Are (writes_of ((path, bytes) ∷ []))) (created path ∷ appended path bytes ∷ []) (more (created path ∷ []) (appended path bytes ∷ []) a mid b makes lead) refl
  append_if_ok (Err why) lead = tt

  pub append_if_err : (result : Result Unit Failed) → calls (append_event path bytes result ∷ []) mid b → OnErr result (ByCalls calls a b (StopsWithin (writes_of ((path, bytes) ∷ []))))
  append_if_err (Ok done) lead = tt
  append_if_err (Err why) lead =
      calls_of (StopsWithin (writes_of ((path, bytes) ∷ []))) (created path ∷ append_failed path bytes ∷ []) (more (created path ∷ []) (append_failed path bytes ∷ []) a mid b makes lead)
      (record { front = created path ∷ []; next = appended path bytes; rest = []; these_are = refl; events_are = refl })
