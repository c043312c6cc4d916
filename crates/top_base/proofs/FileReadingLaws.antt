-- Reads of a file, one after another.
use Rattle.std.proofs.Common.{◌≡◌, ◌≤◌, ◌<◌, ◌+◌, ◌++◌, ◌∷◌, ℕ, List, [], Ok, Err, true, false, length, sym, ap, subst, ◌∙◌, arith}
use Rattle.std.proofs.lemmas.List.{append-nil, length-append}
use Rattle.lif_outside.specs.Events.{Event, read, read_failed}
use Rattle.lif_outside.specs.FileCalls.{AreReadsFrom, bytes_read, ReadsWhole}
use Rattle.lif_outside.proofs.FileCallLaws.{reads_more, bytes_read-append}
use Rattle.top_base.specs.FileReading.{ReadsMore, StopsReading}
use Rattle.top_base.specs.declared.reading.FileRefusal.{FileRefusal}
use Rattle.top_base.specs.declared.reading.FileRefusal.TheVariants as refused

-- reads from the start that gave these bytes
abbrev pub Gave : List ℕ → List ℕ → List Event → Type 0
Gave path bytes calls = AreReadsFrom 0 path calls × (bytes_read calls ≡ bytes)

-- one read more, at the end of what was read
one_more_read : (path bytes : List ℕ) (front : List Event) (room : ℕ) (came : List ℕ) → Gave path bytes front → 0 < length came
    → Gave path (bytes ++ came) (front ++ read path (length bytes) room came ∷ [])
one_more_read path bytes front room came gave some = (
  subst (λ n. AreReadsFrom 0 path (front ++ read path n room came ∷ [])) (ap length gave.1) (subst (λ n. AreReadsFrom 0 path (front ++ read path n room came ∷ [])) (omega arith) (reads_more 0 path front room came gave.0 some)),
  bytes_read-append front (read path (length bytes) room came ∷ []) ∙ ap (λ more. bytes_read front ++ more) (append-nil came) ∙ ap (λ first. first ++ came) gave.1,
)

-- reads, and one more that gave something
pub gave_more : (path : List ℕ) (limit : ℕ) (old new : List ℕ) (front later : List Event) → Gave path old front → ReadsMore path limit old new (Ok true) later → Gave path new (front ++ later)
gave_more path limit old new front later gave (room, came, is, some, now) =
    subst (λ bytes. Gave path bytes (front ++ later)) (sym now) (subst (λ calls. Gave path (old ++ came) (front ++ calls)) (sym is) (one_more_read path old front room came gave some))

-- reads, and one that gave nothing
pub gave_all : (path : List ℕ) (limit : ℕ) (old new : List ℕ) (front later : List Event) → length old ≤ limit → Gave path old front → ReadsMore path limit old new (Ok false) later → ReadsWhole path limit new (front ++ later)
gave_all path limit old new front later short gave (room, some_room, is, now) =
    record {
      front = front;
      reads = gave.0;
      gave = gave.1 ∙ sym now;
      room = room;
      some_room = some_room;
      ended = ap (λ calls. front ++ calls) is ∙ ap (λ bytes. front ++ read path (length bytes) room [] ∷ []) (sym now);
      short = subst (λ bytes. length bytes ≤ limit) (sym now) short;
    }

-- reads, and one at which the reading stopped
pub stops_more : (path : List ℕ) (limit : ℕ) (refusal : FileRefusal) (old new : List ℕ) (front later : List Event) → length old ≤ limit → Gave path old front
    → ReadsMore path limit old new (Err refusal) later → StopsReading path limit refusal (front ++ later)
stops_more path limit refused.Fault old new front later short gave (room, is) =
    record {
      front = front;
      reads = gave.0;
      room = room;
      failed = ap (λ calls. front ++ calls) is ∙ ap (λ bytes. front ++ read_failed path (length bytes) room ∷ []) (sym gave.1);
      short = subst (λ bytes. length bytes ≤ limit) (sym gave.1) short;
    }
stops_more path limit refused.TooLong old new front later short gave more = absurd more
stops_more path limit refused.OutOfMemory old new front later short gave (room, came, is, some, fits) =
    let all : Gave path (old ++ came) (front ++ later) = subst (λ calls. Gave path (old ++ came) (front ++ calls)) (sym is) (one_more_read path old front room came gave some) in
    record {
      reads = all.0;
      some = subst (λ bytes. 0 < length bytes) (sym all.1) (omega (arith, length-append old came, some));
      short = subst (λ bytes. length bytes ≤ limit + 1) (sym all.1) (omega (arith, length-append old came, fits));
    }
