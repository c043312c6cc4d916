-- What the calls say by which an input was read, and that a file says one thing of it.
use Rattle.std.specs.Prelude.{◌≡◌, ◌⊎◌, ◌<◌, ℕ, List, length, Option, Result, Ok, Err, unwrap_or, IsTrue, IsFalse, false, Contains}
use Rattle.std.specs.List.{AllByRecursion}
use Rattle.std.proofs.Common.{refl, sym, ap, subst, ◌∙◌, inl, inr, ⊎_elim, arith}
use Rattle.std.proofs.lemmas.Bool.{false≢true}
use Rattle.lif_outside.specs.Calls.{Deeds, Outside}
use Rattle.lif_outside.specs.Counts.{Rose}
use Rattle.lif_outside.proofs.DeedLaws.{Accounted}
use Rattle.lif_outside.specs.Events.{Event, HappenAt}
use Rattle.lif_outside.specs.EventLaws.{KeepsPath}
use Rattle.lif_outside.proofs.FaultLaws.{HaveFailed, reads_unfailed, whole_unfailed, fault_failed}
use Rattle.lif_outside.specs.Files.{Holds}
use Rattle.lif_outside.specs.FileCalls.{ReadsWhole}
use Rattle.lif_outside.proofs.FileCallLaws.{reads_keep, whole_keeps, fault_keeps, fault_there, whole_held, long_held}
use Rattle.top_base.specs.FileReading.{StopsReading, outcome_of}
use Rattle.top_base.specs.Inputs.{HoldsInput, HoldsLong, HoldsNone, HoldsShort, IsNoMemory, Loses, Reads, ReadsAny, is_lost, is_refusal}
use Rattle.top_base.specs.Lines.{too_long_line}
use Rattle.top_base.specs.Outcome.{AreAlike, fault_line, is_of_inputs}
use Rattle.top_base.proofs.PerformingLaws.{is_read_fault, is_write_fault}
use Rattle.top_base.specs.declared.outcome.Outcome.{Outcome}
use Rattle.top_base.specs.declared.reading.FileRefusal.{FileRefusal}
use Rattle.top_base.specs.declared.reading.FileRefusal.TheVariants as refused
use Rattle.top_base.specs.declared.status.Status.{Status}
use Rattle.top_base.specs.declared.status.Status.TheVariants.{LinkFault, OutOfMemory, ReadFault, TooLong, WriteFault}

-- reads as far as there was memory
any-keeps : (path place : List ℕ) (limit : ℕ) (calls : List Event) → ReadsAny path limit calls → AllByRecursion (KeepsPath place) calls
any-keeps path place limit calls any = ⊎_elim (λ some. reads_keep 0 path place calls some.reads) (λ whole. whole_keeps path place limit whole.0 calls whole.1) any

pub any-unfailed : (path : List ℕ) (limit : ℕ) (calls : List Event) → ReadsAny path limit calls → HaveFailed false false calls
any-unfailed path limit calls any = ⊎_elim (λ some. reads_unfailed 0 path calls some.reads) (λ whole. whole_unfailed path limit whole.0 calls whole.1) any

-- a file that was read whole
pub short_held : (limit : ℕ) (path bytes : List ℕ) (calls : List Event) (a b : Option (List ℕ)) → ReadsWhole path limit bytes calls → HappenAt path calls a b → HoldsShort limit bytes a
short_held limit path bytes calls a b whole happen = record { held = whole_held path limit bytes calls a b whole happen; short = whole.short }

-- a path holds one file, and it's not both within a limit and longer
pub same_held : (file : Option (List ℕ)) (one other : List ℕ) → Holds one file → Holds other file → one ≡ other
same_held file one other h k = ap (λ o. unwrap_or o other) (sym h ∙ k)

pub not_long : (limit : ℕ) (file : Option (List ℕ)) (bytes : List ℕ) → HoldsShort limit bytes file → HoldsLong limit file → ⊥
not_long limit file bytes held long =
    let more : limit < length long.0 = long.2 in
    absurd (omega (arith, more, held.short, ap length (same_held file bytes long.0 held.held long.1)))

module _ {X : Type 0} (limit : ℕ) (Is : List ℕ → X → Type 0) (Refuses : List ℕ → Status → List ℕ → Type 0) where
  -- What has to be known of an input: bytes are refused by a refusal, bytes are one thing, they aren't refused then, and
  -- they are refused in one way.
  pub record IsInput : Type 0 where
    pub kind : (bytes : List ℕ) (status : Status) (line : List ℕ) → Refuses bytes status line → IsTrue (is_refusal status)
    pub same : (bytes : List ℕ) (one other : X) → Is bytes one → Is bytes other → one ≡ other
    pub apart : (bytes : List ℕ) (x : X) (status : Status) (line : List ℕ) → Is bytes x → Refuses bytes status line → ⊥
    pub alike : (bytes : List ℕ) (status : Status) (line : List ℕ) (status' : Status) (line' : List ℕ) → Refuses bytes status line → Refuses bytes status' line' → AreAlike status status'

  -- whether a result comes of the inputs alone
  abbrev pub IsOfInputs : Result X Outcome → Type 0
  IsOfInputs (Ok x) = Unit {0}
  IsOfInputs (Err refused) = IsTrue (is_of_inputs refused.status)

  -- two results are one, whichever cycle they show
  abbrev pub AreAlikeResults : Result X Outcome → Result X Outcome → Type 0
  AreAlikeResults (Ok one) (Ok other) = one ≡ other
  AreAlikeResults (Err one) (Err other) = AreAlike one.status other.status
  AreAlikeResults one other = ⊥

  -- the calls of a file that couldn't be read
  pub unread : (path : List ℕ) (calls : List Event) (refusal : FileRefusal) → StopsReading path limit refusal calls → Reads limit Is Refuses path (Err (outcome_of refusal)) calls
  unread path calls refused.Fault stop = (stop, refl)
  unread path calls refused.TooLong stop = (stop, refl)
  unread path calls refused.OutOfMemory stop = (inl stop, refl)

  -- and those of one that was had, where there was no memory later
  pub forgotten : (path : List ℕ) (x : X) (calls : List Event) (outcome : Outcome) → Reads limit Is Refuses path (Ok x) calls → IsNoMemory outcome → Reads limit Is Refuses path (Err outcome) calls
  forgotten path x calls outcome reads lost =
      subst (λ status. Loses limit Is Refuses path status outcome.line calls) (sym lost.status) (inr (reads.0, reads.1), lost.line)

  -- reads of an input that can't be had keep every path
  pub loses-keeps : (path place : List ℕ) (status : Status) (line : List ℕ) (calls : List Event) → Loses limit Is Refuses path status line calls → AllByRecursion (KeepsPath place) calls
  loses-keeps path place ReadFault line calls lost = fault_keeps path place limit calls lost.0
  loses-keeps path place TooLong line calls lost = reads_keep 0 path place calls lost.0.reads
  loses-keeps path place OutOfMemory line calls lost = any-keeps path place limit calls lost.0
  loses-keeps path place status line calls lost = whole_keeps path place limit lost.0 calls lost.1

  -- and so do those of any input
  pub reads-keep : (path place : List ℕ) (result : Result X Outcome) (calls : List Event) → Reads limit Is Refuses path result calls → AllByRecursion (KeepsPath place) calls
  reads-keep path place (Ok x) calls reads = whole_keeps path place limit reads.0 calls reads.1
  reads-keep path place (Err refused) calls reads = loses-keeps path place refused.status refused.line calls reads

  -- the reads of an input that was had are done
  pub reads-unfailed : (path : List ℕ) (x : X) (calls : List Event) → Reads limit Is Refuses path (Ok x) calls → HaveFailed false false calls
  reads-unfailed path x calls reads = whole_unfailed path limit reads.0 calls reads.1

  -- the read that failed has raised the count of the path
  pub loses-rose : (path line : List ℕ) (reads : List Event) (deeds : Deeds) (before after : Outside) → Accounted deeds before after → ((event : Event) → Contains reads event → Contains deeds.calls.on_store event)
      → Loses limit Is Refuses path ReadFault line reads → Rose (before.read_faults path) (after.read_faults path)
  loses-rose path line reads deeds before after accounted among lost = accounted.failed_read path _ lost.0.room (among _ (fault_there path limit reads lost.0))

  -- a file of no input, where the status comes of the inputs
  loses-held : (path : List ℕ) (status : Status) (line : List ℕ) (calls : List Event) (a b : Option (List ℕ)) → IsTrue (is_of_inputs status) → Loses limit Is Refuses path status line calls → HappenAt path calls a b
      → HoldsNone limit Is Refuses a status line
  loses-held path ReadFault line calls a b inputs lost happen = absurd (false≢true inputs)
  loses-held path OutOfMemory line calls a b inputs lost happen = absurd (false≢true inputs)
  loses-held path TooLong line calls a b inputs lost happen = (long_held path limit calls a b lost.0 happen, lost.1)
  loses-held path status line calls a b inputs lost happen = (lost.0, short_held limit path lost.0 calls a b lost.1 happen, lost.2)

  -- the calls say what the file of the path holds
  pub reads-held : (path : List ℕ) (result : Result X Outcome) (calls : List Event) (a b : Option (List ℕ)) → IsOfInputs result → Reads limit Is Refuses path result calls → HappenAt path calls a b
      → HoldsInput limit Is Refuses a result
  reads-held path (Ok x) calls a b inputs reads happen = (reads.0, short_held limit path reads.0 calls a b reads.1 happen, reads.2)
  reads-held path (Err refused) calls a b inputs reads happen = loses-held path refused.status refused.line calls a b inputs reads happen

  -- a file without an input is too long, or is refused
  none-cases : (file : Option (List ℕ)) (status : Status) (line : List ℕ) → HoldsNone limit Is Refuses file status line
      → ((status ≡ TooLong) × HoldsLong limit file × (line ≡ too_long_line)) ⊎ ((bytes : List ℕ) × HoldsShort limit bytes file × Refuses bytes status line)
  none-cases file TooLong line held = inl (refl, held.0, held.1)
  none-cases file status line held = inr held

  module _ (input : IsInput) where
    -- what was read is refused
    refused_bytes : (path bytes : List ℕ) (calls : List Event) → ReadsWhole path limit bytes calls → (status : Status) (line : List ℕ) → Refuses bytes status line → Loses limit Is Refuses path status line calls
    refused_bytes path bytes calls whole ReadFault line are = absurd (false≢true (input.kind bytes ReadFault line are))
    refused_bytes path bytes calls whole TooLong line are = absurd (false≢true (input.kind bytes TooLong line are))
    refused_bytes path bytes calls whole OutOfMemory line are = absurd (false≢true (input.kind bytes OutOfMemory line are))
    refused_bytes path bytes calls whole status line are = (bytes, whole, are)

    -- or there was no memory
    pub lost_bytes : (path bytes : List ℕ) (calls : List Event) → ReadsWhole path limit bytes calls → (outcome : Outcome) → Refuses bytes outcome.status outcome.line ⊎ IsNoMemory outcome
        → Reads limit Is Refuses path (Err outcome) calls
    lost_bytes path bytes calls whole outcome (inl are) = refused_bytes path bytes calls whole outcome.status outcome.line are
    lost_bytes path bytes calls whole outcome (inr lost) =
        subst (λ status. Loses limit Is Refuses path status outcome.line calls) (sym lost.status) (inr (bytes, whole), lost.line)

    -- of the calls of an input that can't be had a read failed, if that's the status, and no write
    pub loses-failed : (path : List ℕ) (status : Status) (line : List ℕ) (calls : List Event) → Loses limit Is Refuses path status line calls → HaveFailed (is_read_fault status) (is_write_fault status) calls
    loses-failed path ReadFault line calls lost = fault_failed path limit calls lost.0
    loses-failed path TooLong line calls lost = reads_unfailed 0 path calls lost.0.reads
    loses-failed path OutOfMemory line calls lost = any-unfailed path limit calls lost.0
    loses-failed path WriteFault line calls lost = absurd (false≢true (input.kind lost.0 WriteFault line lost.2))
    loses-failed path status line calls lost = whole_unfailed path limit lost.0 calls lost.1

    -- the status says that an input couldn't be had
    pub loses-lost : (path : List ℕ) (status : Status) (line : List ℕ) (calls : List Event) → Loses limit Is Refuses path status line calls → IsTrue (is_lost status)
    loses-lost path ReadFault line calls lost = refl
    loses-lost path TooLong line calls lost = refl
    loses-lost path OutOfMemory line calls lost = refl
    loses-lost path status line calls lost = input.kind lost.0 status line lost.2

    -- the line of a fault, or of want of memory
    pub loses-line : (path : List ℕ) (status : Status) (line : List ℕ) (calls : List Event) → Loses limit Is Refuses path status line calls → IsFalse (is_of_inputs status) → line ≡ fault_line status
    loses-line path ReadFault line calls lost not = lost.1
    loses-line path OutOfMemory line calls lost not = lost.1
    loses-line path WriteFault line calls lost not = absurd (false≢true (input.kind lost.0 WriteFault line lost.2))
    loses-line path LinkFault line calls lost not = absurd (false≢true (input.kind lost.0 LinkFault line lost.2))
    loses-line path status line calls lost not = absurd (false≢true (sym not))

    -- no file holds an input and none
    not_both : (file : Option (List ℕ)) (bytes : List ℕ) (x : X) (status : Status) (line : List ℕ) → HoldsShort limit bytes file → Is bytes x → HoldsNone limit Is Refuses file status line → ⊥
    not_both file bytes x status line held is none = ⊎_elim
        (λ long. not_long limit file bytes held long.1)
        (λ short. input.apart short.0 x status line (subst (λ bytes. Is bytes x) (same_held file bytes short.0 held.held short.1.held) is) short.2)
        (none-cases file status line none)

    -- a file without an input has one status
    alike_none : (file : Option (List ℕ)) (status : Status) (line : List ℕ) (status' : Status) (line' : List ℕ) → HoldsNone limit Is Refuses file status line → HoldsNone limit Is Refuses file status' line' → AreAlike status status'
    alike_none file status line status' line' one other = ⊎_elim
        (λ long. ⊎_elim
        (λ longer. subst (λ s. AreAlike status s) (sym longer.0) (subst (λ s. AreAlike s TooLong) (sym long.0) refl))
        (λ short. absurd (not_long limit file short.0 short.1 long.1))
        (none-cases file status' line' other))
        (λ short. ⊎_elim
        (λ long. absurd (not_long limit file short.0 short.1 long.1))
        (λ refused. input.alike short.0 status line status' line' short.2
        (subst (λ bytes. Refuses bytes status' line') (sym (same_held file short.0 refused.0 short.1.held refused.1.held)) refused.2))
        (none-cases file status' line' other))
        (none-cases file status line one)

    -- a file holds one input, or is refused in one way
    pub alike_results : (file : Option (List ℕ)) (one other : Result X Outcome) → HoldsInput limit Is Refuses file one → HoldsInput limit Is Refuses file other → AreAlikeResults one other
    alike_results file (Ok x) (Ok y) one other =
        input.same one.0 x y one.2 (subst (λ bytes. Is bytes y) (same_held file other.0 one.0 other.1.held one.1.held) other.2)
    alike_results file (Ok x) (Err refused) one other = not_both file one.0 x refused.status refused.line one.1 one.2 other
    alike_results file (Err refused) (Ok x) one other = not_both file other.0 x refused.status refused.line other.1 other.2 one
    alike_results file (Err refused) (Err refused') one other = alike_none file refused.status refused.line refused'.status refused'.line one other
