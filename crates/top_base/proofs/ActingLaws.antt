-- What has to be known of a command that reads one input and acts by it, from what is known of how it acts.
use Rattle.std.specs.Prelude.{◌≡◌, ◌≢◌, ◌++◌, ℕ, false, List, [], Some, Result, Ok, Err, IsTrue, IsFalse}
use Rattle.std.specs.List.{list_any}
use Rattle.std.proofs.Common.{refl, sym, ap, subst, ◌∙◌}
use Rattle.std.proofs.lemmas.Bool.{false≢true}
use Rattle.std.proofs.lemmas.List.{append-nil}
use Rattle.lif_outside.proofs.CallLaws.{calls_then, calls_weaker}
use Rattle.lif_outside.specs.Calls.{Begins, ByCalls, Calls, Deeds, MakesBoth, Outside, store_calls}
use Rattle.lif_outside.specs.declared.links.Links.{Ghosts as LinksGhosts}
use Rattle.lif_outside.specs.declared.store.Store.{Ghosts as StoreGhosts}
use Rattle.lif_outside.proofs.DeedLaws.{Accounted}
use Rattle.lif_outside.specs.Events.{Event}
use Rattle.lif_outside.proofs.FaultLaws.{HaveFailed, failed-append}
use Rattle.lif_outside.specs.Files.{Files}
use Rattle.lif_outside.specs.Moves as moves
use Rattle.lif_outside.specs.Told.{Told}
use Rattle.top_base.specs.Acting.{Due, DueAfter, LeavesUnread, Owed, OwedAfter, Runs, RunsAfter}
use Rattle.top_base.specs.Inputs.{HoldsInput, Loses, Reads, is_lost}
use Rattle.top_base.proofs.InputLaws.{AreAlikeResults, IsInput, IsOfInputs, alike_results, loses-failed, loses-line, loses-lost, loses-rose, reads-held, reads-keep, reads-unfailed}
use Rattle.top_base.proofs.LeavingLaws.{KeepAll, follow_later, happen_parts, keep_files, later_among, told_at, told_both}
use Rattle.top_base.specs.Outcome.{AreAlike, any_witness, fault_line, is_fault, is_of_inputs}
use Rattle.top_base.specs.Performs.{Behaviour, LeavesAll, by_files}
use Rattle.top_base.proofs.PerformingLaws.{HaveFailedBy, IsKnown, is_link_fault, is_read_fault, is_write_fault}
use Rattle.top_base.specs.declared.outcome.Outcome.{Outcome}
use Rattle.top_base.specs.declared.status.Status.{Status}
use Rattle.top_base.specs.declared.status.Status.TheVariants.{LinkFault, ReadFault, Usage, WriteFault}

-- deeds of which the calls on the store are the later ones
abbrev later_deeds : Deeds → List Event → Deeds
later_deeds deeds later = record { calls = record deeds.calls { on_store = later }; puts = deeds.puts }

-- behind calls that keep every path, the later ones account for what there is
later_accounted : (deeds : Deeds) (before after : Outside) (first later : List Event) → deeds.calls.on_store ≡ first ++ later → KeepAll first → Accounted deeds before after → Accounted (later_deeds deeds later) before after
later_accounted deeds before after first later are keeps accounted =
    let among = later_among first later deeds.calls.on_store are in
    record {
      files = follow_later first later deeds.calls.on_store are before.files after.files keeps accounted.files;
      failed_read = λ path at room there. accounted.failed_read path at room (among _ there);
      failed_create = λ path there. accounted.failed_create path (among _ there);
      failed_append = λ path bytes there. accounted.failed_append path bytes (among _ there);
      said = accounted.said;
      failed_put = accounted.failed_put;
      gives = accounted.gives;
      moved = accounted.moved;
      failed_move = accounted.failed_move;
    }

-- a status of an input that can't be had isn't that of a call on links, nor that of words that are no form
lost_unlinked : (status : Status) → IsTrue (is_lost status) → is_link_fault status ≡ false
lost_unlinked LinkFault lost = absurd (false≢true lost)
lost_unlinked status lost = refl

lost_used : (status : Status) → IsTrue (is_lost status) → status ≢ Usage
lost_used status lost is = false≢true (subst (λ s. IsTrue (is_lost s)) is lost)

module _ {X : Type 0} (limit : ℕ) (Is : List ℕ → X → Type 0) (Refuses : List ℕ → Status → List ℕ → Type 0) (path : List ℕ) where
  -- an input is read, and nothing follows
  pub runs_only : (Acts : X → Outcome → Calls → Type 0) (result : Result X Outcome) (outcome : Outcome) (calls : List Event) → Reads limit Is Refuses path result calls
      → RunsAfter limit Is Refuses Acts result outcome (store_calls []) → Runs limit Is Refuses Acts path outcome (store_calls calls)
  runs_only Acts result outcome calls reads acts = (
    result,
    record { first = calls; later = []; events_are = sym (append-nil calls); holds_first = reads; holds_later = acts },
  )

  -- one that couldn't be had
  pub runs_lost : {S : Type 0} {calls : List Event → S → S → Type 0} {a b : S} (Acts : X → Outcome → Calls → Type 0) (outcome : Outcome) → ByCalls calls a b (Reads limit Is Refuses path (Err outcome))
      → ByCalls calls a b (λ events. Runs limit Is Refuses Acts path outcome (store_calls events))
  runs_lost Acts outcome by = calls_weaker _ _ by (λ made reads. runs_only Acts (Err outcome) outcome made reads (refl, refl))

  -- one that was had, and what follows
  pub runs_had : {S : Type 0} {calls : List Event → S → S → Type 0} → ((first later : List Event) (a b c : S) → calls first a b → calls later b c → calls (first ++ later) a c)
      → {a b c : S} (Acts : X → Outcome → Calls → Type 0) (x : X) (outcome : Outcome) → ByCalls calls a b (Reads limit Is Refuses path (Ok x)) → ByCalls calls b c (λ events. Acts x outcome (store_calls events))
      → ByCalls calls a c (λ events. Runs limit Is Refuses Acts path outcome (store_calls events))
  runs_had more Acts x outcome one other = calls_then more (Reads limit Is Refuses path (Ok x)) (λ events. Acts x outcome (store_calls events)) _ one other
      (λ first later reads acts. (Ok x, record { first = first; later = later; events_are = refl; holds_first = reads; holds_later = acts }))

  -- one that was had, and what follows on the store and on links
  pub runs_had-both : {S L : Type 0} {g : StoreGhosts S} {k : LinksGhosts L} → ((first later : List Event) (a b c : S) → g.calls first a b → g.calls later b c → g.calls (first ++ later) a c)
      → {a b c : S} {at now : L} (Acts : X → Outcome → Calls → Type 0) (x : X) (outcome : Outcome) → ByCalls g.calls a b (Reads limit Is Refuses path (Ok x)) → MakesBoth g k b c at now (Acts x outcome)
      → MakesBoth g k a c at now (Runs limit Is Refuses Acts path outcome)
  runs_had-both more Acts x outcome one other = record {
    calls = record other.calls { on_store = one.made ++ other.calls.on_store };
    on_store = more one.made other.calls.on_store _ _ _ one.lead other.on_store;
    on_links = other.on_links;
    holds = (Ok x, record { first = one.made; later = other.calls.on_store; events_are = refl; holds_first = one.holds; holds_later = other.holds });
  }

  module _ (Acts : X → Outcome → Calls → Type 0) (OwedOf : X → Files → Status → Type 0) (DueOf : X → Files → Outcome → Type 0) (Changes : Outcome → Outside → Outside → Type 0)
      (NoFault : Outside → Outside → Type 0) where
    abbrev pub acts : Behaviour
    acts = record {
      runs = Runs limit Is Refuses Acts path;
      changes = Changes;
      due = by_files (Owed limit Is Refuses OwedOf path) (Due limit Is Refuses DueOf path);
      no_fault = NoFault;
    }

    -- What has to be known of how it acts, where the input was had; and that it leaves what is left where the input wasn't.
    pub record ActsWell : Type 0 where
      pub changes : (x : X) (outcome : Outcome) (deeds : Deeds) (before after : Outside) → Accounted deeds before after → Told before.files (λ files. HoldsInput limit Is Refuses (files path) (Ok x))
          → Acts x outcome deeds.calls → Changes outcome before after
      pub due : (x : X) (outcome : Outcome) (deeds : Deeds) (before after : Outside) → Accounted deeds before after → Acts x outcome deeds.calls → IsTrue (is_of_inputs outcome.status)
          → Told before.files (λ files. DueOf x files outcome)
      pub lines : (x : X) (outcome : Outcome) (calls : Calls) → Acts x outcome calls → IsFalse (is_of_inputs outcome.status) → outcome.line ≡ fault_line outcome.status
      pub causes : (x : X) (outcome : Outcome) (calls : Calls) → Acts x outcome calls → HaveFailedBy outcome.status calls
      pub used : (x : X) (outcome : Outcome) (calls : Calls) → Acts x outcome calls → outcome.status ≢ Usage
      pub alike : (x : X) (files : Files) (due : Outcome) (owed : Status) → DueOf x files due → OwedOf x files owed → AreAlike due.status owed
      pub lost : (outcome : Outcome) (before after : Outside) → IsTrue (is_lost outcome.status) → LeavesUnread path outcome.status before after → Changes outcome before after
      pub faultless : (outcome : Outcome) (files : Files) (before after : Outside) → before.files ≡ Some files → Changes outcome before after → NoFault before after → IsFalse (is_fault outcome.status)

    module _ (input : IsInput limit Is Refuses) (well : ActsWell) where
      -- ---- where the input couldn't be had

      -- no further call was made
      lost_calls : (refused outcome : Outcome) (calls : Calls) → (parts : Begins (Reads limit Is Refuses path (Err refused)) (RunsAfter limit Is Refuses Acts (Err refused) outcome) calls)
          → Loses limit Is Refuses path refused.status refused.line calls.on_store
      lost_calls refused outcome calls parts =
          subst (Loses limit Is Refuses path refused.status refused.line)
          (sym (parts.events_are ∙ ap (λ (c : Calls). parts.first ++ c.on_store) parts.holds_later.1 ∙ append-nil parts.first)) parts.holds_first

      left_unread : (deeds : Deeds) (before after : Outside) → Accounted deeds before after → LeavesAll before after → (status : Status) (line : List ℕ) → Loses limit Is Refuses path status line deeds.calls.on_store
          → LeavesUnread path status before after
      left_unread deeds before after accounted all ReadFault line lost = (all, loses-rose limit Is Refuses path line deeds.calls.on_store deeds before after accounted (λ event there. there) lost)
      left_unread deeds before after accounted all WriteFault line lost = absurd (false≢true (input.kind lost.0 WriteFault line lost.2))
      left_unread deeds before after accounted all LinkFault line lost = absurd (false≢true (input.kind lost.0 LinkFault line lost.2))
      left_unread deeds before after accounted all status line lost = all

      lost_changes : (refused outcome : Outcome) (deeds : Deeds) (before after : Outside) → Accounted deeds before after → outcome ≡ refused → Loses limit Is Refuses path refused.status refused.line deeds.calls.on_store
          → Changes outcome before after
      lost_changes refused outcome deeds before after accounted is lost =
          let all = keep_files before.files after.files deeds.calls.on_store (λ place. reads-keep limit Is Refuses path place (Err refused) deeds.calls.on_store lost) accounted.files in
          subst (λ o. Changes o before after) (sym is)
          (well.lost refused before after (loses-lost limit Is Refuses input path refused.status refused.line deeds.calls.on_store lost) (left_unread deeds before after accounted all refused.status refused.line lost))

      -- ---- where it was, and in either case

      module _ (result : Result X Outcome) (outcome : Outcome) (deeds : Deeds) (before after : Outside) (accounted : Accounted deeds before after)
          (parts : Begins (Reads limit Is Refuses path result) (RunsAfter limit Is Refuses Acts result outcome) deeds.calls) where
        keeps : KeepAll parts.first
        keeps place = reads-keep limit Is Refuses path place result parts.first parts.holds_first

        -- the input's path holds what was read
        held : IsOfInputs limit Is Refuses result → Told before.files (λ files. HoldsInput limit Is Refuses (files path) result)
        held inputs = told_at before.files after.files deeds.calls.on_store path (λ file. HoldsInput limit Is Refuses file result)
            (λ a b happen.
            let halves = happen_parts parts.first parts.later deeds.calls.on_store parts.events_are path a b happen in
            reads-held limit Is Refuses path result parts.first a halves.0 inputs parts.holds_first halves.1)
            accounted.files

        later : Accounted (later_deeds deeds parts.later) before after
        later = later_accounted deeds before after parts.first parts.later parts.events_are keeps accounted

      changes : (outcome : Outcome) (deeds : Deeds) (before after : Outside) → Accounted deeds before after → Runs limit Is Refuses Acts path outcome deeds.calls → Changes outcome before after
      changes outcome deeds before after accounted (Ok x, parts) =
          well.changes x outcome (later_deeds deeds parts.later) before after (later (Ok x) outcome deeds before after accounted parts) (held (Ok x) outcome deeds before after accounted parts tt) parts.holds_later
      changes outcome deeds before after accounted (Err refused, parts) =
          lost_changes refused outcome deeds before after accounted parts.holds_later.0 (lost_calls refused outcome deeds.calls parts)

      due : (outcome : Outcome) (deeds : Deeds) (before after : Outside) → Accounted deeds before after → Runs limit Is Refuses Acts path outcome deeds.calls → IsTrue (is_of_inputs outcome.status)
          → Told before.files (λ files. Due limit Is Refuses DueOf path files outcome)
      due outcome deeds before after accounted (Ok x, parts) inputs =
          told_both before.files (λ files. HoldsInput limit Is Refuses (files path) (Ok x)) (λ files. DueOf x files outcome) (λ files. Due limit Is Refuses DueOf path files outcome)
          (λ files held due. (Ok x, held, due))
          (held (Ok x) outcome deeds before after accounted parts tt)
          (well.due x outcome (later_deeds deeds parts.later) before after (later (Ok x) outcome deeds before after accounted parts) parts.holds_later inputs)
      due outcome deeds before after accounted (Err refused, parts) inputs =
          let of_refused = subst (λ (o : Outcome). IsTrue (is_of_inputs o.status)) parts.holds_later.0 inputs in
          let held = held (Err refused) outcome deeds before after accounted parts of_refused in
          told_both before.files (λ files. HoldsInput limit Is Refuses (files path) (Err refused)) (λ files. HoldsInput limit Is Refuses (files path) (Err refused)) (λ files. Due limit Is Refuses DueOf path files outcome)
          (λ files held again. (Err refused, held, parts.holds_later.0)) held held

      lines : (outcome : Outcome) (calls : Calls) → Runs limit Is Refuses Acts path outcome calls → IsFalse (is_of_inputs outcome.status) → outcome.line ≡ fault_line outcome.status
      lines outcome calls (Ok x, parts) not = well.lines x outcome (record calls { on_store = parts.later }) parts.holds_later not
      lines outcome calls (Err refused, parts) not =
          let Line : Outcome → Type 0 = λ o. IsFalse (is_of_inputs o.status) → o.line ≡ fault_line o.status in
          subst Line (sym parts.holds_later.0) (loses-line limit Is Refuses input path refused.status refused.line calls.on_store (lost_calls refused outcome calls parts)) not

      causes : (outcome : Outcome) (calls : Calls) → Runs limit Is Refuses Acts path outcome calls → HaveFailedBy outcome.status calls
      causes outcome calls (Ok x, parts) =
          let later = well.causes x outcome (record calls { on_store = parts.later }) parts.holds_later in
          record {
            on_store = subst (HaveFailed (is_read_fault outcome.status) (is_write_fault outcome.status)) (sym parts.events_are)
                (failed-append false false (is_read_fault outcome.status) (is_write_fault outcome.status) parts.first parts.later
                (reads-unfailed limit Is Refuses path x parts.first parts.holds_first) later.on_store);
            on_links = later.on_links;
          }
      causes outcome calls (Err refused, parts) =
          let lost = lost_calls refused outcome calls parts in
          subst (λ (o : Outcome). HaveFailedBy o.status calls) (sym parts.holds_later.0)
          (record {
            on_store = loses-failed limit Is Refuses input path refused.status refused.line calls.on_store lost;
            on_links = ap (λ (c : Calls). list_any moves.is_fault c.on_links) parts.holds_later.1
                ∙ sym (lost_unlinked refused.status (loses-lost limit Is Refuses input path refused.status refused.line calls.on_store lost));
          })

      -- what is due has the status that is owed
      alike_after : (files : Files) (one other : Result X Outcome) (due : Outcome) (owed : Status) → AreAlikeResults limit Is Refuses one other → DueAfter limit Is Refuses DueOf files one due
          → OwedAfter limit Is Refuses OwedOf files other owed → AreAlike due.status owed
      alike_after files (Ok x) (Ok y) due owed same is is_owed = well.alike y files due owed (subst (λ x. DueOf x files due) same is) is_owed
      alike_after files (Ok x) (Err refused) due owed same is is_owed = absurd same
      alike_after files (Err refused) (Ok y) due owed same is is_owed = absurd same
      alike_after files (Err refused) (Err refused') due owed same is is_owed =
          ap (λ (o : Outcome). any_witness o.status) is ∙ same ∙ ap any_witness (sym is_owed)

      -- what has to be known of the command
      pub acts_known : IsKnown acts
      acts_known = record {
        changes = changes;
        due = due;
        lines = lines;
        causes = causes;
        alike = λ files due owed is is_owed. alike_after files is.0 is_owed.0 due owed (alike_results limit Is Refuses input (files path) is.0 is_owed.0 is.1 is_owed.1) is.2 is_owed.2;
        faultless = λ owed outcome calls before after is_owed runs change no_fault. well.faultless outcome is_owed.0 before after is_owed.1 change no_fault;
      }

      -- the words were a form
      pub acts_used : (outcome : Outcome) (calls : Calls) → Runs limit Is Refuses Acts path outcome calls → outcome.status ≢ Usage
      acts_used outcome calls (Ok x, parts) is = well.used x outcome (record calls { on_store = parts.later }) parts.holds_later is
      acts_used outcome calls (Err refused, parts) is =
          lost_used refused.status (loses-lost limit Is Refuses input path refused.status refused.line calls.on_store (lost_calls refused outcome calls parts)) (ap (λ (o : Outcome). o.status) (sym parts.holds_later.0) ∙ is)
