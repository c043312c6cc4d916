-- What is promised of a command, from how its calls run.
use Rattle.std.proofs.Common.{◌≡◌, ◌≢◌, ℕ, List, Some, Bool, true, false, refl, sym, ap, subst, ◌∙◌, inl, inr, ⊎_elim}
use Rattle.std.specs.Prelude.{◌⊎◌, Option, IsTrue, IsFalse, []}
use Rattle.std.specs.List.{list_any}
use Rattle.std.proofs.lemmas.Bool.{false≢true}
use Rattle.lif_outside.specs.declared.links.Links.{Ghosts as LinksGhosts}
use Rattle.lif_outside.specs.declared.sink.Sink.{Ghosts as SinkGhosts}
use Rattle.lif_outside.specs.declared.store.Store.{Ghosts as StoreGhosts}
use Rattle.lif_outside.specs.Accounts.{SinkAccounts, StoreAccounts}
use Rattle.lif_outside.specs.Calls.{Calls, Deeds, Does, MakesNone, MakesPuts, Objects, Outside, outside_after, outside_before, store_calls}
use Rattle.lif_outside.proofs.DeedLaws.{Accounted, Accounted-from_calls}
use Rattle.lif_outside.specs.Events.{Event}
use Rattle.lif_outside.proofs.FaultLaws.{HaveFailed, none_failed}
use Rattle.lif_outside.specs.Files.{Files}
use Rattle.lif_outside.specs.LinksAccounts.{LinksAccounts, holding}
use Rattle.lif_outside.specs.Moves.{Move}
use Rattle.lif_outside.specs.Moves as moves
use Rattle.lif_outside.specs.Puts.{Put, SaysAll, SaysPart}
use Rattle.lif_outside.proofs.PutLaws.{says_all-grow, says_part-grow, says_part-failed, says_part-there}
use Rattle.lif_outside.specs.Told.{Told}
use Rattle.lif_outside.specs.ToldLaws.{becomes_weaker}
use Rattle.top_base.specs.Causes.{HasCauses}
use Rattle.top_base.proofs.LeavingLaws.{keep_files, none_keep}
use Rattle.top_base.specs.Outcome.{AddsOutcome, AreAlike, Concludes, SaysOutcome, SaysWell, any_witness, fault_line, is_fault, is_of_inputs, status_unsaid}
use Rattle.top_base.specs.Performs.{Answers, Behaviour, Decision, IsDueAsTold, IsOwed, Leaves, Performs, RunsOn, RunsOnStore, at_once, by_files, by_words}
use Rattle.top_base.specs.declared.outcome.Outcome.{Outcome}
use Rattle.top_base.specs.declared.status.Status.{Status}
use Rattle.top_base.specs.declared.status.Status.TheVariants.{Done, LinkFault, NetRefused, NotDecoding, OutOfMemory, ReadFault, WriteFault}
use Rattle.top_base.specs.declared.status.NetWhy.TheVariants.{Text, Cycle}

-- whether a status is that of a read that failed, of a write, and of a call on links
abbrev pub is_read_fault : Status → Bool
is_read_fault ReadFault = true
is_read_fault status = false

abbrev pub is_write_fault : Status → Bool
is_write_fault WriteFault = true
is_write_fault status = false

abbrev pub is_link_fault : Status → Bool
is_link_fault LinkFault = true
is_link_fault status = false

-- and which statuses these are
is_read_fault-true : (status : Status) → is_read_fault status ≡ true → status ≡ ReadFault
is_read_fault-true ReadFault is = refl
is_read_fault-true status is = absurd (false≢true is)

is_write_fault-true : (status : Status) → is_write_fault status ≡ true → status ≡ WriteFault
is_write_fault-true WriteFault is = refl
is_write_fault-true status is = absurd (false≢true is)

is_link_fault-true : (status : Status) → is_link_fault status ≡ true → status ≡ LinkFault
is_link_fault-true LinkFault is = refl
is_link_fault-true status is = absurd (false≢true is)

-- Which calls have failed, by the status: a read, a create or an append, and a call on links.
pub record HaveFailedBy (status : Status) (calls : Calls) : Type 0 where
  pub on_store : HaveFailed (is_read_fault status) (is_write_fault status) calls.on_store
  pub on_links : list_any moves.is_fault calls.on_links ≡ is_link_fault status

-- a status of the inputs is that of no fault, and that is none of these
pub inputs_faultless : (status : Status) → IsTrue (is_of_inputs status) → IsFalse (is_fault status)
inputs_faultless ReadFault inputs = absurd (false≢true inputs)
inputs_faultless WriteFault inputs = absurd (false≢true inputs)
inputs_faultless LinkFault inputs = absurd (false≢true inputs)
inputs_faultless OutOfMemory inputs = refl
inputs_faultless status inputs = refl

pub no_causes : (status : Status) → IsFalse (is_fault status) → (is_read_fault status ≡ false) × (is_write_fault status ≡ false) × (is_link_fault status ≡ false)
no_causes ReadFault no_fault = absurd (false≢true (sym no_fault))
no_causes WriteFault no_fault = absurd (false≢true (sym no_fault))
no_causes LinkFault no_fault = absurd (false≢true (sym no_fault))
no_causes status no_fault = (refl, refl, refl)

-- where there is no call, none has failed, and the status is that of no fault
pub none_failed-by : (status : Status) (calls : Calls) → IsFalse (is_fault status) → MakesNone calls → HaveFailedBy status calls
none_failed-by status calls no_fault none =
    let of = no_causes status no_fault in
    record {
      on_store = subst (λ read. HaveFailed read (is_write_fault status) calls.on_store) (sym of.0)
          (subst (λ write. HaveFailed false write calls.on_store) (sym of.1) (none_failed calls.on_store (ap (λ (c : Calls). c.on_store) none)));
      on_links = ap (λ (c : Calls). list_any moves.is_fault c.on_links) none ∙ sym of.2;
    }

-- a status whose line couldn't be said
unsaid_read : (status : Status) → is_read_fault (status_unsaid status) ≡ is_read_fault status
unsaid_read Done = refl
unsaid_read status = refl

unsaid_link : (status : Status) → is_link_fault (status_unsaid status) ≡ is_link_fault status
unsaid_link Done = refl
unsaid_link status = refl

unsaid_write : (status : Status) → is_write_fault status ≡ true → status_unsaid status ≡ WriteFault
unsaid_write Done is = refl
unsaid_write status is = is_write_fault-true status is

unsaid_done : (status : Status) → status_unsaid status ≢ Done
unsaid_done Done e = cc
unsaid_done status e = cc

-- which calls the statuses of faults come from, where the line was said
causes_said : (deeds : Deeds) (line : List ℕ) (status : Status) → HaveFailedBy status deeds.calls → SaysAll line deeds.puts → HasCauses deeds status
causes_said deeds line status failed says = record {
  read_fault = ((λ e. failed.on_store.failed_read ∙ ap is_read_fault e), (λ is. is_read_fault-true status (sym failed.on_store.failed_read ∙ is)));
  failed_write = λ is. is_write_fault-true status (sym failed.on_store.failed_write ∙ is);
  write_fault = λ e. inl (failed.on_store.failed_write ∙ ap is_write_fault e);
  link_fault = ((λ e. failed.on_links ∙ ap is_link_fault e), (λ is. is_link_fault-true status (sym failed.on_links ∙ is)));
  failed_put = λ is. absurd (false≢true (sym says.done ∙ is));
}

-- and where it wasn't
causes_unsaid : (deeds : Deeds) (line : List ℕ) (status : Status) → HaveFailedBy status deeds.calls → SaysPart line deeds.puts → HasCauses deeds (status_unsaid status)
causes_unsaid deeds line status failed says =
    let same = failed.on_store.failed_read ∙ sym (unsaid_read status) in
    let same_link = failed.on_links ∙ sym (unsaid_link status) in
    record {
      read_fault = ((λ e. same ∙ ap is_read_fault e), (λ is. is_read_fault-true (status_unsaid status) (sym same ∙ is)));
      failed_write = λ is. unsaid_write status (sym failed.on_store.failed_write ∙ is);
      link_fault = ((λ e. same_link ∙ ap is_link_fault e), (λ is. is_link_fault-true (status_unsaid status) (sym same_link ∙ is)));
      write_fault = λ e. inr (says_part-failed line deeds.puts says);
      failed_put = λ is. unsaid_done status;
    }

-- and in either case
causes_of : (deeds : Deeds) (outcome : Outcome) (status : Status) → HaveFailedBy outcome.status deeds.calls → SaysOutcome outcome status deeds.puts → HasCauses deeds status
causes_of deeds outcome status failed says = ⊎_elim
    (λ all. subst (HasCauses deeds) (sym all.0) (causes_said deeds outcome.line outcome.status failed all.1))
    (λ part. subst (HasCauses deeds) (sym part.0) (causes_unsaid deeds outcome.line outcome.status failed part.1))
    says

-- what was said is added
adds : (deeds : Deeds) (before after : Outside) (outcome : Outcome) (status : Status) → Accounted deeds before after → SaysOutcome outcome status deeds.puts → AddsOutcome outcome status before after
adds deeds before after outcome status accounted says = ⊎_elim
    (λ all. inl (all.0, becomes_weaker accounted.said (λ old new grow. says_all-grow outcome.line deeds.puts old new all.1 grow)))
    (λ part. inr (
      part.0,
      record {
        rose = accounted.failed_put part.1.piece (says_part-there outcome.line deeds.puts part.1);
        added = becomes_weaker accounted.said (λ old new grow. says_part-grow outcome.line deeds.puts old new part.1 grow);
      },
    ))
    says

-- the status is the outcome's, where the line of a command that is done was said
said_status : (outcome : Outcome) (status : Status) (before after : Outside) → (outcome.status ≡ Done → SaysWell before after) → AddsOutcome outcome status before after → status ≡ outcome.status
said_status outcome status before after well says = ⊎_elim (λ all. all.0) (λ part. part.0 ∙ by_status outcome.status (λ done. well done part.1.rose)) says
  where
    by_status : (status : Status) → status ≢ Done → status_unsaid status ≡ status
    by_status Done undone = absurd (undone refl)
    by_status status undone = refl

-- only a command that is done is alike one that is
pub done_alike : (status : Status) → any_witness status ≡ Done → status ≡ Done
done_alike (NetRefused (Text why)) e = cc
done_alike (NetRefused (Cycle links)) e = cc
done_alike (NotDecoding demand block) e = cc
done_alike status e = e

-- a status of no fault and no want of memory is that of the inputs
of_inputs : (status : Status) → IsFalse (is_fault status) → (status ≡ OutOfMemory) ⊎ IsTrue (is_of_inputs status)
of_inputs ReadFault no_fault = absurd (false≢true (sym no_fault))
of_inputs WriteFault no_fault = absurd (false≢true (sym no_fault))
of_inputs LinkFault no_fault = absurd (false≢true (sym no_fault))
of_inputs OutOfMemory no_fault = inl refl
of_inputs status no_fault = inr refl

-- for want of memory a command isn't done
no_memory_undone : (status : Status) → status ≡ OutOfMemory → status ≢ Done
no_memory_undone status e done = cc

-- what holds of files that are told
pub known : (told : Option Files) (files : Files) (P : Files → Type 0) → told ≡ Some files → Told told P → P files
known told files P e holds = subst (λ o. Told o P) e holds

-- what is due has the status that is owed
abbrev pub AreAlikeDue : Decision → Type 0
AreAlikeDue (by_words Owed Due) = (due : Outcome) (owed : Status) → Due due → Owed owed → AreAlike due.status owed
AreAlikeDue (by_files Owed Due) = (files : Files) (due : Outcome) (owed : Status) → Due files due → Owed files owed → AreAlike due.status owed

due_alike : (decision : Decision) (told : Option Files) (due : Outcome) (owed : Status) → AreAlikeDue decision → IsDueAsTold decision told due
    → IsOwed decision told owed → AreAlike due.status owed
due_alike (by_words Owed Due) told due owed alike was is = alike due owed was is
due_alike (by_files Owed Due) told due owed alike was is = alike is.0 due owed (known told is.0 (λ files. Due files due) is.1 was) is.2

-- What has to be known of a command: what its outcomes change, which is due, the line of each, where the inputs don't decide
-- it, which calls of each have failed, that what is due has the status that is owed, and that no outcome of a fault comes where there
-- is none.
pub record IsKnown (command : Behaviour) : Type 0 where
  pub changes : (outcome : Outcome) (deeds : Deeds) (before after : Outside) → Accounted deeds before after → command.runs outcome deeds.calls → command.changes outcome before after
  pub due : (outcome : Outcome) (deeds : Deeds) (before after : Outside) → Accounted deeds before after → command.runs outcome deeds.calls → IsTrue (is_of_inputs outcome.status)
      → IsDueAsTold command.due before.files outcome
  pub lines : (outcome : Outcome) (calls : Calls) → command.runs outcome calls → IsFalse (is_of_inputs outcome.status) → outcome.line ≡ fault_line outcome.status
  pub causes : (outcome : Outcome) (calls : Calls) → command.runs outcome calls → HaveFailedBy outcome.status calls
  pub alike : AreAlikeDue command.due
  pub faultless : (owed : Status) (outcome : Outcome) (calls : Calls) (before after : Outside) → IsOwed command.due before.files owed → command.runs outcome calls → command.changes outcome before after
      → command.no_fault before after → IsFalse (is_fault outcome.status)

module _ (command : Behaviour) (of_command : IsKnown command) where
  module _ (status : Status) (deeds : Deeds) (before after : Outside) (accounted : Accounted deeds before after) (is : Concludes command.runs status deeds) where
    -- what is said
    says : AddsOutcome is.outcome status before after
    says = adds deeds before after is.outcome status accounted is.says

    -- what is left
    leaves : Leaves command status before after
    leaves = record {
      outcome = is.outcome;
      changes = of_command.changes is.outcome deeds before after accounted is.runs;
      due = of_command.due is.outcome deeds before after accounted is.runs;
      line = of_command.lines is.outcome deeds.calls is.runs;
      says = says;
    }

    -- the status that is owed, where it's alike the command's
    owed_comes : (owed : Status) → AreAlike is.outcome.status owed → (owed ≡ Done → SaysWell before after) → AreAlike status owed
    owed_comes owed alike well =
        ap any_witness (said_status is.outcome status before after (λ done. well (done_alike owed (sym alike ∙ ap any_witness done))) says) ∙ alike

    -- which status comes
    answers : Answers command status before after
    unfolding leaves
    answers owed is_owed no_fault well =
        let faultless = of_command.faultless owed is.outcome deeds.calls before after is_owed is.runs leaves.changes no_fault in
        ⊎_elim
        (λ no_memory. inr (said_status is.outcome status before after (λ done. absurd (no_memory_undone is.outcome.status no_memory done)) says ∙ no_memory))
        (λ inputs. inl (owed_comes owed (due_alike command.due before.files is.outcome owed of_command.alike (leaves.due inputs) is_owed) well))
        (of_inputs is.outcome.status faultless)

    -- which calls the statuses of faults come from
    caused : HasCauses deeds status
    caused = causes_of deeds is.outcome status (of_command.causes is.outcome deeds.calls is.runs) is.says

  -- What is promised of a command, by its deeds and what they account for.
  pub performs : {S C L : Type 0} {g : StoreGhosts S} {h : SinkGhosts C} {k : LinksGhosts L} (o : Objects g h k) (status : Status)
      → (does : Does o (Concludes command.runs status)) → Accounted does.deeds (outside_before o) (outside_after o) → Performs command o status
  performs o status does accounted =
      let before = outside_before o in
      let after = outside_after o in
      record {
        of_calls = record {
          deeds = does.deeds;
          on_store = does.on_store;
          on_say = does.on_say;
          on_links = does.on_links;
          holds = (does.holds, caused status does.deeds before after accounted does.holds);
        };
        of_content = leaves status does.deeds before after accounted does.holds;
        of_inputs = answers status does.deeds before after accounted does.holds;
      }

-- what ends at once with an outcome of no fault, and with a line that is its own where the inputs don't decide it
pub at_once_known : (expected : Outcome) → IsFalse (is_fault expected.status) → (IsFalse (is_of_inputs expected.status) → expected.line ≡ fault_line expected.status) → IsKnown (at_once expected)
at_once_known expected no_fault line = record {
  changes = λ outcome deeds before after accounted runs. keep_files before.files after.files deeds.calls.on_store (none_keep deeds.calls.on_store (ap (λ (c : Calls). c.on_store) runs.1)) accounted.files;
  due = λ outcome deeds before after accounted runs inputs. runs.0;
  lines = λ outcome calls runs not. subst (λ (o : Outcome). o.line ≡ fault_line o.status) (sym runs.0) (line (subst (λ (o : Outcome). IsFalse (is_of_inputs o.status)) runs.0 not));
  causes = λ outcome calls runs. subst (λ (o : Outcome). HaveFailedBy o.status calls) (sym runs.0) (none_failed-by expected.status calls no_fault runs.1);
  alike = λ due owed is is'. ap (λ (o : Outcome). any_witness o.status) is ∙ sym (ap any_witness is');
  faultless = λ owed outcome calls before after is runs change well. subst (λ (o : Outcome). IsFalse (is_fault o.status)) (sym runs.0) no_fault;
}

-- what runs on the store alone runs on links too, with no call on these
pub runs_on-store : {S L : Type 0} {g : StoreGhosts S} {k : LinksGhosts L} {a b : S} (at : L) → ((at : L) → k.moves [] at at)
    → (command : Behaviour) (outcome : Outcome) → RunsOnStore g command a b outcome → RunsOn g k command a b at at outcome
runs_on-store at no_moves command outcome by = record { calls = store_calls by.made; on_store = by.lead; on_links = no_moves at; holds = by.holds }

-- what is promised of a command, by its calls and the puts of its line
pub performs_said : {S C L : Type 0} {g : StoreGhosts S} {h : SinkGhosts C} {k : LinksGhosts L} (o : Objects g h k) (status : Status)
    → ((events : List Event) → g.calls events o.store_old o.store_new → StoreAccounts g.files g.read_faults g.write_faults g.made events o.store_old o.store_new)
    → ((puts : List Put) → h.puts puts o.say_old o.say_new → SinkAccounts h.written h.faults puts o.say_old o.say_new)
    → ((made : List Move) → k.moves made o.links_old o.links_new
    → LinksAccounts (holding k.flying k.room k.opened_with k.repeats) k.faithful k.faults k.sent k.given made o.links_old o.links_new)
    → (command : Behaviour) → IsKnown command → (outcome : Outcome) → RunsOn g k command o.store_old o.store_new o.links_old o.links_new outcome
    → MakesPuts h o.say_old o.say_new (SaysOutcome outcome status) → Performs command o status
performs_said o status store_accounts say_accounts links_accounts command of_command outcome runs puts =
    let done : Does o (Concludes command.runs status) = record {
      deeds = record { calls = runs.calls; puts = puts.made };
      on_store = runs.on_store;
      on_say = puts.lead;
      on_links = runs.on_links;
      holds = record { outcome = outcome; runs = runs.holds; says = puts.holds };
    } in
    performs command of_command o status done
    (Accounted-from_calls o done.deeds (store_accounts runs.calls.on_store runs.on_store) (say_accounts puts.made puts.lead) (links_accounts runs.calls.on_links runs.on_links))
