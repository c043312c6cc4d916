-- What has to be known of the command `send`.
use Rattle.std.specs.Prelude.{◌≡◌, ◌≢◌, ℕ, Bool, true, false, List, Option, Some, Ok, IsTrue, IsFalse}
use Rattle.std.specs.List.{list_any}
use Rattle.std.proofs.Common.{refl, sym, ap, subst, ◌∙◌, inl, inr, ⊎_elim}
use Rattle.std.proofs.lemmas.Bool.{false≢true}
use Rattle.lif_outside.specs.Calls.{Calls, Outside}
use Rattle.lif_outside.specs.Events.{HappenAt}
use Rattle.lif_outside.proofs.FaultLaws.{HaveFailed, appends_unfailed, fault_failed, none_failed, reads_unfailed, whole_unfailed}
use Rattle.lif_outside.specs.Files.{Files}
use Rattle.lif_outside.specs.Moves as moves
use Rattle.lif_outside.specs.FileCalls.{ReadsPastLimit, ReadsToFault, ReadsWhole, StopsWithin}
use Rattle.lif_outside.proofs.FileCallLaws.{long_held}
use Rattle.lif_outside.specs.Sequences.{Are, IsFrontOf}
use Rattle.lif_outside.specs.Streams.{reads_in, writes_in}
use Rattle.lif_outside.proofs.TurnLaws.{appends-failed, creates_of-failed}
use Rattle.node_program.specs.declared.code.Code.{Code}
use Rattle.code_file.specs.Limits.{code_limit}
use Rattle.top_base.specs.Accepting.{HoldsCode, IsCodeOf, RefusesCode}
use Rattle.top_base.proofs.AcceptingLaws.{code_input}
use Rattle.top_base.specs.Acting.{LeavesUnread}
use Rattle.top_base.proofs.ActingLaws.{ActsWell, acts_known, acts_used}
use Rattle.top_base.specs.Inputs.{ReadsAny, is_lost}
use Rattle.top_base.proofs.InputLaws.{any-unfailed, not_long}
use Rattle.top_base.proofs.LeavingLaws.{told_at}
use Rattle.top_base.specs.Outcome.{any_witness, fault_line, is_fault, is_of_inputs}
use Rattle.top_base.proofs.PerformingLaws.{HaveFailedBy, IsKnown, known, none_failed-by}
use Rattle.top_base.specs.Words.{Send, source_limit}
use Rattle.top_base.specs.declared.outcome.Outcome.{Outcome}
use Rattle.top_base.specs.declared.status.Status.{Status}
use Rattle.top_base.specs.declared.status.Status.TheVariants.{Done, LinkFault, OutOfMemory, ReadFault, SamePath, TooLong, UnknownPattern, Usage, WriteFault}
use Rattle.top_runs.specs.Send.Changes.{Changes, ChangesTo}
use Rattle.top_runs.specs.Send.Command.{send_command}
use Rattle.top_runs.specs.Send.Due.{DueOf, DueWith, NoFault, OwedOf}
use Rattle.source_delivery.specs.Carried.{Breaks}
use Rattle.top_runs.specs.Send.Given.{outputs_of, pattern_in, sending_of}
use Rattle.top_runs.specs.Send.Runs.{RunsCode, Sends}
use Rattle.top_runs.specs.Sending.{Sending}
use Rattle.source_delivery.specs.Streaming.{AtRest, Feed, file_feed}
use Rattle.top_runs.proofs.SendLeaving.{by_reads, changes_with, source_held}
use Rattle.top_runs.proofs.SendingLaws.{carried_failed, due_are, due_of, front_failed, links_fault, part_keeps, rest_well}

module _ (faithful : Bool) (send : Send) where
  -- ---- of an accepted code

  module _ (code : Code) where
    -- which outcome is due, by what the source's path held
    due_with : (status : Status) (line : List ℕ) (calls : Calls) (a b : Option (List ℕ)) → IsTrue (is_of_inputs status) → RunsCode faithful send code status line calls → HappenAt send.source calls.on_store a b
        → DueWith send code a status line
    due_with Done line calls a b inputs (source, line_is, is) happen = (is.delivered.clear, (source, source_held send code faithful source calls is a b happen, line_is))
    due_with UnknownPattern line calls a b inputs (unknown, line_is, none) happen = (unknown, line_is)
    due_with SamePath line calls a b inputs (path, pattern, shared, line_is, none) happen = (path, pattern, shared, line_is)
    due_with TooLong line calls a b inputs (is, line_is) happen =
        let past = ReadsPastLimit send.source source_limit in (
          is.clear,
          long_held send.source source_limit (reads_in is.carries.on_store.later) a b is.carries.on_store.holds_later.reads
              (by_reads send code faithful past IsFrontOf AtRest calls is part_keeps a b happen),
          line_is,
        )
    due_with ReadFault line calls a b inputs runs happen = absurd (false≢true inputs)
    due_with WriteFault line calls a b inputs runs happen = absurd (false≢true inputs)
    due_with LinkFault line calls a b inputs runs happen = absurd (false≢true inputs)
    due_with OutOfMemory line calls a b inputs runs happen = absurd (false≢true inputs)
    due_with status line calls a b inputs runs happen = absurd runs

    abbrev how : Sending
    how = sending_of send code

    abbrev feed : Feed
    feed = file_feed code.rate

    failed_with : (status : Status) (line : List ℕ) (calls : Calls) → RunsCode faithful send code status line calls → HaveFailedBy status calls
    failed_with Done line calls (source, line_is, sent) =
        let is = sent.delivered.carries in
        let reads = ReadsWhole send.source source_limit source in
        record {
          on_store = carried_failed code how feed faithful reads Are AtRest calls is false false (whole_unfailed send.source source_limit source (reads_in is.on_store.later) is.on_store.holds_later.reads)
              (subst (HaveFailed false false) (sym is.on_store.holds_later.writes)
              (appends_unfailed (outputs_of send code) (due_of code how feed faithful reads Are AtRest calls is) (due_are code how feed faithful reads Are AtRest calls is)));
          on_links = rest_well code how feed faithful reads Are calls is;
        }
    failed_with UnknownPattern line calls (unknown, line_is, none) = none_failed-by UnknownPattern calls refl none
    failed_with SamePath line calls (path, pattern, shared, line_is, none) = none_failed-by SamePath calls refl none
    failed_with OutOfMemory line calls (lacks, line_is) = record {
      on_store = none_failed calls.on_store lacks.on_store;
      on_links = ⊎_elim (ap (list_any moves.is_fault)) (ap (list_any moves.is_fault)) lacks.on_links;
    }
    failed_with ReadFault line calls (carries, line_is) =
        let is = carries.carries in
        let reads = ReadsToFault send.source source_limit in
        record {
          on_store = front_failed code how feed faithful reads AtRest true calls is (fault_failed send.source source_limit (reads_in is.on_store.later) is.on_store.holds_later.reads);
          on_links = rest_well code how feed faithful reads IsFrontOf calls is;
        }
    failed_with TooLong line calls (carries, line_is) =
        let is = carries.carries in
        let reads = ReadsPastLimit send.source source_limit in
        record {
          on_store = front_failed code how feed faithful reads AtRest false calls is (reads_unfailed 0 send.source (reads_in is.on_store.later) is.on_store.holds_later.reads.reads);
          on_links = rest_well code how feed faithful reads IsFrontOf calls is;
        }
    failed_with LinkFault line calls (carries, line_is) =
        let is = carries.carries in
        let reads = ReadsAny send.source source_limit in
        record {
          on_store = front_failed code how feed faithful reads (Breaks faithful code (pattern_in send code)) false calls is (any-unfailed send.source source_limit (reads_in is.on_store.later) is.on_store.holds_later.reads);
          on_links = links_fault code how feed faithful reads IsFrontOf calls is;
        }
    failed_with WriteFault line calls (inl is, line_is) = record {
      on_store = creates_of-failed (outputs_of send code) calls.on_store is.stops.on_store;
      on_links = ap (list_any moves.is_fault) is.stops.on_links;
    }
    failed_with WriteFault line calls (inr carries, line_is) =
        let is = carries.carries in
        let reads = ReadsAny send.source source_limit in
        record {
          on_store = carried_failed code how feed faithful reads StopsWithin AtRest calls is false true (any-unfailed send.source source_limit (reads_in is.on_store.later) is.on_store.holds_later.reads)
              (appends-failed (outputs_of send code) (due_of code how feed faithful reads StopsWithin AtRest calls is) (writes_in is.on_store.later) (due_are code how feed faithful reads StopsWithin AtRest calls is)
              is.on_store.holds_later.writes);
          on_links = rest_well code how feed faithful reads StopsWithin calls is;
        }
    failed_with status line calls runs = absurd runs

    -- the line of a fault, or of want of memory
    line_with : (status : Status) (line : List ℕ) (calls : Calls) → RunsCode faithful send code status line calls → IsFalse (is_of_inputs status) → line ≡ fault_line status
    line_with ReadFault line calls runs not = runs.1
    line_with WriteFault line calls runs not = runs.1
    line_with OutOfMemory line calls runs not = runs.1
    line_with LinkFault line calls runs not = runs.1
    line_with status line calls runs not = absurd (false≢true (sym not))

    -- one status is due
    same_due : (file : Option (List ℕ)) (status : Status) (line : List ℕ) (status' : Status) (line' : List ℕ) → DueWith send code file status line → DueWith send code file status' line' → status ≡ status'
    same_due file UnknownPattern line UnknownPattern line' (unknown, is) (unknown', is') = refl
    same_due file UnknownPattern line SamePath line' (unknown, is) (path, pattern, shared, is') = absurd (false≢true (sym unknown ∙ pattern))
    same_due file UnknownPattern line TooLong line' (unknown, is) (clear, long, is') = absurd (false≢true (sym unknown ∙ clear.known))
    same_due file UnknownPattern line Done line' (unknown, is) (clear, sent) = absurd (false≢true (sym unknown ∙ clear.known))
    same_due file SamePath line UnknownPattern line' (path, pattern, shared, is) (unknown, is') = absurd (false≢true (sym unknown ∙ pattern))
    same_due file SamePath line SamePath line' (path, pattern, shared, is) (path', pattern', shared', is') = refl
    same_due file SamePath line TooLong line' (path, pattern, shared, is) (clear, long, is') = let apart = clear.apart in absurd (cc)
    same_due file SamePath line Done line' (path, pattern, shared, is) (clear, sent) = let apart = clear.apart in absurd (cc)
    same_due file TooLong line UnknownPattern line' (clear, long, is) (unknown, is') = absurd (false≢true (sym unknown ∙ clear.known))
    same_due file TooLong line SamePath line' (clear, long, is) (path, pattern, shared, is') = let apart = clear.apart in absurd (cc)
    same_due file TooLong line TooLong line' (clear, long, is) (clear', long', is') = refl
    same_due file TooLong line Done line' (clear, long, is) (clear', sent) = absurd (not_long source_limit file sent.0 sent.1 long)
    same_due file Done line UnknownPattern line' (clear, sent) (unknown, is') = absurd (false≢true (sym unknown ∙ clear.known))
    same_due file Done line SamePath line' (clear, sent) (path, pattern, shared, is') = let apart = clear.apart in absurd (cc)
    same_due file Done line TooLong line' (clear, sent) (clear', long, is') = absurd (not_long source_limit file sent.0 sent.1 long)
    same_due file Done line Done line' (clear, sent) (clear', sent') = refl
    same_due file Done line status' line' is is' = absurd is'
    same_due file UnknownPattern line status' line' is is' = absurd is'
    same_due file SamePath line status' line' is is' = absurd is'
    same_due file TooLong line status' line' is is' = absurd is'
    same_due file status line status' line' is is' = absurd is

  -- ---- the command

  -- what is left where the code couldn't be had
  lost : (status : Status) (line : List ℕ) (before after : Outside) → IsTrue (is_lost status) → LeavesUnread send.code status before after → ChangesTo faithful send status line before after
  lost Done line before after is left = absurd (false≢true is)
  lost WriteFault line before after is left = absurd left
  lost LinkFault line before after is left = absurd left
  lost ReadFault line before after is left = inl left
  lost TooLong line before after is left = inl left
  lost status line before after is left = left

  faultless : (status : Status) (line : List ℕ) (files : Files) (before after : Outside) → before.files ≡ Some files → ChangesTo faithful send status line before after → NoFault send before after → IsFalse (is_fault status)
  faultless ReadFault line files before after told change works = ⊎_elim (λ code. absurd (works.code_read code.1)) (λ source. absurd (works.source_read source.1.rose)) change
  faultless WriteFault line files before after told (code, stop) works =
      let held = known before.files files (λ files. HoldsCode (files send.code) (Ok code)) told stop.has_code.held in
      absurd (works.outputs_written files code stop.output told (held.0, held.1.held, held.2.spelled) stop.is_output stop.rose)
  faultless LinkFault line files before after told (code, broken) works = absurd (works.links_worked broken.rose)
  faultless status line files before after told change works = refl

  sends_well : ActsWell code_limit IsCodeOf RefusesCode send.code (Sends faithful send) (OwedOf send) (DueOf send) (Changes faithful send) (NoFault send)
  sends_well = record {
    changes = λ code outcome deeds before after accounted held runs. changes_with send code faithful deeds before after accounted held outcome.status outcome.line runs;
    due = λ code outcome deeds before after accounted runs inputs.
        told_at before.files after.files deeds.calls.on_store send.source (λ file. DueWith send code file outcome.status outcome.line)
        (λ a b happen. due_with code outcome.status outcome.line deeds.calls a b inputs runs happen) accounted.files;
    lines = λ code outcome calls runs not. line_with code outcome.status outcome.line calls runs not;
    causes = λ code outcome calls runs. failed_with code outcome.status outcome.line calls runs;
    used = λ code outcome calls runs is. subst (λ status. RunsCode faithful send code status outcome.line calls) is runs;
    alike = λ code files due owed is is_owed. ap any_witness (same_due code (files send.source) due.status due.line owed is_owed.0 is is_owed.1);
    lost = λ outcome before after. lost outcome.status outcome.line before after;
    faultless = λ outcome files before after. faultless outcome.status outcome.line files before after;
  }

  pub send_known : IsKnown (send_command faithful send)
  send_known = acts_known code_limit IsCodeOf RefusesCode send.code (Sends faithful send) (OwedOf send) (DueOf send) (Changes faithful send) (NoFault send) code_input sends_well

  -- the words were a form
  pub send_used : (outcome : Outcome) (calls : Calls) → (send_command faithful send).runs outcome calls → outcome.status ≢ Usage
  send_used = acts_used code_limit IsCodeOf RefusesCode send.code (Sends faithful send) (OwedOf send) (DueOf send) (Changes faithful send) (NoFault send) code_input sends_well
