-- What has to be known of the command `sendtwo`.
use Rattle.std.specs.Prelude.{◌≡◌, ◌≢◌, ◌⊎◌, ◌||◌, ℕ, Bool, true, false, not, List, Option, Some, Ok, IsTrue, IsFalse}
use Rattle.std.specs.List.{list_any}
use Rattle.std.proofs.Common.{refl, sym, ap, subst, ◌∙◌, inl, inr, ⊎_elim}
use Rattle.std.proofs.lemmas.Bool.{false≢true}
use Rattle.code_file.specs.Limits.{code_limit}
use Rattle.lif_outside.specs.Calls.{Calls, Outside}
use Rattle.lif_outside.specs.Events.{Event, Follow, HappenAt}
use Rattle.lif_outside.proofs.FaultLaws.{HaveFailed, appends_unfailed, fault_failed, none_failed, reads_unfailed, whole_unfailed}
use Rattle.lif_outside.specs.Files.{Files}
use Rattle.lif_outside.specs.Moves as moves
use Rattle.lif_outside.specs.FileCalls.{ReadsPastLimit, ReadsToFault, ReadsWhole, StopsWithin, bytes_read}
use Rattle.lif_outside.proofs.FileCallLaws.{long_held}
use Rattle.lif_outside.specs.Sequences.{Are, IsFrontOf}
use Rattle.lif_outside.specs.Streams.{reads_in, writes_in}
use Rattle.lif_outside.proofs.TurnLaws.{appends-failed, creates_of-failed}
use Rattle.lif_outside.specs.ToldLaws.{told_before}
use Rattle.node_program.specs.declared.code.Code.{Code}
use Rattle.source_delivery.specs.Carried.{Breaks}
use Rattle.source_delivery.specs.Reading.{Source}
use Rattle.source_delivery.specs.Streaming.{AtRest, Feed}
use Rattle.source_delivery.specs.Twin.{ReadsBoth, ReadsSoFar, twin_feed}
use Rattle.top_base.specs.Accepting.{HoldsCode, IsCodeOf, RefusesCode}
use Rattle.top_base.proofs.AcceptingLaws.{code_input}
use Rattle.top_base.specs.Acting.{LeavesUnread}
use Rattle.top_base.proofs.ActingLaws.{ActsWell, acts_known, acts_used}
use Rattle.top_base.specs.Inputs.{HoldsLong, HoldsShort, is_lost}
use Rattle.top_base.proofs.InputLaws.{not_long}
use Rattle.top_base.specs.Outcome.{any_witness, fault_line, is_fault, is_of_inputs}
use Rattle.top_base.proofs.PerformingLaws.{HaveFailedBy, IsKnown, known, none_failed-by}
use Rattle.top_base.specs.Words.{SendTwo, source_limit}
use Rattle.top_base.specs.declared.outcome.Outcome.{Outcome}
use Rattle.top_base.specs.declared.status.Status.{Status}
use Rattle.top_base.specs.declared.status.Status.TheVariants.{BadSplit, Done, LinkFault, OutOfMemory, ReadFault, SamePath, TooLong, UnknownPattern, Usage, WriteFault}
use Rattle.top_runs.specs.SendTwo.Changes.{Changes, ChangesTo}
use Rattle.top_runs.specs.SendTwo.Command.{send_two_command}
use Rattle.top_runs.specs.SendTwo.Due.{DueOf, DueWith, NoFault, OwedOf}
use Rattle.top_runs.specs.SendTwo.Given.{first_of, outputs_of, pattern_in, second_of, sending_of}
use Rattle.top_runs.specs.SendTwo.Runs.{CarriesBoth, FirstSoFar, RunsCode, SecondSoFar, SendsTwo}
use Rattle.top_runs.specs.Sending.{Sending}
use Rattle.top_runs.proofs.MarkedLaws.{marked-failed}
use Rattle.top_runs.proofs.SendTwoLeaving.{by_ones, by_twos, changes_with, first_held, ones, second_held, twos}
use Rattle.top_runs.proofs.SendingLaws.{carried_failed, due_are, due_of, front_failed, links_fault, part_keeps, rest_well}

-- reads of a source so far, whatever they gave, haven't failed
so_far-unfailed : (source : Source) (limit : ℕ) (reads : List Event) → ReadsSoFar source limit reads → HaveFailed false false reads
so_far-unfailed source limit reads (false, are) = reads_unfailed 0 source.path reads are.0
so_far-unfailed source limit reads (true, are) = whole_unfailed source.path limit (bytes_read reads) reads are

module _ (faithful : Bool) (send : SendTwo) where
  -- ---- of an accepted code

  module _ (code : Code) where
    -- which outcome is due, by what the sources' paths held
    due_with : (status : Status) (line : List ℕ) (calls : Calls) (a b c d : Option (List ℕ)) → IsTrue (is_of_inputs status) → RunsCode faithful send code status line calls
        → HappenAt send.first calls.on_store a b → HappenAt send.second calls.on_store c d → DueWith send code a c status line
    due_with Done line calls a b c d inputs (one, two, line_is, is) happen happen' =
        (is.delivered.clear, (one, two, first_held send code faithful one two calls is a b happen, second_held send code faithful one two calls is c d happen', line_is))
    due_with UnknownPattern line calls a b c d inputs (unknown, line_is, none) happen happen' = (unknown, line_is)
    due_with (BadSplit rate) line calls a b c d inputs (pattern, unfit, rate_is, line_is, none) happen happen' = (pattern, unfit, rate_is, line_is)
    due_with SamePath line calls a b c d inputs (path, pattern, fit, shared, line_is, none) happen happen' = (path, pattern, fit, shared, line_is)
    due_with TooLong line calls a b c d inputs (inl is, line_is) happen happen' =
        let past = ReadsPastLimit send.first source_limit in (
          is.clear,
          inl (long_held send.first source_limit (ones send code faithful past (SecondSoFar send code) IsFrontOf AtRest calls is part_keeps) a b is.carries.on_store.holds_later.reads.of_first
              (by_ones send code faithful past (SecondSoFar send code) IsFrontOf AtRest calls is part_keeps a b happen)),
          line_is,
        )
    due_with TooLong line calls a b c d inputs (inr is, line_is) happen happen' =
        let past = ReadsPastLimit send.second source_limit in (
          is.clear,
          inr (long_held send.second source_limit (twos send code faithful (FirstSoFar send) past IsFrontOf AtRest calls is part_keeps) c d is.carries.on_store.holds_later.reads.of_second
              (by_twos send code faithful (FirstSoFar send) past IsFrontOf AtRest calls is part_keeps c d happen')),
          line_is,
        )
    due_with ReadFault line calls a b c d inputs runs happen happen' = absurd (false≢true inputs)
    due_with WriteFault line calls a b c d inputs runs happen happen' = absurd (false≢true inputs)
    due_with LinkFault line calls a b c d inputs runs happen happen' = absurd (false≢true inputs)
    due_with OutOfMemory line calls a b c d inputs runs happen happen' = absurd (false≢true inputs)
    due_with status line calls a b c d inputs runs happen happen' = absurd runs

    abbrev how : Sending
    how = sending_of send code

    abbrev feed : List Bool → Feed
    feed marks = twin_feed (first_of send).rate (second_of send code).rate marks

    -- which reads of both failed
    both-failed : (P Q : List Event → Type 0) (D : List Event → List Event → Type 0) (R : (ℕ → List ℕ) → ℕ → ℕ → List moves.Move → Type 0) (calls : Calls) (is : CarriesBoth faithful send code P Q D R calls) (a b : Bool)
        → ((reads : List Event) → P reads → HaveFailed a false reads) → ((reads : List Event) → Q reads → HaveFailed b false reads) → HaveFailed (a || b) false (reads_in is.carries.on_store.later)
    both-failed P Q D R calls is a b one other =
        let reads = is.carries.on_store.holds_later.reads in
        marked-failed is.marks (reads_in is.carries.on_store.later) a false b false reads.as_many (one _ reads.of_first) (other _ reads.of_second)

    -- and which calls, where the sources were read in part
    part-failed : (P Q : List Event → Type 0) (R : (ℕ → List ℕ) → ℕ → ℕ → List moves.Move → Type 0) (calls : Calls) → CarriesBoth faithful send code P Q IsFrontOf R calls → (a b : Bool)
        → ((reads : List Event) → P reads → HaveFailed a false reads) → ((reads : List Event) → Q reads → HaveFailed b false reads) → HaveFailed (a || b) false calls.on_store
    part-failed P Q R calls is a b one other =
        front_failed code how (feed is.marks) faithful (ReadsBoth (first_of send).rate (second_of send code).rate P Q is.marks) R (a || b) calls is.carries (both-failed P Q IsFrontOf R calls is a b one other)

    well : (P Q : List Event → Type 0) (D : List Event → List Event → Type 0) (calls : Calls) → CarriesBoth faithful send code P Q D AtRest calls → list_any moves.is_fault calls.on_links ≡ false
    well P Q D calls is = rest_well code how (feed is.marks) faithful (ReadsBoth (first_of send).rate (second_of send code).rate P Q is.marks) D calls is.carries

    any-one : (reads : List Event) → FirstSoFar send reads → HaveFailed false false reads
    any-one = so_far-unfailed (first_of send) source_limit

    any-two : (reads : List Event) → SecondSoFar send code reads → HaveFailed false false reads
    any-two = so_far-unfailed (second_of send code) source_limit

    failed_with : (status : Status) (line : List ℕ) (calls : Calls) → RunsCode faithful send code status line calls → HaveFailedBy status calls
    failed_with Done line calls (one, two, line_is, sent) =
        let both = sent.delivered in
        let is = both.carries in
        let P = ReadsWhole send.first source_limit one in
        let Q = ReadsWhole send.second source_limit two in
        let reads = ReadsBoth (first_of send).rate (second_of send code).rate P Q both.marks in
        record {
          on_store = carried_failed code how (feed both.marks) faithful reads Are AtRest calls is false false
              (both-failed P Q Are AtRest calls both false false (λ reads whole. whole_unfailed send.first source_limit one reads whole) (λ reads whole. whole_unfailed send.second source_limit two reads whole))
              (subst (HaveFailed false false) (sym is.on_store.holds_later.writes)
              (appends_unfailed (outputs_of send code) (due_of code how (feed both.marks) faithful reads Are AtRest calls is) (due_are code how (feed both.marks) faithful reads Are AtRest calls is)));
          on_links = well P Q Are calls both;
        }
    failed_with UnknownPattern line calls (unknown, line_is, none) = none_failed-by UnknownPattern calls refl none
    failed_with (BadSplit rate) line calls (pattern, unfit, rate_is, line_is, none) = none_failed-by (BadSplit rate) calls refl none
    failed_with SamePath line calls (path, pattern, fit, shared, line_is, none) = none_failed-by SamePath calls refl none
    failed_with OutOfMemory line calls (lacks, line_is) = record {
      on_store = none_failed calls.on_store lacks.on_store;
      on_links = ⊎_elim (ap (list_any moves.is_fault)) (ap (list_any moves.is_fault)) lacks.on_links;
    }
    failed_with ReadFault line calls (inl is, line_is) =
        let P = ReadsToFault send.first source_limit in
        record {
          on_store = part-failed P (SecondSoFar send code) AtRest calls is true false (λ reads fault. fault_failed send.first source_limit reads fault) any-two;
          on_links = well P (SecondSoFar send code) IsFrontOf calls is;
        }
    failed_with ReadFault line calls (inr is, line_is) =
        let Q = ReadsToFault send.second source_limit in
        record {
          on_store = part-failed (FirstSoFar send) Q AtRest calls is false true any-one (λ reads fault. fault_failed send.second source_limit reads fault);
          on_links = well (FirstSoFar send) Q IsFrontOf calls is;
        }
    failed_with TooLong line calls (inl is, line_is) =
        let P = ReadsPastLimit send.first source_limit in
        record {
          on_store = part-failed P (SecondSoFar send code) AtRest calls is false false (λ reads past. reads_unfailed 0 send.first reads past.reads) any-two;
          on_links = well P (SecondSoFar send code) IsFrontOf calls is;
        }
    failed_with TooLong line calls (inr is, line_is) =
        let Q = ReadsPastLimit send.second source_limit in
        record {
          on_store = part-failed (FirstSoFar send) Q AtRest calls is false false any-one (λ reads past. reads_unfailed 0 send.second reads past.reads);
          on_links = well (FirstSoFar send) Q IsFrontOf calls is;
        }
    failed_with LinkFault line calls (is, line_is) = record {
      on_store = part-failed (FirstSoFar send) (SecondSoFar send code) (Breaks faithful code (pattern_in send code)) calls is false false any-one any-two;
      on_links = links_fault code how (feed is.marks) faithful (ReadsBoth (first_of send).rate (second_of send code).rate (FirstSoFar send) (SecondSoFar send code) is.marks) IsFrontOf calls is.carries;
    }
    failed_with WriteFault line calls (inl is, line_is) = record {
      on_store = creates_of-failed (outputs_of send code) calls.on_store is.stops.on_store;
      on_links = ap (list_any moves.is_fault) is.stops.on_links;
    }
    failed_with WriteFault line calls (inr both, line_is) =
        let is = both.carries in
        let reads = ReadsBoth (first_of send).rate (second_of send code).rate (FirstSoFar send) (SecondSoFar send code) both.marks in
        record {
          on_store = carried_failed code how (feed both.marks) faithful reads StopsWithin AtRest calls is false true (both-failed (FirstSoFar send) (SecondSoFar send code) StopsWithin AtRest calls both false false any-one any-two)
              (appends-failed (outputs_of send code) (due_of code how (feed both.marks) faithful reads StopsWithin AtRest calls is) (writes_in is.on_store.later) (due_are code how (feed both.marks) faithful reads StopsWithin AtRest calls is)
              is.on_store.holds_later.writes);
          on_links = well (FirstSoFar send) (SecondSoFar send code) StopsWithin calls both;
        }
    failed_with status line calls runs = absurd runs

    -- the line of a fault, or of want of memory
    line_with : (status : Status) (line : List ℕ) (calls : Calls) → RunsCode faithful send code status line calls → IsFalse (is_of_inputs status) → line ≡ fault_line status
    line_with ReadFault line calls runs not = runs.1
    line_with WriteFault line calls runs not = runs.1
    line_with OutOfMemory line calls runs not = runs.1
    line_with LinkFault line calls runs not = runs.1
    line_with status line calls runs not = absurd (false≢true (sym not))

    -- a file within the limit isn't longer
    neither_long : (first second : Option (List ℕ)) (one two : List ℕ) → HoldsShort source_limit one first → HoldsShort source_limit two second → HoldsLong source_limit first ⊎ HoldsLong source_limit second → ⊥
    neither_long first second one two short short' (inl long) = not_long source_limit first one short long
    neither_long first second one two short short' (inr long) = not_long source_limit second two short' long

    -- one status is due
    same_due : (first second : Option (List ℕ)) (status : Status) (line : List ℕ) (status' : Status) (line' : List ℕ) → DueWith send code first second status line → DueWith send code first second status' line' → status ≡ status'
    same_due first second UnknownPattern line UnknownPattern line' (unknown, is) (unknown', is') = refl
    same_due first second UnknownPattern line (BadSplit rate') line' (unknown, is) (pattern', unfit', rate_is', is') = absurd (false≢true (sym unknown ∙ pattern'))
    same_due first second UnknownPattern line SamePath line' (unknown, is) (path', pattern', fit', shared', is') = absurd (false≢true (sym unknown ∙ pattern'))
    same_due first second UnknownPattern line TooLong line' (unknown, is) (clear', long', is') = absurd (false≢true (sym unknown ∙ clear'.known))
    same_due first second UnknownPattern line Done line' (unknown, is) (clear', sent') = absurd (false≢true (sym unknown ∙ clear'.known))
    same_due first second (BadSplit rate) line UnknownPattern line' (pattern, unfit, rate_is, is) (unknown', is') = absurd (false≢true (sym unknown' ∙ pattern))
    same_due first second (BadSplit rate) line (BadSplit rate') line' (pattern, unfit, rate_is, is) (pattern', unfit', rate_is', is') = ap BadSplit (rate_is ∙ sym rate_is')
    same_due first second (BadSplit rate) line SamePath line' (pattern, unfit, rate_is, is) (path', pattern', fit', shared', is') = absurd (unfit fit')
    same_due first second (BadSplit rate) line TooLong line' (pattern, unfit, rate_is, is) (clear', long', is') = absurd (unfit clear'.fit)
    same_due first second (BadSplit rate) line Done line' (pattern, unfit, rate_is, is) (clear', sent') = absurd (unfit clear'.fit)
    same_due first second SamePath line UnknownPattern line' (path, pattern, fit, shared, is) (unknown', is') = absurd (false≢true (sym unknown' ∙ pattern))
    same_due first second SamePath line (BadSplit rate') line' (path, pattern, fit, shared, is) (pattern', unfit', rate_is', is') = absurd (unfit' fit)
    same_due first second SamePath line SamePath line' (path, pattern, fit, shared, is) (path', pattern', fit', shared', is') = refl
    same_due first second SamePath line TooLong line' (path, pattern, fit, shared, is) (clear', long', is') = let apart = clear'.apart in absurd (cc)
    same_due first second SamePath line Done line' (path, pattern, fit, shared, is) (clear', sent') = let apart = clear'.apart in absurd (cc)
    same_due first second TooLong line UnknownPattern line' (clear, long, is) (unknown', is') = absurd (false≢true (sym unknown' ∙ clear.known))
    same_due first second TooLong line (BadSplit rate') line' (clear, long, is) (pattern', unfit', rate_is', is') = absurd (unfit' clear.fit)
    same_due first second TooLong line SamePath line' (clear, long, is) (path', pattern', fit', shared', is') = let apart = clear.apart in absurd (cc)
    same_due first second TooLong line TooLong line' (clear, long, is) (clear', long', is') = refl
    same_due first second TooLong line Done line' (clear, long, is) (clear', sent') = absurd (neither_long first second sent'.0 sent'.1 sent'.2 sent'.3 long)
    same_due first second Done line UnknownPattern line' (clear, sent) (unknown', is') = absurd (false≢true (sym unknown' ∙ clear.known))
    same_due first second Done line (BadSplit rate') line' (clear, sent) (pattern', unfit', rate_is', is') = absurd (unfit' clear.fit)
    same_due first second Done line SamePath line' (clear, sent) (path', pattern', fit', shared', is') = let apart = clear.apart in absurd (cc)
    same_due first second Done line TooLong line' (clear, sent) (clear', long', is') = absurd (neither_long first second sent.0 sent.1 sent.2 sent.3 long')
    same_due first second Done line Done line' (clear, sent) (clear', sent') = refl
    same_due first second Done line status' line' is is' = absurd is'
    same_due first second UnknownPattern line status' line' is is' = absurd is'
    same_due first second (BadSplit rate) line status' line' is is' = absurd is'
    same_due first second SamePath line status' line' is is' = absurd is'
    same_due first second TooLong line status' line' is is' = absurd is'
    same_due first second status line status' line' is is' = absurd is

  -- ---- the command

  -- what is left where the code couldn't be had
  lost : (status : Status) (line : List ℕ) (before after : Outside) → IsTrue (is_lost status) → LeavesUnread send.code status before after → ChangesTo faithful send status line before after
  lost Done line before after is left = absurd (false≢true is)
  lost WriteFault line before after is left = absurd left
  lost LinkFault line before after is left = absurd left
  lost ReadFault line before after is left = inl left
  lost TooLong line before after is left = inl left
  lost status line before after is left = left

  faultless : (status : Status) (line : List ℕ) (files : Files) (before after : Outside) → before.files ≡ Some files → ChangesTo faithful send status line before after → NoFault send before after → IsFalse (is_fault status)
  faultless ReadFault line files before after told change works = ⊎_elim (λ code. absurd (works.code_read code.1)) (λ source. ⊎_elim (λ rose. absurd (works.first_read rose)) (λ rose. absurd (works.second_read rose)) source.1.rose) change
  faultless WriteFault line files before after told (code, stop) works =
      let held = known before.files files (λ files. HoldsCode (files send.code) (Ok code)) told stop.has_code.held in
      absurd (works.outputs_written files code stop.output told (held.0, held.1.held, held.2.spelled) stop.is_output stop.rose)
  faultless LinkFault line files before after told (code, broken) works = absurd (works.links_worked broken.rose)
  faultless status line files before after told change works = refl

  sends_well : ActsWell code_limit IsCodeOf RefusesCode send.code (SendsTwo faithful send) (OwedOf send) (DueOf send) (Changes faithful send) (NoFault send)
  sends_well = record {
    changes = λ code outcome deeds before after accounted held runs. changes_with send code faithful deeds before after accounted held outcome.status outcome.line runs;
    due = λ code outcome deeds before after accounted runs inputs.
        told_before before.files after.files (Follow deeds.calls.on_store) (λ files. DueWith send code (files send.first) (files send.second) outcome.status outcome.line) accounted.files
        (λ old new follow. due_with code outcome.status outcome.line deeds.calls (old send.first) (new send.first) (old send.second) (new send.second) inputs runs (follow send.first) (follow send.second));
    lines = λ code outcome calls runs not. line_with code outcome.status outcome.line calls runs not;
    causes = λ code outcome calls runs. failed_with code outcome.status outcome.line calls runs;
    used = λ code outcome calls runs is. subst (λ status. RunsCode faithful send code status outcome.line calls) is runs;
    alike = λ code files due owed is is_owed. ap any_witness (same_due code (files send.first) (files send.second) due.status due.line owed is_owed.0 is is_owed.1);
    lost = λ outcome before after. lost outcome.status outcome.line before after;
    faultless = λ outcome files before after. faultless outcome.status outcome.line files before after;
  }

  pub send_two_known : IsKnown (send_two_command faithful send)
  send_two_known = acts_known code_limit IsCodeOf RefusesCode send.code (SendsTwo faithful send) (OwedOf send) (DueOf send) (Changes faithful send) (NoFault send) code_input sends_well

  -- the words were a form
  pub send_two_used : (outcome : Outcome) (calls : Calls) → (send_two_command faithful send).runs outcome calls → outcome.status ≢ Usage
  send_two_used = acts_used code_limit IsCodeOf RefusesCode send.code (SendsTwo faithful send) (OwedOf send) (DueOf send) (Changes faithful send) (NoFault send) code_input sends_well
