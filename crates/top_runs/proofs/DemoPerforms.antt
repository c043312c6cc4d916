-- What has to be known of `demo`.
use Rattle.std.specs.Prelude.{◌≡◌, ◌≢◌, ℕ, Bool, true, false, IsTrue, IsFalse, List, [], ◌∷◌}
use Rattle.std.specs.List.{list_any}
use Rattle.std.proofs.Common.{refl, sym, ap, ◌∙◌, ⊎_elim}
use Rattle.std.proofs.lemmas.Bool.{false≢true, or_left, or_right}
use Rattle.std.proofs.lemmas.List.Folds.{list_any-append}
use Rattle.lif_outside.proofs.DeedLaws.{Accounted}
use Rattle.lif_outside.proofs.FaultLaws.{none_failed}
use Rattle.lif_outside.specs.Calls.{Calls, Deeds, Outside}
use Rattle.lif_outside.specs.Moves as moves
use Rattle.node_program.specs.declared.code.Code.{Code}
use Rattle.top_base.proofs.LeavingLaws.{keep_files, none_keep}
use Rattle.top_base.proofs.PerformingLaws.{HaveFailedBy, IsKnown}
use Rattle.top_base.specs.Outcome.{any_witness, fault_line, is_fault, is_of_inputs}
use Rattle.top_base.specs.Performs.{LeavesAll}
use Rattle.top_base.specs.Words.{Demo}
use Rattle.top_base.specs.declared.outcome.Outcome.{Outcome}
use Rattle.top_base.specs.declared.status.Status.{Status}
use Rattle.top_base.specs.declared.status.Status.TheVariants.{Done, LinkFault, OutOfMemory, Usage}
use Rattle.top_runs.proofs.DemoShown.{quiet-left, seed-left, well}
use Rattle.top_runs.specs.Demo.Command.{demo_command}
use Rattle.top_runs.specs.Demo.Due.{ChangesTo, DueOf, LinksWork}
use Rattle.top_runs.specs.Demo.Given.{blocks_in, source_of}
use Rattle.top_runs.specs.Demo.Runs.{CarriesSource, RunsDemo}
use Rattle.source_delivery.specs.Carried.{Breaks, file_block}

module _ (faithful : Bool) (demo : Demo) where
  -- there is no call on the store
  files_stay : (calls : Calls) (deeds : Deeds) (before after : Outside) → Accounted deeds before after → deeds.calls.on_store ≡ [] → LeavesAll before after
  files_stay calls deeds before after accounted none = keep_files before.files after.files deeds.calls.on_store (none_keep deeds.calls.on_store none) accounted.files

  -- the call that failed is among those on the links
  broken : (code : Code) (calls : Calls) → CarriesSource faithful demo code (Breaks faithful code 0 (file_block (source_of demo) code.rate) (blocks_in demo code)) calls → list_any moves.is_fault calls.on_links ≡ true
  broken code calls is =
      let links = is.on_links in
      let breaks = links.holds_later.rest in
      let last : list_any moves.is_fault links.holds_later.later ≡ true =
      ap (list_any moves.is_fault) breaks.stopped.ended ∙ list_any-append moves.is_fault breaks.stopped.front (breaks.stopped.fault ∷ [])
      ∙ or_right (list_any moves.is_fault breaks.stopped.front) (list_any moves.is_fault (breaks.stopped.fault ∷ [])) (or_left (moves.is_fault breaks.stopped.fault) false breaks.stopped.fails) in
      let all : list_any moves.is_fault links.later ≡ true =
      ap (list_any moves.is_fault) links.holds_later.moves_are ∙ list_any-append moves.is_fault links.holds_later.first links.holds_later.later
      ∙ or_right (list_any moves.is_fault links.holds_later.first) (list_any moves.is_fault links.holds_later.later) last in
      ap (list_any moves.is_fault) links.events_are ∙ list_any-append moves.is_fault links.first links.later
      ∙ or_right (list_any moves.is_fault links.first) (list_any moves.is_fault links.later) all

  changes_with : (status : Status) (line : List ℕ) (deeds : Deeds) (before after : Outside) → Accounted deeds before after → RunsDemo faithful demo status line deeds.calls → ChangesTo status before after
  changes_with Done line deeds before after accounted is = (
    files_stay deeds.calls deeds before after accounted is.shows.carries.on_store,
    seed-left faithful demo is.code line deeds.calls is.shows before.faithful before.in_flight after.in_flight accounted.moved,
    quiet-left faithful demo is.code line deeds.calls is.shows before.faithful before.in_flight after.in_flight accounted.moved,
  )
  changes_with LinkFault line deeds before after accounted (code, is, line_is) =
      (files_stay deeds.calls deeds before after accounted is.on_store, accounted.failed_move (broken code deeds.calls is))
  changes_with OutOfMemory line deeds before after accounted (lacks, line_is) = files_stay deeds.calls deeds before after accounted lacks.on_store
  changes_with status line deeds before after accounted runs = absurd runs

  due_with : (status : Status) (line : List ℕ) (calls : Calls) → IsTrue (is_of_inputs status) → RunsDemo faithful demo status line calls → DueOf faithful demo (record { status = status; line = line })
  due_with Done line calls inputs is = (refl, (is.code, is.shown))
  due_with LinkFault line calls inputs runs = absurd (false≢true inputs)
  due_with OutOfMemory line calls inputs runs = absurd (false≢true inputs)
  due_with status line calls inputs runs = absurd runs

  line_with : (status : Status) (line : List ℕ) (calls : Calls) → RunsDemo faithful demo status line calls → IsFalse (is_of_inputs status) → line ≡ fault_line status
  line_with LinkFault line calls (code, is, line_is) not = line_is
  line_with OutOfMemory line calls (lacks, line_is) not = line_is
  line_with Done line calls runs not = absurd (false≢true (sym not))
  line_with status line calls runs not = absurd runs

  failed_with : (status : Status) (line : List ℕ) (calls : Calls) → RunsDemo faithful demo status line calls → HaveFailedBy status calls
  failed_with Done line calls is = record { on_store = none_failed calls.on_store is.shows.carries.on_store; on_links = well faithful demo is.code line calls is.shows }
  failed_with LinkFault line calls (code, is, line_is) = record { on_store = none_failed calls.on_store is.on_store; on_links = broken code calls is }
  failed_with OutOfMemory line calls (lacks, line_is) = record {
    on_store = none_failed calls.on_store lacks.on_store;
    on_links = ⊎_elim (ap (list_any moves.is_fault)) (λ refused. ap (list_any moves.is_fault) refused.2) lacks.on_links;
  }
  failed_with status line calls runs = absurd runs

  faultless_with : (status : Status) (line : List ℕ) (calls : Calls) (before after : Outside) → RunsDemo faithful demo status line calls → ChangesTo status before after → LinksWork before after → IsFalse (is_fault status)
  faultless_with Done line calls before after runs change works = refl
  faultless_with LinkFault line calls before after runs change works = absurd (works change.1)
  faultless_with OutOfMemory line calls before after runs change works = refl
  faultless_with status line calls before after runs change works = absurd runs

  used_with : (status : Status) (line : List ℕ) (calls : Calls) → RunsDemo faithful demo status line calls → status ≢ Usage
  used_with Done line calls runs is = cc
  used_with LinkFault line calls runs is = cc
  used_with OutOfMemory line calls runs is = cc
  used_with status line calls runs is = absurd runs

  pub demo_known : IsKnown (demo_command faithful demo)
  demo_known = record {
    changes = λ outcome deeds before after accounted runs. changes_with outcome.status outcome.line deeds before after accounted runs;
    due = λ outcome deeds before after accounted runs inputs. due_with outcome.status outcome.line deeds.calls inputs runs;
    lines = λ outcome calls runs not. line_with outcome.status outcome.line calls runs not;
    causes = λ outcome calls runs. failed_with outcome.status outcome.line calls runs;
    alike = λ due owed is is_owed. ap any_witness (is.0 ∙ sym is_owed);
    faultless = λ owed outcome calls before after is_owed runs change works. faultless_with outcome.status outcome.line calls before after runs change works;
  }

  -- the words were a form
  pub demo_used : (outcome : Outcome) (calls : Calls) → (demo_command faithful demo).runs outcome calls → outcome.status ≢ Usage
  demo_used outcome calls = used_with outcome.status outcome.line calls
