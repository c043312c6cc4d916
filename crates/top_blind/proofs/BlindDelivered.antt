-- Where words name links of a code and share no path, each sink that has the rank is delivered the source.
use Rattle.std.specs.Prelude.{◌≡◌, ◌⊎◌, ◌≤◌, ◌∷◌, ℕ, Bool, true, Contains, List, [], Option, None, Some, length, unwrap_or}
use Rattle.std.proofs.Common.{refl, sym, ap, subst, ◌∙◌, inl, inr, ⊎_elim, arith}
use Rattle.std.proofs.lemmas.Bool.{false≢true}
use Rattle.std.proofs.lemmas.List.{take_all}
use Rattle.std.proofs.lemmas.List.Elements.{All-contains_itself, All-weaker}
use Rattle.code_file.specs.Items.{IsFileOf}
use Rattle.code_file.specs.Limits.{code_limit}
use Rattle.command_steps.proofs.DoneLaws.{done_outcome, left_told, owed_comes}
use Rattle.command_steps.proofs.HeldLaws.{held_cases, held_owed}
use Rattle.command_steps.proofs.RefusalLaws.{or_changes, or_owed}
use Rattle.command_steps.specs.Feeding.{ChangesFeeding, FeedsFiles, FeedsPart}
use Rattle.command_steps.specs.Filling.{files_by}
use Rattle.command_steps.specs.Steps.{ChangesNone, OwedBy}
use Rattle.item_list.proofs.Maps.{map-agree}
use Rattle.lif_outside.specs.Calls.{Objects, Outside, outside_after, outside_before}
use Rattle.lif_outside.specs.FileCalls.{Written, appends_of, bytes_appended}
use Rattle.lif_outside.specs.Files.{AreDistinct, Files, HoldsPrefix, SameFiles}
use Rattle.lif_outside.specs.Told.{Becomes, Told}
use Rattle.lif_outside.specs.Writes.{WritesFiles, WritesPart}
use Rattle.lif_outside.specs.declared.links.Links.{Ghosts as LinksGhosts}
use Rattle.lif_outside.specs.declared.sink.Sink.{Ghosts as SinkGhosts}
use Rattle.lif_outside.specs.declared.store.Store.{Ghosts as StoreGhosts}
use Rattle.node_program.specs.declared.code.Code.{Code}
use Rattle.source_turns.specs.Turns.{feed_turns}
use Rattle.top_base.proofs.CodeFileLaws.{file_input}
use Rattle.top_base.proofs.InputLaws.{same_held}
use Rattle.top_base.specs.Acting.{LeavesUnread}
use Rattle.top_base.specs.CodeFiles.{RefusesFile}
use Rattle.top_base.specs.Inputs.{is_lost}
use Rattle.top_base.specs.Performs.{LeavesAll, Performs}
use Rattle.top_base.specs.Words.{Blind, source_limit}
use Rattle.top_base.specs.declared.outcome.Outcome.{Outcome}
use Rattle.top_base.specs.declared.status.Status.{Status}
use Rattle.top_base.specs.declared.status.Status.TheVariants.{Done, LinkFault, OutOfMemory, ReadFault, TooLong, WriteFault}
use Rattle.top_blind.proofs.BlindLaws.{declined_clear}
use Rattle.top_blind.proofs.OutputLaws.{whole_distinct}
use Rattle.top_blind.proofs.PieceLaws.{source-added}
use Rattle.top_blind.specs.Blind.{blind_command, blind_feeds, blind_through, declined, delivery, failed_in, line_in, outputs_in}
use Rattle.top_blind.specs.Delivered.{BlindDelivers, IsBlindGiven, copies}

module _ (given : Blind) (code : Code) (source : List ℕ) (files : Files) (is : IsBlindGiven given code source files) where
  abbrev outputs : List (List ℕ)
  outputs = outputs_in given code

  abbrev turns : Bool → List ℕ → List (List Written)
  turns = feed_turns (delivery code outputs)

  abbrev line : List ℕ → List ℕ
  line = line_in given code

  distinct : AreDistinct outputs
  distinct = whole_distinct (given.code ∷ given.source ∷ []) given.prefix code (failed_in given code) (declined_clear given code is.clear)

  -- what the turns of the source bring is the source
  filled : files_by outputs (turns true source) ≡ copies given code source
  filled =
      map-agree (λ path. (path, bytes_appended path (appends_of (turns true source)))) (λ path. (path, source)) (Contains outputs)
      (λ path there. ap (λ bytes. (path, bytes)) (source-added code outputs source path distinct there)) outputs (All-contains_itself outputs)

  -- ---- what is left

  abbrev IsPart : Files → Type 0
  IsPart = WritesPart (copies given code source) files

  -- files that are the source, and files that are as before
  whole_part : (new : Files) → WritesFiles (copies given code source) files new → IsPart new
  whole_part new written = record {
    others = written.others;
    these = All-weaker (λ (file : Written). new file.0 ≡ Some file.1) (λ (file : Written). (new file.0 ≡ files file.0) ⊎ HoldsPrefix file.1 (new file.0))
        (λ file holds. inr (length file.1, holds ∙ ap Some (sym (take_all (length file.1) file.1 (omega arith))))) (copies given code source) written.these;
  }

  same_part : (new : Files) → SameFiles files new → IsPart new
  same_part new same = record {
    others = λ path apart. same path;
    these = All-weaker (Contains (copies given code source)) (λ (file : Written). (new file.0 ≡ files file.0) ⊎ HoldsPrefix file.1 (new file.0))
        (λ file there. inl (same file.0)) (copies given code source) (All-contains_itself (copies given code source));
  }

  module _ (before after : Outside) (told : before.files ≡ Some files) where
    all_left : LeavesAll before after → Told after.files IsPart
    all_left leaves = left_told before.files after.files files SameFiles IsPart told leaves same_part

    -- a source that was fed
    fed_left : Becomes before.files after.files (FeedsFiles given.source source_limit outputs turns line) → Told after.files (WritesFiles (copies given code source) files)
    fed_left fed = left_told before.files after.files files (FeedsFiles given.source source_limit outputs turns line) (WritesFiles (copies given code source) files) told fed (λ new fed.
        let same : fed.source ≡ source = same_held (files given.source) fed.source source fed.held.held is.source_held in
        subst (λ written. WritesFiles written files new) (ap (λ bytes. files_by outputs (turns true bytes)) same ∙ filled) fed.left)

    -- and one that wasn't fed to its end
    part_left : Becomes before.files after.files (FeedsPart given.source source_limit outputs turns line) → Told after.files IsPart
    part_left part = left_told before.files after.files files (FeedsPart given.source source_limit outputs turns line) IsPart told part (λ new left.
        subst (λ written. WritesPart written files new) (ap (λ file. files_by outputs (turns true (unwrap_or file []))) is.source_held ∙ filled) left)

    whole_left : Told after.files (WritesFiles (copies given code source) files) → Told after.files IsPart
    whole_left = at after.files
      where
        at : (content : Option Files) → Told content (WritesFiles (copies given code source) files) → Told content IsPart
        at None whole = tt
        at (Some new) whole = whole_part new whole

    feeding_left : (status : Status) → ChangesFeeding given.source source_limit outputs turns line status before after → Told after.files IsPart
    feeding_left Done fed = whole_left (fed_left fed)
    feeding_left ReadFault changes = part_left changes.1
    feeding_left TooLong changes = part_left changes.1
    feeding_left WriteFault changes = part_left changes.1
    feeding_left OutOfMemory leaves = all_left leaves
    feeding_left status changes = absurd changes

    unread_left : (status : Status) → LeavesUnread given.code status before after → Told after.files IsPart
    unread_left ReadFault left = all_left left.0
    unread_left WriteFault left = absurd left
    unread_left LinkFault left = absurd left
    unread_left status left = all_left left

    cases : (outcome : Outcome) → (blind_command given).changes outcome before after
        → (blind_feeds given code).changes outcome before after ⊎ ChangesNone code_limit IsFileOf RefusesFile given.code (blind_through given) outcome before after
    cases outcome changes = ⊎_elim
        (λ had. inl (or_changes (declined given code) (blind_feeds given code) outcome before after is.clear had))
        inr
        (held_cases code_limit IsFileOf RefusesFile given.code (blind_through given) files code is.code_held file_input.same outcome before after told changes)

    left : (outcome : Outcome) → (blind_command given).changes outcome before after → Told after.files IsPart
    left outcome changes = ⊎_elim (feeding_left outcome.status) (λ none. unread_left outcome.status none.unread) (cases outcome changes)

    -- the command is done, so the code was had
    left_done : (outcome : Outcome) → outcome.status ≡ Done → (blind_command given).changes outcome before after → Told after.files (WritesFiles (copies given code source) files)
    left_done outcome done changes = ⊎_elim
        (λ fed. fed_left (subst (λ status. ChangesFeeding given.source source_limit outputs turns line status before after) done fed))
        (λ none. absurd (false≢true (sym (ap is_lost done) ∙ none.lost)))
        (cases outcome changes)

  owed : length source ≤ source_limit → OwedBy (blind_command given).due files Done
  owed short =
      held_owed code_limit IsFileOf RefusesFile given.code (blind_through given) files code is.code_held Done
      (or_owed (declined given code) (blind_feeds given code) files Done is.clear (line source, (source, record { held = is.source_held; short = short }, refl)))

-- A code's file, words that name its links and share no path, and a source: each sink that has the rank is delivered the source.
pub blind-delivers : {S C L : Type 0} {g : StoreGhosts S} {h : SinkGhosts C} {k : LinksGhosts L} (o : Objects g h k) (given : Blind) (status : Status) → Performs (blind_command given) o status
    → BlindDelivers given status (outside_before o) (outside_after o)
blind-delivers o given status performs code source files told is =
    let before = outside_before o in
    let after = outside_after o in
    let leaves = performs.of_content in
    record {
      delivered = λ done. left_done given code source files is before after told leaves.outcome (done_outcome leaves.outcome status before after done leaves.says) leaves.changes;
      prefixes = left given code source files is before after told leaves.outcome leaves.changes;
      comes = λ short. owed_comes (blind_command given) status before after files told (owed given code source files is short) performs.of_inputs;
    }
