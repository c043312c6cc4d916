-- A draft's file that is read.
use Rattle.std.specs.Prelude.{◌⊎◌, ℕ, List, Result}
use Rattle.lif_outside.specs.Events.{Event}
use Rattle.code_file.specs.Drafts.{IsDraftFileOf, draft_parts_of}
use Rattle.code_file.specs.Limits.{code_limit}
use Rattle.code_file.specs.declared.draft.Draft.{Draft}
use Rattle.top_base.specs.CodeFiles.{IsRefused}
use Rattle.top_base.specs.Inputs.{IsNoMemory, Reads}
use Rattle.top_base.specs.declared.outcome.Outcome.{Outcome}
use Rattle.top_base.specs.declared.status.Status.{Status}

-- the bytes are no draft's file, with this status and line
abbrev pub RefusesDraft : List ℕ → Status → List ℕ → Type 0
RefusesDraft bytes status line = IsRefused (draft_parts_of bytes) status line

-- the bytes are no draft's file, and this is the outcome, or there was no memory
abbrev pub RefusesDraftOrLosesIt : List ℕ → Outcome → Type 0
RefusesDraftOrLosesIt bytes outcome = RefusesDraft bytes outcome.status outcome.line ⊎ IsNoMemory outcome

-- the calls by which a draft was had from a path, or couldn't be
abbrev pub ReadsDraft : List ℕ → Result Draft Outcome → List Event → Type 0
ReadsDraft path result calls = Reads code_limit IsDraftFileOf RefusesDraft path result calls
