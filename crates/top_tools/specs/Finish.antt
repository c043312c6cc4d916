-- The command `finish`.
use Rattle.std.specs.Prelude.{◌≡◌, ◌≤◌, ◌<◌, ℕ, List, [], ◌∷◌, length}
use Rattle.code_file.specs.Drafts.{IsDraftFileOf}
use Rattle.code_file.specs.Items.{bytes_of}
use Rattle.code_file.specs.Limits.{code_limit}
use Rattle.code_file.specs.declared.draft.Draft.{Draft}
use Rattle.code_finish.specs.Finished.{IsFinished, IsUnfinished}
use Rattle.code_finish.specs.Solved.{DecodesIn}
use Rattle.code_finish.specs.declared.finishing.FinishWhy.TheVariants.{Confused}
use Rattle.lif_outside.specs.FileCalls.{Written}
use Rattle.net_model.specs.Demands.{demand_count}
use Rattle.node_program.specs.declared.code.Code.{Code}
use Rattle.top_base.specs.DraftFiles.{RefusesDraft}
use Rattle.top_base.specs.Lines.{finished_line, not_decoding_line}
use Rattle.top_base.specs.Making.{makes_files}
use Rattle.top_base.specs.Performs.{Behaviour}
use Rattle.top_base.specs.Words.{Finish}
use Rattle.top_base.specs.declared.status.Status.{Status}
use Rattle.top_base.specs.declared.status.Status.TheVariants.{NotDecoding, TooLong}
use Rattle.top_tools.specs.CodeWriting.{DeclinesLong, IsWritten}

-- what is written and said of a draft: the code that it is finished to
pub record IsMadeOf (given : Finish) (draft : Draft) (files : List Written) (line : List ℕ) : Type 0 where
  pub code : Code
  pub finished : IsFinished draft code
  pub written : IsWritten given.code (finished_line draft.rate draft.field (demand_count draft.net)) code files line

-- a draft that can be finished: all its demands decode, and the code's file is within the limit
pub record CanFinish (draft : Draft) (line : List ℕ) : Type 0 where
  pub decode : (demand : ℕ) → demand < demand_count draft.net → DecodesIn draft demand
  pub within : (code : Code) → IsFinished draft code → length (bytes_of code) ≤ code_limit
  pub line_is : line ≡ finished_line draft.rate draft.field (demand_count draft.net)

-- one that isn't: a demand doesn't decode, the first that doesn't, or the code's file is longer
abbrev pub DeclinesDraft : Draft → Status → List ℕ → Type 0
DeclinesDraft draft (NotDecoding demand block) line = IsUnfinished draft (Confused demand block) × (line ≡ not_decoding_line draft.net demand block)
DeclinesDraft draft TooLong line = (code : Code) × IsFinished draft code × DeclinesLong code TooLong line
DeclinesDraft draft status line = ⊥

-- what the command does: DRAFT is read, and CODE is made of it
abbrev pub finish_command : Finish → Behaviour
finish_command given =
    makes_files code_limit IsDraftFileOf RefusesDraft (IsMadeOf given) CanFinish DeclinesDraft given.draft (given.code ∷ [])
