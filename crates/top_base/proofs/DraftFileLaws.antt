-- Drafts as inputs: bytes are the file of one draft, or are refused in one way.
use Rattle.code_file.specs.Drafts.{IsDraftFileOf, draft_parts_of}
use Rattle.code_file.specs.Limits.{code_limit}
use Rattle.code_file.proofs.DraftLaws.{draft_not_refused}
use Rattle.top_base.specs.DraftFiles.{RefusesDraft}
use Rattle.top_base.proofs.CodeFileLaws.{input_of}
use Rattle.top_base.proofs.InputLaws.{IsInput}
use Rattle.top_base.proofs.SameDraft.{same_draft}

-- what has to be known of a draft as an input
pub draft_input : IsInput code_limit IsDraftFileOf RefusesDraft
draft_input = input_of IsDraftFileOf draft_parts_of draft_not_refused same_draft
