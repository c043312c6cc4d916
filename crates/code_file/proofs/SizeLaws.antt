-- How large the file of a code is, and that of a draft.
use Rattle.std.specs.Prelude.{◌≤◌, List, [], ◌++◌, length}
use Rattle.std.specs.List.{concat}
use Rattle.std.proofs.Common.{refl, subst, append-nil, arith}
use Rattle.net_model.specs.Failed.{member_count}
use Rattle.node_program.specs.declared.code.Code.{Code}
use Rattle.code_items.specs.DraftParts.{draft_items}
use Rattle.code_items.specs.Items.{Item, front_items, operand_table_items, shared_table_items}
use Rattle.code_items.specs.Limits.{code_limit, fitting_members}
use Rattle.code_items.specs.Room.{size_of_items}
use Rattle.code_items.proofs.Bounds.{whole-bound}
use Rattle.code_file.specs.declared.draft.Draft.{Draft}
use Rattle.code_file.specs.Drafts.{draft_bytes, draft_mark}
use Rattle.code_file.specs.Items.{code_mark, items_in, bytes_in, bytes_of}
use Rattle.code_file.proofs.WrittenLaws.{few_decoders, sizes_fit}

-- a code whose network's patterns have few links together has a file within the limit
pub bytes_of-within : (code : Code) → member_count code.net.patterns ≤ fitting_members → length (bytes_of code) ≤ code_limit
unfolding size_of_items items_in bytes_in
bytes_of-within code few_members =
    whole-bound code_mark 2 code.net code.rate code.field code.operands code.decoders refl code.code.draft (sizes_fit code) (few_decoders code) few_members

-- and so has a draft
pub draft_bytes-within : (draft : Draft) → member_count draft.net.patterns ≤ fitting_members → length (draft_bytes draft) ≤ code_limit
unfolding size_of_items draft_items draft_bytes shared_table_items
draft_bytes-within draft few_members =
    let front = front_items draft_mark 2 draft.net draft.rate draft.field in
    let table = operand_table_items draft.field draft.operands in
    subst (λ (items : List Item). length (concat (front ++ items)) ≤ code_limit) (append-nil table)
    (whole-bound draft_mark 2 draft.net draft.rate draft.field draft.operands [] refl draft.draft refl (omega arith) few_members)
