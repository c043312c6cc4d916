use Rattle.std.proofs.Common.{rules, append_assoc}
use Rattle.std.proofs.lemmas.List.Folds.{concat-append}
use Rattle.code_items.specs.DraftParts.{draft_items}
use Rattle.code_items.proofs.Joined.{operands_fit}
use Rattle.code_items.proofs.draft_parts.put_draft_parts.Goals as goal

pub put_operand_table-requires : goal.put_operand_table-requires
put_operand_table-requires c =
    let coding = c.args.coding in
    rw c.as_slice.ensures (operands_fit coding.net.now coding.rate coding.field coding.net.now.links coding.operands.now coding.draft.link_operands)

pub returns : goal.returns
unfolding draft_items
returns c = search (rules, append_assoc, concat-append)
