use Rattle.std.proofs.Common.{rules, append_assoc}
use Rattle.std.proofs.lemmas.Result.{IfOk-equal}
use Rattle.std.proofs.lemmas.List.Folds.{concat-append}
use Rattle.code_items.specs.DraftParts.{draft_items}
use Rattle.code_file.specs.Items.{items_in, bytes_in}
use Rattle.code_file.proofs.WrittenLaws.{entries_fit}
use Rattle.code_file.proofs.writing.write_code_one.Goals as goal

pub put_decoders-requires : goal.put_decoders-requires
put_decoders-requires c = rw c.as_slice.ensures (entries_fit c.args.code.now)

pub returns : goal.returns
unfolding draft_items items_in bytes_in
returns c = search (rules, IfOk-equal, append_assoc, concat-append)
