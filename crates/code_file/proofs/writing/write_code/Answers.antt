use Rattle.std.proofs.Common.{rules, append_assoc}
use Rattle.std.proofs.lemmas.Result.{IfOk-equal}
use Rattle.std.proofs.lemmas.List.Folds.{concat-append}
use Rattle.code_items.specs.DraftParts.{draft_items}
use Rattle.code_file.specs.Items.{items_in, bytes_in}
use Rattle.code_file.proofs.WrittenLaws.{entries_fit, few_decoders, sizes_fit}
use Rattle.code_file.proofs.writing.write_code.Goals as goal

pub sames_of-requires-clause-sizes : goal.sames_of-requires-clause-sizes
sames_of-requires-clause-sizes c = rw c.as_slice-decoders.ensures (sizes_fit c.args.code.now)

pub sames_of-requires-clause-elements : goal.sames_of-requires-clause-elements
sames_of-requires-clause-elements c = rw c.as_slice-decoders.ensures (entries_fit c.args.code.now)

pub sames_of-requires-clause-few : goal.sames_of-requires-clause-few
sames_of-requires-clause-few c = rw c.as_slice-decoders.ensures (few_decoders c.args.code.now)

pub put_shared_decoders-requires-clause-elements : goal.put_shared_decoders-requires-clause-elements
put_shared_decoders-requires-clause-elements c = rw c.as_slice-decoders.ensures (entries_fit c.args.code.now)

pub returns : goal.returns
unfolding draft_items items_in bytes_in
returns c = search (rules, IfOk-equal, append_assoc, concat-append)
