use Rattle.std.proofs.Common.{rules, append_assoc}
use Rattle.std.proofs.lemmas.Result.{IfOk-equal}
use Rattle.std.proofs.lemmas.List.Folds.{concat-append}
use Rattle.code_items.proofs.writing.put_decoder.Goals as goal

pub returns : goal.returns
returns c = search (rules, IfOk-equal, append_assoc, concat-append)
