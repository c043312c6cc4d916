use Rattle.std.proofs.Common.{◌+◌, length, arith}
use Rattle.std.proofs.lemmas.List.{length-take-le}
use Rattle.coeff_choice.proofs.ChoosingLaws.{one_unmarked}
use Rattle.coeff_choice.proofs.choosing.allowed_number.Goals as goal

pub first_unmarked-requires : goal.first_unmarked-requires
first_unmarked-requires g c =
    let used = length-take-le (length c.args.products.now + 1) c.args.marks.now (omega arith) in
    one_unmarked c.mark_forbidden.new.marks (omega (arith, c.mark_forbidden.ensures.marked.few_marks, c.mark_forbidden.auto.marks, used))
