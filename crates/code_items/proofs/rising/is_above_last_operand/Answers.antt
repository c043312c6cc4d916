use Rattle.std.proofs.Common.{true, sym, ap, ◌∙◌}
use Rattle.std.specs.Prelude.{nat_lt}
use Rattle.std.specs.Option.{option_map_or}
use Rattle.code_items.proofs.Above.{above_last_by}
use Rattle.code_items.proofs.rising.is_above_last_operand.Goals as goal

pub returns-in-Some : goal.returns-in-Some
returns-in-Some c =
    let xs = c.args.earlier.now in
    let n = c.args.number in
    sym (above_last_by (λ operand. operand.from) xs n ∙ ap (λ o. option_map_or (λ operand. nat_lt operand.from n) o true) (sym c.in-Some.ensures.value))
