use Rattle.std.proofs.Common.{true, sym, ap, ◌∙◌}
use Rattle.std.specs.Prelude.{nat_lt}
use Rattle.std.specs.Option.{option_map_or}
use Rattle.std.proofs.lemmas.List.{map-id}
use Rattle.code_items.specs.Reading.{is_above_last}
use Rattle.code_items.proofs.Above.{above_last_by}
use Rattle.code_items.proofs.rising.is_above_last.Goals as goal

pub returns-in-Some : goal.returns-in-Some
returns-in-Some c =
    let xs = c.args.earlier.now in
    let n = c.args.number in
    sym (ap (λ ys. is_above_last ys n) (sym (map-id xs)) ∙ above_last_by (λ x. x) xs n ∙ ap (λ o. option_map_or (λ x. nat_lt x n) o true) (sym c.in-Some.ensures.value))
