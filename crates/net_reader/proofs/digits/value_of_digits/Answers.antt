use Rattle.std.proofs.Common.{◌≤◌, ◌+◌, ◌*◌, ◌-◌, get_or, arith}
use Rattle.net_reader.specs.Digits.{value_of_digits}
use Rattle.net_reader.proofs.DigitLaws.{value_more}
use Rattle.net_reader.proofs.digits.value_of_digits.Goals as goal

pub returns-in_default : goal.returns-in_default
returns-in_default c = λ fits.
    let more : c.loop-digit.value * 10 + (get_or c.args.digits.now c.loop-digit.digit-index 0 - 48) ≤ value_of_digits c.args.digits.now =
    rw c.loop-digit.invariant.so_far (value_more c.args.digits.now c.loop-digit.digit-index (omega arith)) in
    c.in_default.ensures (omega arith)

pub returns-in_default-checked_add : goal.returns-in_default-checked_add
returns-in_default-checked_add c = λ fits.
    let more : c.loop-digit.value * 10 + (get_or c.args.digits.now c.loop-digit.digit-index 0 - 48) ≤ value_of_digits c.args.digits.now =
    rw c.loop-digit.invariant.so_far (value_more c.args.digits.now c.loop-digit.digit-index (omega arith)) in
    c.in_default-checked_add.ensures (omega arith)
