use Rattle.std.proofs.Common.{◌≡◌, ◌<◌, ◌^◌, take}
use Rattle.net_reader.specs.Digits.{value_of_digits}
use Rattle.net_reader.proofs.digits.value_of_digits.Given as goal

abbrev pub invariant-loop-digit : goal.invariant-loop-digit
invariant-loop-digit l = record { so_far : l.value ≡ value_of_digits (take l.digit-index l.digits); fits : l.value < 2 ^ 64 }
