use Rattle.std.proofs.Common.{◌≡◌, vec_len}
use Rattle.code_finish.proofs.solving.no_decoders.Given as goal

-- a decoder for each number so far
abbrev pub invariant-loop : goal.invariant-loop
invariant-loop l = vec_len l.decoders ≡ l.counter
