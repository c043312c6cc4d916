use Rattle.std.proofs.Common.{◌==◌, not, ap, sym, length, arith, eq-eqb}
use Rattle.std.proofs.lemmas.List.Sums.{prefix_len_is}
use Rattle.net_reader.proofs.lines.comment_of.Goals as goal

pub returns-then-byte-eq35 : goal.returns-then-byte-eq35
returns-then-byte-eq35 c = sym (prefix_len_is (λ byte. not (byte == 35)) c.args.line.now c.loop-i.i 0 (omega arith) c.loop-i.invariant (λ more. ap not (eq-eqb _ _ c.if-byte-eq35.true)))

pub returns : goal.returns
returns c = sym (prefix_len_is (λ byte. not (byte == 35)) c.args.line.now (length c.args.line.now) 0 (omega arith) (λ k h. c.loop-i.invariant k (omega arith)) (λ more. absurd (omega arith)))
