use Rattle.std.proofs.Common.{eq-eqb, ne_eqb, refl, sym}
use Rattle.net_reader.proofs.Texts.{return_dropped, return_kept}
use Rattle.net_reader.proofs.lines.without_return.Goals as goal

pub returns-then-last-eq13 : goal.returns-then-last-eq13
returns-then-last-eq13 c = rw (c.in-Some.ensures.cases.0, return_dropped c.in-Some.front.now c.in-Some.last.now (eq-eqb c.in-Some.last.now 13 c.if-last-eq13.true)) refl

pub returns-else-last-eq13 : goal.returns-else-last-eq13
returns-else-last-eq13 c = rw c.in-Some.ensures.cases.0 (sym (return_kept c.in-Some.front.now c.in-Some.last.now (ne_eqb c.in-Some.last.now 13 c.if-last-eq13.false)))
