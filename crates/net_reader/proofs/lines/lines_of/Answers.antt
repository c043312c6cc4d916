use Rattle.std.proofs.Common.{List, ℕ, arith, Bor}
use Rattle.std.proofs.lemmas.Grind.{common_steps}
use Rattle.net_reader.proofs.Texts.{lines_kept, lines_dropped}
use Rattle.net_reader.proofs.lines.lines_of.Goals as goal

pub returns : goal.returns
returns c = rw c.in_ok-push.ensures.items (lines_kept (λ (line : Bor (List ℕ)). line.now) c.in_ok-lines.lines.items c.pop.new.self.items c.in-Some.last c.args.text.now c.in_ok-lines.ensures c.in-Some.ensures.items (grind (arith, common_steps, c.if-is_empty.ensures)))

pub returns-then-is_empty : goal.returns-then-is_empty
returns-then-is_empty c = lines_dropped (λ (line : Bor (List ℕ)). line.now) c.in_ok-lines.lines.items c.pop.new.self.items c.in-Some.last c.args.text.now c.in_ok-lines.ensures c.in-Some.ensures.items (grind (arith, common_steps, c.if-is_empty.ensures))
