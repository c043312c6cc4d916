use Rattle.counted_steps.specs.Steps.{RoseBy}
use Rattle.worked_rows.proofs.tests.fields.steps.find.Given as goal

-- a step for each byte that was looked at
abbrev pub invariant-loop-place : goal.invariant-loop-place
invariant-loop-place g l = RoseBy l.place l.initial.steps l.steps
