use Rattle.std.proofs.Common.{inl, ap, ◌∙◌, List, ℕ}
use Rattle.code_file.specs.Limits.{code_limit}
use Rattle.top_base.specs.Accepting.{IsCodeOf, RefusesCode}
use Rattle.top_base.proofs.InspectingLaws.{inspects_had, inspects_lost}
use Rattle.top_base.specs.Inspecting.{OwesDone}
use Rattle.top_base.specs.Lines.{accepted_line}
use Rattle.top_base.specs.declared.outcome.Outcome.{Outcome}
use Rattle.top_base.specs.declared.status.Status.TheVariants.{Done}
use Rattle.top_tools.specs.Check.{IsChecked}
use Rattle.top_tools.proofs.checking.check.Goals as goal

abbrev done : List ℕ → Outcome
done line = record { status = Done; line = line }

pub returns-in-Ok : goal.returns-in-Ok
returns-in-Ok g c =
    inspects_had code_limit IsCodeOf RefusesCode IsChecked OwesDone c.args.path.now c.in-Ok.checked (done c.accepted.result) c.in-Ok.ensures.had
    (inl (ap done (c.accepted.ensures ∙ ap accepted_line c.code.ensures.value)))

pub returns-in-Err : goal.returns-in-Err
returns-in-Err g c = inspects_lost code_limit IsCodeOf RefusesCode IsChecked OwesDone c.args.path.now c.in-Err.refused c.in-Err.ensures.lost
