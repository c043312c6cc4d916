use Rattle.std.proofs.Common.{inl, inr, subst, sym}
use Rattle.least_set.specs.Members.{GainsEighths}
use Rattle.due_sums.proofs.DownLaws.{counted_down, has_sums, some_missing, within_counts}
use Rattle.due_sums.proofs.counting.count_down.Goals.{else-missing-number-eq0, then-missing-number-eq0}
use Rattle.due_sums.proofs.counting.count_down.Goals as goal

pub overflow_sub-missing : goal.overflow_sub-missing
overflow_sub-missing c =
    some_missing c.args.base c.args.readers.now c.args.starts.now c.args.piece c.loop-group.group-index c.args.missing.now c.loop-group.missing c.args.due.now c.loop-group.due
    c.loop-group-test.true c.requires.enough c.loop-group.invariant

pub bounds-missing-number : goal.bounds-missing-number
bounds-missing-number c =
    within_counts c.loop-group.missing _
    (some_missing c.args.base c.args.readers.now c.args.starts.now c.args.piece c.loop-group.group-index c.args.missing.now c.loop-group.missing c.args.due.now c.loop-group.due
    c.loop-group-test.true c.requires.enough c.loop-group.invariant)

pub make_due-requires-clause-sums : goal.make_due-requires-clause-sums
make_due-requires-clause-sums c =
    has_sums c.args.base c.args.readers.now c.args.starts.now c.args.piece c.loop-group.group-index c.args.missing.now c.loop-group.missing c.args.due.now c.loop-group.due
    c.loop-group-test.true c.requires.enough c.loop-group.invariant c.loop-group.auto.missing c.requires.groups

pub loop-group-preserved : goal.loop-group-preserved
loop-group-preserved c =
    counted_down c.args.base c.args.readers.now c.args.starts.now c.args.piece c.loop-group.group-index c.args.missing.now c.loop-group.missing c.args.due.now c.loop-group.due
    c.if-missing-number-eq0.due c.requires.piece c.loop-group-test.true
    (has_sums c.args.base c.args.readers.now c.args.starts.now c.args.piece c.loop-group.group-index c.args.missing.now c.loop-group.missing c.args.due.now c.loop-group.due
    c.loop-group-test.true c.requires.enough c.loop-group.invariant c.loop-group.auto.missing c.requires.groups).some_sums c.requires.enough c.loop-group.invariant
    (elim c.if-missing-number-eq0.branch [
      | then-missing-number-eq0 w ↦ inl (w.if-missing-number-eq0.true, subst (λ set. GainsEighths _ _ c.loop-group.due set) (sym w.due-is) w.make_due.ensures)
      | else-missing-number-eq0 w ↦ inr (w.if-missing-number-eq0.false, w.due-is)
    ])
