use Rattle.std.proofs.Common.{◌≤◌, ◌*◌, ◌^◌, List, ℕ, arith, subst, sym}
use Rattle.std.proofs.Math.Pow.{pow_mono}
use Rattle.generation_frame.specs.Blocks.{pieces}
use Rattle.least_set.specs.Members.{bound}
use Rattle.due_sums.specs.Counts.{IsWaiting, lists_of}
use Rattle.due_sums.proofs.GroupLaws.{groups_sum}
use Rattle.due_sums.proofs.WaitingLaws.{HasNothing-fresh, IsWaiting-fresh, rooms, shifted}
use Rattle.due_sums.proofs.due_sums.DueSums.new.Goals as goal

pub readers_of-requires-clause-below : goal.readers_of-requires-clause-below
readers_of-requires-clause-below c = (groups_sum c.args.sums c.in_ok-groups.groups.inputs c.in_ok-groups.groups.starts.items c.in_ok-groups.ensures c.args.inputs c.requires.sums).below

pub fresh_tables-requires : goal.fresh_tables-requires
fresh_tables-requires c = groups_sum c.args.sums c.in_ok-groups.groups.inputs c.in_ok-groups.groups.starts.items c.in_ok-groups.ensures c.args.inputs c.requires.sums

-- there is room for the numbers of all generations
pub new-requires : goal.new-requires
new-requires c =
    let shift = c.shift_for-shift.result in
    let low = c.shift_for-shift.ensures.low_shift in
    omega (arith, shifted c.args.generations shift 64 c.requires.few_generations low (omega arith), rooms c.args.generations (2 ^ shift) c.requires.few_generations (pow_mono low))

pub invariant_of-result : goal.invariant_of-result
invariant_of-result c =
    let groups = c.in_ok-groups.groups in
    let readers = lists_of c.in_ok-readers.readers.items in
    let tables = c.in_ok-tables.tables.items in
    let shift = c.shift_for-shift.result in
    let due = c.in_ok-new.field-0 in
    let low = c.shift_for-shift.ensures.low_shift in
    let count = c.in_ok-tables.ensures.count in
    let Waits : List (List ℕ) → Type 0 = λ sums. IsWaiting c.args.inputs sums groups.inputs groups.starts.items readers tables (2 ^ shift) due in
    let bounded : c.args.generations * 2 ^ shift * pieces ≤ bound due =
    omega (arith, c.in_ok-new.ensures.room, shifted c.args.generations shift 64 c.requires.few_generations low (omega arith)) in
    subst Waits (sym c.sums.view_is)
    (IsWaiting-fresh c.args.inputs c.args.sums groups.inputs groups.starts.items readers tables (2 ^ shift) due c.requires.sums c.ranges.inputs.fits c.in_ok-groups.ensures c.in_ok-readers.ensures
    (omega (arith, c.shift_for-shift.ensures.room, c.len.ensures)) (pow_mono low) (omega (arith, count, c.requires.few_generations))
    (subst (λ n. n * 2 ^ shift * pieces ≤ bound due) (sym count) bounded) c.in_ok-tables.ensures.fresh c.in_ok-new.ensures.none)

pub returns-clause-nothing : goal.returns-clause-nothing
returns-clause-nothing c =
    HasNothing-fresh c.args.inputs _ c.in_ok-groups.groups.inputs c.in_ok-tables.tables.items (2 ^ c.shift_for-shift.result) c.in_ok-new.field-0 c.in_ok-tables.ensures.fresh
    c.in_ok-new.ensures.none
