use Rattle.std.proofs.Common.{◌≡◌, ◌≤◌, ◌*◌, ◌∙◌, ◌^◌, All, ap, arith, length, subst, sym}
use Rattle.std.specs.Vec.{with_items}
use Rattle.std.proofs.lemmas.List.{with_items_is}
use Rattle.generation_frame.specs.Blocks.{pieces}
use Rattle.least_set.specs.Members.{bound}
use Rattle.due_sums.specs.Counts.{IsFresh, IsOfSize, lists_of}
use Rattle.due_sums.proofs.GroupLaws.{groups_sum}
use Rattle.due_sums.proofs.WaitingLaws.{HasNothing-fresh, IsWaiting-fresh, sizes}
use Rattle.due_sums.proofs.due_sums.DueSums.clear.Goals as goal

pub clear_tables-requires-clause-groups : goal.clear_tables-requires-clause-groups
clear_tables-requires-clause-groups c =
    let inside = c.self.inside in
    groups_sum inside.sums inside.groups.inputs inside.groups.starts.items c.self.invariant.grouped inside.inputs c.self.invariant.work

pub clear_tables-requires-clause-tables : goal.clear_tables-requires-clause-tables
clear_tables-requires-clause-tables c =
    let inside = c.self.inside in
    subst (All (IsOfSize inside.inputs inside.groups.inputs)) (sym c.deref_mut.ensures.value)
    (sizes inside.inputs inside.sums inside.groups.inputs inside.groups.starts.items (lists_of inside.readers.items) inside.tables.items (2 ^ inside.shift) inside.due c.self.invariant)

-- the generations stand where they stood
stands : (c : goal.After-clear) → (with_items c.self.inside.tables c.clear_tables.new.tables).items ≡ c.clear_tables.new.tables
stands c = with_items_is c.self.inside.tables c.clear_tables.new.tables (c.clear_tables.auto.tables ∙ c.deref_mut.ensures.len)

-- and there are as many
as_many : (c : goal.After-clear) → length (with_items c.self.inside.tables c.clear_tables.new.tables).items ≡ length c.self.inside.tables.items
as_many c = ap length (stands c) ∙ c.clear_tables.auto.tables ∙ ap length c.deref_mut.ensures.value

-- nothing has come of them
fresh : (c : goal.After-clear) → All (IsFresh c.self.inside.inputs c.self.inside.groups.inputs) (with_items c.self.inside.tables c.clear_tables.new.tables).items
fresh c = subst (All (IsFresh c.self.inside.inputs c.self.inside.groups.inputs)) (sym (stands c)) c.clear_tables.ensures

pub invariant_of-self : goal.invariant_of-self
invariant_of-self c =
    let inside = c.self.inside in
    let waiting = c.self.invariant in
    let room = 2 ^ inside.shift in
    let bounded : length inside.tables.items * room * pieces ≤ bound c.clear.new.self = omega (arith, waiting.bounded, c.clear.ensures.room) in
    IsWaiting-fresh inside.inputs inside.sums inside.groups.inputs inside.groups.starts.items (lists_of inside.readers.items) (with_items inside.tables c.clear_tables.new.tables).items room
    c.clear.new.self waiting.work waiting.few_inputs waiting.grouped waiting.read waiting.enough waiting.low_room (omega (arith, waiting.few_generations, as_many c))
    (subst (λ n. n * room * pieces ≤ bound c.clear.new.self) (sym (as_many c)) bounded) (fresh c) c.clear.ensures.none

pub returns-clause-nothing : goal.returns-clause-nothing
returns-clause-nothing c =
    let inside = c.self.inside in
    HasNothing-fresh inside.inputs inside.sums inside.groups.inputs (with_items inside.tables c.clear_tables.new.tables).items (2 ^ inside.shift) c.clear.new.self (fresh c) c.clear.ensures.none
