use Rattle.std.proofs.Common.{◌≡◌, ◌<◌, ◌≤◌, ◌+◌, ◌*◌, ◌%◌, ◌^◌, ◌∙◌, List, ℕ, [], ap, arith, false, length, slice_index, slice_index_or, subst, sym}
use Rattle.std.proofs.lemmas.List.{length-map}
use Rattle.generation_frame.specs.Frames.{accepted}
use Rattle.held_rows.specs.Held.{Holds, is_held}
use Rattle.item_list.proofs.Places.{row_end}
use Rattle.due_sums.specs.Counts.{CountsDown, IsTable, lists_of, reads_of}
use Rattle.due_sums.specs.Groups.{HasSums}
use Rattle.due_sums.specs.Waiting.{Waiting, due_number}
use Rattle.due_sums.proofs.GroupLaws.{groups_fit}
use Rattle.due_sums.proofs.TableLaws.{enough}
use Rattle.due_sums.proofs.WaitingLaws.{Gains-table, IsWaiting-accept, low_shift, not_before, readers_at, rooms, shifted, within_tables}
use Rattle.due_sums.specs.declared.due_sums.Table.{Table}
use Rattle.due_sums.proofs.due_sums.DueSums.accept.Goals as goal
use Rattle.due_sums.proofs.due_sums.DueSums.accept.Goals.{After-count_down, After-deref-2}

-- the generation is there
within : (c : After-deref-2) → c.args.generation < length c.self.inside.tables.items
within c =
    let inside = c.self.inside in
    omega (arith, c.requires.generation, within_tables inside.inputs inside.sums inside.tables.items (2 ^ inside.shift) inside.due c.args.self.now c.self.view_is)

-- the first place of its sums
abbrev base : After-deref-2 → ℕ
base c = c.args.generation * 2 ^ c.self.inside.shift

-- and the shift that gives it loses nothing
base_is : (c : After-deref-2) → (c.args.generation * 2 ^ c.self.inside.shift) % 2 ^ 64 ≡ base c
base_is c = shifted c.args.generation c.self.inside.shift 64 (omega (arith, within c, c.self.invariant.few_generations)) (low_shift c.self.inside.shift c.self.invariant.low_room) (omega arith)

-- there is room for its sums
room : (c : After-deref-2) → base c + 2 ^ c.self.inside.shift ≤ length c.self.inside.tables.items * 2 ^ c.self.inside.shift
room c = row_end c.args.generation (length c.self.inside.tables.items) (2 ^ c.self.inside.shift) (within c)

-- its counts
counted : (c : After-deref-2) → IsTable c.self.inside.inputs c.self.inside.sums c.self.inside.groups.inputs c.index_mut-table.result.now (base c) c.self.inside.due
counted c =
    let inside = c.self.inside in
    subst (λ (table : Table). IsTable inside.inputs inside.sums inside.groups.inputs table (base c) inside.due) (sym c.index_mut-table.ensures.value)
    (c.self.invariant.counted c.args.generation c.index_mut-table.result.now (within c))

-- the input is there
within_inputs : (c : After-deref-2) → c.args.input < c.self.inside.inputs
within_inputs c = omega (arith, c.requires.input, ap (λ (waiting : Waiting). waiting.inputs) c.self.view_is)

-- the sums that read it
readers : (c : After-deref-2) → c.deref-2.result.now ≡ slice_index_or (lists_of c.self.inside.readers.items) c.args.input []
readers c =
    c.deref-2.ensures.value
    ∙ readers_at c.self.inside.readers.items c.args.input c.index.result.now
    (omega (arith, within_inputs c, c.self.invariant.read.count, length-map c.self.inside.readers.items (λ list. list.items))) c.index.ensures

-- the piece hasn't come before
none : (c : After-deref-2) → is_held c.index_mut-table.result.now.held c.args.input c.args.piece ≡ false
none c = not_before _ c.hold.result c.hold.ensures.value c.in_default.not-Known

-- it comes now
came : (c : After-deref-2) → Holds c.args.input c.args.piece c.args.payload.now c.index_mut-table.result.now.held c.hold.new.self
came c = c.hold.ensures.new (c.hold.ensures.value ∙ ap accepted (none c))

pub count_down-requires-clause-enough : goal.count_down-requires-clause-enough
count_down-requires-clause-enough c =
    let inside = c.self.inside in
    let table = c.index_mut-table.result.now in
    let Enough : List ℕ → List ℕ → Type 0 = λ readers counts. (number : ℕ) → reads_of readers c.args.piece number ≤ slice_index counts number in
    let At : List ℕ → Type 0 = λ readers. Enough readers c.deref_mut.result.now in
    subst At (sym (readers c)) (subst (Enough (slice_index_or (lists_of inside.readers.items) c.args.input [])) (sym c.deref_mut.ensures.value)
    (enough inside.inputs inside.sums inside.groups.inputs inside.groups.starts.items (lists_of inside.readers.items) table.held table.missing.items (base c) inside.due c.args.input c.args.piece
    c.self.invariant.grouped c.self.invariant.read (counted c) (within_inputs c) c.requires.piece (none c)))

pub overflow_shl-generation : goal.overflow_shl-generation
overflow_shl-generation c = omega (arith, low_shift c.self.inside.shift c.self.invariant.low_room)

-- there is room for the sums of each group
pub count_down-requires-clause-groups : goal.count_down-requires-clause-groups
count_down-requires-clause-groups c = λ group below.
    let inside = c.self.inside in
    let table = c.index_mut-table.result.now in
    let waiting = c.self.invariant in
    let fits = rooms (length inside.tables.items) (2 ^ inside.shift) waiting.few_generations waiting.low_room in
    subst (λ (first : ℕ). HasSums first c.deref.result.now group inside.due) (sym (base_is c))
    (subst (λ (starts : List ℕ). HasSums (base c) starts group inside.due) (sym c.deref.ensures.value)
    (groups_fit inside.sums inside.groups.inputs inside.groups.starts.items waiting.grouped table.missing.items (base c) inside.due c.args.piece (counted c).whole
    (omega (arith, room c, waiting.enough, fits)) (omega (arith, room c, waiting.enough, waiting.bounded))
    group (subst (λ (counts : List ℕ). due_number group c.args.piece < length counts) c.deref_mut.ensures.value below)))

-- the counts of the groups that read it fall
down : (c : After-count_down) → let table = c.index_mut-table.result.now in
    (c.args.generation * 2 ^ c.self.inside.shift) % 2 ^ 64 ≡ c.args.generation * 2 ^ c.self.inside.shift
    → c.deref-2.result.now ≡ slice_index_or (lists_of c.self.inside.readers.items) c.args.input []
    → CountsDown (c.args.generation * 2 ^ c.self.inside.shift) (reads_of (slice_index_or (lists_of c.self.inside.readers.items) c.args.input []) c.args.piece) c.self.inside.groups.starts.items
    c.args.piece table.missing.items c.count_down.new.missing c.self.inside.due c.count_down.new.due
down c first read =
    let Down : ℕ → List ℕ → List ℕ → List ℕ → Type 0 = λ first readers starts counts.
    CountsDown first (reads_of readers c.args.piece) starts c.args.piece counts c.count_down.new.missing c.self.inside.due c.count_down.new.due in
    let own = slice_index_or (lists_of c.self.inside.readers.items) c.args.input [] in
    let base = c.args.generation * 2 ^ c.self.inside.shift in
    subst (λ (counts : List ℕ). Down base own c.self.inside.groups.starts.items counts) c.deref_mut.ensures.value
    (subst (λ (starts : List ℕ). Down base own starts c.deref_mut.result.now) c.deref.ensures.value
    (subst (λ (readers : List ℕ). Down base readers c.deref.result.now c.deref_mut.result.now) read
    (subst (λ (first : ℕ). Down first c.deref-2.result.now c.deref.result.now c.deref_mut.result.now) first c.count_down.ensures)))

-- and there are as many
whole : (c : After-count_down) → length c.count_down.new.missing ≡ length c.index_mut-table.result.now.missing.items
whole c = c.count_down.auto.missing ∙ ap (λ (counts : List ℕ). length counts) c.deref_mut.ensures.value

pub invariant_of-self-2 : goal.invariant_of-self-2
invariant_of-self-2 c =
    let here = (goal.at.invariant_of-self-2 c).After-deref-2 in
    let there = (goal.at.invariant_of-self-2 c).After-count_down in
    let inside = c.self.inside in
    IsWaiting-accept inside.inputs inside.sums inside.groups.inputs inside.groups.starts.items (lists_of inside.readers.items) inside.tables.items (2 ^ inside.shift) inside.due c.self.invariant
    c.args.generation (within here) c.args.input c.args.piece c.args.payload.now c.index_mut-table.result.now c.hold.new.self c.count_down.new.missing c.count_down.new.due c.index_mut-table.ensures.value
    (within_inputs here) c.requires.piece (none here) (came here) c.hold.ensures.count (down there (base_is here) (readers here)) (whole there)

pub returns-clause-new : goal.returns-clause-new
returns-clause-new c = λ _.
    let here = (goal.at.returns-clause-new c).After-deref-2 in
    let there = (goal.at.returns-clause-new c).After-count_down in
    let inside = c.self.inside in
    Gains-table inside.inputs inside.sums inside.groups.inputs inside.groups.starts.items (lists_of inside.readers.items) inside.tables.items (2 ^ inside.shift) inside.due c.self.invariant
    c.args.generation (within here) c.args.input c.args.piece c.args.payload.now c.index_mut-table.result.now c.hold.new.self c.count_down.new.missing c.count_down.new.due c.index_mut-table.ensures.value
    (within_inputs here) c.requires.piece (none here) (came here) c.hold.ensures.count (down there (base_is here) (readers here)) (whole there) c.args.self.now c.self.view_is
