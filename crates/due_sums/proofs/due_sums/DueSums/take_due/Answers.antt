use Rattle.std.proofs.Common.{◌≡◌, ◌≤◌, ◌*◌, ◌/◌, ◌%◌, ◌-◌, ◌^◌, arith, length, refl, subst}
use Rattle.generation_frame.specs.Blocks.{pieces}
use Rattle.due_sums.specs.Counts.{lists_of}
use Rattle.due_sums.specs.Waiting.{Takes, Waiting}
use Rattle.due_sums.proofs.WaitingLaws.{IsWaiting-lost, Takes-least, low_shift, none_due, number_place, rooms, shifted, waiting_of, within_tables}
use Rattle.due_sums.proofs.due_sums.DueSums.take_due.Goals as goal
use Rattle.due_sums.proofs.due_sums.DueSums.take_due.Goals.{After-self}

-- so many generations are there
within : (c : After-self) → c.args.generations ≤ length c.self.inside.tables.items
within c =
    let inside = c.self.inside in
    omega (arith, c.requires, within_tables inside.inputs inside.sums inside.tables.items (2 ^ inside.shift) inside.due c.args.self.now c.self.view_is)

-- their rooms begin below the limit
limit : (c : After-self) → (c.args.generations * 2 ^ c.self.inside.shift) % 2 ^ 32 ≡ c.args.generations * 2 ^ c.self.inside.shift
limit c = shifted c.args.generations c.self.inside.shift 32 (omega (arith, within c, c.self.invariant.few_generations)) (low_shift c.self.inside.shift c.self.invariant.low_room) (omega arith)

pub overflow_shl-limit : goal.overflow_shl-limit
overflow_shl-limit c = omega (arith, low_shift c.self.inside.shift c.self.invariant.low_room)

pub overflow_shr-generation : goal.overflow_shr-generation
overflow_shr-generation c = omega (arith, low_shift c.self.inside.shift c.self.invariant.low_room)

pub overflow_shl-result : goal.overflow_shl-result
overflow_shl-result c = omega (arith, low_shift c.self.inside.shift c.self.invariant.low_room)

pub take_below-requires : goal.take_below-requires
take_below-requires c =
    let here = (goal.at.take_below-requires c).After-self in
    omega (arith, limit here, rooms c.args.generations (2 ^ c.self.inside.shift) (omega (arith, within here, c.self.invariant.few_generations)) c.self.invariant.low_room)

pub invariant_of-self-2 : goal.invariant_of-self-2
invariant_of-self-2 c =
    let inside = c.self.inside in
    IsWaiting-lost inside.inputs inside.sums inside.groups.inputs inside.groups.starts.items (lists_of inside.readers.items) inside.tables.items (2 ^ inside.shift) inside.due c.self.invariant
    c.in_ok-number.number c.take_below.new.self c.in_ok-number.ensures.least.2

pub returns-in_err-number-clause-none : goal.returns-in_err-number-clause-none
returns-in_err-number-clause-none c = λ _.
    let here = (goal.at.returns-in_err-number-clause-none c).After-self in
    let inside = c.self.inside in
    none_due inside.inputs inside.sums inside.tables.items (2 ^ inside.shift) inside.due c.args.generations (c.args.generations * 2 ^ inside.shift % 2 ^ 32 * pieces) c.self.invariant.enough
    (omega (arith, limit here)) (c.in_err-number.ensures.none refl) c.args.self.now c.self.view_is

pub returns-clause-least : goal.returns-clause-least
returns-clause-least c =
    let here = (goal.at.returns-clause-least c).After-self in
    let inside = c.self.inside in
    let room = 2 ^ inside.shift in
    let number = c.in_ok-number.number in
    let low = low_shift inside.shift c.self.invariant.low_room in
    let least = c.in_ok-number.ensures.least in
    let at = number_place c.args.generations inside.shift number (omega (arith, within here, c.self.invariant.few_generations)) low (omega (arith, least.0, limit here)) in
    let place = number / pieces in
    let generation = place / room in
    let sum = place - generation * room % 2 ^ 32 in
    let Before : Waiting → Type 0 = λ old. Takes c.args.generations generation sum (number % pieces) old (waiting_of inside.inputs inside.sums inside.tables.items room c.take_below.new.self) in
    subst Before c.self.view_is
    (Takes-least inside.inputs inside.sums inside.groups.inputs inside.groups.starts.items (lists_of inside.readers.items) inside.tables.items room inside.due c.self.invariant
    c.args.generations generation sum (number % pieces) number c.take_below.new.self at.0 (within here) at.1 (omega arith) (omega (arith, at.2)) least.1 least.2)
