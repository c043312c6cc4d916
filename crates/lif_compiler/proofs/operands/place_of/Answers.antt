use Rattle.std.specs.Prelude.{◌≡◌, ◌<◌, ◌≤◌, ℕ, List, length}
use Rattle.std.proofs.Common.{arith, get_or, inl, inr}
use Rattle.std.proofs.lemmas.Bool.{cases_lt}
use Rattle.std.proofs.lemmas.List.Sorted.{searched}
use Rattle.std.proofs.lemmas.Result.{MatchResult-at_err}
use Rattle.net_model.proofs.RisingLaws.{rising-at_most, rising-place, place-from_is_among}
use Rattle.lif_compiler.proofs.operands.place_of.Goals as goal

pub overflow_cast-result : goal.overflow_cast-result
overflow_cast-result c =
    let numbers = c.args.numbers.now in
    let place = c.in-Ok.place in
    let before : place ≤ get_or numbers place 0 = rising-place numbers place c.requires.rising c.in-Ok.ensures.bound in
    let fits = c.type_inv.numbers place in
    omega (arith, fits, before)

-- a number that stands at a place isn't missing
not_missing : (numbers : List ℕ) (number end place : ℕ) → place < length numbers → get_or numbers place 0 ≡ number → ((k : ℕ) → k < end → get_or numbers k 0 < number)
    → ((k : ℕ) → end ≤ k → k < length numbers → number < get_or numbers k 0) → ⊥
not_missing numbers number end place within here before behind = elim (cases_lt place end) [
  | inl near ↦ let less = before place near in omega (arith, less)
  | inr far ↦ let more = behind place far within in omega (arith, more)
]

pub unreachable-requires : goal.unreachable-requires
unreachable-requires c =
    let numbers = c.args.numbers.now in
    let number = c.args.number in
    let there = place-from_is_among numbers number c.requires.there in
    let found = searched numbers number c.binary_search.result c.binary_search.ensures.position
    (λ i j before within. rising-at_most numbers i j c.requires.rising before within) in
    let missed = MatchResult-at_err (λ i. (i < length numbers) × (get_or numbers i 0 ≡ number))
    (λ i. (i ≤ length numbers) × ((k : ℕ) → k < i → get_or numbers k 0 < number) × ((k : ℕ) → i ≤ k → k < length numbers → number < get_or numbers k 0))
    c.in-Err.field-0 c.in-Err.is found in
    not_missing numbers number c.in-Err.field-0 there.0 there.1 there.2 missed.1 missed.2
