use Rattle.std.proofs.Common.{◌≡◌, ℕ, List, Ok}
use Rattle.std.proofs.lemmas.Result.{err_from_is_err_and}
use Rattle.code_items.specs.Reading.{Rest, Reading, decoder_link_at}
use Rattle.code_items.specs.Gives.{Fails, left_of}
use Rattle.code_items.proofs.Loop.{goes_on, ends, is_done}
use Rattle.code_items.proofs.decoders.read_links.Goals as goal

pub returns-in_err-one : goal.returns-in_err-one
returns-in_err-one c =
    let part : List (ℕ) → Rest → Reading (ℕ) = decoder_link_at c.args.front.now.links c.args.sink in
    let p = err_from_is_err_and c.from_residual-in_err-one.result c.from_residual-in_err-one.ensures.1 in
    let fails : Fails c.in_err-one.field-0.0 (part c.loop.all.items (left_of c.loop.rest)) = rw (← c.deref.ensures.value) (c.in_err-one.ensures) in
    rw (p.1, p.2) (ends part c.args.front.now.rate c.loop.counter c.loop.all.items (left_of c.loop.rest) _ c.in_err-one.field-0.0 c.loop-test.true fails c.loop.invariant)

pub loop-preserved : goal.loop-preserved
loop-preserved c =
    let part : List (ℕ) → Rest → Reading (ℕ) = decoder_link_at c.args.front.now.links c.args.sink in
    let read : part c.loop.all.items (left_of c.loop.rest) ≡ Ok (c.in_ok-one.one, left_of c.in_ok-one.after) = rw (← c.deref.ensures.value) (c.in_ok-one.ensures) in
    rw c.in_ok-push.ensures.items (goes_on part c.args.front.now.rate c.loop.counter c.loop.all.items (left_of c.loop.rest) _ c.in_ok-one.one (left_of c.in_ok-one.after) c.loop-test.true read c.loop.invariant)

pub returns : goal.returns
returns c =
    let part : List (ℕ) → Rest → Reading (ℕ) = decoder_link_at c.args.front.now.links c.args.sink in
    is_done part c.args.front.now.rate c.loop.counter c.loop.all.items (left_of c.loop.rest) _ c.loop-test.false c.loop.invariant
