use Rattle.std.specs.Prelude.{◌≡◌, ◌≤◌, ◌+◌, ◌-◌, ◌*◌, length}
use Rattle.std.proofs.Common.{◌∙◌, ap, arith, sym}
use Rattle.generation_frame.specs.Blocks.{row_bytes}
use Rattle.item_list.proofs.Places.{row_end}
use Rattle.sink_decoder.specs.Receiving.{decoded}
use Rattle.relay_runner.proofs.DecodingLaws.{blocks-more}
use Rattle.relay_runner.proofs.decoding.decode_blocks.Goals as goal
use Rattle.relay_runner.proofs.decoding.decode_blocks.Goals.{In-loop-place}
use borrow.Rule.Slice.PartMut.{mid_len}

pub block-requires-clause-begun : goal.block-requires-clause-begun
block-requires-clause-begun g c = c.requires.all.2.begun c.loop-place.place c.loop-place-test.true

pub block-requires-clause-whole : goal.block-requires-clause-whole
block-requires-clause-whole g c = c.requires.all.2.whole c.loop-place.place c.loop-place-test.true

-- there is room for the block
room : (g : _) (c : In-loop-place g) → c.loop-place.place * c.args.size + c.args.size ≤ length c.loop-place.into
room g c =
    omega (arith, row_end c.loop-place.place c.args.count c.args.size c.loop-place-test.true, c.loop-place.auto.into, c.requires.room)

pub block-requires-clause-room : goal.block-requires-clause-room
block-requires-clause-room g c =
    let size = c.args.size in
    let n = c.loop-place.place in
    let width : n * size + size - n * size ≡ size = omega arith in
    mid_len (n * size) (n * size + size) c.loop-place.into (room g (goal.at.block-requires-clause-room g c).In-loop-place) ∙ width ∙ c.requires.all.1 ∙ ap (λ rate. rate * row_bytes) (sym c.requires.all.2.same_rate)

pub loop-place-preserved : goal.loop-place-preserved
loop-place-preserved g c =
    let size = c.args.size in
    let n = c.loop-place.place in
    let there = room g (goal.at.loop-place-preserved g c).In-loop-place in
    let width : n * size + size - n * size ≡ size = omega arith in
    let long : length c.block.new.into ≡ size = c.block.auto.into ∙ mid_len (n * size) (n * size + size) c.loop-place.into there ∙ width in
    blocks-more size c.loop-place.into c.block.new.into n there long _ (λ place. decoded c.args.sink.now (c.args.first + place)) c.block.ensures.value
    c.loop-place.invariant
