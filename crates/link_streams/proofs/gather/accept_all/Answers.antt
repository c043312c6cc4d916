use Rattle.std.proofs.Common.{◌≡◌, ◌<◌, ◌+◌, ◌-◌, ◌*◌, ℕ, ap, arith, refl, subst, sym, true, ◌∙◌}
use Rattle.std.proofs.lemmas.Bool.{true≢false}
use Rattle.generation_frame.specs.Blocks.{pieces}
use Rattle.link_streams.specs.Streams.{has_place, place_of}
use Rattle.link_streams.proofs.GatherLaws.{TakesPieces, takes-new, takes_more}
use Rattle.link_streams.proofs.gather.accept_all.Goals as goal
use Rattle.link_streams.proofs.gather.accept_all.Goals.{in-Some, in_default}

pub loop-place-preserved : goal.loop-place-preserved
loop-place-preserved g c =
    let stream = c.args.stream.now in
    let generation = c.args.generation in
    let old = c.args.sink.now in
    let count : ℕ = c.loop-place.place - generation * 8 in
    let low : count < pieces = omega (arith, c.loop-place-test.true, c.loop-place.auto.place) in
    let at : c.loop-place.place ≡ generation * pieces + count = omega (arith, c.loop-place.auto.place) in
    let more : count + 1 ≡ c.loop-place.place + 1 - generation * 8 = omega (arith, c.loop-place.auto.place) in
    elim c.match-at.branch [
      | in-Some w ↦
          let packet = w.in-Some.packet.now in
          let place : place_of packet ≡ generation * pieces + count = w.in-Some.ensures.place ∙ at in
          let none = c.requires.none count low in
          let new = takes-new stream generation count packet old c.loop-place.sink w.accept.new.self w.accept.result w.in-Some.ensures.stream low w.in-Some.ensures.found place
          c.requires.wanted c.requires.begun none c.loop-place.invariant w.accept.ensures.value in
          let taken : TakesPieces stream generation (count + 1) old w.accept.new.self =
          takes_more stream generation count packet old c.loop-place.sink w.accept.new.self w.accept.result w.in-Some.ensures.stream low w.in-Some.ensures.found place
          c.requires.wanted c.requires.begun none c.loop-place.invariant (w.accept.ensures.new new) in
          subst (TakesPieces stream generation (c.loop-place.place + 1 - generation * 8) old) (sym w.sink-is)
          (subst (λ (n : ℕ). TakesPieces stream generation n old w.accept.new.self) more taken)
      | in_default w ↦
          let has : has_place stream.packets c.loop-place.place ≡ true = ap (has_place stream.packets) at ∙ c.requires.whole count low in
          absurd (true≢false (sym has ∙ w.in_default.ensures.none refl))
    ]
