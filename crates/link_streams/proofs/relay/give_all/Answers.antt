use Rattle.std.proofs.Common.{◌≡◌, ◌<◌, ◌+◌, ◌*◌, ap, arith, length, refl, subst, sym, ◌∙◌}
use Rattle.generation_frame.specs.Blocks.{pieces}
use Rattle.link_streams.specs.Filled.{FrameRows}
use Rattle.link_streams.proofs.GiveLaws.{GivesTo, gives-some, gives_all, gives_more}
use Rattle.link_streams.proofs.relay.give_all.Goals as goal
use Rattle.link_streams.proofs.relay.give_all.Goals.{in-Some, in_default}

pub loop-number-preserved : goal.loop-number-preserved
loop-number-preserved g c =
    let old = c.args.node.now in
    let count = c.loop-number.number in
    let end : c.frame_count-number-end.result ≡ length old.plan.outs * pieces =
    c.frame_count-number-end.ensures.count ∙ ap (λ links. length links * pieces) c.requires.opened in
    let low : count < length old.plan.outs * pieces = omega (arith, c.loop-number-test.true, end) in
    elim c.match-next_out.branch [
      | in-Some w ↦
          let To : FrameRows → Type 0 = GivesTo (count + 1) old c.next_out.new.self in
          subst To (sym (w.out-is ∙ w.write.ensures.value))
          (gives_more old c.requires.plan c.requires.one c.requires.complete count c.loop-number.node c.loop-number.out low c.loop-number.invariant
          w.in-Some.packet c.next_out.new.self w.in-Some.ensures.given w.write.ensures.bytes)
      | in_default w ↦
          absurd (gives-some old c.requires.plan c.requires.one c.requires.complete count c.loop-number.node c.loop-number.out low c.loop-number.invariant
          (w.in_default.ensures.none refl))
    ]

pub returns-clause-frames : goal.returns-clause-frames
returns-clause-frames g c =
    let old = c.args.node.now in
    let end : c.frame_count-number-end.result ≡ length old.plan.outs * pieces =
    c.frame_count-number-end.ensures.count ∙ ap (λ links. length links * pieces) c.requires.opened in
    gives_all old c.requires.plan c.requires.one c.requires.complete c.loop-number.number c.loop-number.node c.loop-number.out
    (omega (arith, end, c.loop-number-test.false, c.loop-number.auto.number-end)) c.loop-number.invariant
