use Rattle.std.proofs.Common.{◌∙◌, sym, arith}
use Rattle.unit_flow.proofs.CursorSteps.{cursor_found, cursor_next, cursor_within}
use Rattle.unit_flow.proofs.decomposing.Undecomposed.next_used.Goals as goal

pub is_used-requires : goal.is_used-requires
is_used-requires c =
    omega (arith, c.requires.states, cursor_within c.args.net.now.links c.args.self.now.residual.states c.args.node c.loop-link.link c.loop-link.invariant c.requires.used_link)

pub bounds-nexts-link : goal.bounds-nexts-link
bounds-nexts-link c =
    omega (arith, c.requires.nexts.each_link, cursor_within c.args.net.now.links c.args.self.now.residual.states c.args.node c.loop-link.link c.loop-link.invariant c.requires.used_link)

pub loop-link-smaller : goal.loop-link-smaller
loop-link-smaller c =
    let within = cursor_within c.args.net.now.links c.args.self.now.residual.states c.args.node c.loop-link.link c.loop-link.invariant c.requires.used_link in
    omega (arith, within, (c.requires.nexts.next c.loop-link.link (omega arith) within).not_before)

pub loop-link-preserved : goal.loop-link-preserved
loop-link-preserved c =
    cursor_next c.args.net.now.links c.args.self.now.residual.states c.args.node c.loop-link.link c.args.nexts.now c.loop-link.invariant
    (cursor_within c.args.net.now.links c.args.self.now.residual.states c.args.node c.loop-link.link c.loop-link.invariant c.requires.used_link)
    (sym c.is_used.ensures ∙ c.loop-link-test.true) c.requires.nexts

pub returns : goal.returns
returns c =
    cursor_found c.args.net.now.links c.args.self.now.residual.states c.args.node c.loop-link.link c.loop-link.invariant
    (cursor_within c.args.net.now.links c.args.self.now.residual.states c.args.node c.loop-link.link c.loop-link.invariant c.requires.used_link)
    (sym c.is_used.ensures ∙ c.loop-link-test.false)
