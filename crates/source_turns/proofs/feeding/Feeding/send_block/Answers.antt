use Rattle.std.specs.Prelude.{◌*◌}
use Rattle.std.proofs.Common.{◌≡◌, length, slice_range, sym, ap, ◌∙◌, arith}
use Rattle.std.proofs.lemmas.List.{take_at}
use Rattle.generation_frame.specs.Blocks.{block_of, row_bytes}
use Rattle.source_turns.proofs.FedLaws.{cut_there}
use Rattle.source_turns.proofs.feeding.Feeding.send_block.Given as given
use Rattle.source_turns.proofs.feeding.Feeding.send_block.Goals as goal
use Rattle.source_turns.proofs.feeding.Feeding.send_block.Goals.{After-send}

-- the block is that of the piece
made : (g : given.Over) (c : After-send g)
    → c.deref-2.result.now ≡ block_of (g.T.BlockTurns.job c.args.self.now.turns).rate (slice_range c.args.self.now.bytes.items c.args.start c.args.end)
made g c =
    let self = c.args.self.now in
    let rate = (g.T.BlockTurns.job self.turns).rate in
    let size : self.block.len ≡ rate * row_bytes = self.size ∙ ap (λ n. n * row_bytes) (sym self.same_rate) in
    let long : length c.deref_mut.result.now ≡ rate * row_bytes = omega (arith, ap length c.deref_mut.ensures.value, self.block.ok.0, size) in
    c.deref-2.ensures.value
    ∙ take_at c.cut.new.block _ self.block.len (omega (arith, c.cut.auto.block, ap length c.deref_mut.ensures.value, self.block.ok.0))
    ∙ cut_there c.cut.new.block _ (slice_range self.bytes.items c.args.start c.args.end) _ rate c.cut.ensures long (ap (λ bytes. slice_range bytes c.args.start c.args.end) c.deref.ensures.value)

pub returns-clause-sent : goal.returns-clause-sent
returns-clause-sent g c =
    let at = (goal.at.returns-clause-sent g c).After-send in
    c.send.ensures.sent (slice_range c.args.self.now.bytes.items c.args.start c.args.end) (made g at)

pub returns-clause-failed : goal.returns-clause-failed
returns-clause-failed g c =
    let at = (goal.at.returns-clause-failed g c).After-send in
    c.send.ensures.failed (slice_range c.args.self.now.bytes.items c.args.start c.args.end) (made g at)
