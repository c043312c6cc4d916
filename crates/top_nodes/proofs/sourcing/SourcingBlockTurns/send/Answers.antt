use Rattle.std.proofs.Common.{◌≡◌, ◌∷◌, [], ℕ, List, map, string_bytes, OnErr, OnOk, ap, ◌∙◌, subst}
use Rattle.generation_frame.specs.Blocks.{block_of}
use Rattle.lif_outside.specs.Calls.{MakesCalls}
use Rattle.lif_outside.specs.FileCalls.{StopsWithin, appends_of}
use Rattle.lif_outside.specs.Sequences.{Are}
use Rattle.link_streams.specs.Relaying.{originated}
use Rattle.top_nodes.specs.Sourcing.{job_of}
use Rattle.top_nodes.specs.Working.{parts_of, paths_of, turn_of}
use Rattle.top_nodes.proofs.sourcing.SourcingBlockTurns.send.Given as given
use Rattle.top_nodes.proofs.sourcing.SourcingBlockTurns.send.Goals as goal
use Rattle.top_nodes.proofs.sourcing.SourcingBlockTurns.send.Goals.{After-append_frames}

-- the frames that were made are those of the piece
made : (g : given.Over) (c : After-append_frames g) (piece : List ℕ) → c.args.block.now ≡ block_of (job_of c.args.self.now.relaying).rate piece
    → turn_of c.originate.new.self ≡ (job_of c.args.self.now.relaying).turn c.args.generation piece
made g c piece is =
    let relaying = c.args.self.now.relaying in
    let code = relaying.code.now in
    ap (λ outputs. parts_of (map string_bytes outputs.items) c.originate.new.self.frames.bytes) c.originate.ensures.outputs
    ∙ ap (λ frames. parts_of (paths_of relaying) frames.bytes) c.originate.ensures.frames
    ∙ ap (λ block. parts_of (paths_of relaying) (originated code relaying.pattern relaying.node block c.args.generation).bytes) is

pub returns-clause-sent : goal.returns-clause-sent
returns-clause-sent g c = λ piece is.
    let at = (goal.at.returns-clause-sent g c).After-append_frames in
    subst (λ turn. OnOk c.append_frames.result (MakesCalls g.S.Store c.args.store.now c.append_frames.new.store (Are (appends_of (turn ∷ []))))) (made g at piece is) c.append_frames.ensures.appended

pub returns-clause-failed : goal.returns-clause-failed
returns-clause-failed g c = λ piece is.
    let at = (goal.at.returns-clause-failed g c).After-append_frames in
    subst (λ turn. OnErr c.append_frames.result (MakesCalls g.S.Store c.args.store.now c.append_frames.new.store (StopsWithin (appends_of (turn ∷ []))))) (made g at piece is) c.append_frames.ensures.failed
