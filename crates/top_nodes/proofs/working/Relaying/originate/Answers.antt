use Rattle.std.proofs.Common.{◌<◌}
use Rattle.std.proofs.lemmas.List.Elements.{All-from_get_or}
use Rattle.top_nodes.proofs.working.Relaying.originate.Goals as goal

pub returns-clause-frames : goal.returns-clause-frames
returns-clause-frames g c =
    let relaying = c.args.self.now in
    c.originate.ensures.frames relaying.code.now relaying.pattern relaying.node relaying.plan
    (record { size = c.requires.block; bytes = All-from_get_or (λ byte. byte < 256) c.args.block.now 0 (λ k within. (c.type_inv.block k).fits) })
