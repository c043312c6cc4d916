use Rattle.top_nodes.proofs.ReadingLaws.{generation_whole}
use Rattle.top_nodes.proofs.sinking.Sinking.decode.Goals as goal

pub take-requires-clause-whole : goal.take-requires-clause-whole
take-requires-clause-whole g c =
    let sinking = c.args.self.now in
    generation_whole sinking.code.now.net sinking.generations sinking.streams c.args.generation sinking.whole c.requires
