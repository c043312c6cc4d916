use Rattle.top_tools.proofs.CombiningLaws.{only-memory}
use Rattle.top_tools.proofs.combining.code_over.Goals as goal

pub lost-requires : goal.lost-requires
lost-requires g c =
    only-memory c.args.net.now g.F.Field.SIZE c.requires.rate.0 c.requires.rate.1 c.requires.served c.in-Err.why c.in-Err.ensures.refused
