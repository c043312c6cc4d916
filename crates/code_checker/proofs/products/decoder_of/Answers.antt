use Rattle.node_program.proofs.DecodingLaws.{decoder_shape}
use Rattle.code_checker.proofs.ProductSteps.{decoder_within}
use Rattle.code_checker.proofs.products.decoder_of.Goals as goal

pub at-requires : goal.at-requires
at-requires c = decoder_within c.args.code.now c.args.demand c.requires

pub returns-clause-shape : goal.returns-clause-shape
returns-clause-shape c = decoder_shape c.args.code.now c.args.demand c.at.result.now c.requires c.at.ensures
