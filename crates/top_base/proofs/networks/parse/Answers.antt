use Rattle.net_reader.proofs.TextLaws.{few_members}
use Rattle.net_reader.specs.Text.{parts_of}
use Rattle.top_base.proofs.networks.parse.Goals as goal

pub returns-in-Ok-order_along-clause-members : goal.returns-in-Ok-order_along-clause-members
returns-in-Ok-order_along-clause-members c = few_members c.args.text.now (parts_of c.in-Ok.net) c.in-Ok.ensures.ok
