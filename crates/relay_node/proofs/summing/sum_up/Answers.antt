-- The bytes of a sum of elements.
use Rattle.std.proofs.Common.{◌<◌}
use Rattle.std.proofs.lemmas.List.Elements.{All-from_get_or}
use Rattle.relay_node.specs.Summed.{came_of}
use Rattle.relay_node.proofs.PayloadLaws.{summed-all}
use Rattle.relay_node.proofs.summing.sum_up.Goals as goal

pub returns : goal.returns
returns c =
    let payload = c.add_summands.new.payload in
    summed-all c.args.field c.args.summands.now (came_of c.args.sums.now c.args.due.generation c.args.due.piece) payload
    (All-from_get_or (λ byte. byte < 256) payload 0 (λ k within. (c.type_inv.payload k).fits)) c.add_summands.ensures
