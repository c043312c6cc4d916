use Rattle.std.proofs.Common.{inl}
use Rattle.item_list.proofs.Results.{on_err}
use Rattle.source_delivery.proofs.delivery.SourceDelivery.open_two.Goals as goal

-- where there was no memory for the second reader, the links weren't called
pub returns-in_err-second-clause-refused : goal.returns-in_err-second-clause-refused
returns-in_err-second-clause-refused g c = on_err c.from_residual-in_err-second.result (inl (g.met.K.Links.no_moves c.args.links.now))
