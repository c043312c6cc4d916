use Rattle.lif_compiler.specs.Planning.{Gains, hops_of_demands}
use Rattle.lif_compiler.specs.Routes.{routes_of_certs}
use Rattle.lif_compiler.proofs.planning.hops_of.Given as goal

-- the hops of the demands before this one are added
abbrev pub invariant-loop-demand : goal.invariant-loop-demand
invariant-loop-demand l = Gains (hops_of_demands (routes_of_certs l.order l.rate l.certs) l.demand) l.initial.hops.items l.hops.items
