use Rattle.std.proofs.Common.{◌≡◌, All, length}
use Rattle.counted_steps.specs.Steps.{RoseByAtMost}
use Rattle.net_model.specs.Demands.{demand_count}
use Rattle.lif_compiler.specs.Bases.{HasMatrices}
use Rattle.lif_compiler.specs.Visits.{VisitsAll}
use Rattle.lif_compiler.specs.Work.{choice_bound}
use Rattle.lif_compiler.proofs.partial_code.PartialCode.visit_all.Given as goal

-- the links before this one are visited, in so many steps at most
abbrev pub invariant-loop-list : goal.invariant-loop-list
invariant-loop-list g l = record {
  rate : l.self.rate ≡ l.initial.self.rate;
  count : length l.self.operands.items ≡ l.list-index;
  matrices : All HasMatrices l.self.bases.items;
  visited : VisitsAll l.net l.hops l.initial.self l.self;
  ticks : RoseByAtMost (choice_bound l.list-index (demand_count l.net) l.initial.self.rate) l.initial.steps l.steps;
}
