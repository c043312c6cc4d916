use Rattle.std.proofs.Common.{ap, sym, ◌∙◌}
use Rattle.node_program.specs.declared.code.Code.{Code}
use Rattle.open_nodes.proofs.KindLaws.{of_eight, of_nine, of_sixteen}
use Rattle.open_nodes.proofs.sinks.OpenSink.open.Goals as goal

pub open-requires-clause-field : goal.open-requires-clause-field
open-requires-clause-field c = of_eight _ (ap (λ (code : Code). code.field) (sym c.code.ensures.value) ∙ c.in-Eight.is)

pub open-requires-in-Nine-clause-field : goal.open-requires-in-Nine-clause-field
open-requires-in-Nine-clause-field c = of_nine _ (ap (λ (code : Code). code.field) (sym c.code.ensures.value) ∙ c.in-Nine.is)

pub open-requires-in-Sixteen-clause-field : goal.open-requires-in-Sixteen-clause-field
open-requires-in-Sixteen-clause-field c = of_sixteen _ (ap (λ (code : Code). code.field) (sym c.code.ensures.value) ∙ c.in-Sixteen.is)
