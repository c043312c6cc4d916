use Rattle.std.proofs.Common.{◌∙◌, ap}
use Rattle.node_program.specs.Code.{choice_of}
use Rattle.lif_compiler.proofs.compiling.in_order.Goals as goal

pub returns : goal.returns
returns g c = record {
  nodes = c.in_ok-renumbered.ensures.nodes;
  links = c.in_ok-renumbered.ensures.links;
  source = c.in_ok-renumbered.ensures.source;
  sinks = c.in_ok-renumbered.ensures.sinks;
  patterns = c.in_ok-renumbered.ensures.patterns;
  wanted = c.in_ok-renumbered.ensures.wanted;
  field = c.in_ok-renumbered.ensures.field ∙ c.choice_of.ensures ∙ ap choice_of c.kind_of.ensures;
}
