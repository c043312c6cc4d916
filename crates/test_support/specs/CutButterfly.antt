-- The butterfly where the link from `s` to `a` may fail.
use Rattle.std.specs.Prelude.{None}
use Rattle.std.proofs.Common.{refl, lit<, lit≤}
use Rattle.std.proofs.lemmas.Option.{none-some}
use Rattle.gf_tables.specs.declared.kind.FieldKind.TheVariants.{Eight}
use Rattle.net_model.specs.declared.net.Net.{Net}
use Rattle.net_model.specs.declared.net.FieldChoice.TheVariants as choice
use Rattle.node_program.specs.declared.code.Code.{Code}
use Rattle.test_support.specs.ButterflyCode.{butterfly_nodes, butterfly_links, butterfly_sinks, cut_patterns, butterfly_operands, cut_decoders}

abbrev network : Net
network = record {
  nodes = butterfly_nodes;
  links = butterfly_links;
  source = 0;
  sinks = butterfly_sinks;
  patterns = cut_patterns;
  field = choice.Eight;
  wanted = None;
  network = record {
    node_names = refl;
    link_names = refl;
    link_ends = refl;
    source_node = lit< tt;
    some_sink = lit< tt;
    sink_nodes = refl;
    distinct_sinks = refl;
    pattern_names = refl;
    pattern_links = refl;
    few_nodes = lit≤ tt;
    few_links = lit≤ tt;
    few_patterns = lit≤ tt;
  };
  rate = λ rate some. absurd (none-some rate some);
}

-- the pattern `cut` is number 1; each sink decodes as without it
unfoldable pub cut_butterfly : Code
cut_butterfly = record {
  net = network;
  rate = 2;
  field = Eight;
  operands = butterfly_operands;
  decoders = cut_decoders;
  code = record {
    draft = record {
      some_rate = lit≤ tt;
      low_rate = lit≤ tt;
      few_demands = lit≤ tt;
      link_order = refl;
      link_operands = refl;
      named_field = refl;
      no_wanted = refl;
    };
    demand_decoders = refl;
  };
}
