-- The butterfly: two rows from `s` to `t1` and to `t2`, whose paths share the link from `c` to `d`.
use Rattle.std.specs.Prelude.{[], ◌∷◌, None}
use Rattle.std.proofs.Common.{refl, lit<, lit≤}
use Rattle.std.proofs.lemmas.Option.{none-some}
use Rattle.gf_tables.specs.declared.kind.FieldKind.TheVariants.{Eight}
use Rattle.net_model.specs.declared.net.Net.{Net}
use Rattle.net_model.specs.declared.net.FieldChoice.TheVariants as choice
use Rattle.test_support.specs.ButterflyCode.{butterfly_nodes, butterfly_links, butterfly_sinks, pattern_none, butterfly_operands, first_decoder, second_decoder}
use Rattle.node_program.specs.declared.code.Code.{Code}

-- no link is listed as one that fails
abbrev network : Net
network = record {
  nodes = butterfly_nodes;
  links = butterfly_links;
  source = 0;
  sinks = butterfly_sinks;
  patterns = pattern_none ∷ [];
  field = choice.Eight;
  wanted = None;
  network = record {
    node_names = refl;
    link_names = refl;
    link_ends = refl;
    source_node = lit< tt;
    some_sink = lit< tt;
    sink_nodes = refl;
    distinct_sinks = refl;
    pattern_names = refl;
    pattern_links = refl;
    few_nodes = lit≤ tt;
    few_links = lit≤ tt;
    few_patterns = lit≤ tt;
  };
  rate = λ rate some. absurd (none-some rate some);
}

unfoldable pub butterfly : Code
butterfly = record {
  net = network;
  rate = 2;
  field = Eight;
  operands = butterfly_operands;
  decoders = first_decoder ∷ second_decoder ∷ [];
  code = record {
    draft = record {
      some_rate = lit≤ tt;
      low_rate = lit≤ tt;
      few_demands = lit≤ tt;
      link_order = refl;
      link_operands = refl;
      named_field = refl;
      no_wanted = refl;
    };
    demand_decoders = refl;
  };
}

-- the first entry of the decoder of `t2` is 2 in place of 1
unfoldable pub changed_butterfly : Code
changed_butterfly = record {
  net = network;
  rate = 2;
  field = Eight;
  operands = butterfly_operands;
  decoders = first_decoder ∷ record { links = 3 ∷ 8 ∷ []; entries = 2 ∷ 1 ∷ 1 ∷ 0 ∷ [] } ∷ [];
  code = record {
    draft = record {
      some_rate = lit≤ tt;
      low_rate = lit≤ tt;
      few_demands = lit≤ tt;
      link_order = refl;
      link_operands = refl;
      named_field = refl;
      no_wanted = refl;
    };
    demand_decoders = refl;
  };
}
