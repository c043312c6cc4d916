-- What is told of a code.
use Rattle.std.specs.Prelude.{ℕ, List, length, Result, Ok, Err, if◌then◌else◌, nat_lt, slice_index}
use Rattle.generation_frame.specs.Blocks.{capacity}
use Rattle.gf_tables.specs.Product.{mark_of}
use Rattle.name_texts.specs.Names.{link_name, node_name, pattern_name}
use Rattle.net_model.specs.Walks.{head_of, tail_of}
use Rattle.node_program.specs.declared.code.Code.{Code}
use Rattle.open_nodes.specs.declared.call_error.CallError.{CallError}
use Rattle.open_nodes.specs.declared.call_error.CallError.TheVariants.{NoLink, NoNode, NoPattern, NoSink}
use Rattle.open_nodes.specs.declared.codes.Shape.{Shape}

-- its rate, its field, its source, and how much there is of the rest
abbrev pub shape_of : Code → Shape
shape_of code =
    record {
      rate = code.rate;
      field = mark_of code.field;
      source = code.net.source;
      nodes = length code.net.nodes;
      links = length code.net.links;
      sinks = length code.net.sinks;
      patterns = length code.net.patterns;
      capacity = capacity code.rate;
    }

-- what a number below a count names, or the error of there being none
abbrev pub named : {X : Type 0} → ℕ → ℕ → X → CallError → Result X CallError
named number count value why = if nat_lt number count then Ok value else Err why

-- the nodes that a link leaves and leads into, and the node of a sink
abbrev pub ends_of : Code → ℕ → Result (ℕ × ℕ) CallError
ends_of code link =
    named link (length code.net.links) (tail_of code.net.links link, head_of code.net.links link) NoLink

abbrev pub sink_node : Code → ℕ → Result ℕ CallError
sink_node code sink = named sink (length code.net.sinks) (slice_index code.net.sinks sink) NoSink

-- the names of nodes, links and patterns
abbrev pub node_name_of : Code → ℕ → Result (List ℕ) CallError
node_name_of code node = named node (length code.net.nodes) (node_name code.net node) NoNode

abbrev pub link_name_of : Code → ℕ → Result (List ℕ) CallError
link_name_of code link = named link (length code.net.links) (link_name code.net link) NoLink

abbrev pub pattern_name_of : Code → ℕ → Result (List ℕ) CallError
pattern_name_of code pattern = named pattern (length code.net.patterns) (pattern_name code.net pattern) NoPattern
