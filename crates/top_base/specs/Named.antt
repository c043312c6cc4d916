-- What names of a network name.
use Rattle.std.specs.Prelude.{◌==◌, ℕ, List, Option, position}
use Rattle.std.specs.Option.{option_and_then}
use Rattle.std.specs.Str.{bytes_eq}
use Rattle.net_model.specs.declared.net.Net.{Net}

-- the number of the pattern of a name, of the link and of the node
abbrev pub pattern_named : Net → List ℕ → Option ℕ
pattern_named net name = position (λ pattern. bytes_eq pattern.name name) net.patterns

abbrev pub link_named : Net → List ℕ → Option ℕ
link_named net name = position (λ link. bytes_eq link.name name) net.links

abbrev pub node_named : Net → List ℕ → Option ℕ
node_named net name = position (λ node. bytes_eq node name) net.nodes

-- the place among the sinks of the sink of a name
abbrev pub sink_named : Net → List ℕ → Option ℕ
sink_named net name = option_and_then (λ node. position (λ sink. sink == node) net.sinks) (node_named net name)
