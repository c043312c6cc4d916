-- What a code file says of a network up to the operands, and how that is spelled.
use Rattle.std.specs.Prelude.{ℕ, List, ◌∷◌, ◌++◌, length, map, drop}
use Rattle.std.specs.List.{flat_map}
use Rattle.gf_tables.specs.Product.{mark_of}
use Rattle.gf_tables.specs.declared.kind.FieldKind.{FieldKind}
use Rattle.net_model.specs.declared.net.Net.{Net}
use Rattle.code_items.specs.Items.{Item, byte_item, number_item, name_item, link_items, pattern_items}
use Rattle.code_items.specs.Reading.{Front}

-- what a file says of a network, a rate and a field
abbrev pub front_of : Net → ℕ → FieldKind → Front
front_of net rate field = record {
  field = field;
  rate = rate;
  nodes = net.nodes;
  links = net.links;
  source = net.source;
  sinks = net.sinks;
  patterns = net.patterns;
}

-- The field, the rate, the nodes, the links, the source, the sinks and the listed patterns.
unfoldable pub front_items_in : Front → List Item
front_items_in front =
    let listed = drop 1 front.patterns in
    byte_item (mark_of front.field) ∷ byte_item front.rate
    ∷ number_item (length front.nodes) ∷ (map name_item front.nodes
    ++ (number_item (length front.links) ∷ (flat_map link_items front.links
    ++ (number_item front.source ∷ number_item (length front.sinks) ∷ (map number_item front.sinks
    ++ (number_item (length listed) ∷ flat_map pattern_items listed))))))
