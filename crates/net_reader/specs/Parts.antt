-- What a function that makes parts of a network returns.
use Rattle.net_reader.specs.declared.parts.Parts as rust
use Rattle.net_reader.specs.Text.{Parts}

-- the parts, as a text gives them
abbrev pub parts_seen : rust.Parts → Parts
parts_seen parts = record {
  nodes = parts.nodes;
  links = parts.links;
  source = parts.source;
  sinks = parts.sinks;
  patterns = parts.patterns;
  field = parts.field;
  wanted = parts.wanted;
}
