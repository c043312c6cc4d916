-- The parts that are read, as a code file says them.
use Rattle.code_items.specs.declared.parts.Front as rust_front
use Rattle.code_items.specs.declared.parts.DraftParts as rust_draft
use Rattle.code_items.specs.DraftParts.{DraftParts}
use Rattle.code_items.specs.Reading.{Front}

abbrev pub front_seen : rust_front.Front → Front
front_seen front = record {
  field = front.field;
  rate = front.rate;
  nodes = front.nodes;
  links = front.links;
  source = front.source;
  sinks = front.sinks;
  patterns = front.patterns;
}

abbrev pub draft_seen : rust_draft.DraftParts → DraftParts
draft_seen parts = record {
  version = parts.version;
  front = front_seen parts.front;
  operands = parts.operands;
}
