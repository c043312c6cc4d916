-- The parts that are read, as a code file says them.
use Rattle.code_items.specs.Parts.{draft_seen}
use Rattle.code_file.specs.declared.parts.Parts as rust_parts
use Rattle.code_file.specs.Reading.{Contents, contents_with}

abbrev pub contents_seen : rust_parts.Parts → Contents
contents_seen parts = contents_with (draft_seen parts.draft) parts.decoders
