-- Reading a code file from left to right: all that it says, or the refusal of the first item that isn't
-- good.
use Rattle.std.specs.Prelude.{ℕ, List, Option, Some, None, Result, Ok, Err}
use Rattle.node_program.specs.declared.Operand.{Operand}
use Rattle.node_program.specs.declared.Decoder.{Decoder}
use Rattle.code_items.specs.declared.refusal.CodeRefusal.{CodeRefusal}
use Rattle.code_items.specs.DraftParts.{DraftParts, draft_parts_at}
use Rattle.code_items.specs.Reading.{Rest, Reading, ◌>>=◌, decoder_table_at}
use Rattle.code_items.specs.Whole.{whole_of}
use Rattle.code_file.specs.Items.{code_mark, code_versions}
-- what stands in a code file up to the operands
pub use Rattle.code_items.specs.Reading.{Front}

-- what a code file says
pub record Contents : Type 0 where
  pub version : ℕ
  pub front : Front
  pub operands : List (List Operand)
  pub decoders : List Decoder

-- what stands before the decoders, and the decoders
abbrev pub contents_with : DraftParts → List Decoder → Contents
contents_with draft decoders = record {
  version = draft.version;
  front = draft.front;
  operands = draft.operands;
  decoders = decoders;
}

-- what stands before the decoders
abbrev pub draft_in : Contents → DraftParts
draft_in contents = record {
  version = contents.version;
  front = contents.front;
  operands = contents.operands;
}

-- all of a code file but its end
unfoldable pub contents_at : Rest → Reading Contents
contents_at rest = do
  draft ← draft_parts_at code_mark code_versions rest
  decoders ← decoder_table_at draft.0.version draft.0.front draft.1
  Ok (contents_with draft.0 decoders.0, decoders.1)

-- all of a code file
unfoldable pub contents_of : List ℕ → Result Contents CodeRefusal
contents_of = whole_of contents_at

-- the refusal that a result is
abbrev pub refusal_in : {X : Type 0} → Result X CodeRefusal → Option CodeRefusal
refusal_in (Ok x) = None
refusal_in (Err refusal) = Some refusal

-- the refusal of a file, if it's refused
unfoldable pub refusal_of : List ℕ → Option CodeRefusal
refusal_of bytes = refusal_in (contents_of bytes)
