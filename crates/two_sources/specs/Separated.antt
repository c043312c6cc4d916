-- A code whose links out of the source carry a row of the block each, made of one in which they carry sums of rows.
use Rattle.std.specs.Prelude.{◌≡◌, ℕ, nat_lt, List, [], ◌∷◌, ◌++◌, drop, map}
use Rattle.std.specs.List.{concat, range_with_len}
use Rattle.linear_algebra.specs.Matrices.{rows_of, times_rows}
use Rattle.net_model.specs.Walks.{leaves_source}
use Rattle.net_model.specs.declared.net.Net.{Net}
use Rattle.node_program.specs.CodeValue.{vector_in}
use Rattle.node_program.specs.declared.Decoder.{Decoder}
use Rattle.node_program.specs.declared.Operand.{Operand}
use Rattle.node_program.specs.declared.code.Code.{Code}

-- the links that leave the source are the first, as many as the rate
abbrev pub HasFirstLinks : Net → ℕ → Type 0
HasFirstLinks net rate = (link : ℕ) → leaves_source net link ≡ nat_lt link rate

-- the operands of a link that carries a row
abbrev pub row_operands : ℕ → List Operand
row_operands row = record { from = row; times = 1 } ∷ []

-- those of all links: the first carry a row each, and the others what they carried
abbrev pub separated_operands : Code → List (List Operand)
separated_operands code = map row_operands (range_with_len 0 code.rate) ++ drop code.rate code.operands

-- the vectors of the first links where no link fails
abbrev pub first_vectors : Code → List (List ℕ)
first_vectors code = map (vector_in code 0) (range_with_len 0 code.rate)

-- the decoder with its matrix multiplied from the left by those vectors
abbrev pub separated_decoder : Code → Decoder → Decoder
separated_decoder code decoder =
    record {
      links = decoder.links;
      entries = concat (times_rows code.field code.rate (first_vectors code) (rows_of code.rate code.rate decoder.entries));
    }

pub record IsSeparated (code new : Code) : Type 0 where
  pub net : new.net ≡ code.net
  pub rate : new.rate ≡ code.rate
  pub field : new.field ≡ code.field
  pub operands : new.operands ≡ separated_operands code
  pub decoders : new.decoders ≡ map (separated_decoder code) code.decoders
