-- Which demands share a decoder.
use Rattle.std.specs.Prelude.{ℕ, suc, Bool, ◌&&◌, List, [], ◌∷◌, ◌++◌, take, slice_index_or}
use Rattle.std.specs.List.{list_any, position}
use Rattle.std.specs.Option.{option_map_or}
use Rattle.std.specs.Str.{bytes_eq}
use Rattle.node_program.specs.declared.Decoder.{Decoder}

-- two decoders have the same links and the same entries
abbrev pub is_same_decoder : Decoder → Decoder → Bool
is_same_decoder one other = bytes_eq one.links other.links && bytes_eq one.entries other.entries

-- the decoder is that of an earlier demand
abbrev pub is_shared : List Decoder → Decoder → Bool
is_shared earlier decoder = list_any (is_same_decoder decoder) earlier

-- one more than the number of the first earlier demand that has the decoder, or 0 where none has it
abbrev pub same_of : List Decoder → Decoder → ℕ
same_of earlier decoder = option_map_or suc (position (is_same_decoder decoder) earlier) 0

-- the same of each demand, behind earlier ones
abbrev pub sames_after : List Decoder → List Decoder → List ℕ
sames_after earlier [] = []
sames_after earlier (decoder ∷ decoders) =
    same_of earlier decoder ∷ sames_after (earlier ++ decoder ∷ []) decoders

-- no decoder
abbrev pub no_decoder : Decoder
no_decoder = record { links = []; entries = [] }

-- the decoder of the demand with a number
abbrev pub decoder_of : List Decoder → ℕ → Decoder
decoder_of decoders demand = slice_index_or decoders demand no_decoder

-- the demand with a number shares the decoder of an earlier one
abbrev pub shares : List Decoder → ℕ → Bool
shares decoders demand = is_shared (take demand decoders) (decoder_of decoders demand)
