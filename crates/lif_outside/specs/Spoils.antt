-- Bytes of payloads that links change.
use Rattle.std.specs.Prelude.{ℕ, ◌+◌, ◌<◌, ◌==◌, List, bit_xor, fold, slice_index, slice_set, if◌then◌else◌}
use Rattle.lif_outside.specs.Moves.{address_bytes}
use Rattle.lif_outside.specs.declared.listed.spoils.Spoil.{Spoil}

-- how many bytes of a frame are its payload
abbrev pub payload_bytes : ℕ
payload_bytes = 128

-- the byte is one of the payload
abbrev pub is_in_payload : Spoil → Type 0
is_in_payload spoil = spoil.byte < payload_bytes

-- the place of the byte in a frame
abbrev pub place_in_frame : Spoil → ℕ
place_in_frame spoil = address_bytes + spoil.byte

-- a frame with the byte changed, where the take has the number of the change
abbrev pub spoil_one : ℕ → List ℕ → Spoil → List ℕ
spoil_one nth frame spoil =
    if spoil.nth == nth
    then slice_set frame (place_in_frame spoil) (bit_xor (slice_index frame (place_in_frame spoil)) spoil.mask)
    else frame

-- what the take of a number gives of a frame
abbrev pub spoiled : List Spoil → ℕ → List ℕ → List ℕ
spoiled spoils nth frame = fold (spoil_one nth) frame spoils
