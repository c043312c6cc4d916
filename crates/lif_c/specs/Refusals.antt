-- What is told of why a code wasn't opened.
use Rattle.std.specs.Prelude.{ℕ, Option, Some, None}
use Rattle.code_items.specs.RefusalNames.{refusal_number}
use Rattle.code_items.specs.declared.refusal.CodeRefusal.{CodeRefusal}
use Rattle.code_items.specs.declared.refusal.CodeRefusal.TheVariants as items
use Rattle.open_nodes.specs.declared.opening.OpenRefusal.{OpenRefusal}
use Rattle.open_nodes.specs.declared.opening.OpenRefusal.TheVariants.{BadCode, NotDecoding, OutOfMemory, TooLong}
use Rattle.lif_c.specs.Statuses.{bad_code, no_memory, not_decoding, too_long}
use Rattle.lif_c.specs.declared.refusal.Refusal.{Refusal}

-- the number of the word for an item that isn't good
abbrev pub item_of : CodeRefusal → ℕ
item_of items.OutOfMemory = 0
item_of items.BadMagic = 1
item_of items.BadVersion = 2
item_of (items.Truncated at) = 3
item_of items.BadField = 4
item_of items.BadRate = 5
item_of (items.BadName at) = 6
item_of (items.BadIndex at) = 7
item_of (items.OutOfOrder link) = 8
item_of (items.NotRising at) = 9
item_of (items.ZeroCoefficient at) = 10
item_of (items.BadOperand at) = 11
item_of (items.TooMany at) = 12
item_of (items.TrailingBytes at) = 13
item_of (items.NotFirst at) = 14
item_of (items.Written at) = 15

-- the byte or the link that an item is told by
abbrev pub number_or_zero : Option ℕ → ℕ
number_or_zero (Some number) = number
number_or_zero None = 0

-- what is written
abbrev pub refusal_of : OpenRefusal → Refusal
refusal_of TooLong = record { item = 0; demand = 0; row = 0; column = 0; found = 0; at = 0 }
refusal_of OutOfMemory = record { item = 0; demand = 0; row = 0; column = 0; found = 0; at = 0 }
refusal_of (BadCode why) = record { item = item_of why; demand = 0; row = 0; column = 0; found = 0; at = number_or_zero (refusal_number why) }
refusal_of (NotDecoding demand row column found) = record { item = 0; demand = demand; row = row; column = column; found = found; at = 0 }

-- the status
abbrev pub open_status : OpenRefusal → ℕ
open_status TooLong = too_long
open_status (BadCode why) = bad_code
open_status (NotDecoding demand row column found) = not_decoding
open_status OutOfMemory = no_memory
