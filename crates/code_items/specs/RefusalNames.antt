-- The names of refusals, and the numbers that stand with them.
use Rattle.std.specs.Prelude.{ℕ, List, Option, Some, None, codes}
use Rattle.code_items.specs.declared.refusal.CodeRefusal.{CodeRefusal}
use Rattle.code_items.specs.declared.refusal.CodeRefusal.TheVariants.{BadMagic, BadVersion, Truncated, BadField, BadRate, BadName, BadIndex, OutOfOrder, NotRising, ZeroCoefficient, BadOperand, TooMany, TrailingBytes, OutOfMemory, NotFirst, Written}

abbrev pub refusal_name : CodeRefusal → List ℕ
refusal_name BadMagic = codes "BadMagic"
refusal_name BadVersion = codes "BadVersion"
refusal_name (Truncated at) = codes "Truncated"
refusal_name BadField = codes "BadField"
refusal_name BadRate = codes "BadRate"
refusal_name (BadName at) = codes "BadName"
refusal_name (BadIndex at) = codes "BadIndex"
refusal_name (OutOfOrder link) = codes "OutOfOrder"
refusal_name (NotRising at) = codes "NotRising"
refusal_name (ZeroCoefficient at) = codes "ZeroCoefficient"
refusal_name (BadOperand at) = codes "BadOperand"
refusal_name (TooMany at) = codes "TooMany"
refusal_name (TrailingBytes at) = codes "TrailingBytes"
refusal_name OutOfMemory = codes "OutOfMemory"
refusal_name (NotFirst at) = codes "NotFirst"
refusal_name (Written at) = codes "Written"

-- the place, or the number of the link
abbrev pub refusal_number : CodeRefusal → Option ℕ
refusal_number BadMagic = None
refusal_number BadVersion = None
refusal_number (Truncated at) = Some at
refusal_number BadField = None
refusal_number BadRate = None
refusal_number (BadName at) = Some at
refusal_number (BadIndex at) = Some at
refusal_number (OutOfOrder link) = Some link
refusal_number (NotRising at) = Some at
refusal_number (ZeroCoefficient at) = Some at
refusal_number (BadOperand at) = Some at
refusal_number (TooMany at) = Some at
refusal_number (TrailingBytes at) = Some at
refusal_number OutOfMemory = None
refusal_number (NotFirst at) = Some at
refusal_number (Written at) = Some at
