-- The numbers that calls answer.
use Rattle.std.specs.Prelude.{ℕ, Option, Some, None}
use Rattle.open_nodes.specs.declared.call_error.CallError.{CallError}
use Rattle.open_nodes.specs.declared.call_error.CallError.TheVariants.{NoMemory, NoPattern, NoNode, NoLink, NoSink, BadWindow, NotBegun, NotSource, Fed, BadLength, BadFrame, OtherLink, NotWhole, NothingDue}

-- it was done
abbrev pub ok : ℕ
ok = 0

abbrev pub no_memory : ℕ
no_memory = 1

-- the handle holds nothing; holds something already; holds something of another kind
abbrev pub closed : ℕ
closed = 15

abbrev pub already_open : ℕ
already_open = 16

abbrev pub other_kind : ℕ
other_kind = 17

-- the bytes are too many, no code file, or one of a code that doesn't decode
abbrev pub too_long : ℕ
too_long = 18

abbrev pub bad_code : ℕ
bad_code = 19

abbrev pub not_decoding : ℕ
not_decoding = 20

-- the number of an error
abbrev pub error_number : CallError → ℕ
error_number NoMemory = no_memory
error_number NoPattern = 2
error_number NoNode = 3
error_number NoLink = 4
error_number NoSink = 5
error_number BadWindow = 6
error_number NotBegun = 7
error_number NotSource = 8
error_number Fed = 9
error_number BadLength = 10
error_number BadFrame = 11
error_number OtherLink = 12
error_number NotWhole = 13
error_number NothingDue = 14

-- the number of what a call answers
abbrev pub status_of : Option CallError → ℕ
status_of None = ok
status_of (Some why) = error_number why
