-- The numbers of the statuses.
use Rattle.std.specs.Prelude.{ℕ}
use Rattle.top_base.specs.declared.status.Status.{Status}
use Rattle.top_base.specs.declared.status.Status.TheVariants.{Done, Usage, NetRefused, ZeroRate, TooManyDemands, RateOver, CodeRefused, CheckFailed, UnknownPattern, ReadFault, WriteFault, TooLong, OutOfMemory, SamePath, LinkFault, RateUnmet, StreamRefused, UnknownNode, BadBlocks, UnknownLink, NotDecoding, TwinRefused, BadSplit}

abbrev pub code_of : Status → ℕ
code_of Done = 0
code_of Usage = 2
code_of (NetRefused why) = 3
code_of (ZeroRate demand side) = 4
code_of (TooManyDemands count) = 5
code_of (RateOver demand least) = 6
code_of (CodeRefused why) = 7
code_of (CheckFailed demand row column found) = 8
code_of UnknownPattern = 9
code_of ReadFault = 10
code_of WriteFault = 11
code_of TooLong = 12
code_of OutOfMemory = 13
code_of SamePath = 14
code_of LinkFault = 15
code_of (RateUnmet demand side least) = 16
code_of (StreamRefused link why) = 17
code_of UnknownNode = 18
code_of (BadBlocks generation count) = 19
code_of UnknownLink = 20
code_of (NotDecoding demand block) = 21
code_of (TwinRefused why) = 22
code_of (BadSplit rate) = 23
