-- What a handle holds.
use Rattle.std.specs.Prelude.{Option}
use Rattle.lif_c.specs.declared.handle.Handle.{Handle}
use Rattle.lif_c.specs.declared.opened.Opened.{Opened}

-- nothing where it is closed
abbrev pub held : Handle → Option Opened
held handle = handle.slot.value
