-- What a pointer owns.
use Rattle.std.specs.Prelude.{Option, None, Some}
use base.Fml.{Fml, ftrue}
use denote.RawPtr.{Ptr}
use Rattle.std.specs.Box.Ownership.{box_owns}
use Rattle.std.specs.contracts.impls.GlobalAllocator.TheImpl.{ghosts}
use Rattle.lif_c.specs.declared.opened.Opened.{Opened}
use Rattle.lif_c.specs.contracts.opened.Opened as opened

-- the box at it, and the right to free that, where there is one
abbrev pub slot_owns : Ptr → Option Opened → Fml
slot_owns at None = ftrue
slot_owns at (Some value) = box_owns (ghosts.dealloc_token (record { memory = record { seal = tt } })) opened.the_row at value
