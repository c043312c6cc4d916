-- What a refusal to order links says.
use Rattle.std.specs.Prelude.{List}
use Rattle.net_model.specs.declared.Link.{Link}
use Rattle.topo_order.specs.Order.{IsShownCycle}
use Rattle.topo_order.specs.declared.refusal.OrderRefusal.{OrderRefusal}
use Rattle.topo_order.specs.declared.refusal.OrderRefusal.TheVariants.{Cyclic, OutOfMemory}

-- the cycle is one
abbrev pub IsRefusal : List Link → OrderRefusal → Type 0
IsRefusal links (Cyclic cycle) = IsShownCycle links cycle
IsRefusal links OutOfMemory = Unit {0}
