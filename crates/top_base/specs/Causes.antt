-- Which calls the statuses of faults come from, whatever the command. A put that failed doesn't change a refusal.
use Rattle.std.specs.Prelude.{◌≡◌, ◌≢◌, ◌⊎◌, ◌↔◌, IsTrue}
use Rattle.std.specs.List.{list_any}
use Rattle.lif_outside.specs.Calls.{Deeds}
use Rattle.lif_outside.specs.Events.{is_failed_read, is_failed_write}
use Rattle.lif_outside.specs.Moves.{is_fault}
use Rattle.lif_outside.specs.Puts.{is_failed_put}
use Rattle.top_base.specs.declared.status.Status.{Status}
use Rattle.top_base.specs.declared.status.Status.TheVariants.{Done, LinkFault, ReadFault, WriteFault}

pub record HasCauses (deeds : Deeds) (status : Status) : Type 0 where
  pub read_fault : (status ≡ ReadFault) ↔ IsTrue (list_any is_failed_read deeds.calls.on_store)
  pub failed_write : IsTrue (list_any is_failed_write deeds.calls.on_store) → status ≡ WriteFault
  pub write_fault : status ≡ WriteFault → IsTrue (list_any is_failed_write deeds.calls.on_store) ⊎ IsTrue (list_any is_failed_put deeds.puts)
  pub link_fault : (status ≡ LinkFault) ↔ IsTrue (list_any is_fault deeds.calls.on_links)
  pub failed_put : IsTrue (list_any is_failed_put deeds.puts) → status ≢ Done
