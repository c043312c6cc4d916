use Rattle.std.proofs.Common.{◌+◌, ◌∷◌, [], Contains, List, ℕ}
use Rattle.lif_outside.specs.Calls.{MakesCalls}
use Rattle.lif_outside.specs.Moves.{Move}
use Rattle.lif_outside.specs.FileCalls.{appends_of}
use Rattle.lif_outside.specs.Sequences.{Are}
use Rattle.relay_runner.specs.Carried.{HasCarriedBy, packets_given}
use Rattle.source_delivery.specs.Delivery.{outputs_in, paths_of}
use Rattle.source_delivery.specs.Turns.{parts_from}
use Rattle.source_delivery.proofs.delivery.SourceDelivery.append_block.Given as goal

abbrev pub invariant-loop-file : goal.invariant-loop-file
invariant-loop-file g l =
    let work = l.self.runner in
    record {
      made : (path : List ℕ) → Contains (paths_of l.self) path → g.S.Store.made l.store path;
      calls : (moves : List Move) → HasCarriedBy work moves
          → MakesCalls g.S.Store l.initial.store l.store
          (Are (appends_of (parts_from (outputs_in l.self) work.code work.pattern (packets_given moves) (work.first + l.place) 0 l.file ∷ [])));
    }
