-- A window of blocks that was carried by a runner, and decoded: what was carried and then appended is their delivery.
use Rattle.std.specs.Prelude.{◌<◌}
use Rattle.std.proofs.Common.{◌≡◌, List, ℕ, length, subst, sym}
use Rattle.coded_traffic.specs.Traffic.{Window}
use Rattle.lif_outside.specs.Calls.{MakesBoth, MakesCalls}
use Rattle.lif_outside.specs.Events.{Event}
use Rattle.lif_outside.specs.Moves.{Move}
use Rattle.lif_outside.specs.FileCalls.{appends_of}
use Rattle.lif_outside.specs.declared.links.Links.{Ghosts as LinksGhosts}
use Rattle.lif_outside.specs.declared.store.Store.{Ghosts as StoreGhosts}
use Rattle.relay_runner.proofs.CarriedLaws.{by-decoded}
use Rattle.relay_runner.specs.Carried.{CarriesWindow, HasCarriedBy, IsCarried, packets_given}
use Rattle.relay_runner.specs.Decoding.{with_decoded}
use Rattle.relay_runner.specs.Running.{Running}
use Rattle.source_delivery.proofs.CarriedLaws.{some-carried}
use Rattle.source_delivery.proofs.Triples.{subst-three}
use Rattle.source_delivery.specs.Delivering.{DeliversBlocks}
use Rattle.source_delivery.specs.Turns.{Outputs, turns_from}

pub delivers : {S L : Type 0} (g : StoreGhosts S) (k : LinksGhosts L) (old carried new : Running) (outputs : Outputs) (blocks : List (List ℕ)) (window : Window) (count : ℕ) (Q : List Event → List Event → Type 0)
    (a b : S) (at now : L) → (sent : CarriesWindow k window at now carried) → carried.code ≡ old.code → carried.pattern ≡ old.pattern → carried.first ≡ old.next → window ≡ record { first = old.next; blocks = blocks }
    → 0 < length blocks → count ≡ length blocks → new ≡ with_decoded carried new.decoded
    → ((moves : List Move) → HasCarriedBy new moves → MakesCalls g a b (Q (appends_of (turns_from outputs new.code new.pattern (packets_given moves) new.first count))))
    → MakesBoth g k a b at now (DeliversBlocks (k.faithful at) old.code old.pattern outputs old.next blocks Q)
delivers g k old carried new outputs blocks window count Q a b at now sent code pattern first is some all rest appends =
    let Appended : Running → Type 0 = λ runner. MakesCalls g a b (Q (appends_of (turns_from outputs runner.code runner.pattern (packets_given sent.moves) runner.first count))) in
    let by : HasCarriedBy new sent.moves = subst (λ runner. HasCarriedBy runner sent.moves) (sym rest) (by-decoded carried new.decoded sent.moves sent.by) in
    let appended : Appended carried = subst Appended rest (appends sent.moves by) in
    record {
      calls = record { on_store = appended.made; on_links = sent.moves };
      on_store = appended.lead;
      on_links = sent.calls;
      holds = record {
        on_links = some-carried (k.faithful at) old.code old.pattern old.next blocks sent.moves some
            (subst-three (λ code pattern window. IsCarried (k.faithful at) code pattern window sent.moves) code pattern is sent.carried);
        on_store = subst (λ n. Q (appends_of (turns_from outputs old.code old.pattern (packets_given sent.moves) old.next n)) appended.made) all
            (subst-three (λ code pattern first. Q (appends_of (turns_from outputs code pattern (packets_given sent.moves) first count)) appended.made) code pattern first appended.holds);
      };
    }
