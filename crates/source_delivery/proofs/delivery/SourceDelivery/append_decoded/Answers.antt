use Rattle.std.specs.Prelude.{◌<◌, ◌≤◌, ◌*◌, ◌%◌, ◌==◌, Bool, drop, if◌then◌else◌, take, vec_len}
use Rattle.std.proofs.Common.{◌≡◌, ◌+◌, ◌∷◌, [], List, ℕ, length, nat_lt, true, false, ap, ◌∙◌, sym, subst, arith, slice_index_or, string_bytes}
use Rattle.std.proofs.lemmas.List.{length-drop, length-map, length-take-le}
use Rattle.std.proofs.lemmas.List.Elements.{Contains-get_or}
use Rattle.failure_patterns.proofs.DemandLaws.{few_sinks}
use Rattle.generation_frame.specs.Blocks.{counted_bytes, row_bytes}
use Rattle.lif_outside.proofs.CallLaws.{calls_of}
use Rattle.lif_outside.specs.Events.{Event, appended}
use Rattle.lif_outside.specs.FileCalls.{appends_of}
use Rattle.lif_outside.specs.Moves.{Move}
use Rattle.lif_outside.specs.Sequences.{Are}
use Rattle.node_stations.specs.Decoded.{decoded_of}
use Rattle.node_stations.specs.Opening.{demand_of}
use Rattle.relay_runner.specs.Carried.{HasCarriedBy, packets_given}
use Rattle.relay_runner.specs.Running.{Running}
use Rattle.source_delivery.proofs.PartLaws.{split-rows}
use Rattle.source_delivery.proofs.TurnLaws.{appends-err, appends-ok, part-none, part-some}
use Rattle.source_delivery.proofs.Turning.{mapped_at, no_length, some_length}
use Rattle.source_delivery.proofs.delivery.SourceDelivery.append_decoded.Given as given
use Rattle.source_delivery.proofs.delivery.SourceDelivery.append_decoded.Goals as goal
use Rattle.source_delivery.proofs.delivery.SourceDelivery.append_decoded.Goals.{After-as_str, After-counted-received}
use Rattle.source_delivery.specs.Delivery.{outputs_in, paths_of}
use Rattle.source_delivery.specs.Parts.{files_of, first_rows, is_split, rows_of, sink_of}
use Rattle.source_delivery.specs.Turns.{Outputs, parts_from, received_at}
use Rattle.source_delivery.specs.declared.parts.Parts.{Parts}
use Rattle.source_delivery.specs.declared.parts.Parts.TheVariants.{One, Two}

-- the appends of the part of a file, by the calls that carried the window
abbrev due : Running → ℕ → Outputs → ℕ → List Move → List Event
due runner place outputs file moves =
    appends_of (parts_from outputs runner.code runner.pattern (packets_given moves) (runner.first + place) file 1 ∷ [])

-- bytes are what the file gets of the block, by those calls
abbrev Counts : Parts → Running → ℕ → ℕ → List ℕ → List Move → Type 0
Counts parts runner place file bytes moves =
    bytes ≡ received_at parts runner.code runner.pattern (packets_given moves) (runner.first + place) file

received : (g : given.Over) (c : After-counted-received g) (moves : List Move) → HasCarriedBy c.args.self.now.runner moves
    → Counts c.args.self.now.parts c.args.self.now.runner c.args.place c.args.file c.counted-received.result.now moves
received g c moves by =
    let self = c.args.self.now in
    let runner = self.runner in
    c.counted-received.ensures
    ∙ ap counted_bytes
    (c.rows.ensures ∙ ap (rows_of self.parts c.args.file)
    (c.decoded_block-block.ensures.value moves by
    ∙ ap (λ sink. decoded_of runner.code (demand_of runner.code runner.pattern sink) (packets_given moves) (runner.first + c.args.place)) c.sink-sink.ensures))

-- the path of the file
path : (g : given.Over) (c : After-as_str g) → c.as_str.result.now ≡ slice_index_or (paths_of c.args.self.now) c.args.file []
path g c =
    let items = c.args.self.now.outputs.items in
    c.as_str.ensures.value ∙ mapped_at string_bytes items c.args.file c.index.result.now [] (omega (arith, c.requires.file)) c.index.ensures

-- what is appended there is due
appended_due : (g : given.Over) (c : After-as_str g)
    → ((moves : List Move) → HasCarriedBy c.args.self.now.runner moves → Counts c.args.self.now.parts c.args.self.now.runner c.args.place c.args.file c.counted-received.result.now moves)
    → (moves : List Move) → HasCarriedBy c.args.self.now.runner moves
    → appended c.as_str.result.now c.counted-received.result.now ∷ [] ≡ due c.args.self.now.runner c.args.place (outputs_in c.args.self.now) c.args.file moves
appended_due g c received moves by =
    let self = c.args.self.now in
    let bytes = c.counted-received.result.now in
    let some : nat_lt 0 (length bytes) ≡ true = some_length (length bytes) (sym c.is_empty.ensures ∙ c.if-is_empty.false) in
    part-some (outputs_in self) self.runner.code self.runner.pattern (packets_given moves) (self.runner.first + c.args.place) c.args.file bytes (received moves by) c.as_str.result.now (path g c) some

-- the sink of a file is one of the net
known : (parts : Parts) (file sinks files : ℕ) → files ≡ files_of parts sinks → file < files → sink_of parts file < sinks
known One file sinks files all within = omega (arith, all, within)
known (Two rows) file sinks files all within = omega (arith, all, within)

-- the first rows are in a block, and each part of it has some
split : (parts : Parts) (rate file : ℕ) (block : List ℕ) → is_split parts rate ≡ true → 1 ≤ rate → length block ≡ rate * row_bytes
    → (first_rows parts * row_bytes ≤ length block) × (4 ≤ length (rows_of parts file block))
split One rate file block is some long = (omega arith, omega (arith, some, long))
split (Two rows) rate file block both some long = (omega (arith, is.0, is.1, long), half (file % 2 == 0))
  where
    is : (1 ≤ rows) × (rows < rate)
    is = split-rows rows rate both

    half : (test : Bool) → 4 ≤ length (if test then take (rows * row_bytes) block else drop (rows * row_bytes) block)
    half true = omega (arith, is.0, is.1, long, length-take-le (rows * row_bytes) block (omega (arith, is.1, long)))
    half false = omega (arith, is.0, is.1, long, length-drop (rows * row_bytes) block)

pub overflow_cast-sink : goal.overflow_cast-sink
overflow_cast-sink g c =
    let self = c.args.self.now in
    let net = self.runner.code.net in
    omega (arith, few_sinks net, net.network.few_nodes, c.sink-sink.ensures, known self.parts c.args.file (length net.sinks) (vec_len self.outputs) self.files c.requires.file)

pub append-requires : goal.append-requires
append-requires g c =
    let paths = paths_of c.args.self.now in
    let n = c.args.file in
    subst (g.S.Store.made c.args.store.now) (sym (path g (goal.at.append-requires g c).After-as_str))
    (c.requires.made (slice_index_or paths n []) (Contains-get_or paths n [] (omega (arith, length-map c.args.self.now.outputs.items string_bytes))))

pub returns-then-is_empty-clause-appended : goal.returns-then-is_empty-clause-appended
returns-then-is_empty-clause-appended g c = λ moves by.
    let self = c.args.self.now in
    let bytes = c.counted-received.result.now in
    let is = received g (goal.at.returns-then-is_empty-clause-appended g c).After-counted-received moves by in
    let none : nat_lt 0 (length bytes) ≡ false = no_length (length bytes) (sym c.is_empty.ensures ∙ c.if-is_empty.true) in
    calls_of (Are (due self.runner c.args.place (outputs_in self) c.args.file moves)) [] (g.met.S.Store.no_calls c.args.store.now)
    (part-none (outputs_in self) self.runner.code self.runner.pattern (packets_given moves) (self.runner.first + c.args.place) c.args.file bytes is none)

pub returns-clause-appended : goal.returns-clause-appended
returns-clause-appended g c =
    let self = c.args.self.now in
    let at = goal.at.returns-clause-appended g c in
    appends-ok g.S.Store.calls c.args.store.now c.append.new.self c.as_str.result.now c.counted-received.result.now (due self.runner c.args.place (outputs_in self) c.args.file)
    (appended_due g at.After-as_str (received g at.After-counted-received)) c.append.result c.append.ensures

pub returns-clause-failed : goal.returns-clause-failed
returns-clause-failed g c =
    let self = c.args.self.now in
    let at = goal.at.returns-clause-failed g c in
    appends-err g.S.Store.calls c.args.store.now c.append.new.self c.as_str.result.now c.counted-received.result.now (due self.runner c.args.place (outputs_in self) c.args.file)
    (appended_due g at.After-as_str (received g at.After-counted-received)) c.append.result c.append.ensures
