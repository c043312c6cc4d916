use Rattle.std.proofs.Common.{◌≡◌, ◌<◌, ◌*◌, ℕ, [], All, List, None, Some, append-nil, length, map, refl, subst, subst₂, sym, ap, ◌∙◌, arith, inr}
use Rattle.std.specs.Prelude.{string_bytes, vec_len}
use Rattle.std.proofs.lemmas.List.{length-map}
use Rattle.command_steps.specs.Filling.{Fills, StopsFilling}
use Rattle.command_steps.specs.Steps.{RunsOrForgets}
use Rattle.generation_frame.specs.Blocks.{pieces}
use Rattle.lif_outside.proofs.CallLaws.{calls_then, calls_weaker}
use Rattle.lif_outside.specs.FileCalls.{StopsWithin, appends_of}
use Rattle.lif_outside.specs.Sequences.{Are}
use Rattle.node_plans.specs.Plans.{ins_of, outs_of}
use Rattle.node_program.specs.declared.code.Code.{Code}
use Rattle.top_base.specs.Given.{node_given_in}
use Rattle.top_base.specs.Lines.{relayed_line}
use Rattle.top_nodes.proofs.LinkPathLaws.{ins_within}
use Rattle.top_nodes.proofs.ReadingLaws.{HasLost, HasReadAll, links_read}
use Rattle.top_nodes.proofs.RelayNodeLaws.{few_relayed, node_lost, node_read, passed_turns, passes_done, passes_refused, passes_stopped}
use Rattle.top_nodes.specs.Files.{first_lacking, stream_path}
use Rattle.top_nodes.specs.Relay.{generations_in, ins_in, line_in, node_in, outputs_in, outs_in, relay_node}
use Rattle.top_nodes.specs.Sink.{pattern_in}
use Rattle.top_nodes.specs.Working.{paths_of}
use Rattle.top_nodes.proofs.relaying.relay_node.Goals as goal

pub read_streams-requires : goal.read_streams-requires
read_streams-requires g c =
    let given = node_given_in c.args.words.now in
    let code = c.args.code.now in
    record {
      links = subst₂ (λ (code : Code) (links : List ℕ). All (λ link. link < length code.net.links) links) (sym c.code.ensures.value) (sym (c.deref.ensures.value ∙ c.requires.ins))
          (ins_within code (pattern_in given code) (node_in given code));
    }

pub returns-in-Err : goal.returns-in-Err
returns-in-Err g c =
    let given = node_given_in c.args.words.now in
    let code = c.args.code.now in
    let outcome = c.in-Err.refused in
    calls_weaker _ (RunsOrForgets (relay_node given code) outcome) c.in-Err.ensures.lost
    (λ events lost.
    node_lost given code outcome events
    (subst₂ (λ (code : Code) links. HasLost given.input code.net links outcome events) c.code.ensures.value (c.deref.ensures.value ∙ c.requires.ins) lost))

pub see_whole-requires-clause-links : goal.see_whole-requires-clause-links
see_whole-requires-clause-links g c =
    let given = node_given_in c.args.words.now in
    let code = c.args.code.now in
    subst₂ (λ (code : Code) (links : List ℕ). All (λ link. link < length code.net.links) links) (sym c.code.ensures.value) (sym (c.deref-2.ensures.value ∙ c.requires.ins))
    (ins_within code (pattern_in given code) (node_in given code))

pub see_whole-requires-clause-streams : goal.see_whole-requires-clause-streams
see_whole-requires-clause-streams g c =
    let had = c.in-Ok.ensures.had in
    links_read c.args.words.now.input.now c.code.result.now.net c.deref.result.now c.in-Ok.streams had.made had.holds ∙ c.deref.ensures.value ∙ sym c.deref-2.ensures.value

pub see_whole-requires-clause-count : goal.see_whole-requires-clause-count
see_whole-requires-clause-count g c = omega (arith, c.generations_in-generations.ensures, few_relayed c.in-Ok.streams c.in-Ok.ensures.streams)

pub returns-in-Err-see_whole : goal.returns-in-Err-see_whole
returns-in-Err-see_whole g c =
    let given = node_given_in c.args.words.now in
    let code = c.args.code.now in
    let streams = c.in-Ok.streams in
    let outcome = c.in-Err-see_whole.refused in
    let lacking = subst₂ (λ (code : Code) count. first_lacking code.net count streams ≡ Some outcome) c.code.ensures.value c.generations_in-generations.ensures c.in-Err-see_whole.ensures.lacking in
    calls_weaker _ (RunsOrForgets (relay_node given code) outcome) c.in-Ok.ensures.had
    (λ events read.
    subst (RunsOrForgets (relay_node given code) outcome) (append-nil events)
    (node_read given code streams outcome events []
    (subst₂ (λ (code : Code) links. HasReadAll given.input code.net links streams events) c.code.ensures.value (c.deref.ensures.value ∙ c.requires.ins) read)
    (passes_refused given code streams outcome lacking)))

pub open_relaying-requires-clause-each : goal.open_relaying-requires-clause-each
open_relaying-requires-clause-each g c =
    let given = node_given_in c.args.words.now in
    let code = c.args.code.now in
    let found = c.args.found in
    let outs : outs_of code found.pattern found.node ≡ outs_in given code = ap (λ pattern. outs_of code pattern found.node) c.requires.pattern ∙ ap (outs_of code (pattern_in given code)) c.requires.node in
    omega (arith, found.outputs.ok.0, length-map found.outputs.items string_bytes, ap length c.requires.outputs, length-map (outs_in given code) (stream_path given.output code.net), ap length outs)

pub returns-in_default-open_relaying : goal.returns-in_default-open_relaying
returns-in_default-open_relaying g c =
    let given = node_given_in c.args.words.now in
    let code = c.args.code.now in
    let streams = c.in-Ok.streams in
    let outcome = c.out_of_memory.result in
    calls_weaker _ (RunsOrForgets (relay_node given code) outcome) c.in-Ok.ensures.had
    (λ events read.
    subst (RunsOrForgets (relay_node given code) outcome) (append-nil events)
    (node_read given code streams outcome events []
    (subst₂ (λ (code : Code) links. HasReadAll given.input code.net links streams events) c.code.ensures.value (c.deref.ensures.value ∙ c.requires.ins) read)
    (inr (record { status = c.out_of_memory.ensures.status; line = c.out_of_memory.ensures.line }, refl))))

pub pass_all-requires-clause-links : goal.pass_all-requires-clause-links
pass_all-requires-clause-links g c =
    let given = node_given_in c.args.words.now in
    let code = c.args.code.now in
    let had = c.in-Ok.ensures.had in
    let relaying = c.in-Ok-open_relaying.relaying in
    let is = c.in-Ok-open_relaying.ensures in
    let ins : ins_of relaying.code.now relaying.pattern relaying.node ≡ ins_in given code =
    ap (λ (code : Code). ins_of code relaying.pattern relaying.node) is.code ∙ ap (λ pattern. ins_of code pattern relaying.node) (is.pattern ∙ c.requires.pattern)
    ∙ ap (ins_of code (pattern_in given code)) (is.node ∙ c.requires.node) in
    links_read c.args.words.now.input.now c.code.result.now.net c.deref.result.now c.in-Ok.streams had.made had.holds ∙ c.deref.ensures.value ∙ c.requires.ins ∙ sym ins

pub pass_all-requires-clause-few : goal.pass_all-requires-clause-few
pass_all-requires-clause-few g c = omega (arith, c.generations_in-generations.ensures, few_relayed c.in-Ok.streams c.in-Ok.ensures.streams)

pub line-requires : goal.line-requires
line-requires g c = omega (arith, c.generations_in-generations.ensures, few_relayed c.in-Ok.streams c.in-Ok.ensures.streams)

pub returns-in-Ok-pass_all : goal.returns-in-Ok-pass_all
returns-in-Ok-pass_all g c =
    let given = node_given_in c.args.words.now in
    let code = c.args.code.now in
    let streams = c.in-Ok.streams in
    let relaying = c.in-Ok-open_relaying.relaying in
    let is = c.in-Ok-open_relaying.ensures in
    let outputs = c.pass_all.new.self.outputs in
    let generations = c.generations_in-generations.result in
    let paths : paths_of relaying ≡ outputs_in given code = ap (λ outputs. map string_bytes outputs.items) is.outputs ∙ c.requires.outputs in
    let same : map string_bytes outputs.items ≡ outputs_in given code = ap (λ outputs. map string_bytes outputs.items) c.in-Ok-pass_all.ensures.outputs ∙ paths in
    let links : vec_len outputs ≡ length (outs_in given code) =
    omega (arith, outputs.ok.0, length-map outputs.items string_bytes, ap length same, length-map (outs_in given code) (stream_path given.output code.net)) in
    let whole : first_lacking code.net (generations_in streams) streams ≡ None =
    subst₂ (λ (code : Code) count. first_lacking code.net count streams ≡ None) c.code.ensures.value c.generations_in-generations.ensures c.in_default.ensures.whole in
    let line : c.line.result ≡ line_in given code (generations_in streams) =
    c.line.ensures ∙ ap (λ n. relayed_line (generations * pieces * n) n generations) links
    ∙ ap (λ n. relayed_line (n * pieces * length (outs_in given code)) (length (outs_in given code)) n) c.generations_in-generations.ensures in
    calls_then g.met.S.Store.more_calls _ _ (RunsOrForgets (relay_node given code) _) c.in-Ok.ensures.had c.in-Ok-pass_all.ensures.filled
    (λ first later read filled.
    node_read given code streams _ first later
    (subst₂ (λ (code : Code) links. HasReadAll given.input code.net links streams first) c.code.ensures.value (c.deref.ensures.value ∙ c.requires.ins) read)
    (passes_done given code streams whole relaying.pattern relaying.node (paths_of relaying) (is.pattern ∙ c.requires.pattern) (is.node ∙ c.requires.node) paths c.line.result later line
    (subst₂ (λ (code : Code) count. Fills (paths_of relaying) (Are (appends_of (passed_turns code relaying.pattern relaying.node (paths_of relaying) streams count))) later) is.code c.generations_in-generations.ensures filled)))

pub returns : goal.returns
returns g c =
    let given = node_given_in c.args.words.now in
    let code = c.args.code.now in
    let streams = c.in-Ok.streams in
    let relaying = c.in-Ok-open_relaying.relaying in
    let is = c.in-Ok-open_relaying.ensures in
    let outcome = c.write_fault.result in
    let paths : paths_of relaying ≡ outputs_in given code = ap (λ outputs. map string_bytes outputs.items) is.outputs ∙ c.requires.outputs in
    let whole : first_lacking code.net (generations_in streams) streams ≡ None =
    subst₂ (λ (code : Code) count. first_lacking code.net count streams ≡ None) c.code.ensures.value c.generations_in-generations.ensures c.in_default.ensures.whole in
    calls_then g.met.S.Store.more_calls _ _ (RunsOrForgets (relay_node given code) outcome) c.in-Ok.ensures.had c.in-Err-pass_all.ensures.failed
    (λ first later read stopped.
    node_read given code streams outcome first later
    (subst₂ (λ (code : Code) links. HasReadAll given.input code.net links streams first) c.code.ensures.value (c.deref.ensures.value ∙ c.requires.ins) read)
    (passes_stopped given code streams whole relaying.pattern relaying.node (paths_of relaying) (is.pattern ∙ c.requires.pattern) (is.node ∙ c.requires.node) paths outcome later
    c.write_fault.ensures.status c.write_fault.ensures.line
    (subst₂ (λ (code : Code) count. StopsFilling (paths_of relaying) (StopsWithin (appends_of (passed_turns code relaying.pattern relaying.node (paths_of relaying) streams count))) later) is.code c.generations_in-generations.ensures stopped)))
