use Rattle.std.specs.Prelude.{◌*◌, ℕ, map, length, string_bytes, vec_len}
use Rattle.std.proofs.Common.{◌≡◌, List, [], refl, sym, ap, ◌∙◌, subst, arith, inl, inr}
use Rattle.std.proofs.lemmas.List.{length-map}
use Rattle.command_steps.specs.Steps.{RunsOrForgets}
use Rattle.generation_frame.specs.Blocks.{block_count, pieces}
use Rattle.lif_outside.proofs.CallLaws.{calls_of, calls_weaker}
use Rattle.lif_outside.specs.Calls.{MakesCalls}
use Rattle.node_program.specs.declared.code.Code.{Code}
use Rattle.source_turns.proofs.RunLaws.{Ends, runs_feeding}
use Rattle.source_turns.specs.Feeding.{Feeds}
use Rattle.source_turns.specs.Turns.{Job}
use Rattle.top_base.specs.Given.{node_given_in}
use Rattle.top_base.specs.Lines.{relayed_line}
use Rattle.top_base.specs.Words.{AtNode, demo_limit}
use Rattle.top_base.specs.declared.outcome.Outcome.{Outcome}
use Rattle.top_base.specs.declared.status.Status.TheVariants.{Done}
use Rattle.top_nodes.proofs.SourcingLaws.{job_in, turns_in}
use Rattle.top_nodes.specs.Files.{stream_path}
use Rattle.top_nodes.specs.Relay.{line_in, node_in, outputs_in, outs_in, relay_source, source_turns}
use Rattle.top_nodes.specs.Sink.{pattern_in}
use Rattle.top_nodes.specs.Sourcing.{job_of, source_job}
use Rattle.top_nodes.proofs.relaying.relay_source.Given as given
use Rattle.top_nodes.proofs.relaying.relay_source.Goals as goal
use Rattle.top_nodes.proofs.relaying.relay_source.Goals.{After-feed}

-- the line of the command's source
abbrev line_of : AtNode → Code → List ℕ → List ℕ
line_of given code source = line_in given code (block_count source code.rate)

-- the job is the command's
same : (g : given.Over) (c : After-feed g) → job_of c.in-Ok.feeding.turns.relaying ≡ job_in (node_given_in c.args.words.now) c.args.code.now
same g c =
    let given = node_given_in c.args.words.now in
    let code = c.args.code.now in
    let paths = map string_bytes c.args.found.outputs.items in
    c.in-Ok.ensures ∙ ap (λ pattern. source_job code pattern c.args.found.node paths) c.requires.pattern
    ∙ ap (λ node. source_job code (pattern_in given code) node paths) c.requires.node ∙ ap (source_job code (pattern_in given code) (node_in given code)) c.requires.outputs

-- so what was done is the command's, where it ends so
runs : (g : given.Over) (c : After-feed g) (outcome : Outcome) → Ends (job_in (node_given_in c.args.words.now) c.args.code.now) (line_of (node_given_in c.args.words.now) c.args.code.now) c.feed.result outcome
    → MakesCalls g.S.Store c.args.store.now c.feed.new.store (RunsOrForgets (relay_source (node_given_in c.args.words.now) c.args.code.now) outcome)
runs g c outcome ends =
    let given = node_given_in c.args.words.now in
    let code = c.args.code.now in
    let fed = subst (λ job. MakesCalls g.S.Store c.args.store.now c.feed.new.store (Feeds job given.input demo_limit c.feed.result)) (same g c) c.feed.ensures.calls in
    calls_weaker _ (RunsOrForgets (relay_source given code) outcome) fed
    (λ events over. inl (runs_feeding (job_in given code) given.input demo_limit (source_turns given code) (line_of given code) (turns_in given code) c.feed.result outcome events ends over, refl))

pub returns-in_default : goal.returns-in_default
returns-in_default g c = calls_of _ [] (g.met.S.Store.no_calls c.args.store.now) (inr (record { status = c.out_of_memory.ensures.status; line = c.out_of_memory.ensures.line }, refl))

pub returns-in-Ok-feed : goal.returns-in-Ok-feed
returns-in-Ok-feed g c =
    let at = (goal.at.returns-in-Ok-feed g c).After-feed in
    let given = node_given_in c.args.words.now in
    let code = c.args.code.now in
    let outputs = c.feed.new.self.turns.relaying.outputs in
    let paths : map string_bytes outputs.items ≡ outputs_in given code = ap (λ (job : Job). job.paths) (c.feed.ensures.still ∙ same g at) in
    let links : vec_len outputs ≡ length (outs_in given code) =
    omega (arith, outputs.ok.0, length-map outputs.items string_bytes, ap length paths, length-map (outs_in given code) (stream_path given.output code.net)) in
    let generations = c.in-Ok-feed.fed.generations in
    let line = c.line.ensures ∙ ap (λ n. relayed_line (generations * pieces * n) n generations) links in
    runs g at (record { status = Done; line = c.line.result })
    (subst (λ r. Ends (job_in given code) (line_of given code) r (record { status = Done; line = c.line.result })) (sym c.in-Ok-feed.is)
    (refl, λ source long is. line ∙ ap (λ n. relayed_line (n * pieces * length (outs_in given code)) (length (outs_in given code)) n) is))

pub returns : goal.returns
returns g c =
    let at = (goal.at.returns g c).After-feed in
    let given = node_given_in c.args.words.now in
    let code = c.args.code.now in
    runs g at c.into.result (subst (λ r. Ends (job_in given code) (line_of given code) r c.into.result) (sym c.in-Err.is) c.into.ensures)
