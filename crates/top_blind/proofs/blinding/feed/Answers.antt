use Rattle.std.proofs.Common.{◌≡◌, ◌++◌, ℕ, List, length, map, string_bytes, vec_len, refl, sym, ap, subst, ◌∙◌, arith, inl}
use Rattle.std.proofs.lemmas.List.{length-map}
use Rattle.command_steps.specs.Steps.{RunsOrForgets}
use Rattle.generation_frame.specs.Blocks.{block_count}
use Rattle.lif_outside.proofs.CallLaws.{calls_weaker}
use Rattle.lif_outside.specs.Calls.{MakesCalls}
use Rattle.node_program.specs.declared.code.Code.{Code}
use Rattle.source_turns.proofs.RunLaws.{Ends, runs_feeding}
use Rattle.source_turns.specs.Feeding.{Feeds}
use Rattle.source_turns.specs.Turns.{Job, feed_turns}
use Rattle.top_base.specs.Given.{blind_given_in}
use Rattle.top_base.specs.Lines.{sent_line}
use Rattle.top_base.specs.Words.{source_limit}
use Rattle.top_base.specs.declared.outcome.Outcome.{Outcome}
use Rattle.top_base.specs.declared.status.Status.TheVariants.{Done}
use Rattle.top_blind.specs.Blind.{blind_feeds, delivery, failed_in, line_in, outputs_in, ranks_text}
use Rattle.top_blind.proofs.blinding.feed.Given as given
use Rattle.top_blind.proofs.blinding.feed.Goals as goal
use Rattle.top_blind.proofs.blinding.feed.Goals.{After-feed}

-- the command's job
abbrev job : (g : given.Over) (c : After-feed g) → Job
job g c = let code = c.args.code.now in delivery code (outputs_in (blind_given_in c.args.words.now) code)

same : (g : given.Over) (c : After-feed g) → delivery c.args.opened.0.turns.fabric.code (map string_bytes c.args.opened.0.turns.paths.items) ≡ job g c
same g c = ap (λ code. delivery code (map string_bytes c.args.opened.0.turns.paths.items)) c.requires.code ∙ ap (delivery c.args.code.now) c.requires.paths

-- so what was done is the command's, where it ends so
runs : (g : given.Over) (c : After-feed g) (outcome : Outcome) → Ends (job g c) (line_in (blind_given_in c.args.words.now) c.args.code.now) c.feed.result outcome
    → MakesCalls g.S.Store c.args.store.now c.feed.new.store (RunsOrForgets (blind_feeds (blind_given_in c.args.words.now) c.args.code.now) outcome)
runs g c outcome ends =
    let given = blind_given_in c.args.words.now in
    let code = c.args.code.now in
    let fed = subst (λ job. MakesCalls g.S.Store c.args.store.now c.feed.new.store (Feeds job given.source source_limit c.feed.result)) (same g c) c.feed.ensures.calls in
    calls_weaker _ (RunsOrForgets (blind_feeds given code) outcome) fed
    (λ events over. inl (runs_feeding (job g c) given.source source_limit (feed_turns (job g c)) (line_in given code) (λ ended bytes. refl) c.feed.result outcome events ends over, refl))

pub returns-in-Ok : goal.returns-in-Ok
returns-in-Ok g c =
    let at = (goal.at.returns-in-Ok g c).After-feed in
    let given = blind_given_in c.args.words.now in
    let code = c.args.code.now in
    let fed = c.in-Ok.fed in
    let paths = c.feed.new.self.turns.paths in
    let paths_are : map string_bytes paths.items ≡ outputs_in given code = ap (λ (job : Job). job.paths) (c.feed.ensures.still ∙ same g at) in
    let sinks : c.len-sinks.result ≡ length (outputs_in given code) = omega (arith, c.len-sinks.ensures, paths.ok.0, length-map paths.items string_bytes, ap length paths_are) in
    let ranks = ranks_text code (failed_in given code) code.net.sinks in
    let line : (source : List ℕ) → fed.bytes ≡ length source → fed.generations ≡ block_count source code.rate → c.sent_behind.result ≡ line_in given code source = λ source long is.
    c.sent_behind.ensures ∙ ap (λ front. front ++ sent_line fed.bytes fed.generations c.len-sinks.result) c.requires.lines
    ∙ ap (λ n. ranks ++ sent_line n fed.generations c.len-sinks.result) long ∙ ap (λ n. ranks ++ sent_line (length source) n c.len-sinks.result) is
    ∙ ap (λ n. ranks ++ sent_line (length source) (block_count source code.rate) n) sinks in
    runs g at (record { status = Done; line = c.sent_behind.result })
    (subst (λ r. Ends (job g at) (line_in given code) r (record { status = Done; line = c.sent_behind.result })) (sym c.in-Ok.is) (refl, line))

pub returns : goal.returns
returns g c =
    let at = (goal.at.returns g c).After-feed in
    let given = blind_given_in c.args.words.now in
    let code = c.args.code.now in
    runs g at c.into.result (subst (λ r. Ends (job g at) (line_in given code) r c.into.result) (sym c.in-Err.is) c.into.ensures)
