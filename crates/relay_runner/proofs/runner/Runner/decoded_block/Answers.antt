use Rattle.std.specs.Prelude.{◌≡◌, ◌<◌, ◌*◌, [], length, slice_index_or}
use Rattle.std.proofs.Common.{◌∙◌, ap, arith, subst, subst₂}
use Rattle.std.proofs.lemmas.List.{get_or_default}
use Rattle.generation_frame.specs.Blocks.{row_bytes}
use Rattle.node_program.specs.Decoding.{IsAccepted}
use Rattle.node_program.specs.declared.code.Code.{Code}
use Rattle.relay_runner.proofs.BlockLaws.{block-carried, block-given}
use Rattle.relay_runner.proofs.runner.Runner.decoded_block.Goals as goal
use Rattle.relay_runner.proofs.runner.Runner.decoded_block.Goals.{After-block}
use Rattle.relay_runner.specs.Decoding.{block_in}
use Rattle.relay_runner.specs.Running.{Running}

-- the code at hand is the runner's
same_code : (g : _) (c : After-block g) → c.code.result.now ≡ c.args.self.now.code
same_code g c = c.code.ensures.value ∙ ap (λ (runner : Running). runner.code) c.self.view_is

-- what is lent is what the sink decoded
lent : (g : _) (c : After-block g)
    → c.block.result.now
    ≡ block_in (c.args.self.now.code.rate * row_bytes) (slice_index_or c.args.self.now.decoded c.args.sink []) c.args.place
lent g c =
    let within : c.args.sink < length c.self.inside.decoded.items =
    omega (arith, c.requires.sink, c.self.invariant.each_sink, ap (λ (runner : Running). length runner.code.net.sinks) c.self.view_is) in
    let there : c.index.result.now ≡ slice_index_or c.args.self.now.decoded c.args.sink [] =
    c.index.ensures
    ∙ get_or_default c.self.inside.decoded.items c.args.sink c.index.result.now [] within
    ∙ ap (λ (runner : Running). slice_index_or runner.decoded c.args.sink []) c.self.view_is in
    let rate : c.code.result.now.rate ≡ c.args.self.now.code.rate = ap (λ (code : Code). code.rate) (same_code g c) in
    let block : c.block.result.now ≡ block_in (c.code.result.now.rate * row_bytes) c.index.result.now c.args.place =
    c.block.ensures.is in
    subst₂ (λ rate blocks. c.block.result.now ≡ block_in (rate * row_bytes) blocks c.args.place) rate there block

pub returns-clause-size : goal.returns-clause-size
returns-clause-size g c =
    c.block.ensures.size ∙ ap (λ (code : Code). code.rate * row_bytes) (same_code g (goal.at.returns-clause-size g c).After-block)

pub returns-clause-value : goal.returns-clause-value
returns-clause-value g c = λ moves by.
    lent g (goal.at.returns-clause-value g c).After-block
    ∙ block-given c.args.self.now c.requires.decoded c.args.sink c.args.place c.requires.sink c.requires.place moves by

pub returns-clause-carried : goal.returns-clause-carried
returns-clause-carried g c = λ window run state running faithful.
    let at = (goal.at.returns-clause-carried g c).After-block in
    lent g at
    ∙ block-carried c.args.self.now c.requires.decoded c.args.sink c.args.place c.requires.sink c.requires.place
    (subst IsAccepted (same_code g at) c.code.ensures.accepted) window run state running faithful
