use Rattle.std.proofs.Common.{◌≡◌, length, sym, subst, ◌∙◌, arith}
use Rattle.code_finish.proofs.FinishLaws.{IsCode-solved, IsFinished-solved}
use Rattle.net_model.specs.Demands.{demand_count}
use Rattle.node_program.specs.Code.{IsCode}
use Rattle.code_finish.proofs.finishing.code_of.Goals as goal

pub of-requires-2 : goal.of-requires-2
of-requires-2 c =
    let draft = c.args.draft in
    let decoders = c.args.decoders in
    let count : length decoders.items ≡ demand_count draft.net = omega (arith, c.requires.count, decoders.ok.0) in
    subst (IsCode draft.net draft.rate draft.field draft.operands) (sym c.of.ensures) (IsCode-solved draft decoders.items c.requires.solved count)

pub returns : goal.returns
returns c =
    let made = c.of-2.ensures in
    IsFinished-solved c.args.draft c.args.decoders.items c.requires.solved c.of-2.result made.net made.rate made.field made.operands (made.decoders ∙ c.of.ensures)
