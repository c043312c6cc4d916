use Rattle.std.proofs.Common.{◌≡◌, ◌∙◌, List, ℕ, subst, sym}
use Rattle.gf_tables.specs.declared.kind.FieldKind.{FieldKind}
use Rattle.net_model.specs.declared.net.Net.{Net}
use Rattle.node_program.specs.Code.{IsCode}
use Rattle.node_program.specs.declared.Decoder.{Decoder}
use Rattle.node_program.specs.declared.Operand.{Operand}
use Rattle.node_program.specs.declared.code.Code.{Code}
use Rattle.two_sources.proofs.DecoderSteps.{length-HasFirstLinks}
use Rattle.two_sources.proofs.SeparatedLaws.{IsCode-separated, separated-accepted}
use Rattle.two_sources.specs.Separated.{HasFirstLinks}
use Rattle.two_sources.proofs.separating.separate.Goals as goal

-- what holds of a code's links holds of those of the same code
links_of : (code other : Code) → other ≡ code → HasFirstLinks code.net code.rate → HasFirstLinks other.net other.rate
links_of code other same first = subst (λ (one : Code). HasFirstLinks one.net one.rate) (sym same) first

-- a code of the same parts
code_of : (net copy : Net) (rate : ℕ) (field : FieldKind) (operands table : List (List Operand)) (decoders made : List Decoder)
    → copy ≡ net → table ≡ operands → made ≡ decoders
    → IsCode net rate field operands decoders → IsCode copy rate field table made
code_of net copy rate field operands table decoders made copied separated done code = rw (copied, separated, done) code

pub separated_operands-requires : goal.separated_operands-requires
separated_operands-requires g c =
    let code = c.code-code.result.now in
    length-HasFirstLinks code.net code.rate code.code.draft.some_rate
    (links_of c.args.code.now code c.code-code.ensures.value c.requires.first)

pub of-requires : goal.of-requires
of-requires g c =
    let code = c.code-code.result.now in
    code_of code.net c.in_ok-net.net code.rate code.field _ c.in_ok-operands.operands _ c.in_ok-decoders.decoders
    c.in_ok-net.ensures c.in_ok-operands.ensures c.in_ok-decoders.ensures
    (IsCode-separated code (links_of c.args.code.now code c.code-code.ensures.value c.requires.first))

pub returns-clause-accepted : goal.returns-clause-accepted
returns-clause-accepted g c =
    let code = c.code-code.result.now in
    let new = c.of.result in
    separated-accepted code (links_of c.args.code.now code c.code-code.ensures.value c.requires.first) new
    (record {
      net = c.of.ensures.net ∙ c.in_ok-net.ensures;
      rate = c.of.ensures.rate;
      field = c.of.ensures.field;
      operands = c.of.ensures.operands ∙ c.in_ok-operands.ensures;
      decoders = c.of.ensures.decoders ∙ c.in_ok-decoders.ensures;
    })
    c.code-code.ensures.accepted
