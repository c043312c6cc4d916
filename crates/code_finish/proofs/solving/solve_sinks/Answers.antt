use Rattle.std.proofs.Common.{◌≡◌, ◌<◌, ◌+◌, ◌*◌, length, refl, sym, ap, subst, ◌∙◌, arith}
use Rattle.code_finish.proofs.SinkLaws.{put_elsewhere, solved_decode, solved_more}
use Rattle.code_finish.specs.Solved.{IsConfused, IsDecoderOf, IsSolved}
use Rattle.failure_patterns.proofs.FirstLaws.{pattern_here}
use Rattle.net_model.specs.Demands.{pattern_of_demand}
use Rattle.code_finish.proofs.solving.solve_sinks.Goals as goal

pub loop-sink-init : goal.loop-sink-init
loop-sink-init g c = record {
  field = c.requires.field;
  rate = c.requires.rate;
  count = c.requires.count;
  others = λ demand apart. refl;
  solved = λ sink begun before. absurd (omega (arith, begun, before));
}

pub solve-requires : goal.solve-requires
solve-requires g c = (
  omega arith,
  (omega (arith, c.loop-sink-test.true, c.requires.sinks), (c.requires.pattern, (c.in_ok-vectors.ensures, (c.loop-sink.invariant.field, c.loop-sink.invariant.rate)))),
)

pub returns-in_err-decoder-clause-field : goal.returns-in_err-decoder-clause-field
returns-in_err-decoder-clause-field g c = c.solve.ensures.field ∙ c.loop-sink.invariant.field ∙ sym c.requires.field

pub returns-in_err-decoder-clause-rate : goal.returns-in_err-decoder-clause-rate
returns-in_err-decoder-clause-rate g c = c.solve.ensures.rate ∙ c.loop-sink.invariant.rate ∙ sym c.requires.rate

pub returns-in_err-decoder-clause-others : goal.returns-in_err-decoder-clause-others
returns-in_err-decoder-clause-others g c = c.loop-sink.invariant.others

pub returns-in-Hidden-clause-field : goal.returns-in-Hidden-clause-field
returns-in-Hidden-clause-field g c = c.solve.ensures.field ∙ c.loop-sink.invariant.field ∙ sym c.requires.field

pub returns-in-Hidden-clause-rate : goal.returns-in-Hidden-clause-rate
returns-in-Hidden-clause-rate g c = c.solve.ensures.rate ∙ c.loop-sink.invariant.rate ∙ sym c.requires.rate

pub returns-in-Hidden-clause-others : goal.returns-in-Hidden-clause-others
returns-in-Hidden-clause-others g c = c.loop-sink.invariant.others

pub returns-in-Hidden-clause-first : goal.returns-in-Hidden-clause-first
returns-in-Hidden-clause-first g c =
    let draft = c.args.draft.now in
    let number = c.number_of-number.ensures.value in
    let hidden = subst (IsSolved draft (c.loop-sink.sink * length draft.net.patterns + c.args.pattern)) c.in-Hidden.is c.in_ok-decoder.ensures.solved in (
      c.loop-sink.sink,
      record {
        from_on = c.loop-sink.auto.sink;
        within = c.loop-sink-test.true;
        demand = number;
        before = solved_decode draft c.args.pattern c.args.begin c.requires.pattern c.loop-sink.decoders.items c.loop-sink.sink c.loop-sink.invariant.solved;
        shown = subst (λ n. IsConfused draft n c.in-Hidden.block) (sym number) hidden;
      },
    )

pub loop-sink-preserved : goal.loop-sink-preserved
loop-sink-preserved g c =
    let draft = c.args.draft.now in
    let pattern = c.args.pattern in
    let sink = c.loop-sink.sink in
    let number = c.number_of-number.result in
    let this = c.number_of-number.ensures.value in
    let decoders = c.loop-sink.decoders in
    let decoder = c.in-Found.decoder in
    let found = subst (IsSolved draft (sink * length draft.net.patterns + pattern)) c.in-Found.is c.in_ok-decoder.ensures.solved in
    let within : number < length decoders.items = omega (arith, c.number_of-number.ensures.within, c.loop-sink.invariant.count, decoders.ok.0) in
    let same : pattern_of_demand draft.net number ≡ pattern = ap (pattern_of_demand draft.net) this ∙ pattern_here draft.net pattern c.requires.pattern sink in
    record {
      field = c.solve.ensures.field ∙ c.loop-sink.invariant.field;
      rate = c.solve.ensures.rate ∙ c.loop-sink.invariant.rate;
      count = c.loop-sink.invariant.count;
      others = λ demand apart.
          put_elsewhere decoders.items number demand decoder (λ is. apart (ap (pattern_of_demand draft.net) is ∙ same)) ∙ c.loop-sink.invariant.others demand apart;
      solved = solved_more draft pattern c.args.begin c.requires.pattern decoders.items sink number decoder within this (subst (λ n. IsDecoderOf draft n decoder) (sym this) found) c.loop-sink.invariant.solved;
    }

pub returns-clause-field : goal.returns-clause-field
returns-clause-field g c = c.loop-sink.invariant.field ∙ sym c.requires.field

pub returns-clause-rate : goal.returns-clause-rate
returns-clause-rate g c = c.loop-sink.invariant.rate ∙ sym c.requires.rate

pub returns-clause-others : goal.returns-clause-others
returns-clause-others g c = c.loop-sink.invariant.others

pub returns-clause-first : goal.returns-clause-first
returns-clause-first g c =
    let draft = c.args.draft.now in
    let clear = solved_decode draft c.args.pattern c.args.begin c.requires.pattern c.loop-sink.decoders.items c.loop-sink.sink c.loop-sink.invariant.solved in
    λ sink begun before. clear sink begun (omega (arith, before, c.loop-sink-test.false))

pub returns-clause-solved : goal.returns-clause-solved
returns-clause-solved g c = λ none sink begun before. c.loop-sink.invariant.solved sink begun (omega (arith, before, c.loop-sink-test.false))
