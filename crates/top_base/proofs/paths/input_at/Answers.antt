use Rattle.std.proofs.Common.{Bor, List, ℕ, sym}
use Rattle.std.specs.Str.{bytes_eq}
use Rattle.std.proofs.lemmas.List.{get_or_default}
use Rattle.top_base.proofs.OutputLaws.{find_here, find_later}
use Rattle.top_base.proofs.paths.input_at.Goals as goal

pub returns-then-eq : goal.returns-then-eq
returns-then-eq c =
    sym (find_here (λ (input : Bor (List ℕ)). input.now) (bytes_eq c.args.path.now) c.args.inputs.now c.loop-input.input-index _ c.loop-input-test.true c.loop-input.invariant
    (get_or_default c.args.inputs.now c.loop-input.input-index _ _ c.loop-input-test.true) (sym c.if-eq.ensures))

pub loop-input-preserved : goal.loop-input-preserved
loop-input-preserved c =
    find_later (λ (input : Bor (List ℕ)). input.now) (bytes_eq c.args.path.now) c.args.inputs.now c.loop-input.input-index _ c.loop-input-test.true c.loop-input.invariant
    (get_or_default c.args.inputs.now c.loop-input.input-index _ _ c.loop-input-test.true) (sym c.if-eq.ensures)
