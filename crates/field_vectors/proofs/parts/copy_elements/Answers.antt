use Rattle.std.proofs.Common.{◌<◌, ◌≤◌, length, arith, ◌∙◌, subst, set}
use Rattle.std.proofs.Math.Path.{ap₂}
use Rattle.std.proofs.lemmas.List.{take_all}
use Rattle.std.proofs.lemmas.List.Elements.{All-more}
use Rattle.field_vectors.proofs.RowSteps.{joined_below-more, joined_below-all, zip2-second}
use Rattle.field_vectors.proofs.parts.copy_elements.Goals as goal

pub loop-place-preserved : goal.loop-place-preserved
loop-place-preserved g c =
    let P = g.F.Field.is_element in
    let k = c.loop-place.place in
    let into = c.args.into.now in
    let from = c.args.from.now in
    let r = c.index-from-place.result in
    let inside : k < length from = omega arith in
    let within : k < length into = omega arith in
    record {
      value = ap₂ (λ xs x. set xs k x) c.loop-place.invariant.value c.index-from-place.is ∙ joined_below-more (λ x y. y) k into from r r within inside;
      elements = All-more P from k r inside c.loop-place.invariant.elements (subst P c.index-from-place.is c.number-number.ensures.element);
    }

pub returns-clause-elements : goal.returns-clause-elements
returns-clause-elements g c =
    let all : length c.args.from.now ≤ c.loop-place.place = omega arith in
    rw (take_all c.loop-place.place c.args.from.now all) at c.loop-place.invariant.elements

pub returns-clause-value : goal.returns-clause-value
returns-clause-value g c =
    c.loop-place.invariant.value ∙ joined_below-all (λ x y. y) c.loop-place.place c.args.into.now c.args.from.now c.requires (omega arith)
    ∙ zip2-second c.args.into.now c.args.from.now c.requires
