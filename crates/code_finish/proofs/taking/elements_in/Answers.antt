use Rattle.std.proofs.Common.{◌≡◌, ◌<◌, ◌∙◌, arith, inl, inr, length, refl, set, slice_index, subst, sym}
use Rattle.std.proofs.lemmas.Bool.{cases_lt}
use Rattle.std.proofs.lemmas.List.{ext_get_or, get_or-set_other, get_or-set_same, length-set}
use Rattle.std.proofs.lemmas.List.Elements.{All-from_get_or}
use Rattle.linear_algebra.proofs.ElementsLaws.{elements_of-AreElements, length-elements_of}
use Rattle.linear_algebra.specs.Elements.{elements_of}
use Rattle.linear_algebra.specs.Rows.{AreElements}
use Rattle.code_finish.proofs.TakingLaws.{half_width}
use Rattle.code_finish.proofs.taking.elements_in.Goals as goal

pub loop-place-init : goal.loop-place-init
loop-place-init c = (refl, λ k before. absurd (omega (arith, before)))

pub element_at-requires-clause-whole : goal.element_at-requires-clause-whole
element_at-requires-clause-whole c = (half_width c.args.field (length c.args.bytes.now) c.requires).1

pub element_at-requires-clause-inside : goal.element_at-requires-clause-inside
element_at-requires-clause-inside c = omega (arith, (half_width c.args.field (length c.args.bytes.now) c.requires).0, c.loop-place-test.true)

pub loop-place-preserved : goal.loop-place-preserved
loop-place-preserved c =
    let elements = c.loop-place.elements in
    let place = c.loop-place.place in
    let made = c.element_at.result in
    let all = elements_of c.args.field c.args.bytes.now in (
      length-set elements place made ∙ c.loop-place.invariant.0,
      λ k before.
          elim (cases_lt k place) [
            | inl earlier ↦ get_or-set_other elements place k made 0 (λ e. absurd (omega (arith, e, earlier))) ∙ c.loop-place.invariant.1 k earlier
            | inr past ↦
                let here : place ≡ k = omega (arith, before, past) in
                subst (λ n. slice_index (set elements place made) n ≡ slice_index all n) here
                (get_or-set_same elements place made 0 (omega (arith, c.loop-place-test.true, c.loop-place.invariant.0)) ∙ c.element_at.ensures.value)
          ],
    )

pub returns-clause-value : goal.returns-clause-value
returns-clause-value c =
    ext_get_or 0 c.loop-place.elements (elements_of c.args.field c.args.bytes.now)
    (c.loop-place.invariant.0 ∙ sym (length-elements_of c.args.field 32 c.args.bytes.now c.requires))
    (λ k inside. c.loop-place.invariant.1 k (omega (arith, inside, c.loop-place.invariant.0, c.loop-place-test.false)))

pub returns-clause-elements : goal.returns-clause-elements
returns-clause-elements c =
    let bytes = c.args.bytes.now in
    subst (AreElements c.args.field) (sym (returns-clause-value c))
    (elements_of-AreElements c.args.field bytes (All-from_get_or (λ byte. byte < 256) bytes 0 (λ k inside. omega (arith, c.type_inv.bytes k))))
