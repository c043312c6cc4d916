use Rattle.std.proofs.Common.{◌≡◌, ◌<◌, ◌≤◌, ◌++◌, ◌∷◌, ℕ, List, [], ap, arith, get_or, length, sym, take, ◌∙◌}
use Rattle.std.proofs.lemmas.List.{append_assoc, map-append, take_more}
use Rattle.linear_algebra.specs.Elements.{elements_of, numbers}
use Rattle.field_rows.proofs.ElementLaws.{even_whole, room_in}
use Rattle.field_rows.specs.Widths.{width_in}
use Rattle.vector_headers.proofs.FabricLaws.{wide_enough}
use Rattle.vector_headers.proofs.fabric_parts.push_elements.Goals as goal

pub element_at-requires-clause-whole : goal.element_at-requires-clause-whole
element_at-requires-clause-whole g c = even_whole c.args.field (length c.args.row.now) (omega arith)

pub element_at-requires-clause-inside : goal.element_at-requires-clause-inside
element_at-requires-clause-inside g c =
    let room : c.args.count ≤ width_in c.args.field (length c.args.row.now) = room_in c.args.field (length c.args.row.now) c.args.count (omega arith) c.requires.few in
    omega (arith, room)

pub of_number-requires : goal.of_number-requires
of_number-requires g c = omega (arith, c.element_at.ensures.below, c.requires.field.size)

pub loop-place-preserved : goal.loop-place-preserved
loop-place-preserved g c =
    let number = g.F.Field.number in
    let row = elements_of c.args.field c.args.row.now in
    let old = c.loop-place.elements.items in
    let first = numbers number c.args.elements.now.items in
    let place = c.loop-place.place in
    let n = c.element_at.result in
    let x = c.of_number.result in
    let long : length c.args.row.now ≡ 64 = omega arith in
    let inside : place < length row = omega (arith, wide_enough c.args.field c.args.count c.args.row.now c.requires.few long) in
    let below : n < g.F.Field.SIZE = omega (arith, c.element_at.ensures.below, c.requires.field.size) in
    let read : number x ≡ get_or row place 0 = ap number c.of_number.ensures.value ∙ g.met.F.Field.number_of_number n below ∙ c.element_at.ensures.value in
    ap (numbers number) c.in_ok-push.ensures.items
    ∙ map-append number old (x ∷ [])
    ∙ ap (λ (before : List ℕ). before ++ number x ∷ []) c.loop-place.invariant
    ∙ ap (λ (last : ℕ). (first ++ take place row) ++ last ∷ []) read
    ∙ append_assoc first (take place row) (get_or row place 0 ∷ [])
    ∙ ap (λ (added : List ℕ). first ++ added) (sym (take_more row place 0 inside))

pub returns-clause-sum : goal.returns-clause-sum
returns-clause-sum g c =
    let last : c.loop-place.place ≡ c.args.count = omega arith in
    c.loop-place.invariant
    ∙ ap (λ (n : ℕ). numbers g.F.Field.number c.args.elements.now.items ++ take n (elements_of c.args.field c.args.row.now)) last

pub returns-clause-room : goal.returns-clause-room
returns-clause-room g c =
    let long : length c.args.row.now ≡ 64 = omega arith in
    wide_enough c.args.field c.args.count c.args.row.now c.requires.few long

pub returns-in_err-push-clause-room : goal.returns-in_err-push-clause-room
returns-in_err-push-clause-room g c =
    let long : length c.args.row.now ≡ 64 = omega arith in
    wide_enough c.args.field c.args.count c.args.row.now c.requires.few long
