use Rattle.std.proofs.Common.{inl, inr, ◌≡◌, ◌<◌, ◌≤◌, ◌+◌, ◌*◌, ◌∙◌, ap, sym, length, get_or, arith}
use Rattle.std.proofs.lemmas.List.{take_all}
use Rattle.gf_tables.specs.declared.kind.FieldKind.TheVariants.{Sixteen}
use Rattle.linear_algebra.proofs.ElementsLaws.{length-elements_of}
use Rattle.linear_algebra.specs.Elements.{numbers, pairs_of_bytes}
use Rattle.vector_headers.proofs.ElementSteps.{number-read, get_or-pairs_of_bytes}
use Rattle.vector_headers.proofs.elements.read_pairs.Goals as goal

pub loop-i-preserved : goal.loop-i-preserved
loop-i-preserved g c =
    let number = g.F.Field.number in
    let bytes = c.args.bytes.now in
    let i = c.loop-i.i in
    let inside : 2 * i + 1 < length bytes = omega arith in
    let many : length (pairs_of_bytes bytes) ≡ length c.args.vector.now = length-elements_of Sixteen (length c.args.vector.now) bytes c.requires.room in
    let n = 256 * get_or bytes (2 * i) 0 + get_or bytes (2 * i + 1) 0 in
    let high = (c.type_inv.bytes (2 * i)).fits in
    let low = (c.type_inv.bytes (2 * i + 1)).fits in
    let below : n < g.F.Field.SIZE =
    elim g.met.F.Field.sizes [
      | inl s ↦ absurd (omega (arith, s.0, c.requires.pairs))
      | inr s ↦ omega (arith, s.1)
    ] in
    let read : number c.of_number.result ≡ n = ap number c.of_number.ensures.value ∙ g.met.F.Field.number_of_number n below in
    number-read number c.loop-i.vector (pairs_of_bytes bytes) i c.of_number.result (omega arith) (omega arith) (read ∙ sym (get_or-pairs_of_bytes bytes i inside)) c.loop-i.invariant

pub returns : goal.returns
returns g c =
    let bytes = c.args.bytes.now in
    let vector = c.loop-i.vector in
    let i = c.loop-i.i in
    let many : length (pairs_of_bytes bytes) ≡ length c.args.vector.now = length-elements_of Sixteen (length c.args.vector.now) bytes c.requires.room in
    let all : length vector ≤ i = omega arith in
    let whole : length (pairs_of_bytes bytes) ≤ i = omega arith in
    ap (numbers g.F.Field.number) (sym (take_all i vector all)) ∙ c.loop-i.invariant ∙ take_all i (pairs_of_bytes bytes) whole
