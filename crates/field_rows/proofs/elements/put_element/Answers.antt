use Rattle.std.proofs.Common.{◌≡◌, ◌<◌, ◌+◌, ◌*◌, ◌/◌, ◌%◌, ap, arith, bit_and, length, refl, set, sym, ◌∙◌}
use Rattle.std.proofs.lemmas.Grind.{and_numeral}
use Rattle.gf_tables.specs.Product.{width_of}
use Rattle.gf_tables.specs.declared.kind.Width.TheVariants.{Two}
use Rattle.linear_algebra.specs.Elements.{pairs_of_bytes}
use Rattle.field_rows.proofs.ElementLaws.{pairs_of_bytes-set}
use Rattle.field_rows.proofs.elements.put_element.Goals as goal

pub returns-in-Two : goal.returns-in-Two
returns-in-Two c =
    let row = c.args.row.now in
    let number = c.args.number in
    let two : width_of c.args.field ≡ Two = sym c.width.ensures ∙ c.in-Two.is in
    let whole : length row % 2 ≡ 0 = rw two at c.requires.whole in
    let inside : c.args.place < length row / 2 = rw two at c.requires.inside in
    let even : length row ≡ 2 * (length row / 2) = omega arith in
    let low : bit_and number 255 ≡ number % 256 = and_numeral number 254 refl in
    let same : 256 * (number / 256) + number % 256 ≡ number = omega arith in
    rw (two, low) (pairs_of_bytes-set (length row / 2) c.args.place (number / 256) (number % 256) row even inside ∙ ap (set (pairs_of_bytes row) c.args.place) same)
