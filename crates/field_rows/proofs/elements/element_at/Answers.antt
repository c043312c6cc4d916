use Rattle.std.proofs.Common.{◌≡◌, ◌*◌, ◌/◌, ◌%◌, arith, length, sym, ◌+◌, ◌∙◌}
use Rattle.gf_tables.specs.Product.{width_of}
use Rattle.gf_tables.specs.declared.kind.Width.TheVariants.{One, Two}
use Rattle.field_rows.proofs.BytesLaws.{get_or-pairs_of}
use Rattle.field_rows.proofs.elements.element_at.Goals as goal

pub returns-in-One-clause-below : goal.returns-in-One-clause-below
returns-in-One-clause-below c =
    let one : width_of c.args.field ≡ One = sym c.width.ensures ∙ c.in-One.is in
    rw one (omega (arith, c.type_inv.row c.args.place))

pub returns-in-Two-clause-below : goal.returns-in-Two-clause-below
returns-in-Two-clause-below c =
    let two : width_of c.args.field ≡ Two = sym c.width.ensures ∙ c.in-Two.is in
    rw two (omega (arith, c.type_inv.row (2 * c.args.place), c.type_inv.row (2 * c.args.place + 1)))

pub returns-in-Two-clause-value : goal.returns-in-Two-clause-value
returns-in-Two-clause-value c =
    let row = c.args.row.now in
    let two : width_of c.args.field ≡ Two = sym c.width.ensures ∙ c.in-Two.is in
    let whole : length row % 2 ≡ 0 = rw two at c.requires.whole in
    let even : length row ≡ 2 * (length row / 2) = omega arith in
    rw two (sym (get_or-pairs_of (length row / 2) c.args.place row even))
