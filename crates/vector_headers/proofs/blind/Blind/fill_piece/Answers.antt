use Rattle.std.proofs.Common.{◌≡◌, ◌∙◌, ◌<◌, List, ap, sym, subst, length, lit<, arith}
use Rattle.std.specs.List.{AllByRecursion}
use Rattle.std.proofs.lemmas.List.{length-map}
use Rattle.gf_tables.specs.declared.kind.FieldKind.{FieldKind}
use Rattle.vector_headers.proofs.GivenLaws.{piece_given}
use Rattle.vector_headers.proofs.HeldLaws.{Shows-here}
use Rattle.vector_headers.specs.Held.{coded, coded_rows}
use Rattle.vector_headers.specs.Rows.{Admits, CodedRow, piece_of_block, rows_of_piece}
use Rattle.vector_headers.proofs.blind.Blind.fill_piece.Goals as goal

pub row-requires : goal.row-requires
row-requires g c =
    let inside = c.self.inside in
    let span = c.index.result.now in
    let seen =
    Shows-here g.F.Field.BYTES inside.field inside.rate inside.spans.items c.args.self.now c.args.piece span c.self.invariant c.self.view_is c.requires.piece c.index.ensures
    in
    let within : c.args.k < span.rate = let same = seen.same_rate in let row = c.requires.row in omega arith in
    (lit< tt, (lit< tt, (within, sym (length-map span.rows (coded span.field span.rate)) ∙ ap (λ (rows : List CodedRow). length rows) seen.shown ∙ c.requires.whole c.args.piece c.requires.piece ∙ sym seen.same_rate)))

pub returns : goal.returns
returns g c =
    let inside = c.self.inside in
    let span = c.index.result.now in
    let piece = c.args.piece in
    let told = c.put_payload.ensures in
    let bytes = c.row.result.now in
    let holding = c.args.self.now in
    let seen =
    Shows-here g.F.Field.BYTES inside.field inside.rate inside.spans.items holding piece span c.self.invariant c.self.view_is c.requires.piece c.index.ensures
    in
    let within : c.args.k < span.rate = let same = seen.same_rate in let row = c.requires.row in omega arith in
    λ block admitted.
    let First : FieldKind → Type 0 = λ f. AllByRecursion (Admits f (piece_of_block f block piece)) (rows_of_piece holding piece) in
    let Then : List CodedRow → Type 0 = λ rows. AllByRecursion (Admits span.field (piece_of_block span.field block piece)) rows in
    let here : Then (coded_rows span) = subst Then (sym seen.shown) (subst First (sym seen.same_field) (admitted.admitted piece c.requires.piece)) in
    let count : length block ≡ span.rate = admitted.count ∙ sym seen.same_rate in
    told.value
    ∙ piece_given span.field piece c.requires.piece span.rate seen.low_rate span.rows seen.are block count admitted.rows here c.args.k within bytes told.bytes told.long
    c.row.ensures.unit c.row.ensures.sum
