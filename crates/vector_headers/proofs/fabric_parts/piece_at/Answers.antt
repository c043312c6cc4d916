use Rattle.std.proofs.Common.{◌≡◌, ◌<◌, ◌+◌, ◌-◌, ◌*◌, ℕ, List, ap, arith, drop, sym, take, ◌∙◌}
use Rattle.std.proofs.lemmas.List.Elements.{All-from_get_or}
use Rattle.generation_frame.specs.Blocks.{piece_of_row}
use Rattle.linear_algebra.proofs.ElementsLaws.{bytes_of_row-elements_of}
use Rattle.linear_algebra.specs.Elements.{AreBytes}
use Rattle.field_rows.proofs.ElementLaws.{even_bytes}
use Rattle.field_rows.specs.Widths.{width_in}
use Rattle.vector_headers.proofs.fabric_parts.piece_at.Goals as goal

pub returns : goal.returns
returns c = λ kind.
    let row = c.args.row.now in
    let start = c.args.piece * 128 in
    let room : start + 128 - start ≡ 128 = omega arith in
    let are : AreBytes row = All-from_get_or (λ byte. byte < 256) row 0 (λ k _. (c.type_inv.row k).fits) in
    c.copy_from_slice.ensures.after
    ∙ ap (λ (n : ℕ). take n (drop start row)) room
    ∙ ap (λ (bytes : List ℕ). piece_of_row bytes c.args.piece)
    (sym (bytes_of_row-elements_of kind (width_in kind 1024) row are (c.requires.row ∙ even_bytes kind 1024 (omega arith))))
