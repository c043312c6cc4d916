use Rattle.std.proofs.Common.{rules, ◌≡◌, ◌++◌, ap, sym, ◌∙◌, length}
use Rattle.std.proofs.lemmas.List.{length-map}
use Rattle.generation_frame.specs.Frames.{Fits}
use Rattle.linear_algebra.specs.Elements.{numbers}
use Rattle.vector_headers.specs.Heads.{head_read, headed, vector_in}
use Rattle.vector_headers.proofs.HeadLaws.{head_read-headed, vector_in-headed}
use Rattle.vector_headers.proofs.heads.write_head.Goals as goal

pub returns-clause-back : goal.returns-clause-back
returns-clause-back g c =
    let bytes = g.F.Field.BYTES in
    let packet = c.args.packet.now in
    let row = numbers g.F.Field.number c.args.vector.now in
    let made : c.write_front.new.front ++ (c.write_elements.new.into ++ c.copy_from_slice.new.self) ≡ headed bytes row packet = search rules in
    let fits : Fits packet = record { link = c.write_front.ensures.link; generation = c.write_front.ensures.generation; piece = c.requires.piece } in
    let long : length packet.payload ≡ 128 = search rules in
    ap (head_read bytes (length c.args.vector.now)) made
    ∙ ap (λ count. head_read bytes count (headed bytes row packet)) (sym (length-map c.args.vector.now g.F.Field.number))
    ∙ head_read-headed bytes g.F.Field.SIZE g.met.F.Field.sizes row packet fits long

pub returns-clause-vector_back : goal.returns-clause-vector_back
returns-clause-vector_back g c =
    let bytes = g.F.Field.BYTES in
    let packet = c.args.packet.now in
    let row = numbers g.F.Field.number c.args.vector.now in
    let made : c.write_front.new.front ++ (c.write_elements.new.into ++ c.copy_from_slice.new.self) ≡ headed bytes row packet = search rules in
    ap (vector_in bytes (length c.args.vector.now)) made
    ∙ ap (λ count. vector_in bytes count (headed bytes row packet)) (sym (length-map c.args.vector.now g.F.Field.number))
    ∙ vector_in-headed bytes g.F.Field.SIZE g.met.F.Field.sizes row packet
