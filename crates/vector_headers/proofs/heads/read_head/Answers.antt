use Rattle.std.proofs.Common.{rules, ◌≡◌, ap, sym, ◌∙◌, true, ◌+◌, ◌*◌, ◌-◌, length, take, drop, arith}
use Rattle.std.proofs.Math.Path.{ap₂}
use Rattle.linear_algebra.specs.Elements.{numbers, numbers_of_bytes}
use Rattle.vector_headers.specs.Heads.{headed, is_marked, packet_in, vector_in, width_of_bytes}
use Rattle.vector_headers.proofs.HeadLaws.{headed-packet_in}
use Rattle.vector_headers.proofs.heads.read_head.Goals as goal

pub returns-clause-back : goal.returns-clause-back
returns-clause-back g c =
    let bytes = g.F.Field.BYTES in
    let frame = c.args.bytes.now in
    let count = length c.args.vector.now in
    let long : length frame ≡ 140 + count * bytes = search rules in
    let marked : is_marked frame ≡ true = sym c.is_marked.ensures ∙ c.if-not-is_marked.false in
    let many : length frame - 128 - 12 ≡ count * bytes = omega (arith, long) in
    let place : length frame - 128 ≡ 12 + count * bytes = omega (arith, long) in
    let vector : numbers g.F.Field.number c.read_elements.new.vector ≡ vector_in bytes count frame =
    c.read_elements.ensures ∙ ap (λ k. numbers_of_bytes (width_of_bytes bytes) (take k (drop 12 frame))) many
    in
    let packet : c.packet_in.result ≡ packet_in (12 + count * bytes) frame = c.packet_in.ensures ∙ ap (λ k. packet_in k frame) place in
    ap₂ (headed bytes) vector packet ∙ headed-packet_in bytes g.F.Field.SIZE g.met.F.Field.sizes frame count long (λ i. (c.type_inv.bytes i).fits) marked
