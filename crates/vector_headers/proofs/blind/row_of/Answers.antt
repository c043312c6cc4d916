use Rattle.std.proofs.Common.{rules, ◌≡◌, ◌*◌, ◌-◌, ◌++◌, ◌∙◌, List, ℕ, ap, sym, length, drop, replicate}
use Rattle.std.proofs.Math.Path.{ap₂}
use Rattle.std.proofs.lemmas.List.{drop-replicate, length-map}
use Rattle.linear_algebra.specs.Elements.{bytes_of_numbers, numbers}
use Rattle.vector_headers.proofs.HeadLaws.{length-bytes}
use Rattle.vector_headers.specs.Heads.{width_of_bytes}
use Rattle.vector_headers.proofs.blind.row_of.Goals as goal

pub returns : goal.returns
returns g c =
    let bytes = g.F.Field.BYTES in
    let vector = c.args.vector.now in
    let row = numbers g.F.Field.number vector in
    let made = bytes_of_numbers (width_of_bytes bytes) row in
    let n = length vector * bytes in
    let head = c.split_at_mut-head.result.0.now in
    let long : length made ≡ n = length-bytes bytes g.F.Field.SIZE g.met.F.Field.sizes row ∙ ap (λ k. k * bytes) (length-map vector g.F.Field.number) in
    let zeros : head ≡ replicate 64 0 = search rules in
    let rest : drop (length vector * c.BYTES.result) head ≡ replicate (64 - length made) 0 =
    ap (λ k. drop (length vector * k) head) c.BYTES.ensures ∙ ap (drop n) zeros ∙ drop-replicate n 64 0 ∙ ap (λ k. replicate (64 - k) 0) (sym long)
    in
    ap₂ (λ (front payload : List ℕ). front ++ payload) (ap₂ (λ (xs ys : List ℕ). xs ++ ys) c.write_elements.ensures rest) c.copy_from_slice.ensures.after
