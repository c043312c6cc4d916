use Rattle.std.proofs.Common.{◌≡◌, ◌≤◌, ◌++◌, ℕ, List, [], ap, arith, get_or, length, subst, take, ◌∙◌}
use Rattle.linear_algebra.specs.Elements.{elements_of, numbers}
use Rattle.vector_headers.proofs.FabricLaws.{AreParts, AreParts-more, AreVectorElements-parts}
use Rattle.vector_headers.proofs.fabric_parts.narrowed.Goals as goal

pub loop-link-preserved : goal.loop-link-preserved
loop-link-preserved g c =
    let number = g.F.Field.number in
    let coding = c.args.coding in
    let wide = c.args.wide.now in
    let link = c.loop-link.link in
    let read : ℕ → List ℕ = λ e. elements_of coding.field (get_or wide e []) in
    let Room : List ℕ → Type 0 = λ row. coding.rate ≤ length (elements_of coding.field row) in
    AreParts-more coding.rate link read (numbers number c.loop-link.vectors.items) (numbers number c.push_elements.new.elements.items)
    (subst Room c.row.ensures c.push_elements.ensures.room) c.loop-link.invariant
    (c.in_ok-push_elements.ensures.sum
    ∙ ap (λ (row : List ℕ). numbers number c.loop-link.vectors.items ++ take coding.rate (elements_of coding.field row)) c.row.ensures)

pub returns : goal.returns
returns g c = λ failed rows.
    let coding = c.args.coding in
    let all = numbers g.F.Field.number c.loop-link.vectors.items in
    let last : c.loop-link.link ≡ length coding.net.now.links = omega arith in
    let Are : ℕ → Type 0 = λ links. AreParts coding.rate links (λ e. elements_of coding.field (get_or c.args.wide.now e [])) all in
    AreVectorElements-parts g.F.Field.number coding.draft (length coding.net.now.links) c.args.wide.now c.loop-link.vectors.items
    (subst Are last c.loop-link.invariant) failed rows
