use Rattle.std.proofs.Common.{◌∙◌, ℕ, refl, replicate}
use Rattle.std.proofs.Math.Path.{ap₂}
use Rattle.field_vectors.specs.Grid.{grid_of}
use Rattle.lif_compiler.proofs.BasesLaws.{LawsOf}
use Rattle.lif_compiler.proofs.StartSteps.{visited_none}
use Rattle.lif_compiler.proofs.partial_code.PartialCode.start.Goals as goal

pub returns-clause-visited : goal.returns-clause-visited
returns-clause-visited g c =
    let F = g.F.Field in
    let L = g.met.F.Field in
    let net = c.args.net.now in
    let vectors = c.in_ok-vectors.vectors.items in
    let bases = c.in_ok-bases.bases.items in
    let laws : LawsOf F = record { field = L.field; numbering = L.numbering; of_kind = c.requires.field } in
    visited_none laws net c.args.rate vectors bases
    (c.in_ok-vectors.ensures ∙ ap₂ (λ (patterns links : ℕ). replicate patterns (grid_of links c.args.rate F.zero)) c.len.ensures c.len-links.ensures) (c.in_ok-bases.ensures.count ∙ c.demands.ensures)
    c.in_ok-bases.ensures.frontiers c.in_ok-bases.ensures.vectors c.requires.some_rate c.requires.low_rate c.requires.few_demands c.requires.order c.requires.named c.requires.unwanted _ refl c.in_ok-operands.ensures.items refl refl
