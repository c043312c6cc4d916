use Rattle.std.proofs.Common.{List, ℕ, Bor, subst}
use Rattle.std.specs.List.{IsDistinct}
use Rattle.std.specs.Str.{bytes_eq}
use Rattle.name_index.proofs.Keys.{distinct_map}
use Rattle.name_index.proofs.names.Names.len.Goals as goal

pub returns-clause-distinct : goal.returns-clause-distinct
returns-clause-distinct c =
    let P : List (List ℕ) → Type 0 = IsDistinct bytes_eq in
    subst P c.self.view_is (distinct_map (λ (name : Bor (List ℕ)). name.now) c.self.inside.seen.keys c.len.ensures.unique)
