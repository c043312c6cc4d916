use Rattle.std.proofs.Common.{List, ℕ, Vec, subst}
use Rattle.std.specs.Global.{Global}
use Rattle.std.specs.List.{IsDistinct}
use Rattle.std.specs.Str.{bytes_eq}
use Rattle.name_index.proofs.Keys.{distinct_map}
use Rattle.name_index.proofs.owned.OwnedNames.len.Goals as goal

pub returns-clause-distinct : goal.returns-clause-distinct
returns-clause-distinct c =
    let P : List (List ℕ) → Type 0 = IsDistinct bytes_eq in
    subst P c.self.view_is (distinct_map (λ (name : Vec ℕ Global). name.items) c.self.inside.seen.keys c.len.ensures.unique)
