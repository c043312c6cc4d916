use Rattle.std.proofs.Common.{ap, ◌∙◌, Vec, ℕ}
use Rattle.std.specs.Global.{Global}
use Rattle.std.specs.List.{position}
use Rattle.std.specs.Str.{bytes_eq}
use Rattle.name_index.proofs.Keys.{position_map}
use Rattle.name_index.proofs.owned.OwnedNames.number_of.Goals as goal

pub returns-clause-value : goal.returns-clause-value
returns-clause-value c = c.get_index_of.ensures.index ∙ (position_map (bytes_eq c.args.name.now) (λ (name : Vec ℕ Global). name.items) c.self.inside.seen.keys ∙ ap (position (bytes_eq c.args.name.now)) c.self.view_is)
