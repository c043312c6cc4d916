use Rattle.std.proofs.Common.{ap, ◌∙◌, Vec, ℕ, sym}
use Rattle.std.specs.Global.{Global}
use Rattle.std.specs.List.{list_any}
use Rattle.std.specs.Str.{bytes_eq}
use Rattle.item_list.proofs.Tests.{list_any-map}
use Rattle.name_index.proofs.owned.OwnedNames.has.Goals as goal

pub returns : goal.returns
returns c = c.contains.ensures ∙ (sym (list_any-map (λ (name : Vec ℕ Global). name.items) (bytes_eq c.args.name.now) c.self.inside.seen.keys) ∙ ap (list_any (bytes_eq c.args.name.now)) c.self.view_is)
