use Rattle.std.proofs.Common.{ap, ◌∙◌, Bor, List, ℕ, sym}
use Rattle.std.specs.List.{list_any}
use Rattle.std.specs.Str.{bytes_eq}
use Rattle.item_list.proofs.Tests.{list_any-map}
use Rattle.name_index.proofs.names.Names.has.Goals as goal

pub returns : goal.returns
returns c = c.contains.ensures ∙ (sym (list_any-map (λ (name : Bor (List ℕ)). name.now) (bytes_eq c.args.name.now) c.self.inside.seen.keys) ∙ ap (list_any (bytes_eq c.args.name.now)) c.self.view_is)
