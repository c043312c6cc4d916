use Rattle.std.proofs.Common.{not, ap, ◌∙◌, map, Bor, List, ℕ, ◌∷◌, [], sym}
use Rattle.std.specs.List.{list_any}
use Rattle.std.specs.Str.{bytes_eq}
use Rattle.item_list.proofs.Tests.{list_any-map}
use Rattle.name_index.proofs.Keys.{added_to}
use Rattle.name_index.specs.Seen.{distinct_from}
use Rattle.name_index.proofs.names.Names.add.Goals as goal

pub returns-clause-fresh : goal.returns-clause-fresh
returns-clause-fresh c =
    c.in_ok-insert.ensures.added ∙ ap not (sym (list_any-map (λ name. name.now) (bytes_eq c.args.name.now) c.self.inside.seen.keys) ∙ ap (λ s. list_any (bytes_eq c.args.name.now) s) c.self.view_is)

pub returns-clause-names : goal.returns-clause-names
returns-clause-names c = ap (map (λ (name : Bor (List ℕ)). name.now)) c.in_ok-insert.ensures.keys ∙ added_to (λ (name : Bor (List ℕ)). name.now) c.self.inside.seen.keys c.args.name ∙ ap (λ (names : List (List ℕ)). distinct_from names (c.args.name.now ∷ [])) c.self.view_is
