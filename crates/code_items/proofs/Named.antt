-- Whether a name is an earlier one, by the names or by what they name.
use Rattle.std.proofs.Common.{◌≡◌, ℕ, List, map, sym, ap, ◌∙◌}
use Rattle.std.specs.List.{list_any}
use Rattle.std.specs.Str.{bytes_eq}
use Rattle.item_list.proofs.Tests.{list_any-map}
use Rattle.net_model.specs.declared.Link.{Link}
use Rattle.net_model.specs.declared.Pattern.{Pattern}
use Rattle.code_items.specs.Reading.{Rest, name_at, names_of}

pub named_link : (rest : Rest) (earlier : List Link) (names : List (List ℕ)) → names ≡ names_of earlier
    → name_at rest (λ name. list_any (λ link. bytes_eq name link.name) earlier) ≡ name_at rest (λ name. list_any (bytes_eq name) names)
named_link rest earlier names same =
    ap (name_at rest) (λ j name. (sym (list_any-map (λ (link : Link). link.name) (bytes_eq name) earlier) ∙ ap (list_any (bytes_eq name)) (sym same)) j)

pub named_pattern : (rest : Rest) (earlier : List Pattern) (names : List (List ℕ)) → names ≡ map (λ pattern. pattern.name) earlier
    → name_at rest (λ name. list_any (λ pattern. bytes_eq name pattern.name) earlier) ≡ name_at rest (λ name. list_any (bytes_eq name) names)
named_pattern rest earlier names same =
    ap (name_at rest) (λ j name. (sym (list_any-map (λ (pattern : Pattern). pattern.name) (bytes_eq name) earlier) ∙ ap (list_any (bytes_eq name)) (sym same)) j)
