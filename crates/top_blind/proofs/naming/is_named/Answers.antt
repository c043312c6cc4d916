use Rattle.std.proofs.Common.{map, string_bytes, sym, ap, ◌∙◌, rules, tests}
use Rattle.std.specs.List.{list_any}
use Rattle.std.specs.Str.{bytes_eq}
use Rattle.std.proofs.lemmas.Iterator.{YieldsList-from_slice}
use Rattle.std.proofs.lemmas.Iterator.Search.{any_from_yields_List}
use Rattle.item_list.proofs.Tests.{list_any-map}
use Rattle.top_blind.proofs.naming.is_named.Goals as goal

pub returns : goal.returns
returns c =
    let name = c.link_name-name.result.now in
    let words = c.args.words.now in
    any_from_yields_List (λ word. bytes_eq name (string_bytes word)) _ _ c.any.result c.any.ensures.ran (YieldsList-from_slice words cc) (λ x b q k. search (rules, tests))
    ∙ sym (list_any-map string_bytes (bytes_eq name) words) ∙ ap (λ name. list_any (bytes_eq name) (map string_bytes words)) c.link_name-name.ensures.value
