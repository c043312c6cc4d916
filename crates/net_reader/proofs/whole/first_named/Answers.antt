use Rattle.std.proofs.Common.{◌||◌, rules, tests, ℕ, Bool, List, Vec, ◌∙◌}
use Rattle.std.specs.Prelude.{codes, position}
use Rattle.std.specs.Global.{Global}
use Rattle.std.specs.Str.{bytes_eq}
use Rattle.std.proofs.lemmas.Iterator.Search.{position_from_yields_List}
use Rattle.std.proofs.lemmas.Iterator.{YieldsList-from_slice}
use Rattle.name_index.specs.Seen.{has}
use Rattle.name_index.proofs.Keys.{position_map}
use Rattle.net_reader.proofs.whole.first_named.Goals as goal

pub returns : goal.returns
returns c = λ statements tables.
    let names_pattern : List ℕ → Bool = λ name. bytes_eq name (codes "none") || has c.args.state.now.pattern_names name in
    position_from_yields_List (λ (name : Vec ℕ Global). names_pattern name.items) _ _ _ c.position.ensures.ran (YieldsList-from_slice c.as_slice.result.now cc) (λ x b q k. search (rules, tests))
    ∙ position_map names_pattern (λ (name : Vec ℕ Global). name.items) c.as_slice.result.now
    ∙ (λ i. position (λ name. bytes_eq name (codes "none") || has (tables.pattern_names i) name) ((c.as_slice.ensures ∙ tables.link_names) i))
