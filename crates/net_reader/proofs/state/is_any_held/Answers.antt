use Rattle.std.proofs.Common.{rules, tests, ℕ, Vec}
use Rattle.std.specs.Global.{Global}
use Rattle.item_list.proofs.Tests.{list_any-map}
use Rattle.std.proofs.lemmas.Iterator.Search.{any_from_yields_List}
use Rattle.std.proofs.lemmas.Iterator.{YieldsList-from_slice}
use Rattle.net_reader.specs.State.{is_held}
use Rattle.net_reader.proofs.state.is_any_held.Goals as goal

pub returns : goal.returns
returns c =
    rw list_any-map (any_from_yields_List (λ (name : Vec ℕ Global). is_held c.args.state.now name.items) _ _ _ c.any.ensures.ran (YieldsList-from_slice c.args.names.now cc) (λ x b q k. search (rules, tests)))
