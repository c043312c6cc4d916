use Rattle.std.proofs.Common.{Contains, List, OnOk, map, string_bytes, subst, ℕ}
use Rattle.top_nodes.proofs.working.Relaying.create_outputs.Goals as goal

pub returns-clause-made : goal.returns-clause-made
returns-clause-made g c =
    subst (λ items. OnOk c.create_each.result ((path : List ℕ) → Contains (map string_bytes items) path → g.S.Store.made c.create_each.new.store path)) c.deref.ensures.value c.create_each.ensures.made
