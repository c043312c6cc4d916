use Rattle.std.proofs.Common.{List, ℕ, Contains, OnOk, map, string_bytes, subst}
use Rattle.top_blind.proofs.delivery.DeliveringBlockTurns.create.Goals as goal

pub returns-clause-made : goal.returns-clause-made
returns-clause-made g c =
    subst (λ items. OnOk c.create_each.result ((path : List ℕ) → Contains (map string_bytes items) path → g.S.Store.made c.create_each.new.store path)) c.deref.ensures.value c.create_each.ensures.made
