use Rattle.std.proofs.Common.{map, string_bytes}
use Rattle.lif_outside.specs.Calls.{objects}
use Rattle.lif_top.proofs.Promising.{promises}
use Rattle.lif_top.proofs.program.lif.Goals as goal

pub returns-clause-promises : goal.returns-clause-promises
returns-clause-promises g c =
    promises (map string_bytes c.args.words.now) (objects g.S.Store g.C.Sink g.L.Links c.args.store.now c.carry_out-status.new.store c.args.say.now c.conclude.new.say c.args.links.now
    c.carry_out-status.new.links) _
    (λ events lead. g.met.S.Store.accounts events _ _ lead) (λ puts lead. g.met.C.Sink.accounts puts _ _ lead)
    (λ made lead. g.met.L.Links.accounts made _ _ lead)
    _ c.carry_out-status.ensures c.conclude.ensures
