use Rattle.std.proofs.lemmas.Result.{on_err_weaker, on_ok_weaker}
use Rattle.node_stations.proofs.station.Station.pass_on.Goals as goal

pub put_due-requires : goal.put_due-requires
put_due-requires g c = c.requires.room c.deliver.new.self.node c.deliver.ensures.node

pub returns-clause-passed : goal.returns-clause-passed
returns-clause-passed g c =
    on_ok_weaker c.put_due.result (λ due. record { mid = c.deliver.new.self.node; takes = c.deliver.ensures.node; puts = due }) c.put_due.ensures.put

pub returns-clause-failed : goal.returns-clause-failed
returns-clause-failed g c =
    on_err_weaker c.put_due.result (λ stops. record { mid = c.deliver.new.self.node; takes = c.deliver.ensures.node; stops = stops }) c.put_due.ensures.failed
