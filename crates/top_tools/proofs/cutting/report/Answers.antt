use Rattle.std.proofs.Common.{◌<◌, ◌∙◌, ap, length, subst, sym}
use Rattle.failure_patterns.proofs.DemandLaws.{some_demand}
use Rattle.top_tools.proofs.cutting.report.Goals as goal

pub rate-requires : goal.rate-requires
rate-requires g c =
    subst (λ count. 0 < count) (sym (ap length c.deref.ensures.value ∙ c.in_ok-certs.ensures.each_demand)) (some_demand c.args.net.now)
