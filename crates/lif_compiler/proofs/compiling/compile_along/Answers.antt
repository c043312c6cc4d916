use Rattle.std.proofs.Common.{◌∙◌, List, Result, Ok, Err, length, sym, subst}
use Rattle.std.specs.Result.{OnErr}
use Rattle.counted_steps.specs.Steps.{RoseByAtMost}
use Rattle.cut_witness.specs.Certificate.{AreCertificates}
use Rattle.cut_witness.specs.declared.cert.Cert.{Cert}
use Rattle.net_model.specs.Demands.{demand_count}
use Rattle.lif_compiler.proofs.BuildSteps.{rate-compiled, rate_ticks}
use Rattle.lif_compiler.specs.Rating.{IsRateUsed}
use Rattle.lif_compiler.specs.Work.{choice_bound}
use Rattle.lif_compiler.proofs.compiling.compile_along.Goals as goal

-- what holds anyhow holds where there is an error
on_err : {T E P : Type 0} (result : Result T E) → P → OnErr result P
on_err (Ok made) holds = tt
on_err (Err why) holds = holds

pub returns-in_err-code-clause-refused_ticks : goal.returns-in_err-code-clause-refused_ticks
returns-in_err-code-clause-refused_ticks g c =
    let certs = c.deref.result.now in
    let are = subst (AreCertificates c.args.net.now) (sym c.deref.ensures.value) c.in_ok-certs.ensures in
    on_err c.from_residual-in_err-code.result (rate_ticks c.args.net.now certs c.in_ok-rate.rate c.args.steps.now c.build.new.steps are c.in_ok-rate.ensures.used c.build.ensures.ticks)

pub returns-clause-ticks : goal.returns-clause-ticks
returns-clause-ticks g c =
    let net = c.args.net.now in
    let rate = c.in_ok-rate.rate in
    let used = subst (λ (certs : List Cert). IsRateUsed net certs rate) (c.deref.ensures.value ∙ sym c.deref-2.ensures.value) c.in_ok-rate.ensures.used in
    subst (λ rate. RoseByAtMost (choice_bound (length net.links) (demand_count net) rate) c.args.steps.now c.build.new.steps)
    (sym (rate-compiled c.in_ok-code.ensures.compiled used)) c.build.ensures.ticks
