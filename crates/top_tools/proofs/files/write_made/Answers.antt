use Rattle.std.proofs.Common.{◌≡◌, ◌∷◌, [], ℕ, List, refl, subst, sym, ◌∙◌}
use Rattle.lif_outside.proofs.CallLaws.{calls_weaker}
use Rattle.lif_outside.specs.Calls.{MakesCalls}
use Rattle.lif_outside.specs.FileCalls.{StopsWithin, Written}
use Rattle.lif_outside.specs.Sequences.{Are}
use Rattle.lif_outside.specs.Writes.{writes_of}
use Rattle.top_base.specs.declared.status.Status.TheVariants.{Done, WriteFault}
use Rattle.top_tools.proofs.files.write_made.Goals as goal
use Rattle.top_tools.specs.CodeWriting.{WritesAll}

-- the files of these bytes
abbrev both : List ℕ → List ℕ → List ℕ → List ℕ → List Written
both code report bytes text = (code, bytes) ∷ (report, text) ∷ []

pub returns-in-Ok : goal.returns-in-Ok
returns-in-Ok g c =
    let files = both c.args.code.now c.args.report.now in
    let made = c.args.made in
    let given = files c.deref.result.now c.deref-2.result.now in
    let wanted = files made.code.items made.report.items in
    let these : writes_of given ≡ writes_of wanted = λ i. writes_of (files (c.deref.ensures.value i) (c.deref-2.ensures.value i)) in
    calls_weaker (Are (writes_of given)) (WritesAll wanted made.line Done made.line) c.in-Ok.ensures.written (λ calls are. (refl, are ∙ these))

pub returns : goal.returns
returns g c =
    let files = both c.args.code.now c.args.report.now in
    let made = c.args.made in
    let given = files c.deref.result.now c.deref-2.result.now in
    let wanted = files made.code.items made.report.items in
    let line = c.write_fault.result.line in
    let these : writes_of given ≡ writes_of wanted = λ i. writes_of (files (c.deref.ensures.value i) (c.deref-2.ensures.value i)) in
    subst (λ status. MakesCalls g.S.Store c.args.store.now c.write_both.new.store (WritesAll wanted made.line status line))
    (sym c.write_fault.ensures.status)
    (calls_weaker (StopsWithin (writes_of given)) (WritesAll wanted made.line WriteFault line) c.in-Err.ensures.stopped
    (λ calls stop. (c.write_fault.ensures.line, subst (λ all. StopsWithin all calls) these stop)))
