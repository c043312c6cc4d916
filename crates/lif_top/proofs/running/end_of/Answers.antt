use Rattle.std.proofs.Common.{[], ◌∷◌, refl, sym, subst, inl, inr}
use Rattle.std.specs.Prelude.{Result, Ok, Err}
use Rattle.lif_outside.proofs.CallLaws.{calls_of}
use Rattle.lif_outside.specs.Calls.{objects, store_calls}
use Rattle.lif_outside.specs.Puts.{put_event}
use Rattle.lif_outside.proofs.PutLaws.{says_all-once, says_part-once}
use Rattle.lif_outside.specs.declared.Failed.{Failed}
use Rattle.top_base.specs.Lines.{out_of_memory_line}
use Rattle.top_base.specs.Outcome.{SaysOutcome}
use Rattle.top_base.specs.Performs.{at_once}
use Rattle.top_base.proofs.PerformingLaws.{at_once_known, performs_said}
use Rattle.top_base.specs.declared.status.Status.TheVariants.{OutOfMemory}
use Rattle.lif_top.specs.Run.{RunsWords, no_memory}
use Rattle.lif_top.proofs.running.end_of.Goals as goal

-- words that aren't text are no form, and come to what such words come to
pub returns-in-NotText-clause-runs : goal.returns-in-NotText-clause-runs
returns-in-NotText-clause-runs g c =
    let promised = c.lif-in-NotText.ensures.promises in
    subst (RunsWords (objects g.S.Store g.C.Sink g.L.Links c.args.store.now c.lif-in-NotText.new.store c.args.say.now c.lif-in-NotText.new.say c.args.links.now
    c.lif-in-NotText.new.links) c.lif-in-NotText.result) (sym c.in-NotText.is)
    (promised.usage.1 refl, promised.performed)

-- a line that was put once
says_line : (result : Result Unit Failed) → SaysOutcome no_memory OutOfMemory (put_event out_of_memory_line result ∷ [])
says_line (Ok done) = inl (refl, says_all-once out_of_memory_line (Ok done))
says_line (Err why) = inr (refl, says_part-once out_of_memory_line (Err why))

pub returns-in-NoMemory-clause-runs : goal.returns-in-NoMemory-clause-runs
returns-in-NoMemory-clause-runs g c =
    let o = objects g.S.Store g.C.Sink g.L.Links c.args.store.now c.args.store.now c.args.say.now c.put.new.self c.args.links.now c.args.links.now in
    subst (RunsWords o OutOfMemory) (sym c.in-NoMemory.is) (
      refl,
      performs_said o OutOfMemory (λ events lead. g.met.S.Store.accounts events _ _ lead) (λ puts lead. g.met.C.Sink.accounts puts _ _ lead)
          (λ made lead. g.met.L.Links.accounts made _ _ lead) (at_once no_memory) (at_once_known no_memory refl (λ not. refl)) no_memory
          (record {
            calls = store_calls [];
            on_store = g.met.S.Store.no_calls c.args.store.now;
            on_links = g.met.L.Links.no_moves c.args.links.now;
            holds = (refl, refl);
          })
          (calls_of (SaysOutcome no_memory OutOfMemory) (put_event out_of_memory_line c.put.result ∷ []) c.put.ensures (says_line c.put.result)),
    )
