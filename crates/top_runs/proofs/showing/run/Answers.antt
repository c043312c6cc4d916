use Rattle.std.proofs.Common.{◌≡◌, ◌≤◌, ◌*◌, [], ◌∷◌, ℕ, List, length, replicate, refl, sym, ap, subst, subst₂, ◌∙◌, arith}
use Rattle.std.proofs.Math.Nat.{div-le_self, mul-le-mul}
use Rattle.std.proofs.lemmas.List.{length-replicate}
use Rattle.std.proofs.lemmas.List.FromFn.{length-map-range_with_len}
use Rattle.coded_traffic.specs.Traffic.{room_for}
use Rattle.generation_frame.specs.Blocks.{block_count, capacity}
use Rattle.lif_outside.specs.Moves.{opened}
use Rattle.net_maker.specs.Source.{source_byte}
use Rattle.node_program.specs.declared.code.Code.{Code}
use Rattle.top_base.specs.Given.{demo_given_in}
use Rattle.top_base.specs.Lines.{demo_lines}
use Rattle.top_runs.proofs.DemoRuns.{broken-off, never-unwritten, shown}
use Rattle.top_runs.proofs.DemoShown.{demonstrates}
use Rattle.top_runs.proofs.FrameLaws.{few-live}
use Rattle.source_delivery.proofs.Triples.{subst-three}
use Rattle.top_runs.specs.Demo.Given.{blocks_in, demo_seed, source_of}
use Rattle.top_runs.specs.Demo.Runs.{RunsDemo}
use Rattle.source_delivery.specs.Delivering.{DeliversSome, Interrupts}
use Rattle.source_delivery.specs.Turns.{one_each}
use Rattle.top_runs.specs.Sending.{link_calls}
use Rattle.source_delivery.specs.declared.delivery.DeliveryFault.TheVariants as fault
use Rattle.top_runs.proofs.showing.run.Goals as goal

pub carry_source-requires-clause-short : goal.carry_source-requires-clause-short
carry_source-requires-clause-short g c κs within =
    let words = c.args.words.now in
    omega (arith, ap length c.deref.ensures.value, ap length c.requires.begun.source, length-map-range_with_len source_byte 0 words.bytes, words.short)

pub overflow_mul-counts : goal.overflow_mul-counts
overflow_mul-counts g c =
    let code = c.args.begun.delivery.runner.code in
    let size = c.args.words.now.short in
    let each : c.args.begun.frames ≤ 65536 = omega (arith, c.requires.begun.frames, few-live c.args.code.now 0) in
    let count : c.in-Ok.counts.generations ≤ 67108865 =
    omega (
      arith,
      c.in-Ok.ensures.counts.generations,
      div-le_self (length c.deref.result.now) (capacity code.rate),
      ap length c.deref.ensures.value,
      ap length c.requires.begun.source,
      length-map-range_with_len source_byte 0 c.args.words.now.bytes,
      size,
    ) in
    let product : c.in-Ok.counts.generations * c.args.begun.frames ≤ 67108865 * 65536 = mul-le-mul count each in
    omega (arith, product)

-- what holds by the runner at hand holds of the code
module _ {code code' : Code} {pattern : ℕ} {source source' : List ℕ} (at_work : code ≡ code') (none : pattern ≡ 0) (is : source ≡ source') where
  same-source : (D : Code → ℕ → List ℕ → Type 0) → D code pattern source → D code' 0 source'
  same-source D holds = subst-three D at_work none is holds

pub returns-in-Ok : goal.returns-in-Ok
returns-in-Ok g c =
    let demo = demo_given_in c.args.words.now in
    let code = c.args.code.now in
    let faithful = g.K.Links.faithful c.args.links.now in
    let begun = c.requires.begun in
    let work = c.args.begun.delivery.runner in
    let paths = replicate (length code.net.sinks) [] in
    let both = c.in-Ok.ensures.delivered in
    let counts = c.in-Ok.counts in
    let source = c.deref.ensures.value ∙ begun.source in
    let each : length paths ≡ length code.net.sinks = length-replicate (length code.net.sinks) [] in
    let some : DeliversSome faithful code 0 (one_each paths) (source_of demo) (blocks_in demo code) both.calls =
    same-source begun.at_work begun.pattern source (λ code pattern source. DeliversSome faithful code pattern (one_each paths) source (block_count source code.rate) both.calls)
    (subst (λ outputs. DeliversSome faithful work.code work.pattern outputs c.deref.result.now (block_count c.deref.result.now work.code.rate) both.calls) begun.outputs both.holds) in
    let generations : counts.generations ≡ blocks_in demo code =
    same-source begun.at_work begun.pattern source (λ code pattern source. counts.generations ≡ block_count source code.rate) c.in-Ok.ensures.counts.generations in
    let shows =
    shown faithful demo code c.requires.made paths each both.calls _ c.carry_source.new.store both.on_store some counts.generations c.args.begun.frames _ refl c.carry_source.new.store.small
    generations begun.frames
    (c.demo.ensures ∙ ap (λ (code : Code). demo_lines demo code counts.generations (counts.generations * c.args.begun.frames) c.carry_source.new.store.sum) c.code.ensures.value) in
    record { made = both.calls.on_links; lead = both.on_links; holds = demonstrates faithful demo code _ _ shows }

pub returns-in-Err-Links : goal.returns-in-Err-Links
returns-in-Err-Links g c =
    let demo = demo_given_in c.args.words.now in
    let code = c.args.code.now in
    let faithful = g.K.Links.faithful c.args.links.now in
    let begun = c.requires.begun in
    let work = c.args.begun.delivery.runner in
    let paths = replicate (length code.net.sinks) [] in
    let both = c.in-Err-Links.ensures.interrupted in
    let source = c.deref.ensures.value ∙ begun.source in
    let each : length paths ≡ length code.net.sinks = length-replicate (length code.net.sinks) [] in
    let is : Interrupts faithful code 0 (one_each paths) (source_of demo) fault.Links both.calls =
    same-source begun.at_work begun.pattern source (λ code pattern source. Interrupts faithful code pattern (one_each paths) source fault.Links both.calls)
    (subst₂ (λ why outputs. Interrupts faithful work.code work.pattern outputs c.deref.result.now why both.calls) c.in-Err-Links.field-0-is begun.outputs both.holds) in
    record {
      made = both.calls.on_links;
      lead = both.on_links;
      holds = subst₂ (λ status line. RunsDemo faithful demo status line (link_calls (opened demo_seed (room_for code) ∷ both.calls.on_links))) (sym c.link_fault.ensures.status) (sym c.link_fault.ensures.line)
          (code, broken-off faithful demo code c.requires.made paths each both.calls _ c.carry_source.new.store both.on_store is, refl);
    }

pub unreachable-requires : goal.unreachable-requires
unreachable-requires g c =
    let demo = demo_given_in c.args.words.now in
    let code = c.args.code.now in
    let faithful = g.K.Links.faithful c.args.links.now in
    let begun = c.requires.begun in
    let work = c.args.begun.delivery.runner in
    let paths = replicate (length code.net.sinks) [] in
    let both = c.in-Err-Write.ensures.interrupted in
    let source = c.deref.ensures.value ∙ begun.source in
    let each : length paths ≡ length code.net.sinks = length-replicate (length code.net.sinks) [] in
    never-unwritten faithful demo code c.requires.made paths each both.calls _ c.carry_source.new.store both.on_store
    (same-source begun.at_work begun.pattern source (λ code pattern source. Interrupts faithful code pattern (one_each paths) source fault.Write both.calls)
    (subst₂ (λ why outputs. Interrupts faithful work.code work.pattern outputs c.deref.result.now why both.calls) c.in-Err-Write.field-0-is begun.outputs both.holds))
