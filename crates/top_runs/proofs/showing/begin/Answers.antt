use Rattle.std.specs.Prelude.{[], ◌<◌, ◌*◌, ℕ, Some, count_by, replicate, slice_get}
use Rattle.std.proofs.Common.{◌≡◌, inl, ap, subst, ◌∙◌, map, string_bytes, length}
use Rattle.item_list.proofs.Results.{on_err}
use Rattle.top_runs.proofs.FrameLaws.{count-live}
use Rattle.node_program.specs.CodeValue.{is_live_in}
use Rattle.node_program.specs.declared.code.Code.{Code}
use Rattle.generation_frame.specs.Blocks.{pieces}
use Rattle.source_delivery.specs.Delivery.{paths_of}
use Rattle.source_delivery.specs.Turns.{one_each}
use Rattle.top_runs.proofs.showing.begin.Goals as goal

-- where there was no memory before that, the links weren't called
pub returns-in_err-source-clause-refused : goal.returns-in_err-source-clause-refused
returns-in_err-source-clause-refused g c = on_err c.from_residual.result (inl (g.met.K.Links.no_moves c.args.links.now))

pub returns-in_err-live-clause-refused : goal.returns-in_err-live-clause-refused
returns-in_err-live-clause-refused g c = on_err c.from_residual-in_err-live.result (inl (g.met.K.Links.no_moves c.args.links.now))

pub returns-in_err-outputs-clause-refused : goal.returns-in_err-outputs-clause-refused
returns-in_err-outputs-clause-refused g c = on_err c.from_residual-in_err-outputs.result (inl (g.met.K.Links.no_moves c.args.links.now))

pub returns-clause-begun : goal.returns-clause-begun
returns-clause-begun g c =
    let code = c.args.code.now in
    let delivery = c.in_ok-delivery.ensures in
    record {
      at_work = delivery.at_work;
      pattern = delivery.pattern;
      from_start = delivery.from_start;
      works = delivery.works;
      outputs = ap (λ parts. record { paths = paths_of c.in_ok-delivery.delivery; parts = parts }) delivery.parts
          ∙ ap one_each (ap (λ outputs. map string_bytes outputs.items) delivery.outputs ∙ c.in_ok-outputs.ensures.empty ∙ ap (λ n. replicate n []) (c.len.ensures ∙ ap (λ (code : Code). length code.net.sinks) c.code-2.ensures.value));
      nothing = delivery.nothing;
      source = c.in_ok-source.ensures;
      frames = c.frames_of-frames.ensures ∙ ap (λ live. count_by (λ is. is) live * pieces) c.as_slice.ensures
          ∙ ap (λ n. n * pieces) (count-live code 0 c.in_ok-live.live (c.in_ok-live.ensures.count ∙ ap (λ (code : Code). length code.net.links) c.code.ensures.value)
          (subst (λ (code : Code). (e : ℕ) → e < length code.net.links → slice_get c.in_ok-live.live e ≡ Some (is_live_in code 0 e)) c.code.ensures.value c.in_ok-live.ensures.entries));
    }
