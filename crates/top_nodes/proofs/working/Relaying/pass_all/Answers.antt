use Rattle.std.proofs.Common.{◌∷◌, ◌∙◌, [], Contains, ap, inl, map, subst, sym}
use Rattle.std.specs.List.{range_with_len}
use Rattle.command_steps.specs.Filling.{StopsFilling}
use Rattle.item_list.proofs.Results.{on_err}
use Rattle.lif_outside.proofs.CallLaws.{calls_then, calls_weaker}
use Rattle.lif_outside.specs.FileCalls.{StopsWithin, appends_of}
use Rattle.node_plans.specs.declared.plan.Plan.{Plan}
use Rattle.top_nodes.proofs.RelayingLaws.{fills_more, fills_none, fills_stopped, ins_still, passed_turn, paths_still, plan_still, still_here, still_then, turn_still}
use Rattle.top_nodes.proofs.ReadingLaws.{generation_whole}
use Rattle.top_nodes.specs.Working.{paths_of}
use Rattle.top_nodes.proofs.working.Relaying.pass_all.Goals as goal

pub returns-in_err-create_outputs-clause-failed : goal.returns-in_err-create_outputs-clause-failed
returns-in_err-create_outputs-clause-failed g c = on_err c.from_residual.result (calls_weaker _ _ c.in_err-create_outputs.ensures.failed (λ made stop. inl stop))

pub loop-generation-init : goal.loop-generation-init
loop-generation-init g c = record {
  still = still_here c.args.self.now;
  made = c.in_ok-create_outputs.ensures.made;
  calls = calls_weaker _ _ c.in_ok-create_outputs.ensures.created (λ made is. fills_none (paths_of c.args.self.now) (passed_turn c.args.self.now c.args.streams.now) made is);
}

pub pass-requires-clause-relays : goal.pass-requires-clause-relays
pass-requires-clause-relays g c =
    ap (λ (plan : Plan). plan.is_source) (plan_still c.args.self.now c.loop-generation.self c.loop-generation.invariant.still) ∙ c.requires.relays

pub pass-requires-clause-links : goal.pass-requires-clause-links
pass-requires-clause-links g c = c.requires.links ∙ sym (ins_still c.args.self.now c.loop-generation.self c.loop-generation.invariant.still)

pub pass-requires-clause-whole : goal.pass-requires-clause-whole
pass-requires-clause-whole g c =
    generation_whole c.args.self.now.code.now.net c.args.generations c.args.streams.now c.loop-generation.generation c.requires.whole c.loop-generation-test.true

pub pass-requires-clause-made : goal.pass-requires-clause-made
pass-requires-clause-made g c = λ path there.
    c.loop-generation.invariant.made path (subst (λ paths. Contains paths path) (paths_still c.args.self.now c.loop-generation.self c.loop-generation.invariant.still) there)

pub returns-in_err-pass-clause-failed : goal.returns-in_err-pass-clause-failed
returns-in_err-pass-clause-failed g c =
    let self = c.args.self.now in
    let streams = c.args.streams.now in
    let n = c.loop-generation.generation in
    let turn = passed_turn self streams in
    let was = c.loop-generation.invariant in
    on_err c.from_residual-in_err-pass.result (calls_then g.met.S.Store.more_calls _ _ (StopsFilling (paths_of self) (StopsWithin (appends_of (map turn (range_with_len 0 c.args.generations))))) was.calls c.in_err-pass.ensures.failed
    (λ first later one other. fills_stopped (paths_of self) turn c.args.generations n first later c.loop-generation-test.true one
    (subst (λ parts. StopsWithin (appends_of (parts ∷ [])) later) (turn_still self c.loop-generation.self was.still streams n) other)))

pub loop-generation-preserved : goal.loop-generation-preserved
loop-generation-preserved g c =
    let self = c.args.self.now in
    let streams = c.args.streams.now in
    let n = c.loop-generation.generation in
    let turn = passed_turn self streams in
    let was = c.loop-generation.invariant in
    let at = c.loop-generation.self in
    record {
      still = still_then self at c.pass.new.self was.still
          (record { code = c.pass.ensures.code; pattern = c.pass.ensures.pattern; node = c.pass.ensures.node; outputs = c.pass.ensures.outputs });
      made = λ path there. c.pass.ensures.still_made path (subst (λ paths. Contains paths path) (sym (paths_still self at was.still)) there);
      calls = calls_then g.met.S.Store.more_calls _ _ _ was.calls c.in_ok-pass.ensures.appended
          (λ first later one other. fills_more (paths_of self) turn n first later one (other ∙ ap (λ parts. appends_of (parts ∷ [])) (turn_still self at was.still streams n)));
    }
