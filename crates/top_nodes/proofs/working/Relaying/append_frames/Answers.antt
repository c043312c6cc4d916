use Rattle.std.proofs.Common.{◌≡◌, ◌<◌, ◌≤◌, ◌∷◌, ◌++◌, [], take, subst, subst₂, length, string_bytes, refl, ap, ◌∙◌, sym, arith, get_or}
use Rattle.std.proofs.lemmas.List.{get_or-map, length-map}
use Rattle.std.proofs.lemmas.List.Elements.{Contains-get_or}
use Rattle.item_list.proofs.Results.{on_err}
use Rattle.lif_outside.proofs.CallLaws.{calls_of, calls_then, calls_weaker}
use Rattle.lif_outside.specs.Events.{appended, append_failed}
use Rattle.lif_outside.specs.FileCalls.{StopsWithin, appends_of}
use Rattle.top_nodes.proofs.RelayingLaws.{calls_more, calls_stop, few_outs, parts_all, parts_more}
use Rattle.top_nodes.specs.Working.{paths_of, turn_of}
use Rattle.top_nodes.proofs.working.Relaying.append_frames.Goals as goal

pub loop-place-init : goal.loop-place-init
loop-place-init g c = record { made = c.requires.made; calls = calls_of _ [] (g.met.S.Store.no_calls c.args.store.now) refl }

pub overflow_cast-place : goal.overflow_cast-place
overflow_cast-place g c =
    let self = c.args.self.now in
    omega (arith, few_outs self.code.now self.pattern self.node, ap length self.links, self.each)

pub append-requires : goal.append-requires
append-requires g c =
    let items = c.args.self.now.outputs.items in
    let paths = paths_of c.args.self.now in
    let n = c.loop-place.place in
    let within : n < length items = omega (arith, c.loop-place-test.true) in
    let is : c.as_str.result.now ≡ get_or paths n [] =
    c.as_str.ensures.value ∙ ap string_bytes c.index.ensures ∙ sym (get_or-map string_bytes items n c.index.result.now [] within) in
    subst (g.S.Store.made c.loop-place.store) (sym is) (c.loop-place.invariant.made (get_or paths n []) (Contains-get_or paths n [] (omega (arith, within, length-map items string_bytes))))

pub returns-in_err-append-clause-made : goal.returns-in_err-append-clause-made
returns-in_err-append-clause-made g c = λ path there.
    (g.met.S.Store.accounts _ c.loop-place.store c.append.new.self c.in_err-append.ensures).counts.still_made path (c.loop-place.invariant.made path there)

pub returns-in_err-append-clause-failed : goal.returns-in_err-append-clause-failed
returns-in_err-append-clause-failed g c =
    let self = c.args.self.now in
    let items = self.outputs.items in
    let paths = paths_of self in
    let turn = turn_of self in
    let n = c.loop-place.place in
    let bytes = c.at.result.now in
    let within : n < length items = omega (arith, c.loop-place-test.true) in
    let inside : n < length paths = omega (arith, within, length-map items string_bytes) in
    let is : c.as_str.result.now ≡ get_or paths n [] =
    c.as_str.ensures.value ∙ ap string_bytes c.index.ensures ∙ sym (get_or-map string_bytes items n c.index.result.now [] within) in
    on_err c.from_residual.result (calls_then g.met.S.Store.more_calls _ _ (StopsWithin (appends_of (turn ∷ []))) c.loop-place.invariant.calls
    (calls_of (λ calls. calls ≡ append_failed (get_or paths n []) bytes ∷ []) _ c.in_err-append.ensures (ap (λ path. append_failed path bytes ∷ []) is))
    (λ first later one other. subst₂ (λ first later. StopsWithin (appends_of (turn ∷ [])) (first ++ later)) (sym one) (sym other)
    (calls_stop turn n (get_or paths n [], bytes) (parts_more paths self.frames.bytes n bytes inside c.at.ensures))))

pub loop-place-preserved : goal.loop-place-preserved
loop-place-preserved g c =
    let self = c.args.self.now in
    let items = self.outputs.items in
    let paths = paths_of self in
    let turn = turn_of self in
    let n = c.loop-place.place in
    let bytes = c.at.result.now in
    let within : n < length items = omega (arith, c.loop-place-test.true) in
    let inside : n < length paths = omega (arith, within, length-map items string_bytes) in
    let is : c.as_str.result.now ≡ get_or paths n [] =
    c.as_str.ensures.value ∙ ap string_bytes c.index.ensures ∙ sym (get_or-map string_bytes items n c.index.result.now [] within) in
    record {
      made = λ path there. (g.met.S.Store.accounts _ c.loop-place.store c.append.new.self c.in_ok-append.ensures).counts.still_made path (c.loop-place.invariant.made path there);
      calls = calls_then g.met.S.Store.more_calls _ _ _ c.loop-place.invariant.calls
          (calls_of (λ calls. calls ≡ appended (get_or paths n []) bytes ∷ []) _ c.in_ok-append.ensures (ap (λ path. appended path bytes ∷ []) is))
          (λ first later one other. ap (λ calls. calls ++ later) one ∙ ap (λ calls. appends_of (take n turn ∷ []) ++ calls) other
          ∙ calls_more turn n (get_or paths n [], bytes) (parts_more paths self.frames.bytes n bytes inside c.at.ensures));
    }

pub returns-clause-appended : goal.returns-clause-appended
returns-clause-appended g c =
    let self = c.args.self.now in
    let paths = paths_of self in
    let n = c.loop-place.place in
    let all : length paths ≤ n = omega (arith, c.loop-place-test.false, length-map self.outputs.items string_bytes) in
    calls_weaker _ _ c.loop-place.invariant.calls (λ made is. is ∙ ap (λ turn. appends_of (turn ∷ [])) (parts_all paths self.frames.bytes n all))
