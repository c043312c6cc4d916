use Rattle.std.proofs.Common.{◌≡◌, ◌<◌, ℕ, All, List, Option, Some, length, map, string_bytes, sym, subst, ap, ◌∙◌}
use Rattle.std.specs.Prelude.{unwrap_or}
use Rattle.lif_outside.specs.Files.{AreDistinct}
use Rattle.net_model.specs.declared.net.Net.{Net}
use Rattle.node_plans.specs.Plans.{ins_of, outs_of}
use Rattle.node_plans.specs.declared.plan.Plan.{Plan}
use Rattle.node_program.specs.declared.code.Code.{Code}
use Rattle.top_base.specs.Given.{node_given_in}
use Rattle.top_base.specs.Named.{node_named, pattern_named}
use Rattle.top_nodes.proofs.LinkPathLaws.{ins_within, outs_distinct, outs_within}
use Rattle.top_nodes.specs.Files.{stream_paths}
use Rattle.top_nodes.specs.Relay.{outs_in}
use Rattle.top_nodes.specs.Sink.{pattern_in}
use Rattle.top_nodes.proofs.relaying.find_node.Goals as goal

-- the number that a name of the code at hand has in the code
of_code : (find : Net → List ℕ → Option ℕ) (at code : Code) (bytes name : List ℕ) (number : ℕ) → at ≡ code → bytes ≡ name → Some number ≡ find at.net bytes → unwrap_or (find code.net name) 0 ≡ number
of_code find at code bytes name number same is found =
    ap (λ named. unwrap_or named 0) (sym (found ∙ ap (find at.net) is ∙ ap (λ (code : Code). find code.net name) same))

pub input_paths-requires : goal.input_paths-requires
input_paths-requires c =
    let at = c.code-code.result.now in
    let pattern = c.in-Some.pattern in
    let node = c.in-Some-node_named.node in
    let ins : c.deref.result.now ≡ ins_of at pattern node =
    c.deref.ensures.value ∙ c.in_ok-ins.ensures.items_if_clones_equal (λ x y is. is) ∙ c.as_slice.ensures ∙ ap (λ (plan : Plan). plan.ins) c.in_ok-plan.ensures.value in
    subst (All (λ link. link < length at.net.links)) (sym ins) (ins_within at pattern node)

pub stream_paths-requires : goal.stream_paths-requires
stream_paths-requires c =
    let at = c.code-code.result.now in
    let pattern = c.in-Some.pattern in
    let node = c.in-Some-node_named.node in
    let outs : c.as_slice-2.result.now ≡ outs_of at pattern node = c.as_slice-2.ensures ∙ ap (λ (plan : Plan). plan.outs) c.in_ok-plan.ensures.value in
    subst (All (λ link. link < length at.net.links)) (sym outs) (outs_within at pattern node)

pub see_apart-requires : goal.see_apart-requires
see_apart-requires c =
    let at = c.code-code.result.now in
    let prefix = c.args.words.now.output.now in
    let pattern = c.in-Some.pattern in
    let node = c.in-Some-node_named.node in
    let outs : c.as_slice-2.result.now ≡ outs_of at pattern node = c.as_slice-2.ensures ∙ ap (λ (plan : Plan). plan.outs) c.in_ok-plan.ensures.value in
    let outputs : map string_bytes c.deref-3.result.now ≡ stream_paths prefix at.net (outs_of at pattern node) =
    ap (map string_bytes) c.deref-3.ensures.value ∙ c.in_ok-outputs.ensures ∙ ap (stream_paths prefix at.net) outs in
    record { distinct = subst AreDistinct (sym outputs) (outs_distinct prefix at pattern node) }

pub returns-clause-ins : goal.returns-clause-ins
returns-clause-ins c =
    let code = c.args.code.now in
    let at = c.code-code.result.now in
    let given = node_given_in c.args.words.now in
    let same = c.code-code.ensures.value in
    let pattern = c.in-Some.pattern in
    let node = c.in-Some-node_named.node in
    let named = of_code pattern_named at code c.as_bytes.result.now given.pattern pattern same c.as_bytes.ensures.value c.in-Some.ensures in
    let found = of_code node_named at code c.as_bytes-2.result.now given.node node same c.as_bytes-2.ensures.value c.in-Some-node_named.ensures in
    c.in_ok-ins.ensures.items_if_clones_equal (λ x y is. is) ∙ c.as_slice.ensures ∙ ap (λ (plan : Plan). plan.ins) c.in_ok-plan.ensures.value
    ∙ ap (λ (code : Code). ins_of code pattern node) same ∙ ap (λ (one : ℕ). ins_of code one node) (sym named) ∙ ap (ins_of code (pattern_in given code)) (sym found)

pub returns-clause-outputs : goal.returns-clause-outputs
returns-clause-outputs c =
    let code = c.args.code.now in
    let at = c.code-code.result.now in
    let given = node_given_in c.args.words.now in
    let same = c.code-code.ensures.value in
    let pattern = c.in-Some.pattern in
    let node = c.in-Some-node_named.node in
    let named = of_code pattern_named at code c.as_bytes.result.now given.pattern pattern same c.as_bytes.ensures.value c.in-Some.ensures in
    let found = of_code node_named at code c.as_bytes-2.result.now given.node node same c.as_bytes-2.ensures.value c.in-Some-node_named.ensures in
    let outs : c.as_slice-2.result.now ≡ outs_in given code =
    c.as_slice-2.ensures ∙ ap (λ (plan : Plan). plan.outs) c.in_ok-plan.ensures.value
    ∙ ap (λ (code : Code). outs_of code pattern node) same ∙ ap (λ (one : ℕ). outs_of code one node) (sym named) ∙ ap (outs_of code (pattern_in given code)) (sym found) in
    c.in_ok-outputs.ensures ∙ ap (λ (code : Code). stream_paths given.output code.net c.as_slice-2.result.now) same ∙ ap (stream_paths given.output code.net) outs
