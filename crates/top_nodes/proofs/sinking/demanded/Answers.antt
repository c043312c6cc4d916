use Rattle.std.proofs.Common.{◌≡◌, ◌<◌, ◌∷◌, [], ℕ, All, List, Option, Some, length, map, string_bytes, inl, inr, sym, subst, ap, ◌∙◌}
use Rattle.std.specs.Option.{option_map}
use Rattle.failure_patterns.specs.Demands.{number_of}
use Rattle.link_streams.proofs.WantedLaws.{wanted_within}
use Rattle.link_streams.specs.Gathering.{wanted_links}
use Rattle.net_model.specs.declared.net.Net.{Net}
use Rattle.node_program.specs.declared.code.Code.{Code}
use Rattle.sink_decoder.specs.Receiving.{sink_plan_of}
use Rattle.top_base.proofs.Exits.{if_err}
use Rattle.top_base.specs.Given.{node_given_in}
use Rattle.top_base.specs.Making.{shares}
use Rattle.top_base.specs.Named.{pattern_named, sink_named}
use Rattle.top_base.specs.Paths.{shared_path}
use Rattle.top_nodes.proofs.SinkingLaws.{declined_named, demand_named, pattern_within, sink_within}
use Rattle.top_nodes.specs.Files.{stream_paths}
use Rattle.top_nodes.specs.Sink.{demand_in, links_in}
use Rattle.top_nodes.proofs.sinking.demanded.Goals as goal

-- what a name names in the code at hand, it names in the code
of_code : (find : Net → List ℕ → Option ℕ) (at code : Code) (bytes name : List ℕ) (number : ℕ) → at ≡ code → bytes ≡ name → Some number ≡ find at.net bytes → find code.net name ≡ Some number
of_code find at code bytes name number same is found = sym (found ∙ ap (find at.net) is ∙ ap (λ (code : Code). find code.net name) same)

pub stream_paths-requires : goal.stream_paths-requires
stream_paths-requires c =
    let code = c.args.code.now in
    let at = c.code.result.now in
    let words = c.args.words.now in
    let same = c.code.ensures.value in
    let pattern = c.in-Some.pattern in
    let sink = c.in-Some-sink_named.sink in
    let named = of_code pattern_named at code c.as_bytes.result.now words.pattern.now pattern same c.as_bytes.ensures.value c.in-Some.ensures in
    let found = of_code sink_named at code c.as_bytes-2.result.now words.node.now sink same c.as_bytes-2.ensures.value c.in-Some-sink_named.ensures in
    subst (λ (code : Code). All (λ link. link < length code.net.links) c.deref.result.now) (sym same)
    (wanted_within code (record { sink = sink; pattern = pattern }) c.deref.result.now (sink_within code.net words.node.now sink found)
    (pattern_within code.net words.pattern.now pattern named) (c.deref.ensures.value ∙ c.in_ok-links.ensures))

pub returns-in_err-see_apart-clause-refused : goal.returns-in_err-see_apart-clause-refused
returns-in_err-see_apart-clause-refused c =
    let code = c.args.code.now in
    let at = c.code.result.now in
    let given = node_given_in c.args.words.now in
    let same = c.code.ensures.value in
    let pattern = c.in-Some.pattern in
    let sink = c.in-Some-sink_named.sink in
    let outcome = c.in_err-see_apart.field-0.0 in
    let named = of_code pattern_named at code c.as_bytes.result.now given.pattern pattern same c.as_bytes.ensures.value c.in-Some.ensures in
    let found = of_code sink_named at code c.as_bytes-2.result.now given.node sink same c.as_bytes-2.ensures.value c.in-Some-sink_named.ensures in
    let number : number_of code.net (record { sink = sink; pattern = pattern }) ≡ demand_in given code = sym (demand_named given code pattern sink named found) in
    let links : c.deref.result.now ≡ links_in given code = c.deref.ensures.value ∙ c.in_ok-links.ensures ∙ ap (λ number. wanted_links (sink_plan_of code number)) number in
    let inputs : map string_bytes c.deref-2.result.now ≡ stream_paths given.input code.net (links_in given code) =
    ap (map string_bytes) c.deref-2.ensures.value ∙ c.in_ok-inputs.ensures ∙ ap (λ (code : Code). stream_paths given.input code.net c.deref.result.now) same
    ∙ ap (stream_paths given.input code.net) links in
    let outputs : map string_bytes c.deref-3.result.now ≡ given.output ∷ [] = ap (map string_bytes) c.deref-3.ensures.value ∙ c.in_ok-outputs.ensures in
    let shared = declined_named given (pattern_named code.net given.pattern) (sink_named code.net given.node) pattern sink
    (stream_paths given.input code.net (links_in given code)) (given.output ∷ []) named found in
    if_err _ c.from_residual-in_err-see_apart.result outcome c.from_residual-in_err-see_apart.ensures.1
    (elim c.in_err-see_apart.ensures.shared [
      | inl none ↦ inl none
      | inr path ↦
          inr (shared ∙ ap (λ inputs. option_map shares (shared_path (given.code ∷ inputs) (given.output ∷ []))) (sym inputs)
          ∙ ap (λ outputs. option_map shares (shared_path (given.code ∷ map string_bytes c.deref-2.result.now) outputs)) (sym outputs) ∙ ap (option_map shares) path.1 ∙ ap Some (sym path.2))
    ])
