use Rattle.std.proofs.Common.{◌≤◌, Some, find, map, string_bytes, length, sym, ap, ◌∙◌, arith}
use Rattle.std.specs.List.{list_any}
use Rattle.std.specs.Str.{bytes_eq}
use Rattle.std.proofs.lemmas.List.{length-map, take_all}
use Rattle.net_reader.specs.Words.{texts_of}
use Rattle.top_base.proofs.OutputLaws.{find_here, find_later, input_is, no_input, shared_of_distinct}
use Rattle.top_base.proofs.paths.shared_path.Goals as goal

pub returns-in-Some : goal.returns-in-Some
returns-in-Some c =
    let path = string_bytes c.output-item.result in
    let inputs = texts_of c.args.inputs.now in
    let outputs = c.args.outputs.now in
    let has = input_is path inputs c.in-Some.path.now (ap (λ text. find (bytes_eq text) inputs) (sym c.as_str.ensures.value) ∙ sym c.in-Some.ensures) in
    let found = find_here string_bytes (λ one. list_any (bytes_eq one) inputs) outputs c.loop-output.output-index c.output-item.result c.loop-output-test.true c.loop-output.invariant c.output-item.is has.0 in
    sym (shared_of_distinct inputs (map string_bytes outputs) c.requires.distinct ∙ found ∙ ap Some has.1)

pub loop-output-preserved : goal.loop-output-preserved
loop-output-preserved c =
    let path = string_bytes c.output-item.result in
    let inputs = texts_of c.args.inputs.now in
    let none = no_input path inputs (ap (λ text. find (bytes_eq text) inputs) (sym c.as_str.ensures.value) ∙ sym c.in_default.ensures) in
    find_later string_bytes (λ one. list_any (bytes_eq one) inputs) c.args.outputs.now c.loop-output.output-index c.output-item.result c.loop-output-test.true c.loop-output.invariant c.output-item.is none

pub returns : goal.returns
returns c =
    let inputs = texts_of c.args.inputs.now in
    let outputs = map string_bytes c.args.outputs.now in
    let all : length outputs ≤ c.loop-output.output-index = omega (arith, length-map c.args.outputs.now string_bytes) in
    sym (shared_of_distinct inputs outputs c.requires.distinct ∙ ap (find (λ one. list_any (bytes_eq one) inputs)) (sym (take_all c.loop-output.output-index outputs all)) ∙ c.loop-output.invariant)
