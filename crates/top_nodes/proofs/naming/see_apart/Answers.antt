use Rattle.std.proofs.Common.{◌≡◌, ◌≤◌, ◌∷◌, ℕ, true, false, List, find, map, string_bytes, length, refl, sym, ap, ◌∙◌, arith, inr, rules, tests}
use Rattle.std.specs.List.{list_any}
use Rattle.std.specs.Str.{bytes_eq}
use Rattle.std.proofs.Math.Bool.{or-true}
use Rattle.std.proofs.lemmas.Iterator.{YieldsList-from_slice}
use Rattle.std.proofs.lemmas.Iterator.Search.{any_from_yields_List}
use Rattle.std.proofs.lemmas.List.{length-map, take_all}
use Rattle.top_base.specs.Making.{shares}
use Rattle.top_base.proofs.OutputLaws.{find_here, find_later, shared_of_distinct}
use Rattle.top_nodes.proofs.NamingLaws.{is_among_inputs}
use Rattle.top_nodes.proofs.naming.see_apart.Goals as goal
use Rattle.top_nodes.proofs.naming.see_apart.Goals.{then-eq-via-then-eq, then-eq-via-else-eq+then-any}

pub returns-then-eq-clause-shared : goal.returns-then-eq-clause-shared
returns-then-eq-clause-shared c =
    let code = c.args.code.now in
    let inputs = c.args.inputs.now in
    let outputs = c.args.outputs.now in
    let path = string_bytes c.output-item.result in
    let test = λ (one : List ℕ). list_any (bytes_eq one) (code ∷ map string_bytes inputs) in
    let passes : test path ≡ true = elim c.then-eq.branch [
      | then-eq-via-then-eq w ↦
          let is_code : bytes_eq path code ≡ true = ap (λ text. bytes_eq text code) (sym c.as_str.ensures.value) ∙ sym w.if-eq.ensures in
          is_among_inputs path code inputs true _ is_code refl
      | then-eq-via-else-eq+then-any w ↦
          let is_input : true ≡ list_any (λ input. bytes_eq path (string_bytes input)) inputs =
          sym w.if-any.true ∙ any_from_yields_List (λ input. bytes_eq path (string_bytes input)) _ _ w.any.result w.any.ensures.ran (YieldsList-from_slice inputs cc) (λ x b q k. search (rules, tests)) in
          is_among_inputs path code inputs (bytes_eq path code) true refl is_input ∙ or-true (bytes_eq path code)
    ] in
    let found = find_here string_bytes test outputs c.loop-output.output-index c.output-item.result c.loop-output-test.true c.loop-output.invariant c.output-item.is passes in
    inr (path, shared_of_distinct (code ∷ map string_bytes inputs) (map string_bytes outputs) c.requires.distinct ∙ found, c.in_ok-same_path.ensures ∙ ap shares c.as_str-then-eq.ensures.value)

pub loop-output-preserved : goal.loop-output-preserved
loop-output-preserved c =
    let code = c.args.code.now in
    let inputs = c.args.inputs.now in
    let path = string_bytes c.output-item.result in
    let test = λ (one : List ℕ). list_any (bytes_eq one) (code ∷ map string_bytes inputs) in
    let no_code : bytes_eq path code ≡ false = ap (λ text. bytes_eq text code) (sym c.as_str.ensures.value) ∙ sym c.if-eq.ensures in
    let no_input : false ≡ list_any (λ input. bytes_eq path (string_bytes input)) inputs =
    sym c.if-any.false ∙ any_from_yields_List (λ input. bytes_eq path (string_bytes input)) _ _ c.any.result c.any.ensures.ran (YieldsList-from_slice inputs cc) (λ x b q k. search (rules, tests)) in
    find_later string_bytes test c.args.outputs.now c.loop-output.output-index c.output-item.result c.loop-output-test.true c.loop-output.invariant c.output-item.is (is_among_inputs path code inputs false false no_code no_input)

pub returns-clause-apart : goal.returns-clause-apart
returns-clause-apart c =
    let inputs = c.args.code.now ∷ map string_bytes c.args.inputs.now in
    let outputs = map string_bytes c.args.outputs.now in
    let all : length outputs ≤ c.loop-output.output-index = omega (arith, length-map c.args.outputs.now string_bytes) in
    shared_of_distinct inputs outputs c.requires.distinct ∙ ap (find (λ one. list_any (bytes_eq one) inputs)) (sym (take_all c.loop-output.output-index outputs all)) ∙ c.loop-output.invariant
