use Rattle.std.proofs.Common.{◌≡◌, ℕ, ◌-◌, ◌≤◌, List, ◌++◌, ◌∷◌, [], Vec, map, arith, ap, sym, ◌∙◌}
use Rattle.std.specs.Global.{Global}
use Rattle.std.proofs.lemmas.List.{map_push}
use Rattle.std.proofs.lemmas.List.FromFn.{map-range_with_len_more}
use Rattle.net_reader.specs.Bundles.{made_name, made_names}
use Rattle.net_reader.specs.Statements.{links_named}
use Rattle.net_reader.proofs.bundles.links_named.Goals as goal
use Rattle.net_reader.proofs.bundles.links_named.Goals.{in-None+in_ok-from_slice-in-None+in_ok-push-in-None, in-Some+else-loop-number-test, in-Some+then-loop-number-test+in_ok-made_name-in-Some+in_ok-push-in-Some+else-number-count}

-- the names of the links before one, and its own
with_one : (name : List ℕ) (names more : List (Vec ℕ Global)) (made : Vec ℕ Global) (number : ℕ) → 1 ≤ number → map (λ one. one.items) names ≡ made_names name (number - 1) → made.items ≡ made_name name number
    → more ≡ names ++ made ∷ [] → map (λ one. one.items) more ≡ made_names name number
with_one name names more made number some before is pushed =
    ap (map (λ (one : Vec ℕ Global). one.items)) pushed ∙ map_push (λ one. one.items) names made
    ∙ (λ i. before i ++ is i ∷ [])
    ∙ sym (map-range_with_len_more (made_name name) 1 (number - 1) number (omega arith))
    ∙ ap (made_names name) (omega arith)

-- one name alone
only : (name : List ℕ) (before names : List (Vec ℕ Global)) (made : Vec ℕ Global) → before ≡ [] → made.items ≡ name → names ≡ before ++ made ∷ [] → map (λ one. one.items) names ≡ name ∷ []
only name before names made none is pushed =
    ap (map (λ (one : Vec ℕ Global). one.items)) (pushed ∙ ap (λ (list : List (Vec ℕ Global)). list ++ made ∷ []) none) ∙ ap (λ (text : List ℕ). text ∷ []) is

pub loop-number-preserved : goal.loop-number-preserved
loop-number-preserved c = (
  with_one c.args.name.now c.loop-number.names.items _ c.in_ok-made_name-in-Some.field-0 c.loop-number.number (omega arith) c.loop-number.invariant.0 c.in_ok-made_name-in-Some.ensures c.in_ok-push-in-Some.ensures.items
      ∙ ap (made_names c.args.name.now) (omega arith),
  omega arith,
)

pub returns : goal.returns
returns c =
    let texts : Vec (Vec ℕ Global) Global → List (List ℕ) = λ names. map (λ one. one.items) names.items in
    elim c.match-bundle.branch [
      | in-None+in_ok-from_slice-in-None+in_ok-push-in-None w ↦
          ap texts w.names-is ∙ only c.args.name.now c.new-names.result.items _ w.in_ok-from_slice-in-None.field-0 c.new-names.ensures.items w.in_ok-from_slice-in-None.ensures.items w.in_ok-push-in-None.ensures.items
          ∙ ap (links_named c.args.name.now) (sym w.in-None.is)
      | in-Some+else-loop-number-test w ↦
          ap texts w.names-is ∙ w.loop-number.invariant.0
          ∙ ap (made_names c.args.name.now) (omega (arith, w.loop-number.invariant.1, w.loop-number-test.false)) ∙ ap (links_named c.args.name.now) (sym w.in-Some.is)
      | in-Some+then-loop-number-test+in_ok-made_name-in-Some+in_ok-push-in-Some+else-number-count w ↦
          ap texts w.names-is
          ∙ with_one c.args.name.now w.loop-number.names.items _ w.in_ok-made_name-in-Some.field-0 w.loop-number.number w.loop-number.auto.number w.loop-number.invariant.0 w.in_ok-made_name-in-Some.ensures w.in_ok-push-in-Some.ensures.items
          ∙ ap (made_names c.args.name.now) (omega arith) ∙ ap (links_named c.args.name.now) (sym w.in-Some.is)
    ]
