-- Laws of the steps that a compilation counts: those of the turns of a loop, their sum over a visit, and over all links.
use Rattle.std.specs.Prelude.{◌≡◌, ◌≤◌, ◌+◌, ◌*◌, ◌==◌, ℕ, true, List, [], ◌∷◌, length, nat_eq, nat_lt}
use Rattle.std.proofs.Common.{sym, ap, ◌∙◌, arith, refl, subst}
use Rattle.std.specs.declared.cmp.PartialEq.{Ghosts as EqualityWords}
use Rattle.std.proofs.lemmas.Bool.{and_from, and_parts, cond_both, ltb-true, ne_eqb, not_from_false}
use Rattle.std.proofs.lemmas.List.{length-map}
use Rattle.std.proofs.lemmas.List.Folds.{list_any_none}
use Rattle.std.proofs.lemmas.List.Sums.{AllPass-from_list_all}
use Rattle.std.proofs.lemmas.Nat.{mul-le}
use Rattle.coeff_choice.specs.Choice.{choice_steps}
use Rattle.counted_steps.specs.Steps.{RoseByAtMost}
use Rattle.field_vectors.specs.Grid.{Grid}
use Rattle.gf_tables.specs.declared.field.Field.{Ghosts as FieldWords}
use Rattle.net_model.proofs.RisingLaws.{are_distinct-from_rising}
use Rattle.net_model.proofs.ListLaws.{length-le_from_is_among}
use Rattle.net_model.specs.Demands.{demand_count}
use Rattle.net_model.specs.Lists.{are_distinct, is_rising}
use Rattle.net_model.specs.declared.net.Net.{Net}
use Rattle.node_program.specs.declared.Operand.{Operand}
use Rattle.lif_compiler.proofs.BasesLaws.{LawsOf}
use Rattle.lif_compiler.proofs.ReadySteps.{few_hops}
use Rattle.lif_compiler.specs.Hops.{Routes}
use Rattle.lif_compiler.specs.Operands.{AreSources, befores, operands_of}
use Rattle.lif_compiler.specs.PartialCodes.{AreChosenBy}
use Rattle.lif_compiler.specs.Visits.{CanVisit}
use Rattle.lif_compiler.specs.Work.{choice_bound}
use Rattle.lif_compiler.specs.declared.hops.Hop.{Hop}
use Rattle.lif_compiler.specs.declared.partial_code.PartialCode.{PartialCode}

-- nothing was counted
pub rose_by_none : (most steps : ℕ) → RoseByAtMost most steps steps
rose_by_none most steps = record { not_below = omega arith; not_above = omega arith }

-- one more turn of a loop whose turns count at most so many steps each
pub turns_more : (turns each most old between new : ℕ) → each ≡ most → RoseByAtMost (turns * most) old between → RoseByAtMost each between new → RoseByAtMost ((turns + 1) * most) old new
turns_more turns each most old between new same before after = record {
  not_below = omega (arith, before.not_below, after.not_below);
  not_above = omega (arith, before.not_above, after.not_above);
}

-- there are at most as many sources as hops
pub sources-few : (numbers sources : List ℕ) → AreSources numbers sources → length sources ≤ length numbers
sources-few numbers sources are = length-le_from_is_among sources numbers (are_distinct-from_rising sources are.rising) (λ number among. sym (are.same number) ∙ among)

-- and at most as many operands as sources
pub operands-few : (sources times : List ℕ) → length (operands_of sources times) ≤ length sources
operands-few [] times = omega arith
operands-few (from ∷ sources) [] = omega arith
operands-few (from ∷ sources) (one ∷ times) =
    let rest = operands-few sources times in
    cond_both (one == 0) (operands_of sources times) (record { from = from; times = one } ∷ operands_of sources times)
    (λ (operands : List Operand). length operands ≤ length (from ∷ sources)) (λ _. omega (arith, rest)) (λ _. omega (arith, rest))

-- and at most as many patterns as demands
pub patterns-few : (net : Net) → length net.patterns ≤ demand_count net
patterns-few net =
    let once = mul-le 1 (length net.patterns) (length net.sinks) (length net.patterns) net.network.some_sink (omega arith) in
    omega (arith, once)

-- the most that the choice of a link's operands counts, by its hops
abbrev choice_of_hops : List Hop → ℕ → ℕ
choice_of_hops hops rate = length hops * (length hops * rate) + choice_steps (length hops) (length hops)

module _ (hops : List Hop) (sources : List ℕ) (are : AreSources (befores hops) sources) (rate old : ℕ) where
  -- there are at most as many sources as hops
  few : length sources ≤ length hops
  few = omega (arith, sources-few (befores hops) sources are, length-map hops (λ (hop : Hop). hop.before))

  -- the products of the table
  pub table_ticks : (new : ℕ) → RoseByAtMost (length hops * (length sources * rate)) old new → RoseByAtMost (choice_of_hops hops rate) old new
  table_ticks new table =
      let products = mul-le (length hops) (length sources * rate) (length hops) (length hops * rate) (omega arith) (mul-le (length sources) rate (length hops) rate few (omega arith)) in
      record { not_below = table.not_below; not_above = omega (arith, table.not_above, products) }

  -- and the choice by it
  pub choice_ticks : (rows columns between new : ℕ) → rows ≡ length hops → columns ≡ length sources → RoseByAtMost (length hops * (length sources * rate)) old between → RoseByAtMost (choice_steps rows columns) between new
      → RoseByAtMost (choice_of_hops hops rate) old new
  choice_ticks rows columns between new height width table choice =
      let products = mul-le (length hops) (length sources * rate) (length hops) (length hops * rate) (omega arith) (mul-le (length sources) rate (length hops) rate few (omega arith)) in
      let entries = mul-le (length hops) (length sources) (length hops) (length hops) (omega arith) few in
      let made = subst (λ columns. RoseByAtMost (choice_steps (length hops) columns) between new) width (subst (λ rows. RoseByAtMost (choice_steps rows columns) between new) height choice) in
      record {
        not_below = omega (arith, table.not_below, made.not_below);
        not_above = omega (arith, table.not_above, made.not_above, products, entries);
      }

-- the sum over a visit: the choice, the vectors under all patterns and the bases of the hops
visit_sum : (hops operands patterns demands rate old chosen carried new : ℕ) → hops ≤ demands → operands ≤ hops → patterns ≤ demands
    → RoseByAtMost (hops * (hops * rate) + choice_steps hops hops) old chosen → RoseByAtMost (patterns * (operands * rate)) chosen carried → RoseByAtMost (hops * (3 * rate * rate)) carried new
    → RoseByAtMost (choice_bound 1 demands rate) old new
visit_sum hops operands patterns demands rate old chosen carried new few_hops few_operands few_patterns choice vectors bases =
    let products = mul-le hops (hops * rate) demands (demands * rate) few_hops (mul-le hops rate demands rate few_hops (omega arith)) in
    let squares = mul-le hops hops demands demands few_hops few_hops in
    let rows = mul-le patterns (operands * rate) demands (demands * rate) few_patterns (mul-le operands rate demands rate (omega arith) (omega arith)) in
    let entries = mul-le hops (3 * rate * rate) demands (3 * rate * rate) few_hops (omega arith) in
    record {
      not_below = omega (arith, choice.not_below, vectors.not_below, bases.not_below);
      not_above = omega (arith, choice.not_above, vectors.not_above, bases.not_above, products, squares, rows, entries);
    }

module _ {X : Type 0} {F : FieldWords X} {E : EqualityWords X} (L : LawsOf F) {net : Net} {routes : Routes} {hops : List Hop} {code : PartialCode X F E} (can : CanVisit net routes hops code) (old chosen : ℕ)
    (choice : RoseByAtMost (choice_of_hops hops code.rate) old chosen) where
  -- a visit that ends with the choice
  pub visit_begun_ticks : RoseByAtMost (choice_bound 1 (demand_count net) code.rate) old chosen
  visit_begun_ticks =
      visit_sum (length hops) 0 0 (demand_count net) code.rate old chosen chosen chosen (few_hops L can) (omega arith) (omega arith) choice (rose_by_none (0 * (0 * code.rate)) chosen)
      (rose_by_none (length hops * (3 * code.rate * code.rate)) chosen)

  -- a whole visit
  pub visit_ticks : {link : ℕ} {operands : List Operand} → AreChosenBy net link hops code operands → (given : List Operand) → given ≡ operands → (vectors : List (Grid X)) → vectors ≡ code.vectors.items
      → (carried new : ℕ) → RoseByAtMost (length vectors * (length given * code.rate)) chosen carried → RoseByAtMost (length hops * (3 * code.rate * code.rate)) carried new
      → RoseByAtMost (choice_bound 1 (demand_count net) code.rate) old new
  visit_ticks {link} {operands} by given given_are vectors vectors_are carried new rows bases =
      let sources = few hops by.sources by.are_sources code.rate old in
      let named = operands-few by.sources by.times in
      let few_operands : length given ≤ length hops = omega (arith, sources, named, ap length (given_are ∙ by.operands_are)) in
      let few_patterns : length vectors ≤ demand_count net = omega (arith, patterns-few net, ap length vectors_are, can.before.carried.each_pattern) in
      visit_sum (length hops) (length given) (length vectors) (demand_count net) code.rate old chosen carried new (few_hops L can) few_operands few_patterns choice rows bases

-- the sum over all links
pub links_more : (links demands rate old between new : ℕ) → RoseByAtMost (choice_bound links demands rate) old between → RoseByAtMost (choice_bound 1 demands rate) between new
    → RoseByAtMost (choice_bound (links + 1) demands rate) old new
links_more links demands rate old between new before after = record {
  not_below = omega (arith, before.not_below, after.not_below);
  not_above = omega (arith, before.not_above, after.not_above);
}

-- more links may take more
pub links_within : (links most demands rate old new : ℕ) → links ≤ most → RoseByAtMost (choice_bound links demands rate) old new → RoseByAtMost (choice_bound most demands rate) old new
links_within links most demands rate old new few rose =
    let one = demands * (demands * rate + demands + rate * rate) in
    let all = mul-le links one most one few (omega arith) in
    record { not_below = rose.not_below; not_above = omega (arith, rose.not_above, all) }

-- and so may a higher rate
pub rate_within : (links demands rate most old new : ℕ) → rate ≤ most → RoseByAtMost (choice_bound links demands rate) old new → RoseByAtMost (choice_bound links demands most) old new
rate_within links demands rate most old new low rose =
    let products = mul-le demands rate demands most (omega arith) low in
    let squares = mul-le rate rate most most low low in
    let all = mul-le (4 * links * demands) (demands * rate + demands + rate * rate) (4 * links * demands) (demands * most + demands + most * most) (omega arith) (omega (arith, products, squares)) in
    record { not_below = rose.not_below; not_above = omega (arith, rose.not_above, all) }
