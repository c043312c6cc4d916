-- The plan of a node is a plan, and its sums are sums of its inputs.
use Rattle.std.specs.Prelude.{◌≡◌, ℕ, ◌<◌, ◌==◌, ◌&&◌, Bool, true, IsTrue, List, [], All, Contains, filter, length, map}
use Rattle.std.specs.List.{position_or_len, range_with_len}
use Rattle.std.proofs.Common.{refl, sym, ◌∙◌, ap, arith, get_or, inl, inr}
use Rattle.std.proofs.lemmas.Bool.{and_from, and_parts, cases_Bool, eq-eqb, eqb-true, false_from_ne_true}
use Rattle.std.proofs.lemmas.List.{get_or-map, length-map}
use Rattle.std.proofs.lemmas.List.Elements.{All-filter, All-map, All-weaker}
use Rattle.std.proofs.lemmas.List.FromFn.{length-range_with_len}
use Rattle.gf_tables.specs.Product.{size_of}
use Rattle.due_sums.specs.Waiting.{AreSums}
use Rattle.item_list.proofs.Tests.{length-filter-some}
use Rattle.net_model.proofs.RenumberedParts.{is_rising-filter_range}
use Rattle.net_model.specs.Lists.{is_rising}
use Rattle.net_model.specs.Walks.{head_of, tail_of}
use Rattle.node_program.proofs.LiveLaws.{live-below, live-reads}
use Rattle.node_program.proofs.OperandLaws.{operands_of_draft}
use Rattle.node_program.specs.CodeValue.{is_live_in, reads_live_in}
use Rattle.node_program.specs.Operands.{IsOperand}
use Rattle.node_program.specs.Value.{operands_at}
use Rattle.node_program.specs.declared.Operand.{Operand}
use Rattle.node_program.specs.declared.code.Code.{Code}
use Rattle.coded_traffic.specs.Traffic.{live_operands}
use Rattle.node_plans.proofs.InputLaws.{IsInput, live_operands-inputs, live_operands-rise}
use Rattle.item_list.proofs.Positions.{Contains-place_in, place_in-found}
use Rattle.node_plans.proofs.ListLaws.{filter-none, filter_range-each, is_rising-map, length-filter-le, passing-before, position-filter_range}
use Rattle.node_plans.proofs.OrderLaws.{source-no_ins}
use Rattle.node_plans.specs.Plans.{IsPlan, input_count, input_place, ins_of, operands_of, out_place, outs_of, plan_of, sums_of}

-- the place of a live link among the live links at its head or at its tail
module _ (code : Code) (pattern : ℕ) (end : ℕ → ℕ) (link : ℕ) (live : is_live_in code pattern link ≡ true) where
  abbrev at_end : ℕ → Bool
  at_end other = is_live_in code pattern other && (end other == end link)

  ends : at_end link ≡ true
  ends = and_from _ _ live (eq-eqb (end link) (end link) refl)

  -- it is how many of them come before it
  pub position-ending : position_or_len (λ one. one == link) (filter at_end (range_with_len 0 (length code.net.links))) ≡ length (filter at_end (range_with_len 0 link))
  position-ending = position-filter_range at_end 0 (length code.net.links) link link (omega arith) (live-below code pattern link live) ends

  -- and within them
  pub position-ending-below : position_or_len (λ one. one == link) (filter at_end (range_with_len 0 (length code.net.links)))
      < length (filter at_end (range_with_len 0 (length code.net.links)))
  position-ending-below =
      omega (arith, position-ending, passing-before at_end 0 (length code.net.links) link link (omega arith) (live-below code pattern link live) ends)

-- a live link stands among those into its head and among those out of its tail
pub ins-contains : (code : Code) (pattern link : ℕ) → is_live_in code pattern link ≡ true → Contains (ins_of code pattern (head_of code.net.links link)) link
ins-contains code pattern link live = Contains-place_in _ link (position-ending-below code pattern (head_of code.net.links) link live)

pub outs-contains : (code : Code) (pattern link : ℕ) → is_live_in code pattern link ≡ true → Contains (outs_of code pattern (tail_of code.net.links link)) link
outs-contains code pattern link live = Contains-place_in _ link (position-ending-below code pattern (tail_of code.net.links) link live)

-- each link into a node is live and leads into it, each out of it is live and leaves it
pub ins-each : (code : Code) (pattern node : ℕ) → All (λ link. (is_live_in code pattern link ≡ true) × (head_of code.net.links link ≡ node)) (ins_of code pattern node)
ins-each code pattern node k d within =
    let parts = and_parts _ _ (filter_range-each (λ link. is_live_in code pattern link && (head_of code.net.links link == node)) (length code.net.links) k d within).1 in
    (parts.0, eqb-true _ _ parts.1)

pub outs-each : (code : Code) (pattern node : ℕ) → All (λ link. (is_live_in code pattern link ≡ true) × (tail_of code.net.links link ≡ node)) (outs_of code pattern node)
outs-each code pattern node k d within =
    let parts = and_parts _ _ (filter_range-each (λ link. is_live_in code pattern link && (tail_of code.net.links link == node)) (length code.net.links) k d within).1 in
    (parts.0, eqb-true _ _ parts.1)

-- the place of a live link among those out of its tail is within them, and the link stands there
pub out_place-below : (code : Code) (pattern link : ℕ) → is_live_in code pattern link ≡ true
    → out_place (plan_of code pattern (tail_of code.net.links link)) link < length (outs_of code pattern (tail_of code.net.links link))
out_place-below code pattern link live = position-ending-below code pattern (tail_of code.net.links) link live

-- and so do its operands
pub operands_of-live : (code : Code) (pattern link : ℕ) → is_live_in code pattern link ≡ true
    → operands_of (plan_of code pattern (tail_of code.net.links link)) link ≡ live_operands code pattern link
operands_of-live code pattern link live =
    let outs = outs_of code pattern (tail_of code.net.links link) in
    let place = out_place (plan_of code pattern (tail_of code.net.links link)) link in
    let below = out_place-below code pattern link live in
    get_or-map (live_operands code pattern) outs place 0 [] below ∙ ap (live_operands code pattern) (place_in-found outs link 0 below)

-- no live link leads into the source
pub ins_of-source : (code : Code) (pattern : ℕ) → ins_of code pattern code.net.source ≡ []
ins_of-source code pattern =
    filter-none (λ link. is_live_in code pattern link && (head_of code.net.links link == code.net.source)) (range_with_len 0 (length code.net.links)) (λ k d within.
    false_from_ne_true _ (λ both.
    let parts = and_parts _ _ both in
    source-no_ins code pattern (get_or (range_with_len 0 (length code.net.links)) k d) parts.0 (eqb-true _ _ parts.1)))

module _ (code : Code) (pattern node : ℕ) where
  -- a live link into a node that isn't the source has a place below the number of its inputs
  input_place-below : (from : ℕ) → IsInput code pattern node from → input_place (plan_of code pattern node) from < input_count (plan_of code pattern node)
  input_place-below from is = elim (cases_Bool (node == code.net.source)) [
    | inl source ↦ rw source (is.row source)
    | inr inner ↦ rw (inner, sym (is.leads inner)) (position-ending-below code pattern (head_of code.net.links) from (is.live inner))
  ]

  -- and one before it a lower one
  input_place-rises : (x y : ℕ) → IsInput code pattern node x → IsInput code pattern node y → x < y
      → input_place (plan_of code pattern node) x < input_place (plan_of code pattern node) y
  input_place-rises x y is_x is_y before = elim (cases_Bool (node == code.net.source)) [
    | inl source ↦ rw source before
    | inr inner ↦
        let into : ℕ → Bool = λ link. is_live_in code pattern link && (head_of code.net.links link == node) in
        let count = length code.net.links in
        let passes_x : into x ≡ true = and_from _ _ (is_x.live inner) (eq-eqb _ _ (is_x.leads inner)) in
        let passes_y : into y ≡ true = and_from _ _ (is_y.live inner) (eq-eqb _ _ (is_y.leads inner)) in
        let place_x = position-filter_range into 0 count x x (omega arith) (live-below code pattern x (is_x.live inner)) passes_x in
        let place_y = position-filter_range into 0 count y y (omega arith) (live-below code pattern y (is_y.live inner)) passes_y in
        rw inner (omega (arith, place_x, place_y, passing-before into 0 y x x (omega arith) before passes_x))
  ]

  -- what holds of the live operands of each live link out of a node holds of all its operands
  each_out : (P : List Operand → Type 0) → ((link : ℕ) → is_live_in code pattern link ≡ true → tail_of code.net.links link ≡ node → P (live_operands code pattern link))
      → All P (plan_of code pattern node).operands
  each_out P each =
      All-map P (live_operands code pattern) (outs_of code pattern node)
      (λ k d within. let out = outs-each code pattern node k d within in each (get_or (outs_of code pattern node) k d) out.0 out.1)

  -- the operands of a link out of the node name its inputs
  inputs : (link : ℕ) → is_live_in code pattern link ≡ true → tail_of code.net.links link ≡ node → All (λ operand. IsInput code pattern node operand.from) (live_operands code pattern link)
  inputs link live at = live_operands-inputs code pattern link (live-below code pattern link live) node at

  -- the plan of a node is a plan
  pub IsPlan-plan_of : IsPlan (plan_of code pattern node)
  IsPlan-plan_of = record {
    some_rate = code.code.draft.some_rate;
    low_rate = code.code.draft.low_rate;
    ins_rise = is_rising-filter_range (λ link. is_live_in code pattern link && (head_of code.net.links link == node)) 0 (length code.net.links);
    outs_rise = is_rising-filter_range (λ link. is_live_in code pattern link && (tail_of code.net.links link == node)) 0 (length code.net.links);
    source = λ is. ap (ins_of code pattern) (eqb-true node code.net.source is) ∙ ins_of-source code pattern;
    each_out = length-map (outs_of code pattern node) (live_operands code pattern);
    coefficients = each_out (All (λ operand. operand.times < size_of code.field)) (λ link live at.
        All-filter (reads_live_in code pattern link) (λ operand. operand.times < size_of code.field) (operands_at code.operands link)
        (All-weaker (IsOperand code.net code.rate code.field link) (λ operand. operand.times < size_of code.field) (λ operand is. is.coefficient)
        (operands_at code.operands link) (operands_of_draft code.code.draft link)));
    inputs = each_out (All (λ operand. input_place (plan_of code pattern node) operand.from < input_count (plan_of code pattern node))) (λ link live at k d within.
        input_place-below (get_or (live_operands code pattern link) k d).from (inputs link live at k d within));
  }

  -- its sums are sums of its inputs
  pub AreSums-plan_of : AreSums (input_count (plan_of code pattern node)) (sums_of (plan_of code pattern node))
  AreSums-plan_of =
      let plan = plan_of code pattern node in
      let place : Operand → ℕ = λ operand. input_place plan operand.from in
      let of_operands : (P : List ℕ → Type 0) → All (λ operands. P (map place operands)) plan.operands → All P (sums_of plan) =
      λ P all. All-map P (map place) plan.operands all in
      record {
        few_sums = omega (
          arith,
          length-map plan.operands (map place),
          length-map plan.outs (live_operands code pattern),
          length-filter-le (λ link. is_live_in code pattern link && (tail_of code.net.links link == node)) (range_with_len 0 (length code.net.links)),
          length-range_with_len 0 (length code.net.links),
          code.net.network.few_links,
        );
        some_inputs = of_operands (λ sum. 0 < length sum) (each_out (λ operands. 0 < length (map place operands)) (λ link live at.
            omega (
              arith,
              length-map (live_operands code pattern link) place,
              length-filter-some (reads_live_in code pattern link) (operands_at code.operands link) (live-reads code pattern link live),
            )));
        rising = of_operands (λ sum. IsTrue (is_rising sum)) (each_out (λ operands. IsTrue (is_rising (map place operands))) (λ link live at.
            is_rising-map (λ operand. operand.from) place (λ operand. IsInput code pattern node operand.from)
            (λ x y is_x is_y before. input_place-rises x.from y.from is_x is_y before)
            (live_operands code pattern link) (inputs link live at) (live_operands-rise code pattern link (live-below code pattern link live))));
        below = of_operands (All (λ input. input < input_count plan)) (each_out (λ operands. All (λ input. input < input_count plan) (map place operands)) (λ link live at.
            All-map (λ input. input < input_count plan) place (live_operands code pattern link)
            (λ k d within. input_place-below (get_or (live_operands code pattern link) k d).from (inputs link live at k d within))));
      }
