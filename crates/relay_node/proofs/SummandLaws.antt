-- The summands of a plan, and the parts of the list that they lie in.
use Rattle.std.specs.Prelude.{◌≡◌, ◌<◌, ◌≤◌, ◌+◌, ◌-◌, ℕ, All, List, [], ◌∷◌, ◌++◌, drop, length, map, slice_get, slice_index, Some, take}
use Rattle.std.proofs.Common.{refl, sym, ap, subst, ◌∙◌, arith, get_or, length-append, length-drop, inl, inr}
use Rattle.std.proofs.lemmas.Bool.{cases_lt}
use Rattle.std.proofs.lemmas.List.{drop-append-le, drop_at, get_or-map, get_or_append_left, get_or_past, get_or_push, get_or_read, length-map, length_push, take-append-le, take_all, take_more}
use Rattle.std.proofs.lemmas.List.Elements.{All-map}
use Rattle.std.proofs.lemmas.List.FromFn.{fill_by_all, get_or-map-range_with_len, length-map-range_with_len}
use Rattle.std.proofs.lemmas.Option.{get_or_from_slice_get}
use Rattle.std.proofs.lemmas.Simd.{map-map}
use Rattle.due_sums.specs.Waiting.{Takes, Waiting}
use Rattle.gf_tables.specs.Product.{size_of}
use Rattle.linear_algebra.specs.Elements.{bytes_of_row, elements_of}
use Rattle.linear_algebra.specs.Rows.{combination}
use Rattle.coded_traffic.specs.Traffic.{piece_width}
use Rattle.node_plans.specs.Plans.{input_place, sums_of}
use Rattle.node_plans.specs.declared.plan.Plan.{Plan}
use Rattle.node_program.specs.declared.Operand.{Operand}
use Rattle.relay_node.specs.Relay.{IsNode}
use Rattle.relay_node.specs.Summands.{AreStarts, operands_at, part_at, parts_of, summand_of, summands_at, summands_of}
use Rattle.relay_node.specs.Summed.{CanSum, came_of, rows_of, sum_at, total_of}
use Rattle.relay_node.specs.declared.summands.Summand.{Summand}

-- the summands of one link out of a node
summands_of-at : (plan : Plan) (sum : ℕ) → sum < length plan.operands → get_or (summands_of plan) sum [] ≡ summands_at plan sum
summands_of-at plan sum within = get_or-map (map (summand_of plan)) plan.operands sum [] [] within

-- the inputs of a link are the places of what its operands name
pub sum-inputs : (plan : Plan) (sums : List (List ℕ)) (sum : ℕ) (inputs : List ℕ) → sums ≡ sums_of plan → sum < length plan.operands → slice_get sums sum ≡ Some inputs
    → inputs ≡ map (λ (operand : Operand). input_place plan operand.from) (operands_at plan sum)
sum-inputs plan sums sum inputs same within found =
    sym (get_or_from_slice_get sums sum inputs [] found)
    ∙ ap (λ (lists : List (List ℕ)). get_or lists sum []) same
    ∙ get_or-map (λ (operands : List Operand). map (λ (operand : Operand). input_place plan operand.from) operands) plan.operands sum [] [] within

-- one more summand of a link
pub summands-next : (plan : Plan) (sum : ℕ) (operands : List Operand) (inputs : List ℕ) (place : ℕ) (d : Operand) → operands ≡ operands_at plan sum
    → inputs ≡ map (λ (operand : Operand). input_place plan operand.from) (operands_at plan sum) → place < length operands
    → take (place + 1) (summands_at plan sum) ≡ take place (summands_at plan sum) ++ record { input = get_or inputs place 0; times = (get_or operands place d).times } ∷ []
summands-next plan sum operands inputs place d same is within =
    take_more (summands_at plan sum) place (summand_of plan d) (omega (arith, inside, length-map (operands_at plan sum) (summand_of plan)))
    ∙ ap (λ (summand : Summand). take place (summands_at plan sum) ++ summand ∷ []) (get_or-map (summand_of plan) (operands_at plan sum) place d (summand_of plan d) inside ∙ here)
  where
    inside : place < length (operands_at plan sum)
    inside = subst (λ (os : List Operand). place < length os) same within

    input : get_or inputs place 0 ≡ input_place plan (get_or (operands_at plan sum) place d).from
    input = ap (λ (list : List ℕ). get_or list place 0) is ∙ get_or-map (λ (operand : Operand). input_place plan operand.from) (operands_at plan sum) place d 0 inside

    times : (get_or operands place d).times ≡ (get_or (operands_at plan sum) place d).times
    times = ap (λ (os : List Operand). (get_or os place d).times) same

    here : summand_of plan (get_or (operands_at plan sum) place d) ≡ record { input = get_or inputs place 0; times = (get_or operands place d).times }
    here = λ i. record { input = sym input i; times = sym times i }

-- the sum of a link's summands is what its operands say
total-sum : (plan : Plan) (sums : Waiting) (generation sum piece : ℕ)
    → total_of plan.field (summands_at plan sum) (came_of sums generation piece) ≡ sum_at plan sums generation sum piece
total-sum plan sums generation sum piece =
    ap (λ (times : List ℕ). bytes_of_row plan.field (combination plan.field (piece_width plan.field) times (rows_of plan.field (summands_at plan sum) (came_of sums generation piece))))
    (map-map (λ (summand : Summand). summand.times) (summand_of plan) (operands_at plan sum))
    ∙ ap (λ (rows : List (List ℕ)). bytes_of_row plan.field (combination plan.field (piece_width plan.field) (map (λ (operand : Operand). operand.times) (operands_at plan sum)) rows))
    (map-map (λ (summand : Summand). elements_of plan.field (came_of sums generation piece summand)) (summand_of plan) (operands_at plan sum))

-- the parts of a list
pub parts-count : (all : List Summand) (starts : List ℕ) → length (parts_of all starts) ≡ length starts - 1
parts-count all starts = length-map-range_with_len (part_at all starts) 0 (length starts - 1)

pub parts-at : (all : List Summand) (starts : List ℕ) (part : ℕ) → part < length (parts_of all starts) → get_or (parts_of all starts) part [] ≡ part_at all starts part
parts-at all starts part within =
    get_or-map-range_with_len (part_at all starts) 0 (length starts - 1) part part [] (omega (arith, within, parts-count all starts)) (omega arith)

-- the bounds of a part, as they are read
pub record IsPart (all : List Summand) (starts : List ℕ) (part from to : ℕ) : Type 0 where
  pub start : from ≡ slice_index starts part
  pub end : to ≡ slice_index starts (part + 1)
  pub rising : from ≤ to
  pub within : to ≤ length all

pub part-bounds : (all : List Summand) (starts : List ℕ) (part from to : ℕ) → AreStarts all starts → part < length (parts_of all starts)
    → from ≡ get_or starts part from → to ≡ get_or starts (part + 1) to → IsPart all starts part from to
part-bounds all starts part from to are inside start end =
    record { start = starts_at; end = ends_at; rising = omega (arith, starts_at, ends_at, are.rising part next); within = omega (arith, ends_at, are.within (part + 1)) }
  where
    next : part + 1 < length starts
    next = omega (arith, inside, parts-count all starts)

    starts_at : from ≡ slice_index starts part
    starts_at = get_or_read starts part from (omega (arith, next)) start 0

    ends_at : to ≡ slice_index starts (part + 1)
    ends_at = get_or_read starts (part + 1) to next end 0

-- the summands of the first sums, part by part
pub record HasSums (plan : Plan) (count : ℕ) (all : List Summand) (starts : List ℕ) : Type 0 where
  pub are_starts : AreStarts all starts
  pub starts_count : length starts ≡ count + 1
  pub last : slice_index starts count ≡ length all
  pub each : (sum : ℕ) → sum < count → part_at all starts sum ≡ summands_at plan sum

-- one more sum
module _ (plan : Plan) (count : ℕ) (all more : List Summand) (starts : List ℕ) (has : HasSums plan count all starts) where
  whole : length (all ++ more) ≡ length all + length more
  whole = length-append all more

  ends-before : (part : ℕ) → part < length starts → slice_index (starts ++ length (all ++ more) ∷ []) part ≡ slice_index starts part
  ends-before part below = get_or_append_left starts (length (all ++ more) ∷ []) 0 part below

  ends-last : slice_index (starts ++ length (all ++ more) ∷ []) (count + 1) ≡ length (all ++ more)
  ends-last = get_or_push starts (length (all ++ more)) 0 (count + 1) has.starts_count

  part_before : (part : ℕ) → part < count → part_at (all ++ more) (starts ++ length (all ++ more) ∷ []) part ≡ part_at all starts part
  part_before part below =
      let from = slice_index starts part in
      let to = slice_index starts (part + 1) in
      ap (λ (start : ℕ). take (slice_index (starts ++ length (all ++ more) ∷ []) (part + 1) - start) (drop start (all ++ more))) (ends-before part (omega (arith, below, has.starts_count)))
      ∙ ap (λ (end : ℕ). take (end - from) (drop from (all ++ more))) (ends-before (part + 1) (omega (arith, below, has.starts_count)))
      ∙ ap (take (to - from)) (drop-append-le from all more (has.are_starts.within part))
      ∙ take-append-le (to - from) (drop from all) more (omega (arith, length-drop from all, has.are_starts.within (part + 1)))

  within_starts : count < length starts
  within_starts = omega (arith, has.starts_count)

  part_last : part_at (all ++ more) (starts ++ length (all ++ more) ∷ []) count ≡ more
  part_last =
      ap (λ (start : ℕ). take (slice_index (starts ++ length (all ++ more) ∷ []) (count + 1) - start) (drop start (all ++ more)))
      (ends-before count within_starts ∙ has.last)
      ∙ ap (λ (end : ℕ). take (end - length all) (drop (length all) (all ++ more))) ends-last
      ∙ ap (take (length (all ++ more) - length all)) (drop_at all more (length all) refl)
      ∙ take_all (length (all ++ more) - length all) more (omega (arith, whole))

  within : (part : ℕ) → slice_index (starts ++ length (all ++ more) ∷ []) part ≤ length (all ++ more)
  within part = elim (cases_lt part (count + 1)) [
    | inl before ↦ omega (arith, ends-before part (omega (arith, before, has.starts_count)), has.are_starts.within part, whole)
    | inr after ↦ elim (cases_lt (count + 1) part) [
      | inl past ↦ omega (arith, get_or_past (starts ++ length (all ++ more) ∷ []) part 0 (omega (arith, past, has.starts_count, length_push starts (length (all ++ more)))))
      | inr here ↦ let same : part ≡ count + 1 = omega (arith, after, here) in omega (arith, ap (slice_index (starts ++ length (all ++ more) ∷ [])) same, ends-last)
    ]
  ]

  rising : (part : ℕ) → part + 1 < length (starts ++ length (all ++ more) ∷ [])
      → slice_index (starts ++ length (all ++ more) ∷ []) part ≤ slice_index (starts ++ length (all ++ more) ∷ []) (part + 1)
  rising part below = elim (cases_lt part count) [
    | inl before ↦
        omega (arith, has.are_starts.rising part (omega (arith, before, has.starts_count)), ends-before part (omega (arith, before, has.starts_count)), ends-before (part + 1) (omega (arith, before, has.starts_count)))
    | inr after ↦
        let same : part + 1 ≡ count + 1 = omega (arith, after, below, has.starts_count, length_push starts (length (all ++ more))) in
        omega (arith, within part, ap (slice_index (starts ++ length (all ++ more) ∷ [])) same, ends-last)
  ]

  each : more ≡ summands_at plan count → (sum : ℕ) → sum < count + 1 → part_at (all ++ more) (starts ++ length (all ++ more) ∷ []) sum ≡ summands_at plan sum
  each is sum below = elim (cases_lt sum count) [
    | inl before ↦ part_before sum before ∙ has.each sum before
    | inr last ↦
        let here : sum ≡ count = omega (arith, last, below) in
        ap (part_at (all ++ more) (starts ++ length (all ++ more) ∷ [])) here ∙ part_last ∙ is ∙ ap (summands_at plan) (sym here)
  ]

  pub sums-next : more ≡ summands_at plan count → HasSums plan (count + 1) (all ++ more) (starts ++ length (all ++ more) ∷ [])
  sums-next is =
      record {
        are_starts = record { within = within; rising = rising };
        starts_count = omega (arith, length_push starts (length (all ++ more)), has.starts_count);
        last = ends-last;
        each = each is;
      }

-- all sums
pub sums-all : (plan : Plan) (all : List Summand) (starts : List ℕ) → HasSums plan (length plan.operands) all starts → parts_of all starts ≡ summands_of plan
sums-all plan all starts has =
    let count : length starts - 1 ≡ length plan.operands = omega (arith, has.starts_count) in
    sym (fill_by_all (part_at all starts) (summands_of plan) (length starts - 1) [] (length-map plan.operands (map (summand_of plan)) ∙ sym count)
    (λ sum below. let within : sum < length plan.operands = omega (arith, below, count) in summands_of-at plan sum within ∙ sym (has.each sum within)))

-- A piece of a sum is due.
module _ (plan : Plan) (places : List ℕ) (first count : ℕ) (sums new : Waiting) (is : IsNode plan places first count sums) (generation sum piece : ℕ)
    (takes : Takes count generation sum piece sums new) where
  -- it is that of a link out of the node
  due-within : sum < length plan.operands
  due-within = omega (arith, takes.in_sums, ap length is.each_sum, length-map plan.operands (map (λ (operand : Operand). input_place plan operand.from)))

  module _ (lists : List (List Summand)) (summands : List Summand) (same : lists ≡ summands_of plan) (read : summands ≡ get_or lists sum []) where
    -- what is read are its summands
    due-summands : summands ≡ summands_at plan sum
    due-summands = read ∙ ap (λ (all : List (List Summand)). get_or all sum []) same ∙ summands_of-at plan sum due-within

    -- they can be added up, to the sum
    pub due-can : CanSum plan.field summands new generation piece
    due-can =
        subst (λ (all : List Summand). CanSum plan.field all new generation piece) (sym due-summands)
        (record {
          elements = All-map (λ (summand : Summand). summand.times < size_of plan.field) (summand_of plan) (operands_at plan sum) (is.is_plan.coefficients sum [] due-within);
          inputs = All-map (λ (summand : Summand). summand.input < new.inputs) (summand_of plan) (operands_at plan sum)
              (subst (λ (n : ℕ). All (λ (operand : Operand). input_place plan operand.from < n) (operands_at plan sum)) (sym (takes.work.inputs ∙ is.inputs)) (is.is_plan.inputs sum [] due-within));
          in_generations = omega (arith, takes.in_generations, is.few_generations, is.generations, takes.work.generations);
          in_pieces = takes.in_pieces;
        })

    pub due-sum : total_of plan.field summands (came_of new generation piece) ≡ sum_at plan new generation sum piece
    due-sum = ap (λ (all : List Summand). total_of plan.field all (came_of new generation piece)) due-summands ∙ total-sum plan new generation sum piece
