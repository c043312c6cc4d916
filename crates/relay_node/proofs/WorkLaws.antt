-- A node's words by those of the sums that it makes.
use Rattle.std.specs.Prelude.{◌≡◌, ◌<◌, ◌-◌, ◌&&◌, ℕ, Bool, true, false, not, Contains, List, [], if◌then◌else◌, length, map, slice_index_or}
use Rattle.std.specs.List.{list_all}
use Rattle.std.proofs.Common.{refl, sym, ap, subst, ◌∙◌, arith, get_or, inl, inr}
use Rattle.std.proofs.lemmas.Bool.{cases_Bool}
use Rattle.std.proofs.lemmas.List.{get_or-map, length-map}
use Rattle.std.proofs.lemmas.List.Folds.{list_all-map, list_all_at}
use Rattle.coded_traffic.specs.Traffic.{Key}
use Rattle.due_sums.specs.Waiting.{Waiting}
use Rattle.due_sums.specs.Waiting as waiting
use Rattle.generation_frame.specs.Blocks.{pieces}
use Rattle.generation_frame.specs.declared.frame.Packet.{Packet}
use Rattle.node_plans.specs.Plans.{IsPlan, input_count, input_place, operands_of, out_place, sums_of}
use Rattle.node_plans.specs.declared.plan.Plan.{Plan}
use Rattle.node_program.specs.declared.Operand.{Operand}
use Rattle.relay_node.specs.Feeding.{AreRowsTaken}
use Rattle.relay_node.specs.Relay.{Gains, HasNothing, IsBegun, IsFed, IsNode, Relay, is_complete}
use Rattle.item_list.proofs.Positions.{place_in, place_in-found, place_in-within}

-- the source has no links into it
pub not_source : (plan : Plan) (link : ℕ) → IsPlan plan → Contains plan.ins link → plan.is_source ≡ false
not_source plan link is_plan stands = elim (cases_Bool plan.is_source) [
  | inl source ↦ absurd (none (subst (λ (ins : List ℕ). Contains ins link) (is_plan.source source) stands))
  | inr other ↦ other
]
  where
    none : Contains [] link → ⊥
    none stands = omega (arith, stands.1)

-- so a link into a node has its place among those
pub input_place-in : (plan : Plan) (link : ℕ) → IsPlan plan → Contains plan.ins link → input_place plan link ≡ place_in plan.ins link
input_place-in plan link is_plan stands = ap (λ (b : Bool). if b then link else place_in plan.ins link) (not_source plan link is_plan stands)

pub input_count-in : (plan : Plan) (link : ℕ) → IsPlan plan → Contains plan.ins link → input_count plan ≡ length plan.ins
input_count-in plan link is_plan stands = ap (λ (b : Bool). if b then plan.rate else length plan.ins) (not_source plan link is_plan stands)

module _ (plan : Plan) (places : List ℕ) (first count : ℕ) (sums : Waiting) (is : IsNode plan places first count sums) where
  abbrev pub relay : Waiting → Relay
  relay s = record { plan = plan; first = first; count = count; sums = s }

  pub sum_count : length sums.sums ≡ length plan.outs
  sum_count = ap length is.each_sum ∙ length-map plan.operands (λ (operands : List Operand). map (λ (operand : Operand). input_place plan operand.from) operands) ∙ is.is_plan.each_out

  -- a link into the node is an input
  pub input-within : (link : ℕ) → Contains plan.ins link → input_place plan link < sums.inputs
  input-within link stands =
      let within = place_in-within plan.ins link stands in
      omega (arith, within, input_place-in plan link is.is_plan stands, input_count-in plan link is.is_plan stands, is.inputs)

  -- links of one place are one
  same_input : (link other : ℕ) → Contains plan.ins link → Contains plan.ins other → input_place plan link ≡ input_place plan other → link ≡ other
  same_input link other stands stands_too same =
      let place : place_in plan.ins link ≡ place_in plan.ins other =
      sym (input_place-in plan link is.is_plan stands) ∙ same ∙ input_place-in plan other is.is_plan stands_too in
      sym (place_in-found plan.ins link 0 (place_in-within plan.ins link stands))
      ∙ ap (λ n. get_or plan.ins n 0) place ∙ place_in-found plan.ins other 0 (place_in-within plan.ins other stands_too)

  pub same_out : (link other : ℕ) → Contains plan.outs link → Contains plan.outs other → out_place plan link ≡ out_place plan other → link ≡ other
  same_out link other stands stands_too same =
      sym (place_in-found plan.outs link 0 (place_in-within plan.outs link stands))
      ∙ ap (λ n. get_or plan.outs n 0) same ∙ place_in-found plan.outs other 0 (place_in-within plan.outs other stands_too)

  pub out-within : (link : ℕ) → Contains plan.outs link → out_place plan link < length sums.sums
  out-within link stands = omega (arith, place_in-within plan.outs link stands, sum_count)

  -- a packet is complete where its piece of the sum is
  pub complete-same : (s : Waiting) → s.sums ≡ sums.sums → (key : Key) → Contains plan.outs key.link
      → is_complete (relay s) key ≡ waiting.is_complete s (key.generation - first) (out_place plan key.link) key.piece
  complete-same s work key stands =
      let has = λ (input : ℕ). waiting.has_input s (key.generation - first) input key.piece in
      let place = λ (operand : Operand). input_place plan operand.from in
      let within : out_place plan key.link < length plan.operands = omega (arith, place_in-within plan.outs key.link stands, is.is_plan.each_out) in
      let named : slice_index_or s.sums (out_place plan key.link) [] ≡ map place (operands_of plan key.link) =
      ap (λ (ss : List (List ℕ)). slice_index_or ss (out_place plan key.link) []) (work ∙ is.each_sum)
      ∙ get_or-map (λ (operands : List Operand). map place operands) plan.operands (out_place plan key.link) [] [] within in
      sym (ap (list_all has) named ∙ list_all-map has place (operands_of plan key.link))

  -- A piece of an input came.
  pub gained : (new : Waiting) (packet : Packet) → Contains plan.ins packet.link → IsBegun (relay sums) packet.generation → packet.piece < pieces
      → waiting.Gains (packet.generation - first) (input_place plan packet.link) packet.piece packet.payload sums new
      → Gains packet (relay sums) (relay new)
  gained new packet stands begun low gains =
      record {
        work = record { plan = refl; first = refl; count = refl };
        came = gains.came;
        bytes = gains.bytes;
        others = λ g link p is_begun stands_too low_too apart.
            let same = gains.other_inputs (g - first) (input_place plan link) p (input-within link stands_too) low_too
            (λ equal. apart (omega (arith, equal.0, is_begun.from_first, begun.from_first), same_input link packet.link stands_too stands equal.1, equal.2)) in
            record { has = same.0; bytes = same.1 };
        given = λ key out. gains.given (key.generation - first) (out_place plan key.link) key.piece (out-within key.link out.leaves) out.of_piece;
      }

  -- what is kept stays what a node keeps
  pub IsNode-work : (new : Waiting) → waiting.IsSameWork sums new → IsNode plan places first count new
  IsNode-work new work =
      record {
        is_plan = is.is_plan;
        has_places = is.has_places;
        inputs = work.inputs ∙ is.inputs;
        each_sum = work.sums ∙ is.each_sum;
        are_sums = is.are_sums;
        generations = work.generations ∙ is.generations;
        few_generations = is.few_generations;
        last = is.last;
      }

  -- the inputs of each sum are some
  some_inputs : (s : Waiting) → s.sums ≡ sums.sums → (sum : ℕ) → sum < length sums.sums → 0 < length (waiting.inputs_of s sum)
  some_inputs s work sum within =
      let same : s.sums ≡ sums_of plan = work ∙ is.each_sum in
      subst (λ (ss : List (List ℕ)). 0 < length (slice_index_or ss sum [])) (sym same)
      (is.are_sums.some_inputs sum [] (subst (λ (ss : List (List ℕ)). sum < length ss) is.each_sum within))

  -- Where nothing has come no sum is complete, so nothing was given, in whatever generations are begun.
  pub nothing : (new : Waiting) (begin number : ℕ) → waiting.IsSameWork sums new → waiting.HasNothing new
      → HasNothing (record { plan = plan; first = begin; count = number; sums = new })
  nothing new begin number work none =
      record {
        inputs = λ g from p. none.inputs (g - begin) (input_place plan from) p;
        given = λ key out.
            let sum = out_place plan key.link in
            let within : sum < length sums.sums = out-within key.link out.leaves in
            ap (λ (b : Bool). b && not (waiting.is_due new (key.generation - begin) sum key.piece))
            (list_all_at (λ (input : ℕ). waiting.has_input new (key.generation - begin) input key.piece) (waiting.inputs_of new sum) 0 0
            (some_inputs new work.sums sum within) (none.inputs (key.generation - begin) (get_or (waiting.inputs_of new sum) 0 0) key.piece));
      }

  -- at the source the inputs are the rows
  pub row_place : plan.is_source ≡ true → (row : ℕ) → input_place plan row ≡ row
  row_place source row = ap (λ (b : Bool). if b then row else place_in plan.ins row) source

  pub row_count : plan.is_source ≡ true → sums.inputs ≡ plan.rate
  row_count source = is.inputs ∙ ap (λ (b : Bool). if b then plan.rate else length plan.ins) source

  -- The rows of a block came.
  pub fed : (new : Waiting) (generation : ℕ) (block : List ℕ) → plan.is_source ≡ true → IsBegun (relay sums) generation
      → AreRowsTaken (generation - first) plan.rate block sums new → IsFed generation block (relay sums) (relay new)
  fed new generation block source begun taken =
      record {
        work = record { plan = refl; first = refl; count = refl };
        came = λ row p below low. ap (λ i. waiting.has_input new (generation - first) i p) (row_place source row) ∙ taken.came row p below low;
        bytes = λ row p below low. ap (λ i. waiting.input_at new (generation - first) i p) (row_place source row) ∙ taken.bytes row p below low;
        others = λ g row p is_begun below low apart.
            let same = taken.others (g - first) (input_place plan row) p (omega (arith, below, row_place source row, row_count source)) low
            (λ equal. apart (omega (arith, equal.0, is_begun.from_first, begun.from_first))) in
            record { has = same.has; bytes = same.bytes };
        given = λ key out. taken.given (key.generation - first) (out_place plan key.link) key.piece (out-within key.link out.leaves) out.of_piece;
      }
