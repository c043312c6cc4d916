-- The least packet that is due, by the least piece of a sum that is.
use Rattle.std.specs.Prelude.{◌≡◌, ◌≢◌, ◌<◌, ◌≤◌, ◌+◌, ◌-◌, ◌&&◌, ◌⊎◌, ℕ, Bool, true, false, not, Contains, List, [], length}
use Rattle.std.specs.List.{list_all}
use Rattle.std.proofs.Common.{refl, sym, ap, subst, ◌∙◌, arith, get_or, inl, inr}
use Rattle.std.proofs.lemmas.Bool.{cases_lt, true≢false}
use Rattle.std.proofs.lemmas.List.Elements.{Contains-get_or}
use Rattle.coded_traffic.specs.Traffic.{Key, key_of, sum_of}
use Rattle.due_sums.specs.Waiting.{Waiting}
use Rattle.due_sums.specs.Waiting as waiting
use Rattle.generation_frame.specs.Blocks.{pieces}
use Rattle.generation_frame.specs.declared.frame.Packet.{Packet}
use Rattle.node_plans.specs.Plans.{input_place, operands_of, out_place}
use Rattle.node_plans.specs.declared.plan.Plan.{Plan}
use Rattle.relay_node.specs.Relay.{Gives, IsAtMost, IsDue, IsNode, IsOut, Relay, input_at, is_given}
use Rattle.relay_node.specs.Summands.{operands_at}
use Rattle.relay_node.specs.Summed.{sum_at}
use Rattle.item_list.proofs.Positions.{place_in-found, place_in-within}
use Rattle.net_model.proofs.RisingLaws.{place_in-at, rising-below}
use Rattle.relay_node.proofs.WorkLaws.{complete-same, relay, same_out, sum_count}

-- what is complete and wasn't given is due, and what is complete and due wasn't given
due_of : (complete due : Bool) → complete ≡ true → complete && not due ≡ false → due ≡ true
due_of true true c g = refl
due_of true false c g = sym g
due_of false due c g = absurd (true≢false (sym c))

not_given_of : (complete due : Bool) → due ≡ true → complete && not due ≡ false
not_given_of true due d = ap not d
not_given_of false due d = refl

given_of : (complete due : Bool) → complete ≡ true → due ≡ false → complete && not due ≡ true
given_of complete due c d = ap (λ b. b && not due) c ∙ ap not d

module _ (plan : Plan) (places : List ℕ) (first count : ℕ) (sums : Waiting) (is : IsNode plan places first count sums) where
  abbrev at : Waiting → Relay
  at = relay plan places first count sums is

  -- a packet that is due is a due piece of its sum
  pub due-bit : (key : Key) → IsDue (at sums) key → waiting.is_due sums (key.generation - first) (out_place plan key.link) key.piece ≡ true
  due-bit key due =
      due_of (waiting.is_complete sums (key.generation - first) (out_place plan key.link) key.piece) (waiting.is_due sums (key.generation - first) (out_place plan key.link) key.piece)
      (sym (complete-same plan places first count sums is sums refl key due.out.leaves) ∙ due.complete) due.not_given

  -- where no piece of a sum is due no packet is
  pub none-due : ((generation sum piece : ℕ) → generation < count → piece < pieces → waiting.is_due sums generation sum piece ≡ false) → (key : Key) → IsDue (at sums) key → ⊥
  none-due none key due =
      true≢false (sym (due-bit key due) ∙ none (key.generation - first) (out_place plan key.link) key.piece (omega (arith, due.out.begun.from_first, due.out.begun.to_last)) due.out.of_piece)

  module _ (new : Waiting) (generation sum piece : ℕ) (packet : Packet) (takes : waiting.Takes count generation sum piece sums new)
      (link : packet.link ≡ get_or plan.outs sum 0) (of_generation : packet.generation ≡ first + generation) (of_piece : packet.piece ≡ piece) where
    sum_within : sum < length plan.outs
    sum_within = omega (arith, takes.in_sums, sum_count plan places first count sums is)

    leaves : Contains plan.outs packet.link
    leaves = subst (Contains plan.outs) (sym link) (Contains-get_or plan.outs sum 0 sum_within)

    place : out_place plan packet.link ≡ sum
    place = ap (out_place plan) link ∙ place_in-at plan.outs sum is.is_plan.outs_rise sum_within

    place_of_generation : packet.generation - first ≡ generation
    place_of_generation = omega (arith, of_generation)

    out : IsOut (at sums) (key_of packet)
    out = record { leaves = leaves; begun = record { from_first = omega (arith, of_generation); to_last = omega (arith, of_generation, takes.in_generations) }; of_piece = omega (arith, of_piece, takes.in_pieces) }

    -- the words of sums at the packet
    at_packet : (f : ℕ → ℕ → ℕ → Bool) → f (packet.generation - first) (out_place plan packet.link) packet.piece ≡ f generation sum piece
    at_packet f = ap (λ (g : ℕ). f g (out_place plan packet.link) packet.piece) place_of_generation ∙ ap (λ (s : ℕ). f generation s packet.piece) place ∙ ap (f generation sum) of_piece

    due : IsDue (at sums) (key_of packet)
    due =
        record {
          out = out;
          complete = complete-same plan places first count sums is sums refl (key_of packet) leaves ∙ at_packet (waiting.is_complete sums) ∙ takes.complete;
          not_given = at_packet (waiting.is_given sums) ∙ not_given_of (waiting.is_complete sums generation sum piece) (waiting.is_due sums generation sum piece) takes.due;
        }

    least : (other : Key) → IsDue (at sums) other → IsAtMost (key_of packet) other
    least other is_due = elim (cases_lt packet.generation other.generation) [
      | inl earlier ↦ inl earlier
      | inr rest ↦ elim (cases_lt other.generation packet.generation) [
        | inr at_least ↦ inr (same_generation rest at_least, by_sum (takes.least (out_place plan other.link) other.piece is_due.out.of_piece (subst (λ g. waiting.is_due sums g (out_place plan other.link) other.piece ≡ true) (ap (λ g. g - first) (sym (same_generation rest at_least)) ∙ place_of_generation) (due-bit other is_due))))
        | inl later ↦ absurd (true≢false (sym (due-bit other is_due) ∙ takes.before (other.generation - first) (out_place plan other.link) other.piece (omega (arith, later, of_generation, is_due.out.begun.from_first)) is_due.out.of_piece))
      ]
    ]
      where
        same_generation : other.generation ≤ packet.generation → packet.generation ≤ other.generation → packet.generation ≡ other.generation
        same_generation low high = omega (arith, low, high)

        other_place : out_place plan other.link < length plan.outs
        other_place = place_in-within plan.outs other.link is_due.out.leaves

        other_link : get_or plan.outs (out_place plan other.link) 0 ≡ other.link
        other_link = place_in-found plan.outs other.link 0 other_place

        by_sum : waiting.IsAtMost sum piece (out_place plan other.link) other.piece → (packet.link < other.link) ⊎ (packet.link ≡ other.link) × (packet.piece ≤ other.piece)
        by_sum (inl before) = inl (omega (arith, rising-below plan.outs sum (out_place plan other.link) is.is_plan.outs_rise before other_place, link, other_link))
        by_sum (inr same) = inr (link ∙ ap (λ (s : ℕ). get_or plan.outs s 0) same.0 ∙ other_link, omega (arith, of_piece, same.1))

    -- what is complete stays so, and so do the packets given but for this one
    same_complete : (g s p : ℕ) → waiting.is_complete new g s p ≡ waiting.is_complete sums g s p
    same_complete g s p =
        ap (λ (ss : List (List ℕ)). list_all (λ (input : ℕ). waiting.has_input new g input p) (get_or ss s [])) takes.work.sums
        ∙ ap (λ (has : ℕ → Bool). list_all has (get_or sums.sums s [])) (λ i input. takes.inputs g input p i)

    others : (other : Key) → IsOut (at sums) other → other ≢ key_of packet → is_given (at new) other ≡ is_given (at sums) other
    others other is_out apart =
        let same_due = takes.others (other.generation - first) (out_place plan other.link) other.piece is_out.of_piece
        (λ equal. apart (same_key (omega (arith, equal.0, of_generation, is_out.begun.from_first)) (same_out plan places first count sums is other.link packet.link is_out.leaves leaves (equal.1 ∙ sym place)) (equal.2 ∙ sym of_piece))) in
        ap (λ (due : Bool). waiting.is_complete new (other.generation - first) (out_place plan other.link) other.piece && not due) same_due
        ∙ ap (λ (complete : Bool). complete && not (waiting.is_due sums (other.generation - first) (out_place plan other.link) other.piece)) (same_complete (other.generation - first) (out_place plan other.link) other.piece)
      where
        same_key : other.generation ≡ packet.generation → other.link ≡ packet.link → other.piece ≡ packet.piece → other ≡ key_of packet
        same_key g l p = λ i. record { link = l i; generation = g i; piece = p i }

    payload-given : packet.payload ≡ sum_at plan new generation sum piece
        → packet.payload ≡ sum_of plan.field (operands_of plan packet.link) (λ operand. input_at (at sums) packet.generation operand.from packet.piece)
    payload-given made =
        made
        ∙ ap (sum_of plan.field (operands_at plan sum)) (λ i operand. takes.bytes generation (input_place plan operand.from) piece i)
        ∙ sym (ap (λ (s : ℕ). sum_of plan.field (operands_at plan s) (λ operand. input_at (at sums) packet.generation operand.from packet.piece)) place
        ∙ ap (λ (g : ℕ). sum_of plan.field (operands_at plan sum) (λ operand. waiting.input_at sums g (input_place plan operand.from) packet.piece)) place_of_generation
        ∙ ap (λ (p : ℕ). sum_of plan.field (operands_at plan sum) (λ operand. waiting.input_at sums generation (input_place plan operand.from) p)) of_piece)

    pub gives : packet.payload ≡ sum_at plan new generation sum piece → Gives packet (at sums) (at new)
    gives made =
        record {
          due = due;
          least = least;
          payload = payload-given made;
          work = record { plan = refl; first = refl; count = refl };
          given = at_packet (waiting.is_given new)
              ∙ given_of (waiting.is_complete new generation sum piece) (waiting.is_due new generation sum piece) (same_complete generation sum piece ∙ takes.complete) takes.taken;
          others = others;
          inputs = λ g from p. record { has = takes.inputs (g - first) _ p; bytes = takes.bytes (g - first) _ p };
        }
