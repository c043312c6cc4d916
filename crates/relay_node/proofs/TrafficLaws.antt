-- Where what came to a node is the traffic of blocks, so is what it gives.
use Rattle.std.specs.Prelude.{◌≡◌, ◌<◌, ◌==◌, ℕ, Bool, true, false, All, Contains, List, [], if◌then◌else◌, length}
use Rattle.std.proofs.Common.{refl, sym, ap, subst, ◌∙◌, arith, get_or}
use Rattle.std.proofs.lemmas.List.Elements.{All-contains}
use Rattle.std.proofs.lemmas.List.Sums.{AllPass-from_list_all}
use Rattle.generation_frame.specs.Blocks.{piece_of_row, pieces}
use Rattle.generation_frame.specs.declared.frame.Packet.{Packet}
use Rattle.net_model.proofs.EndLaws.{leaves_source-tail}
use Rattle.net_model.specs.Walks.{leaves_source, tail_of}
use Rattle.node_program.proofs.LiveLaws.{live-below}
use Rattle.node_program.specs.CodeValue.{is_live_in}
use Rattle.node_program.specs.declared.Operand.{Operand}
use Rattle.node_program.specs.declared.code.Code.{Code}
use Rattle.coded_traffic.specs.CodeBlocks.{IsBlockOf, row_of}
use Rattle.coded_traffic.specs.Traffic.{Window, block_at, key_of, live_operands, operand_payload, packet_of, payload_in, sum_of}
use Rattle.coded_traffic.proofs.SumLaws.{payload-sum, sum_of-agree}
use Rattle.item_list.proofs.Positions.{Contains-place_in, place_in, place_in-within}
use Rattle.node_plans.proofs.PlanLaws.{operands_of-live, outs-each}
use Rattle.node_plans.specs.Plans.{IsPlan, input_count, input_place, operands_of, out_place, outs_of, plan_of}
use Rattle.node_plans.specs.declared.plan.Plan.{Plan}
use Rattle.relay_node.specs.Relay.{Gives, IsBegun, Relay, TakesTraffic, has_input, input_at}

module _ (code : Code) (pattern node : ℕ) (link : ℕ) (stands : Contains (outs_of code pattern node) link) where
  pub out : (is_live_in code pattern link ≡ true) × (tail_of code.net.links link ≡ node)
  out = All-contains (λ l. (is_live_in code pattern l ≡ true) × (tail_of code.net.links l ≡ node)) (outs_of code pattern node) link (outs-each code pattern node) stands

  pub live_out : is_live_in code pattern link ≡ true
  live_out = out.0

  -- a link out of a node leaves the source where the node is the source
  pub leaves_source-out : leaves_source code.net link ≡ (node == code.net.source)
  leaves_source-out = leaves_source-tail code.net link (live-below code pattern link live_out) ∙ ap (λ n. n == code.net.source) out.1

  -- its operands by the node's plan
  pub operands_of-plan : operands_of (plan_of code pattern node) link ≡ live_operands code pattern link
  operands_of-plan = ap (λ n. operands_of (plan_of code pattern n) link) (sym out.1) ∙ operands_of-live code pattern link live_out

module _ (code : Code) (pattern node : ℕ) (window : Window) (relay : Relay) (takes : TakesTraffic code pattern node window relay) (is_plan : IsPlan relay.plan) where
  -- what came of an operand is what it stands for
  input-traffic : (generation link piece : ℕ) (operand : Operand) → IsBegun relay generation → Contains (outs_of code pattern node) link → piece < pieces
      → input_place relay.plan operand.from < input_count relay.plan → has_input relay generation operand.from piece ≡ true
      → input_at relay generation operand.from piece
      ≡ operand_payload code (block_at window generation) piece (payload_in code pattern (block_at window generation) piece) link operand
  input-traffic generation link piece operand begun stands low place came = by relay.plan.is_source refl
    where
      block : List ℕ
      block = block_at window generation

      same : relay.plan.is_source ≡ leaves_source code.net link
      same = ap (λ (plan : Plan). plan.is_source) takes.plan ∙ sym (leaves_source-out code pattern node link stands)

      rate : relay.plan.rate ≡ code.rate
      rate = ap (λ (plan : Plan). plan.rate) takes.plan

      by : (b : Bool) → relay.plan.is_source ≡ b → input_at relay generation operand.from piece ≡ operand_payload code block piece (payload_in code pattern block piece) link operand
      by true is =
          let row : operand.from < code.rate = subst (λ n. operand.from < n) rate (subst (λ b. (if b then operand.from else place_in relay.plan.ins operand.from) < (if b then relay.plan.rate else length relay.plan.ins)) is place) in
          takes.rows is generation operand.from piece begun row low came
          ∙ ap (λ (b : Bool). if b then piece_of_row (row_of block operand.from) piece else payload_in code pattern block piece operand.from) (sym is ∙ same)
      by false is =
          let within : place_in relay.plan.ins operand.from < length relay.plan.ins = subst (λ b. (if b then operand.from else place_in relay.plan.ins operand.from) < (if b then relay.plan.rate else length relay.plan.ins)) is place in
          takes.traffic generation operand.from piece begun (Contains-place_in relay.plan.ins operand.from within) low came
          ∙ ap (λ (b : Bool). if b then piece_of_row (row_of block operand.from) piece else payload_in code pattern block piece operand.from) (sym is ∙ same)

  -- the packet given is that of the traffic
  pub gives-traffic : (packet : Packet) (new : Relay) → Gives packet relay new → packet ≡ packet_of code pattern window (key_of packet)
  gives-traffic packet new gives =
      ap (λ (payload : List ℕ). record { link = packet.link; generation = packet.generation; piece = packet.piece; payload = payload })
      (gives.payload ∙ same_field ∙ same_sum ∙ sym (payload-sum code pattern block is_block packet.piece gives.due.out.of_piece packet.link (live_out code pattern node packet.link stands)))
    where
      block : List ℕ
      block = block_at window packet.generation

      is_block : IsBlockOf code block
      is_block = takes.blocks packet.generation gives.due.out.begun

      stands : Contains (outs_of code pattern node) packet.link
      stands = subst (λ (plan : Plan). Contains plan.outs packet.link) takes.plan gives.due.out.leaves

      came : Operand → List ℕ
      came operand = input_at relay packet.generation operand.from packet.piece

      same_field : sum_of relay.plan.field (operands_of relay.plan packet.link) came ≡ sum_of code.field (live_operands code pattern packet.link) came
      same_field =
          ap (λ (plan : Plan). sum_of plan.field (operands_of plan packet.link) came) takes.plan
          ∙ ap (λ (operands : List Operand). sum_of code.field operands came) (operands_of-plan code pattern node packet.link stands)

      each : All (λ operand. came operand ≡ operand_payload code block packet.piece (payload_in code pattern block packet.piece) packet.link operand) (operands_of relay.plan packet.link)
      each k d within =
          let operand = get_or (operands_of relay.plan packet.link) k d in
          let out = place_in-within relay.plan.outs packet.link gives.due.out.leaves in
          let place = is_plan.inputs (out_place relay.plan packet.link) [] (omega (arith, out, is_plan.each_out)) k d within in
          let has = AllPass-from_list_all (λ (operand : Operand). has_input relay packet.generation operand.from packet.piece) (operands_of relay.plan packet.link) gives.due.complete k d within in
          input-traffic packet.generation packet.link packet.piece operand gives.due.out.begun stands gives.due.out.of_piece place has

      same_sum : sum_of code.field (live_operands code pattern packet.link) came
          ≡ sum_of code.field (live_operands code pattern packet.link) (operand_payload code block packet.piece (payload_in code pattern block packet.piece) packet.link)
      same_sum =
          sum_of-agree code.field (live_operands code pattern packet.link) came (operand_payload code block packet.piece (payload_in code pattern block packet.piece) packet.link)
          (subst (All (λ operand. came operand ≡ operand_payload code block packet.piece (payload_in code pattern block packet.piece) packet.link operand))
          (ap (λ (plan : Plan). operands_of plan packet.link) takes.plan ∙ operands_of-plan code pattern node packet.link stands) each)
