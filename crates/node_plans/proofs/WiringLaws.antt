-- The listed links are the wiring of a code, and what its plans are made of.
use Rattle.std.specs.Prelude.{◌≡◌, ℕ, ◌<◌, ◌≤◌, ◌==◌, ◌&&◌, ◌||◌, Bool, true, false, Option, Some, List, All, Contains, Vec, filter, length, map, slice_get, slice_index_or}
use Rattle.std.specs.Global.{Global}
use Rattle.std.specs.List.{position_or_len, range_with_len}
use Rattle.std.proofs.Common.{refl, sym, ◌∙◌, ap, arith, get_or, inl, inr}
use Rattle.std.proofs.lemmas.Bool.{cases_Bool}
use Rattle.std.proofs.lemmas.List.Elements.{All-contains}
use Rattle.std.proofs.lemmas.Option.{get_or_from_slice_get}
use Rattle.net_model.specs.Walks.{head_of, leaves_source, tail_of}
use Rattle.node_program.proofs.LiveLaws.{live-below}
use Rattle.node_program.proofs.OperandLaws.{operands_of_draft}
use Rattle.item_list.proofs.Maps.{map-agree}
use Rattle.node_program.specs.CodeValue.{is_live_in, reads_live_in}
use Rattle.node_program.specs.Operands.{IsOperand}
use Rattle.node_program.specs.Value.{operands_at}
use Rattle.node_program.specs.declared.code.Code.{Code}
use Rattle.coded_traffic.specs.Traffic.{live_operands}
use Rattle.item_list.proofs.Positions.{Contains-place_in}
use Rattle.node_plans.proofs.ListLaws.{filter-agree, range-below}
use Rattle.node_plans.proofs.ListedLaws.{items_of-read, length-items_of}
use Rattle.node_plans.proofs.PlanLaws.{ins-each, outs-each, position-ending}
use Rattle.node_plans.specs.Listed.{AreListed, ending_at, is_live_by, items_of, operands_by}
use Rattle.node_plans.specs.Plans.{input_count, input_place, ins_of, outs_of, plan_of}
use Rattle.node_plans.specs.SinkPlaces.{AreSinkPlaces}
use Rattle.node_plans.specs.Wired.{HasPlaces, IsWiringOf, Wired}
use Rattle.node_plans.specs.declared.listing.Listed.{Listed}
use Rattle.node_plans.specs.declared.plan.Plan.{Plan}

-- a table of the links that are live under a pattern
module _ (code : Code) (pattern : ℕ) (live : List Bool)
    (entries : (link : ℕ) → link < length code.net.links → slice_get live link ≡ Some (is_live_in code pattern link)) where
  entry : (link : ℕ) → link < length code.net.links → is_live_by live link ≡ is_live_in code pattern link
  entry link within = get_or_from_slice_get live link (is_live_in code pattern link) false (entries link within)

  -- the links that the table has at a node are the live ones there
  ending_at-live : (end : ℕ → ℕ) (bound node : ℕ) → bound ≤ length code.net.links
      → ending_at live end bound node ≡ filter (λ link. is_live_in code pattern link && (end link == node)) (range_with_len 0 bound)
  ending_at-live end bound node few =
      filter-agree (λ link. is_live_by live link && (end link == node)) (λ link. is_live_in code pattern link && (end link == node)) (λ link. link < bound)
      (λ link below. ap (λ (is : Bool). is && (end link == node)) (entry link (omega arith)))
      (range_with_len 0 bound) (range-below bound)

  -- and the operands that it leaves a link are the live ones
  pub operands_by-live : (link : ℕ) → link < length code.net.links → operands_by code live link ≡ live_operands code pattern link
  operands_by-live link within =
      filter-agree (λ operand. leaves_source code.net link || is_live_by live operand.from) (reads_live_in code pattern link)
      (IsOperand code.net code.rate code.field link)
      (λ operand is. elim (cases_Bool (leaves_source code.net link)) [
        | inl leaves ↦ rw leaves refl
        | inr inner ↦ let earlier : operand.from < link = is.earlier_link inner in rw inner (entry operand.from (omega arith))
      ])
      (operands_at code.operands link) (operands_of_draft code.code.draft link)

  -- what is listed by it is the wiring, with the places of the sinks
  pub IsWiringOf-listed : (listed : Listed) (places : List ℕ) (sinks : List (Option ℕ)) → length live ≡ length code.net.links
      → AreListed code live (length code.net.links) listed → places ≡ listed.places.items → AreSinkPlaces code code.net.sinks sinks
      → IsWiringOf code pattern (record { live = live; ins = items_of listed.ins.items; outs = items_of listed.outs.items; places = places; sinks = sinks })
  IsWiringOf-listed listed places sinks count are same at_sinks = record {
    live_count = count;
    live = entries;
    ins_count = are.ins.count;
    ins = λ node within. are.ins.each node within ∙ ending_at-live (head_of code.net.links) (length code.net.links) node (omega arith);
    outs_count = are.outs.count;
    outs = λ node within. are.outs.each node within ∙ ending_at-live (tail_of code.net.links) (length code.net.links) node (omega arith);
    place_count = ap (length {A = ℕ}) same ∙ are.place_count;
    place = λ link within alive.
        let head : ℕ = head_of code.net.links link in
        ap (λ (places : List ℕ). get_or places link 0) same ∙ are.place link within (entry link within ∙ alive)
        ∙ ap (length {A = ℕ}) (ending_at-live (head_of code.net.links) link head (omega arith))
        ∙ sym (position-ending code pattern (head_of code.net.links) link alive);
    sink_count = at_sinks.count;
    sink = at_sinks.each;
  }

-- the lists of a wiring, as they are read at a node
module _ (code : Code) (pattern node : ℕ) (within : node < length code.net.nodes) (live : List Bool) (ins outs : List (Vec ℕ Global)) (places : List ℕ)
    (sinks : List (Option ℕ)) (is : IsWiringOf code pattern (record { live = live; ins = items_of ins; outs = items_of outs; places = places; sinks = sinks }))
    (found : Vec ℕ Global) where
  pub ins-read : found ≡ slice_index_or ins node found → found.items ≡ ins_of code pattern node
  ins-read read = items_of-read ins node found (omega (arith, is.ins_count, length-items_of ins)) read ∙ is.ins node within

  pub outs-read : found ≡ slice_index_or outs node found → found.items ≡ outs_of code pattern node
  outs-read read = items_of-read outs node found (omega (arith, is.outs_count, length-items_of outs)) read ∙ is.outs node within

module _ (code : Code) (pattern node : ℕ) where
  -- each link out of a node is one of the network's
  pub outs_of-below : All (λ link. link < length code.net.links) (outs_of code pattern node)
  outs_of-below k d within = live-below code pattern (get_or (outs_of code pattern node) k d) (outs-each code pattern node k d within).0

  -- the operands of the links out of it
  pub operands_of-outs : (live : List Bool) → ((link : ℕ) → link < length code.net.links → slice_get live link ≡ Some (is_live_in code pattern link))
      → map (operands_by code live) (outs_of code pattern node) ≡ map (live_operands code pattern) (outs_of code pattern node)
  operands_of-outs live entries =
      map-agree (operands_by code live) (live_operands code pattern) (λ link. link < length code.net.links) (operands_by-live code pattern live entries)
      (outs_of code pattern node) outs_of-below

  -- the places of a wiring are those of the links into each node
  pub HasPlaces-wiring : (wired : Wired) → IsWiringOf code pattern wired → HasPlaces (plan_of code pattern node) wired.places
  HasPlaces-wiring wired is = record {
    within = λ inner link there. omega (arith, live-below code pattern link (into link there).0, is.place_count);
    place = λ inner link there.
        let ins : ins_of code pattern (head_of code.net.links link) ≡ ins_of code pattern node = ap (ins_of code pattern) (into link there).1 in
        rw inner (is.place link (live-below code pattern link (into link there).0) (into link there).0 ∙ ap (position_or_len (λ one. one == link)) ins);
  }
    where
      into : (link : ℕ) → Contains (ins_of code pattern node) link → (is_live_in code pattern link ≡ true) × (head_of code.net.links link ≡ node)
      into link there = All-contains (λ link. (is_live_in code pattern link ≡ true) × (head_of code.net.links link ≡ node)) (ins_of code pattern node) link (ins-each code pattern node) there

-- what has a place among the inputs of a node that isn't the source is a link into it
pub Contains-input : (plan : Plan) (from : ℕ) → input_place plan from < input_count plan → plan.is_source ≡ false → Contains plan.ins from
Contains-input plan from below inner = Contains-place_in plan.ins from (rw inner at below)
