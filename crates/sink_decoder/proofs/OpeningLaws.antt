-- The plan with which a sink begins.
use Rattle.std.specs.Prelude.{◌≡◌, ◌<◌, ℕ, Bool, true, false, Some, List, All, length, map, slice_get, slice_index_or, ◌∷◌, ◌++◌, [], take, ◌+◌}
use Rattle.std.proofs.Common.{arith, refl, sym, ap, subst, ◌∙◌}
use Rattle.std.proofs.lemmas.List.{length-map, map_more}
use Rattle.std.proofs.lemmas.List.Elements.{All-weaker}
use Rattle.std.proofs.lemmas.Nat.{mod-mul-add}
use Rattle.std.proofs.lemmas.Option.{get_or_from_slice_get}
use Rattle.generation_frame.specs.Blocks.{most_blocks}
use Rattle.failure_patterns.specs.Demands.{number_of}
use Rattle.net_model.specs.Demands.{demand_count, pattern_of_demand, sink_of_demand}
use Rattle.net_model.specs.declared.Demand.{Demand}
use Rattle.node_program.proofs.DecodingLaws.{decoder_shape, link_within}
use Rattle.item_list.proofs.Maps.{map-agree}
use Rattle.node_program.specs.Code.{leads_into}
use Rattle.node_program.specs.CodeValue.{is_live_in}
use Rattle.node_program.specs.declared.Decoder.{Decoder}
use Rattle.node_program.specs.declared.code.Code.{Code}
use Rattle.held_rows.specs.Held.{Held, row_count}
use Rattle.sink_decoder.specs.Receiving.{IsReceiver, SinkPlan, receiver_of, sink_plan_of}

-- a plan over the field and with the rate of a code
abbrev pub plan_by : Code → List ℕ → List Bool → List ℕ → SinkPlan
plan_by code links live entries = record { field = code.field; rate = code.rate; links = links; live = live; entries = entries }

-- its links are links of the network
pub links_within : (code : Code) (demand : ℕ) (decoder : Decoder) → demand < demand_count code.net → slice_get code.decoders demand ≡ Some decoder
    → All (λ link. link < length code.net.links) decoder.links
links_within code demand decoder within found =
    let Into : ℕ → Type 0 = λ link. leads_into code.net.links (sink_of_demand code.net demand) link ≡ true in
    All-weaker Into (λ link. link < length code.net.links) (λ link into. link_within code.net.links (sink_of_demand code.net demand) link into)
    decoder.links (decoder_shape code demand decoder within found).into_sink

-- of one more link, whether it is live
pub live_among-more : (live : List Bool) (links : List ℕ) (among now : List Bool) (k : ℕ) (one : Bool) → k < length links → slice_get live (slice_index_or links k 0) ≡ Some one
    → among ≡ map (λ link. slice_index_or live link false) (take k links) → now ≡ among ++ one ∷ []
    → now ≡ map (λ link. slice_index_or live link false) (take (k + 1) links)
live_among-more live links among now k one within read so_far more =
    let test = λ (link : ℕ). slice_index_or live link false in
    more
    ∙ ap (λ (before : List Bool). before ++ one ∷ []) so_far
    ∙ ap (λ (last : Bool). map test (take k links) ++ last ∷ []) (sym (get_or_from_slice_get live (slice_index_or links k 0) one false read))
    ∙ sym (map_more test links k 0 within)

-- the parts of a demand's decoder, and what a table says of its links, are the plan of its sink
sink_plan-found : (code : Code) (demand : Demand) (decoder : Decoder) (live : List Bool) → demand.pattern < length code.net.patterns
    → number_of code.net demand < demand_count code.net → slice_get code.decoders (number_of code.net demand) ≡ Some decoder
    → ((e : ℕ) → e < length code.net.links → slice_get live e ≡ Some (is_live_in code demand.pattern e))
    → plan_by code decoder.links (map (λ link. slice_index_or live link false) decoder.links) decoder.entries ≡ sink_plan_of code (number_of code.net demand)
sink_plan-found code demand decoder live below within found table =
    let number = number_of code.net demand in
    let pattern : pattern_of_demand code.net number ≡ demand.pattern = mod-mul-add demand.sink (length code.net.patterns) demand.pattern below in
    let lives : map (λ link. slice_index_or live link false) decoder.links ≡ map (is_live_in code demand.pattern) decoder.links =
    map-agree (λ link. slice_index_or live link false) (is_live_in code demand.pattern) (λ link. link < length code.net.links)
    (λ link inside. get_or_from_slice_get live link (is_live_in code demand.pattern link) false (table link inside))
    decoder.links (links_within code number decoder within found) in
    let known : plan_by code decoder.links (map (is_live_in code (pattern_of_demand code.net number)) decoder.links) decoder.entries ≡ sink_plan_of code number = rw found refl in
    ap (λ (live : List Bool). plan_by code decoder.links live decoder.entries) lives
    ∙ ap (λ (p : ℕ). plan_by code decoder.links (map (is_live_in code p) decoder.links) decoder.entries) (sym pattern) ∙ known

-- what was read of a code, and of the table of its live links
module _ (code : Code) (number : ℕ) (decoder : Decoder) (live among : List Bool) (links listed entries : List ℕ)
    (within : number < demand_count code.net) (found : slice_get code.decoders number ≡ Some decoder)
    (same_listed : listed ≡ decoder.links) (same_links : links ≡ listed) (same_entries : entries ≡ decoder.entries)
    (same_among : among ≡ map (λ link. slice_index_or live link false) listed) where
  -- it is the plan of the demand's sink
  pub sink_plan-opened : (now : Code) (demand : Demand) → code ≡ now → number ≡ number_of code.net demand → demand.pattern < length now.net.patterns
      → ((e : ℕ) → e < length now.net.links → slice_get live e ≡ Some (is_live_in now demand.pattern e))
      → plan_by code links among entries ≡ sink_plan_of now (number_of now.net demand)
  sink_plan-opened now demand same numbered below table =
      let test = λ (link : ℕ). slice_index_or live link false in
      let Found : Code → Type 0 = λ code. slice_get code.decoders (number_of code.net demand) ≡ Some decoder in
      let Within : Code → Type 0 = λ code. number_of code.net demand < demand_count code.net in
      ap (λ (code : Code). plan_by code links among entries) same
      ∙ ap (λ (l : List ℕ). plan_by now l among entries) (same_links ∙ same_listed)
      ∙ ap (λ (l : List Bool). plan_by now decoder.links l entries) (same_among ∙ ap (map test) same_listed)
      ∙ ap (plan_by now decoder.links (map test decoder.links)) same_entries
      ∙ sink_plan-found now demand decoder live below (subst Within same (subst (λ (n : ℕ). n < demand_count code.net) numbered within))
      (subst Found same (ap (slice_get code.decoders) (sym numbered) ∙ found)) table

  -- with rows for its links a sink begins
  pub IsReceiver-opened : (came : List Held) → length came ≡ most_blocks → All (λ held. row_count held ≡ code.rate) came
      → IsReceiver (receiver_of code.field code.rate links among entries 0 0 came)
  IsReceiver-opened came windows counts =
      let is = decoder_shape code number decoder within found in
      let count : length among ≡ code.rate =
      ap (length {A = Bool}) same_among ∙ length-map listed (λ link. slice_index_or live link false) ∙ ap (length {A = ℕ}) same_listed ∙ is.link_count in
      let opened : IsReceiver (receiver_of code.field code.rate decoder.links among decoder.entries 0 0 came) = record {
        low_rate = code.code.draft.low_rate;
        link_count = is.link_count;
        rising = is.rising;
        live_count = count;
        entry_count = is.entry_count;
        elements = is.elements;
        few_generations = omega arith;
        windows = windows;
        rows = counts;
      } in
      let Kept : List ℕ → List ℕ → Type 0 = λ links entries. IsReceiver (receiver_of code.field code.rate links among entries 0 0 came) in
      subst (λ (l : List ℕ). Kept l entries) (sym (same_links ∙ same_listed)) (subst (Kept decoder.links) (sym same_entries) opened)
