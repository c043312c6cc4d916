-- The links whose streams a sink wants.
use Rattle.std.specs.Prelude.{◌≡◌, ◌<◌, ◌+◌, ◌∷◌, ◌++◌, [], ℕ, Bool, true, false, if◌then◌else◌, filter, slice_get, take, All, List, Option, Some, length}
use Rattle.std.specs.Option.{option_map_or}
use Rattle.std.proofs.Common.{refl, sym, ap, ◌∙◌, get_or}
use Rattle.std.proofs.lemmas.List.{append-nil}
use Rattle.std.proofs.lemmas.List.Elements.{All-filter, All-same, filter_more}
use Rattle.std.proofs.lemmas.Nat.{mod-mul-add}
use Rattle.failure_patterns.proofs.DemandLaws.{number_within}
use Rattle.failure_patterns.specs.Demands.{number_of}
use Rattle.link_streams.proofs.GatherLaws.{wanted-live}
use Rattle.link_streams.specs.Gathering.{wanted_links}
use Rattle.net_model.specs.Demands.{pattern_of_demand}
use Rattle.net_model.specs.declared.Demand.{Demand}
use Rattle.node_program.proofs.DecodingLaws.{decoder_of_demand}
use Rattle.node_program.specs.CodeValue.{is_live_in}
use Rattle.node_program.specs.declared.Decoder.{Decoder}
use Rattle.node_program.specs.declared.code.Code.{Code}
use Rattle.sink_decoder.proofs.OpeningLaws.{links_within}
use Rattle.sink_decoder.specs.Receiving.{links_of, sink_plan_of}

-- the live ones of a demand's decoder are those that its sink wants
pub wanted_all : (at_hand code : Code) (demand : Demand) (number : ℕ) (decoder : Decoder) → at_hand ≡ code → number ≡ number_of at_hand.net demand → demand.pattern < length code.net.patterns
    → slice_get at_hand.decoders number ≡ Some decoder → filter (is_live_in code demand.pattern) decoder.links ≡ wanted_links (sink_plan_of code (number_of code.net demand))
wanted_all at_hand code demand number decoder same is below found =
    let numbered = number_of code.net demand in
    let named : number ≡ numbered = is ∙ ap (λ (code : Code). number_of code.net demand) same in
    let at : slice_get code.decoders numbered ≡ Some decoder = ap (slice_get code.decoders) (sym named) ∙ ap (λ (code : Code). slice_get code.decoders number) (sym same) ∙ found in
    let links : links_of code numbered ≡ decoder.links = ap (λ (found : Option Decoder). option_map_or (λ (one : Decoder). one.links) found []) at in
    let pattern : pattern_of_demand code.net numbered ≡ demand.pattern = mod-mul-add demand.sink (length code.net.patterns) demand.pattern below in
    sym (wanted-live code numbered ∙ ap (λ pattern. filter (is_live_in code pattern) (links_of code numbered)) pattern ∙ ap (filter (is_live_in code demand.pattern)) links)

-- and they are links of the network
pub wanted_within : (code : Code) (demand : Demand) (links : List ℕ) → demand.sink < length code.net.sinks → demand.pattern < length code.net.patterns → links ≡ wanted_links (sink_plan_of code (number_of code.net demand))
    → All (λ link. link < length code.net.links) links
wanted_within code demand links sink pattern are =
    let number = number_of code.net demand in
    let found = decoder_of_demand code.code number (number_within code.net demand sink pattern) in
    let all = links_within code number found.0 (number_within code.net demand sink pattern) found.1 in
    let live = is_live_in code demand.pattern in
    All-same (λ link. link < length code.net.links) links (filter live found.0.links) (are ∙ sym (wanted_all code code demand number found.0 refl refl pattern found.1))
    (All-filter live (λ link. link < length code.net.links) found.0.links all)

-- those among one link more, where it is live and where it isn't
module _ (live : ℕ → Bool) (links : List ℕ) (i : ℕ) (front : List ℕ) (within : i < length links) (was : front ≡ filter live (take i links)) where
  more_by : (test : Bool) → live (get_or links i 0) ≡ test → filter live (take (i + 1) links) ≡ front ++ (if test then get_or links i 0 ∷ [] else [])
  more_by test is =
      let link = get_or links i 0 in
      filter_more live links i 0 within ∙ ap (λ test. filter live (take i links) ++ (if test then link ∷ [] else [])) is ∙ ap (λ front. front ++ (if test then link ∷ [] else [])) (sym was)

  pub wanted_here : live (get_or links i 0) ≡ true → front ++ get_or links i 0 ∷ [] ≡ filter live (take (i + 1) links)
  wanted_here is = sym (more_by true is)

  pub wanted_elsewhere : live (get_or links i 0) ≡ false → front ≡ filter live (take (i + 1) links)
  wanted_elsewhere is = sym (append-nil front) ∙ sym (more_by false is)
