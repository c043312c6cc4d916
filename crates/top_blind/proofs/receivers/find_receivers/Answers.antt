use Rattle.std.proofs.Common.{◌≡◌, ◌≤◌, ◌<◌, ◌+◌, ◌++◌, ◌∷◌, [], ℕ, Some, List, Vec, Global, All, flat_map, length, map, slice_get, string_bytes, take, sym, ap, subst, ◌∙◌, arith}
use Rattle.std.proofs.lemmas.List.{flat_map_more, take_all}
use Rattle.std.proofs.lemmas.List.Elements.{All-nil, All-same}
use Rattle.std.proofs.lemmas.Option.{get_or_from_slice_get}
use Rattle.name_texts.proofs.NameLaws.{sink_in_range}
use Rattle.node_program.specs.declared.code.Code.{Code}
use Rattle.top_base.specs.Lines.{rank_line}
use Rattle.top_blind.proofs.OutputLaws.{paths-append, take_sink}
use Rattle.top_blind.specs.Blind.{paths_among, ranks_text}
use Rattle.top_blind.specs.Ranked.{HasRank}
use Rattle.vector_headers.specs.Receiving.{rank_into}
use Rattle.top_blind.proofs.receivers.find_receivers.Given as given
use Rattle.top_blind.proofs.receivers.find_receivers.Goals as goal
use Rattle.top_blind.proofs.receivers.find_receivers.Goals.{After-at}

pub loop-place-init : goal.loop-place-init
loop-place-init g c =
    let fabric = c.args.fabric.now in
    record {
      field = c.requires.field;
      rate = c.requires.rate;
      lines = c.new.ensures.items;
      paths = ap (map string_bytes) c.in_ok-with_capacity.ensures.items;
      each = c.in_ok-with_capacity-2.ensures.len ∙ sym c.in_ok-with_capacity.ensures.len;
      ranked = All-same (λ (links : Vec ℕ Global). HasRank fabric.code fabric.failed links.items) c.in_ok-with_capacity-2.field-0.items [] c.in_ok-with_capacity-2.ensures.items
          (All-nil (λ (links : Vec ℕ Global). HasRank fabric.code fabric.failed links.items));
    }

-- the sink of the place
there : (g : given.Over) (c : After-at g) → slice_get c.args.fabric.now.code.net.sinks c.loop-place.place ≡ Some c.at.result.now
there g c = ap (λ (code : Code). slice_get code.net.sinks c.loop-place.place) (sym c.code.ensures) ∙ c.at.ensures

within : (g : given.Over) (c : After-at g) → c.loop-place.place < length c.args.fabric.now.code.net.sinks
within g c = omega (arith, c.loop-place-test.true, c.len-place-end.ensures, ap (λ (code : Code). length code.net.sinks) c.code.ensures)

pub add_sink-requires-clause-sink : goal.add_sink-requires-clause-sink
add_sink-requires-clause-sink g c =
    let at = (goal.at.add_sink-requires-clause-sink g c).After-at in
    let net = c.args.fabric.now.code.net in
    let sink = c.at.result.now in
    subst (λ sink. sink < length net.nodes) (get_or_from_slice_get net.sinks c.loop-place.place sink 0 (there g at)) (sink_in_range net c.loop-place.place (within g at))

pub add_sink-requires-clause-field : goal.add_sink-requires-clause-field
add_sink-requires-clause-field g c = c.loop-place.invariant.field

pub add_sink-requires-clause-rate : goal.add_sink-requires-clause-rate
add_sink-requires-clause-rate g c = c.loop-place.invariant.rate

pub add_sink-requires-clause-each : goal.add_sink-requires-clause-each
add_sink-requires-clause-each g c = c.loop-place.invariant.each

pub add_sink-requires-clause-ranked : goal.add_sink-requires-clause-ranked
add_sink-requires-clause-ranked g c = c.loop-place.invariant.ranked

pub returns-in_err-add_sink-clause-field : goal.returns-in_err-add_sink-clause-field
returns-in_err-add_sink-clause-field g c = c.add_sink.ensures.field ∙ c.loop-place.invariant.field ∙ sym c.requires.field

pub returns-in_err-add_sink-clause-rate : goal.returns-in_err-add_sink-clause-rate
returns-in_err-add_sink-clause-rate g c = c.add_sink.ensures.rate ∙ c.loop-place.invariant.rate ∙ sym c.requires.rate

pub loop-place-preserved : goal.loop-place-preserved
loop-place-preserved g c =
    let at = (goal.at.loop-place-preserved g c).After-at in
    let code = c.args.fabric.now.code in
    let failed = c.args.fabric.now.failed in
    let sink = c.at.result.now in
    let n = c.loop-place.place in
    let line : ℕ → List ℕ = λ sink. rank_line code.net code.rate sink (rank_into code failed sink) in
    let more = take_sink code.net.sinks n sink (within g at) (there g at) in
    record {
      field = c.add_sink.ensures.field ∙ c.loop-place.invariant.field;
      rate = c.add_sink.ensures.rate ∙ c.loop-place.invariant.rate;
      lines = c.in_ok-add_sink.ensures.lines ∙ ap (λ front. front ++ line sink) c.loop-place.invariant.lines ∙ flat_map_more line [] (take n code.net.sinks) sink ∙ ap (flat_map line) (sym more);
      paths = c.in_ok-add_sink.ensures.paths ∙ ap (λ front. front ++ paths_among c.args.prefix.now code failed (sink ∷ [])) c.loop-place.invariant.paths
          ∙ paths-append c.args.prefix.now code failed (take n code.net.sinks) (sink ∷ []) ∙ ap (paths_among c.args.prefix.now code failed) (sym more);
      each = c.in_ok-add_sink.ensures.each;
      ranked = c.in_ok-add_sink.ensures.ranked;
    }

pub returns-in_err-reserve-clause-field : goal.returns-in_err-reserve-clause-field
returns-in_err-reserve-clause-field g c = c.loop-place.invariant.field ∙ sym c.requires.field

pub returns-in_err-reserve-clause-rate : goal.returns-in_err-reserve-clause-rate
returns-in_err-reserve-clause-rate g c = c.loop-place.invariant.rate ∙ sym c.requires.rate

pub returns-clause-field : goal.returns-clause-field
returns-clause-field g c = c.loop-place.invariant.field ∙ sym c.requires.field

pub returns-clause-rate : goal.returns-clause-rate
returns-clause-rate g c = c.loop-place.invariant.rate ∙ sym c.requires.rate

pub returns-clause-lines : goal.returns-clause-lines
returns-clause-lines g c =
    let fabric = c.args.fabric.now in
    let sinks = fabric.code.net.sinks in
    let all : length sinks ≤ c.loop-place.place = omega (arith, c.loop-place-test.false, c.len-place-end.ensures, ap (λ (code : Code). length code.net.sinks) c.code.ensures) in
    c.in_ok-reserve.ensures.items ∙ c.loop-place.invariant.lines ∙ ap (ranks_text fabric.code fabric.failed) (take_all c.loop-place.place sinks all)

pub returns-clause-paths : goal.returns-clause-paths
returns-clause-paths g c =
    let fabric = c.args.fabric.now in
    let sinks = fabric.code.net.sinks in
    let all : length sinks ≤ c.loop-place.place = omega (arith, c.loop-place-test.false, c.len-place-end.ensures, ap (λ (code : Code). length code.net.sinks) c.code.ensures) in
    c.loop-place.invariant.paths ∙ ap (paths_among c.args.prefix.now fabric.code fabric.failed) (take_all c.loop-place.place sinks all)

pub returns-clause-each : goal.returns-clause-each
returns-clause-each g c = c.loop-place.invariant.each

pub returns-clause-ranked : goal.returns-clause-ranked
returns-clause-ranked g c = c.loop-place.invariant.ranked
