-- The stations begin the window, and the source is fed its blocks.
use Rattle.std.proofs.Common.{◌<◌, ap, get_or, refl}
use Rattle.std.proofs.lemmas.List.Elements.{All-from_get_or}
use Rattle.linear_algebra.specs.Elements.{AreBytes}
use Rattle.relay_runner.proofs.StartingLaws.{can-start, source-ready}
use Rattle.relay_runner.proofs.starting.start_window.Goals as goal

pub feed_blocks-requires : goal.feed_blocks-requires
feed_blocks-requires g c =
    let code = c.args.code.now in
    let mid = c.begin_stations.new.stations in
    let is = ap (get_or mid code.net.source) c.index-stations-source.is in
    let ready = source-ready code c.requires.planned.0 c.args.first c.args.blocks.now c.args.stations.now mid c.requires.planned.1 c.begin_stations.ensures
    code.net.source (get_or mid code.net.source c.index-stations-source.result) refl is in
    record {
      source = ready.source;
      first = ready.first;
      count = ready.count;
      last = c.requires.blocks.last;
      nothing = ready.nothing;
      size = ready.size;
      blocks = c.requires.blocks.whole;
    }

pub returns-clause-starts : goal.returns-clause-starts
returns-clause-starts g c = λ pattern pattern_is planned.
    let code = c.args.code.now in
    let mid = c.begin_stations.new.stations in
    let is = ap (get_or mid code.net.source) c.index-stations-source.is in
    let bytes : AreBytes c.args.blocks.now = All-from_get_or (λ byte. byte < 256) c.args.blocks.now 0 (λ k within. (c.type_inv.blocks k).fits) in
    can-start code pattern c.args.first c.args.blocks.now c.args.stations.now mid planned c.begin_stations.ensures
    code.net.source (get_or mid code.net.source c.index-stations-source.result) refl is pattern_is c.requires.blocks bytes c.feed_blocks.new.source
    c.feed_blocks.ensures
