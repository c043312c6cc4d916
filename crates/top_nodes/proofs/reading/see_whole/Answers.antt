use Rattle.std.proofs.Common.{◌≡◌, ◌<◌, get_or, length, sym, ap, ◌∙◌, arith, Some, refl}
use Rattle.std.proofs.lemmas.List.{get_or-map, length-map}
use Rattle.std.proofs.lemmas.Option.{get_or_from_slice_get}
use Rattle.generation_frame.specs.declared.stream_why.StreamWhy.TheVariants.{Missing}
use Rattle.link_streams.specs.Streams.{Stream}
use Rattle.top_nodes.specs.Files.{stream_refused}
use Rattle.top_nodes.proofs.ReadingLaws.{lacking_here, lacking_later}
use Rattle.top_nodes.proofs.reading.see_whole.Goals as goal

pub returns-in-Some-clause-lacking : goal.returns-in-Some-clause-lacking
returns-in-Some-clause-lacking c =
    let net = c.args.net.now in
    let streams = c.args.streams.now in
    let i = c.loop-place.place in
    let stream = c.at.result.now in
    let at = c.in-Some.field-0 in
    let within : i < length streams = omega (arith, ap length c.requires.streams, length-map streams (λ (one : Stream). one.link)) in
    let here = get_or_from_slice_get streams i stream stream c.at.ensures in
    let link : get_or c.args.links.now i 0 ≡ stream.link =
    ap (λ links. get_or links i 0) (sym c.requires.streams) ∙ get_or-map (λ (one : Stream). one.link) streams i stream 0 within ∙ ap (λ (one : Stream). one.link) here in
    lacking_here net c.args.count streams i stream at within c.loop-place.invariant here c.in-Some.ensures.missing
    ∙ ap (λ link. Some (stream_refused net link (Missing at.generation at.piece))) (sym link) ∙ ap Some (sym c.stream_refused.ensures)

pub loop-place-preserved : goal.loop-place-preserved
loop-place-preserved c =
    let streams = c.args.streams.now in
    let i = c.loop-place.place in
    let stream = c.at.result.now in
    let within : i < length streams = omega (arith, ap length c.requires.streams, length-map streams (λ (one : Stream). one.link)) in
    lacking_later c.args.net.now c.args.count streams i stream within c.loop-place.invariant (get_or_from_slice_get streams i stream stream c.at.ensures) (c.in_default.ensures.whole refl)
