use Rattle.std.proofs.Common.{◌≡◌, ◌∙◌, refl, sym, ap, true, false, Ok}
use Rattle.std.specs.Str.{bytes_eq}
use Rattle.std.proofs.lemmas.Bool.{not-false}
use Rattle.generation_frame.specs.Frames.{frame_read}
use Rattle.link_streams.specs.Reading.{taken}
use Rattle.link_streams.specs.Streams.{Stream, has_place, place_of}
use Rattle.link_streams.proofs.ReadingLaws.{taken-known, taken-new}
use Rattle.link_streams.proofs.stream.Stream.take_frame.Goals as goal

pub returns-in-Some-2-clause-taken : goal.returns-in-Some-2-clause-taken
returns-in-Some-2-clause-taken c =
    let now = c.args.self.now in
    let packet = c.in-Ok.packet in
    let read : frame_read c.args.frame.now ≡ Ok packet = ap frame_read (sym c.copy_from_slice.ensures.after) ∙ sym c.read_frame.ensures.value ∙ c.in-Ok.is in
    let link : packet.link ≡ now.link = c.if-packet-self.false ∙ ap (λ (stream : Stream). stream.link) c.self.view_is in
    let equal : bytes_eq c.in-Some.one.now.payload packet.payload ≡ true = not-false _ (sym c.ne.ensures ∙ c.if-ne.false) in
    ap (taken now.link c.args.at now.packets) read
    ∙ taken-known now.link c.args.at now.packets c.in-Some.one.now packet link c.in-Some.ensures.stream.rising c.in-Some.ensures.found (c.in-Some.ensures.place ∙ c.place_of.ensures) equal

pub returns-in_ok-put-in-None-clause-taken : goal.returns-in_ok-put-in-None-clause-taken
returns-in_ok-put-in-None-clause-taken c =
    let now = c.args.self.now in
    let packet = c.in-Ok.packet in
    let read : frame_read c.args.frame.now ≡ Ok packet = ap frame_read (sym c.copy_from_slice.ensures.after) ∙ sym c.read_frame.ensures.value ∙ c.in-Ok.is in
    let link : packet.link ≡ now.link = c.if-packet-self.false ∙ ap (λ (stream : Stream). stream.link) c.self.view_is in
    let lacks : has_place now.packets (place_of packet) ≡ false = ap (has_place now.packets) (sym c.place_of.ensures) ∙ c.in-None.ensures.none refl in
    ap (taken now.link c.args.at now.packets) read ∙ taken-new now.link c.args.at now.packets packet link lacks ∙ ap Ok (sym c.in_ok-put-in-None.ensures.packets)
