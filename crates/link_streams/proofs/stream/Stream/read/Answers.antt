use Rattle.std.proofs.Common.{arith, ◌≡◌, ◌*◌, ◌+◌, ◌-◌, ◌∙◌, sym, ap, subst, inl, inr, ℕ, List, drop, take, Result, Ok, Err}
use Rattle.std.proofs.lemmas.List.{drop_all}
use Rattle.std.proofs.lemmas.Result.{err_from_is_err_and}
use Rattle.generation_frame.specs.Frames.{frame_read}
use Rattle.generation_frame.specs.declared.frame.Packet.{Packet}
use Rattle.generation_frame.specs.declared.stream_why.StreamWhy.{StreamWhy}
use Rattle.link_streams.specs.Reading.{frame_bytes, frames_in, packets_read, reads, taken}
use Rattle.link_streams.specs.Streams.{IsStream}
use Rattle.link_streams.proofs.ReadingLaws.{IsStream-packets_read, length-frames_in, packets_read-whole, reads-more, reads-stopped}
use Rattle.link_streams.proofs.stream.Stream.read.Goals as goal

-- what is taken of a frame of the stream's link is that of the frame of a number
of_frame : (link given number : ℕ) (packets : List Packet) (bytes : List ℕ) (result : Result (List Packet) StreamWhy) → given ≡ link
    → taken given (number * 140) packets (frame_read (take ((number * 140 + 140) - number * 140) (drop (number * 140) bytes))) ≡ result
    → taken link (number * 140) packets (frame_read (take 140 (drop (number * 140) bytes))) ≡ result
of_frame link given number packets bytes result same is =
    let size : (number * 140 + 140) - number * 140 ≡ 140 = omega arith in
    ap (λ link. taken link (number * 140) packets (frame_read (take 140 (drop (number * 140) bytes)))) (sym same)
    ∙ ap (λ size. taken given (number * 140) packets (frame_read (take size (drop (number * 140) bytes)))) (sym size) ∙ is

pub returns-in_err-take_frame-clause-refused : goal.returns-in_err-take_frame-clause-refused
returns-in_err-take_frame-clause-refused c =
    let p = err_from_is_err_and c.from_residual-in_err-take_frame.result c.from_residual-in_err-take_frame.ensures.1 in
    let number = c.reading.number in
    let stream = c.reading.stream in
    let why : StreamWhy = c.in_err-take_frame.field-0.0 in
    rw (p.1, p.2) (elim c.in_err-take_frame.ensures.refused [
      | inl memory ↦ inl memory
      | inr refused ↦ inr (packets_read-whole c.args.link c.args.bytes.now c.if-bytes-ne0.false ∙ c.reading.invariant.frames
          ∙ reads-stopped c.args.link number stream.packets why c.args.bytes.now c.reading-test.true (of_frame c.args.link stream.link number stream.packets c.args.bytes.now (Err why) c.reading.invariant.link refused))
    ])

pub reading-preserved : goal.reading-preserved
reading-preserved c =
    let number = c.reading.number in
    let stream = c.reading.stream in
    let more = c.take_frame.new.self.packets in
    record {
      link = c.in_ok-take_frame.ensures.link ∙ c.reading.invariant.link;
      frames =
          c.reading.invariant.frames
          ∙ reads-more c.args.link number stream.packets more c.args.bytes.now c.reading-test.true
          (of_frame c.args.link stream.link number stream.packets c.args.bytes.now (Ok more) c.reading.invariant.link c.in_ok-take_frame.ensures.taken);
    }

-- what was read at the end
read : (c : goal.After-reading) → packets_read c.args.link c.args.bytes.now ≡ Ok c.reading.stream.packets
read c =
    let number = c.reading.number in
    packets_read-whole c.args.link c.args.bytes.now c.if-bytes-ne0.false ∙ c.reading.invariant.frames
    ∙ ap (reads c.args.link (number * frame_bytes) c.reading.stream.packets) (drop_all number (frames_in c.args.bytes.now) (omega (arith, length-frames_in c.args.bytes.now, c.reading-test.false)))

pub returns-clause-packets : goal.returns-clause-packets
returns-clause-packets c = read c

pub returns-clause-stream : goal.returns-clause-stream
returns-clause-stream c =
    subst (λ link. IsStream (record { link = link; packets = c.reading.stream.packets })) (sym c.reading.invariant.link)
    (IsStream-packets_read c.args.link c.args.bytes.now c.reading.stream.packets (λ i. omega (arith, c.type_inv.bytes i)) (read c))
