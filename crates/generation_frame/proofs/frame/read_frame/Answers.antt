use Rattle.std.proofs.Common.{sym, ap, ◌∙◌, ◌≡◌, length, true, arith}
use Rattle.generation_frame.specs.Frames.{frame_of, is_marked}
use Rattle.generation_frame.proofs.FrameLaws.{frame_of-packet_in}
use Rattle.generation_frame.proofs.frame.read_frame.Goals as goal

pub returns-clause-back : goal.returns-clause-back
returns-clause-back c =
    let whole : length c.args.frame.now ≡ 140 = c.told-frame in
    let marked : is_marked c.args.frame.now ≡ true = sym c.is_marked.ensures ∙ c.if-not-is_marked.false in
    ap (λ packet. frame_of packet) c.packet_in.ensures ∙ frame_of-packet_in c.args.frame.now (omega (arith, whole)) c.fits-frame marked
