use Rattle.std.proofs.Common.{◌≡◌, ◌*◌, ◌∙◌, length}
use Rattle.std.proofs.lemmas.List.{length-set}
use Rattle.std.proofs.lemmas.List.Elements.{All-set}
use Rattle.generation_frame.specs.Blocks.{pieces}
use Rattle.link_streams.specs.Reading.{frame_bytes}
use Rattle.link_streams.proofs.frames.Frames.write.Goals as goal

pub invariant_of-self : goal.invariant_of-self
invariant_of-self c =
    let old = c.self.inside.bytes.items in (
      length-set old c.args.place c.put_frame.new.frames ∙ c.self.invariant.0,
      c.self.invariant.1,
      All-set (λ one. length one ≡ pieces * frame_bytes) old c.args.place c.put_frame.new.frames c.put_frame.ensures.room c.self.invariant.2,
    )
