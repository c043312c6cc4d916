use Rattle.std.proofs.Common.{◌≡◌, ◌+◌, ◌-◌, ◌*◌, ℕ, List, ◌++◌, arith, ap, drop, sym, take, ◌∙◌}
use Rattle.std.proofs.lemmas.List.{append_assoc, drop-drop}
use Rattle.generation_frame.specs.Frames.{frame_of}
use Rattle.link_streams.proofs.frames.put_frame.Goals as goal

pub returns-clause-value : goal.returns-clause-value
returns-clause-value c =
    let start = c.args.packet.now.piece * 140 in
    let old = c.args.frames.now in
    let frame = frame_of c.args.packet.now in
    let room : start + 140 - start ≡ 140 = omega arith in
    ap (λ (n : ℕ). take start old ++ (c.copy_from_slice.new.self ++ drop n (drop start old))) room
    ∙ ap (λ (part : List ℕ). take start old ++ (part ++ drop 140 (drop start old))) (c.copy_from_slice.ensures.after ∙ c.frame_of.ensures.value)
    ∙ sym (append_assoc (take start old) frame (drop 140 (drop start old)))
    ∙ ap (λ (back : List ℕ). take start old ++ frame ++ back) (drop-drop 140 start old)
