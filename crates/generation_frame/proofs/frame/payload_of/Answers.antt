use Rattle.std.specs.Prelude.{drop}
use Rattle.std.proofs.Common.{◌∙◌, ◌≡◌, ◌-◌, length, arith}
use Rattle.std.proofs.lemmas.List.{length-drop, take_all}
use Rattle.generation_frame.proofs.frame.payload_of.Goals as goal

pub returns : goal.returns
returns c =
    let whole : length c.args.frame.now ≡ 140 = c.told-frame in
    let rest : length (drop 12 c.args.frame.now) ≡ length c.args.frame.now - 12 = length-drop 12 c.args.frame.now in
    c.copy_from_slice.ensures.after ∙ take_all 128 (drop 12 c.args.frame.now) (omega (arith, whole, rest))
