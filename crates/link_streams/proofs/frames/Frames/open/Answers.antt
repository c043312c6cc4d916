use Rattle.std.proofs.Common.{◌++◌, ◌∷◌, [], ℕ, List, ap, map, sym, take, ◌∙◌}
use Rattle.std.proofs.lemmas.List.{map_more}
use Rattle.link_streams.proofs.FrameLaws.{opened-blank, opened-room, zeros}
use Rattle.link_streams.proofs.frames.Frames.open.Goals as goal

pub loop-link-preserved : goal.loop-link-preserved
loop-link-preserved c =
    let links = c.as_slice-links.result.now in
    let place = c.loop-link.link-index in
    c.in_ok-push.ensures.items
    ∙ ap (λ (before : List (List ℕ)). before ++ c.blank_frames.result ∷ []) c.loop-link.invariant
    ∙ ap (λ (last : List ℕ). map zeros (take place links) ++ last ∷ []) c.blank_frames.ensures
    ∙ sym (map_more zeros links place 0 c.loop-link-test.true)

pub invariant_of-result : goal.invariant_of-result
invariant_of-result c =
    opened-room c.code-2.result.now c.args.code.now c.args.pattern c.args.node c.in_ok-plan.plan c.as_slice-links.result.now c.in_ok-to_vec.field-0.items
    c.loop-link.bytes.items c.loop-link.link-index c.code-2.ensures.value c.in_ok-plan.ensures.value c.as_slice-links.ensures
    (c.in_ok-to_vec.ensures.items_if_clones_equal (λ x y is. is)) c.loop-link.invariant c.loop-link-test.false

pub returns : goal.returns
returns c =
    opened-blank c.code-2.result.now c.args.code.now c.args.pattern c.args.node c.in_ok-plan.plan c.as_slice-links.result.now c.in_ok-to_vec.field-0.items
    c.loop-link.bytes.items c.loop-link.link-index c.code-2.ensures.value c.in_ok-plan.ensures.value c.as_slice-links.ensures
    (c.in_ok-to_vec.ensures.items_if_clones_equal (λ x y is. is)) c.loop-link.invariant c.loop-link-test.false
