use Rattle.std.proofs.Common.{arith, ◌≡◌, ◌+◌, ◌++◌, ◌∷◌, [], take, sym, ap, ◌∙◌}
use Rattle.std.proofs.lemmas.List.{take_more}
use Rattle.top_nodes.specs.Files.{generations_of}
use Rattle.top_nodes.proofs.ReadingLaws.{generations_of_more}
use Rattle.top_nodes.proofs.reading.generations_of.Goals as goal

pub loop-stream-preserved : goal.loop-stream-preserved
loop-stream-preserved c =
    let streams = c.as_slice-stream-items.result.now in
    let i = c.loop-stream.stream-index in
    let stream = c.stream-item.result in
    let here : take (i + 1) streams ≡ take i streams ++ stream ∷ [] = take_more streams i stream c.loop-stream-test.true ∙ ap (λ one. take i streams ++ one ∷ []) (sym c.stream-item.is) in
    let more = ap generations_of here ∙ generations_of_more (take i streams) stream in
    (omega (arith, c.max-generations.ensures), omega (arith, more, c.max-generations.ensures, c.generations.ensures))
