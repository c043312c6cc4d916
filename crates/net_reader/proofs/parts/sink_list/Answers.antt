use Rattle.std.proofs.Common.{◌≡◌, ◌+◌, ◌++◌, ◌∷◌, map, List, ℕ, [], take, get_or, Bor, ap, sym, ◌∙◌, arith}
use Rattle.std.proofs.lemmas.List.{take_more, map_push}
use Rattle.net_reader.specs.Text.{number_in}
use Rattle.net_reader.specs.Words.{texts_of}
use Rattle.net_reader.proofs.parts.sink_list.Goals as goal

abbrev nothing : Bor (List ℕ)
nothing = record { ref_ptr = (0, 0); now = [] }

-- the numbers of sinks with one more
one_more : (nodes : List (List ℕ)) (front more : List (Bor (List ℕ))) (one : Bor (List ℕ)) (number : ℕ) (numbers next : List ℕ) → more ≡ front ++ one ∷ [] → numbers ≡ map (number_in nodes) (texts_of front)
    → number ≡ number_in nodes one.now → next ≡ numbers ++ number ∷ [] → next ≡ map (number_in nodes) (texts_of more)
one_more nodes front more one number numbers next with_one same is pushed =
    pushed ∙ (λ i. same i ++ is i ∷ [])
    ∙ sym (ap (λ (sinks : List (Bor (List ℕ))). map (number_in nodes) (texts_of sinks)) with_one ∙ ap (map (number_in nodes)) (map_push (λ (word : Bor (List ℕ)). word.now) front one) ∙ map_push (number_in nodes) (texts_of front) one.now)

pub loop-sink-preserved : goal.loop-sink-preserved
loop-sink-preserved c =
    let i = c.loop-sink.sink-index in
    let sinks = c.args.sinks.now in
    one_more c.args.nodes.now (take i sinks) (take (i + 1) sinks) (get_or sinks i nothing) c.number.result c.loop-sink.list.items _ (take_more sinks i nothing (omega arith)) c.loop-sink.invariant c.number.ensures c.in_ok-push.ensures.items
