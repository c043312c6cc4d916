use Rattle.std.proofs.Common.{◌≡◌, ◌++◌, List, ap, subst, sym, ◌∙◌, length, map, take, drop}
use Rattle.std.proofs.lemmas.List.{take_at}
use Rattle.held_rows.specs.Held.{Held, row_count}
use Rattle.sink_decoder.proofs.KeptLaws.{IsReceiver-begun}
use Rattle.sink_decoder.specs.Receiving.{IsReceiver, Receiver, receiver_of}
use Rattle.sink_decoder.proofs.decoder.Decoder.begin.Goals as goal

pub invariant_of-self : goal.invariant_of-self
invariant_of-self g c =
    let inside = c.self.inside in
    let now = c.forget_all.new.came in
    let receiver : Receiver = receiver_of inside.field inside.rate inside.links.items inside.live.items inside.entries.items inside.first inside.count inside.came.items in
    let long : length now ≡ inside.came.len = c.forget_all.auto.came ∙ ap (length {A = Held}) c.deref_mut.ensures.value ∙ sym inside.came.ok.0 in
    let left : take inside.came.len (now ++ drop (length now) inside.came.items) ≡ now = take_at now (drop (length now) inside.came.items) inside.came.len long in
    subst (λ (came : List Held). IsReceiver (record receiver { first = c.args.first; count = c.args.count; came = came })) (sym left)
    (IsReceiver-begun receiver c.args.first c.args.count now c.self.invariant c.requires.few_generations (c.forget_all.ensures.rows ∙ ap (map row_count) c.deref_mut.ensures.value))
